use Rattle.std.proofs.Common.{◌≡◌, ◌∙◌, ap, sym, [], ◌∷◌, ◌++◌, arith}
use Rattle.std.proofs.lemmas.List.FromFn.{map-range_with_len_more}
use Rattle.mbuf.specs.Buffer.{made}
use Rattle.mbuf.specs.Chain.{made_all}
use Rattle.mbuf.proofs.Made.{numbers_made, numbers_apart}
use Rattle.mbuf.proofs.buffers.make.Goals as goal

pub loop-number-preserved : goal.loop-number-preserved
loop-number-preserved c =
    let before = c.loop-number.invariant in
    let added = c.in_ok-make.ensures in
    c.in_ok-push.ensures.items ∙ (λ k. before k ++ (added k ∷ []))
    ∙ sym (map-range_with_len_more (λ number. made c.args.headroom c.args.room number ∷ []) 0 c.loop-number.number c.loop-number.number (omega arith))

pub returns-clause-numbers : goal.returns-clause-numbers
returns-clause-numbers c =
    let whole = (let all : c.loop-number.number ≡ c.args.count = omega arith in ap (made_all c.args.headroom c.args.room) all) in
    numbers_made c.args.headroom c.args.room c.args.count c.loop-number.chains.items (c.loop-number.invariant ∙ whole)

pub returns-clause-distinct : goal.returns-clause-distinct
returns-clause-distinct c =
    let whole = (let all : c.loop-number.number ≡ c.args.count = omega arith in ap (made_all c.args.headroom c.args.room) all) in
    numbers_apart c.args.headroom c.args.room c.args.count c.loop-number.chains.items (c.loop-number.invariant ∙ whole)
