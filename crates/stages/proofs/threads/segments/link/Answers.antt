use Rattle.std.proofs.Common.{rules, ◌≡◌, ◌++◌, ◌∷◌, [], sym, ap, ◌∙◌, subst, append-nil, arith}
use Rattle.std.proofs.lemmas.List.{map-append}
use Rattle.std.specs.List.{flat_map}
use Rattle.burst.specs.Numbers.{AreDistinct}
use Rattle.mbuf.specs.Chain.{numbers_of}
use Rattle.stages.specs.Numbers.{item_numbers}
use Rattle.stages.specs.declared.threads.item.RingItem.TheVariants.{Free}
use Rattle.stages.specs.Custody.{in_items, in_numbers}
use Rattle.stages.proofs.Keeping.{in_both, in_last}
use Rattle.stages.proofs.Linking.{last_distinct, last_over}
use Rattle.stages.proofs.threads.segments.link.Goals as goal

pub loop-item-init : goal.loop-item-init
loop-item-init g c =
    let last = c.in-Some-Free.last in
    let got = c.pop.new.self in
    let split : c.args.got.now ≡ got ++ Free last ∷ [] = search rules in
    let same : flat_map item_numbers c.args.got.now ≡ flat_map item_numbers got ++ numbers_of last.chain =
    ap (flat_map item_numbers) split
    ∙ (sym (append-nil (flat_map item_numbers (got ++ Free last ∷ [])))
    ∙ (last_over item_numbers got (Free last) [] ∙ ap (λ l. flat_map item_numbers got ++ l) (append-nil (numbers_of last.chain)))) in
    record {
      apart = subst AreDistinct same c.requires.apart;
      same = λ b. ap (λ l. in_items l b) split ∙ in_last got (Free last) b;
    }

pub chain-requires : goal.chain-requires
chain-requires g c =
    let segment = c.in-Free.segment in
    let got = c.pop-in-loop-item.new.self in
    let whole = numbers_of c.loop-item.whole in
    let split : c.loop-item.got ≡ got ++ Free segment ∷ [] = search rules in
    let same = ap (λ ps. flat_map item_numbers ps ++ whole) split ∙ last_over item_numbers got (Free segment) whole in
    record { apart = last_distinct (flat_map item_numbers got) (numbers_of segment.chain ++ whole) (subst AreDistinct same c.loop-item.invariant.apart) }

pub loop-item-preserved : goal.loop-item-preserved
loop-item-preserved g c =
    let segment = c.in-Free.segment in
    let got = c.pop-in-loop-item.new.self in
    let whole = numbers_of c.loop-item.whole in
    let split : c.loop-item.got ≡ got ++ Free segment ∷ [] = search rules in
    let linked : numbers_of c.in-Ok.linked ≡ numbers_of segment.chain ++ whole =
    ap numbers_of c.in-Ok.ensures.done ∙ map-append (λ b. b.number) segment.chain c.loop-item.whole in
    let same = ap (λ ps. flat_map item_numbers ps ++ whole) split
    ∙ (last_over item_numbers got (Free segment) whole ∙ ap (λ l. flat_map item_numbers got ++ l) (sym linked)) in
    record {
      apart = subst AreDistinct same c.loop-item.invariant.apart;
      same = λ b. omega (
        arith,
        c.loop-item.invariant.same b,
        ap (λ l. in_items l b) split,
        in_last got (Free segment) b,
        ap (λ ns. in_numbers ns b) linked,
        in_both (numbers_of segment.chain) whole b,
      );
    }

pub returns : goal.returns
returns g c =
    let none : c.loop-item.got ≡ [] = search rules in
    record { same = λ b. omega (arith, c.loop-item.invariant.same b, ap (λ l. in_items l b) none) }
