use Rattle.std.proofs.Common.{rules, ◌≡◌, ◌++◌, ◌<◌, [], take, length, refl, sym, ap, ◌∙◌, subst, append_assoc, append-nil, arith}
use Rattle.std.proofs.lemmas.List.{take-append-drop}
use Rattle.fabric.specs.Hands.{rings_of, view}
use Rattle.fabric.proofs.Told.{ring_at}
use Rattle.ringapi.specs.Views.{by_burst}
use Rattle.stages.specs.Passing.{Puts}
use Rattle.stages.proofs.Settled.{puts_none, puts_more, puts_kept, rest_yours, refused_party, refused_yours, refused_worn, no_more}
use Rattle.stages.proofs.threads.ring_put.put_all.Goals as goal

pub loop-init : goal.loop-init
loop-init g c = record {
  iterator = (tt, tt);
  hand = c.requires.hand;
  sent = [];
  all = refl;
  puts = puts_none c.args.ring _ _ refl;
  yours = c.requires.yours;
}

pub returns-then-len-eq0-clause-done : goal.returns-then-len-eq0-clause-done
returns-then-len-eq0-clause-done g c =
    let i = c.loop.invariant in
    let zero : length c.loop.list ≡ 0 = search rules in
    let none : c.loop.list ≡ [] = no_more c.loop.list zero in
    let all : i.sent ≡ c.args.list.now = sym (append-nil i.sent) ∙ (ap (λ l. i.sent ++ l) (sym none) ∙ i.all) in
    (i.hand, none, subst (Puts c.args.ring (view c.args.hand).party.settled (view c.loop.hand).party.settled) all i.puts)

pub loop-preserved-in-Done : goal.loop-preserved-in-Done
loop-preserved-in-Done g c =
    let i = c.loop.invariant in
    let known = ring_at (rings_of c.args.f.now) c.args.ring c.requires.ring in
    let m = c.in-Done.field-1 in
    let rest = c.put_own_burst_from.new.list in
    let first = take m.count c.loop.list in
    let told = c.in-Done.ensures.exact known.0 known.1 in
    record {
      iterator = (tt, tt);
      hand = c.in-Done.ensures.made;
      sent = i.sent ++ first;
      all = append_assoc i.sent first rest
          ∙ (ap (λ l. i.sent ++ l) (ap (λ l. first ++ l) told.2.1 ∙ take-append-drop m.count c.loop.list) ∙ i.all);
      puts = puts_more c.args.ring _ _ _ i.sent first c.in-Done.ensures.settled.0 i.puts c.in-Done.ensures.settled.1;
      yours = λ plan there. rest_yours g.T.Tagged.numbers g.row.N by_burst c.args.ring plan (view c.loop.hand) c.in-Done.back m c.loop.list rest
          (c.in-Done.ensures.exact plan there) (i.yours plan there);
    }

pub returns-then-not-wants_room-clause-refused : goal.returns-then-not-wants_room-clause-refused
returns-then-not-wants_room-clause-refused g c =
    let i = c.loop.invariant in
    let known = ring_at (rings_of c.args.f.now) c.args.ring c.requires.ring in
    let some : 0 < length c.loop.list = search rules in (
      c.in-Refused.ensures.made,
      refused_worn g.T.Tagged.numbers g.row.N by_burst c.args.ring known.0 (view c.loop.hand) c.in-Refused.back c.in-Refused.refusal c.loop.list
          c.put_own_burst_from.new.list
          (c.in-Refused.ensures.exact known.0 known.1) c.in-Refused.ensures.settled c.in-Refused.ensures.finished (c.wants_room.ensures (search rules)) some
          (omega (arith, c.len.ensures.value, c.len.ensures.fits)) c.loop.hand.share.well (i.yours known.0 known.1),
    )

pub loop-preserved : goal.loop-preserved
loop-preserved g c =
    let i = c.loop.invariant in
    let known = ring_at (rings_of c.args.f.now) c.args.ring c.requires.ring in
    let same = refused_party g.T.Tagged.numbers g.row.N by_burst c.args.ring known.0 (view c.loop.hand) c.in-Refused.back c.in-Refused.refusal c.loop.list
    c.put_own_burst_from.new.list (c.in-Refused.ensures.exact known.0 known.1) in
    record {
      iterator = (tt, tt);
      hand = c.in-Refused.ensures.made;
      sent = i.sent;
      all = ap (λ l. i.sent ++ l) same.1 ∙ i.all;
      puts = puts_kept c.args.ring _ _ _ i.sent i.puts (ap (λ p. p.settled) same.0);
      yours = λ plan there. refused_yours g.T.Tagged.numbers g.row.N by_burst c.args.ring plan (view c.loop.hand) c.in-Refused.back c.in-Refused.refusal
          c.loop.list c.put_own_burst_from.new.list (c.in-Refused.ensures.exact plan there) (i.yours plan there);
    }
