use Rattle.std.proofs.Common.{arith, ◌<◌, ◌+◌, ◌-◌, ap, refl, subst, sym, ◌∙◌}
use Rattle.fabric_laws.specs.Words.{own_at}
use Rattle.fabric.specs.AtOnce.{tail_in}
use Rattle.fabric.proofs.AtOnce.{found_room_of, goes_on, recent_on, started_one}
use Rattle.fabric.proofs.Calls.{told_ring}
use Rattle.fabric.proofs.Starting.{may_start, row_later, well_later}
use Rattle.fabric.proofs.ring.Ring.open_at_once.Goals as goal

pub reserve_at_once-found-requires : goal.reserve_at_once-found-requires
reserve_at_once-found-requires g c =
    let tags = g.T.Tagged.numbers in
    let r = c.args.self.now in
    let share = c.args.share.now in
    let plan = r.shape.now.plan in
    let known = told_ring _ _ r.index plan c.requires.seat.plans r.in_plan.0 in
    let yes = c.is_recent.ensures.yes c.if-not-is_recent.false in
    let old = c.requires.recent yes.0 r.index c.args.side plan yes.1 known in
    let may = may_start tags c.args.most 1 c.args.side share.seat.me.0 share.owned plan share.row (c.is_bad_count.ensures.good c.if-is_bad_count.false) in (
      omega arith,
      (
        c.requires.seat,
        (
          c.requires.idle.1,
          (
            (tail_in share.seat.me.0.observed, found_room_of r.index c.args.side share.seat.me.0 old.0, omega (arith, old.1, yes.0)),
            (old.2, (omega (arith, c.position-start.ensures, c.if-start-last.false), ((λ hts. omega (arith, c.requires.counts hts, may.1)), may.2))),
          ),
        ),
      ),
    )

pub invariant_of-share : goal.invariant_of-share
invariant_of-share g c =
    let tags = g.T.Tagged.numbers in
    let r = c.args.self.now in
    let share = c.args.share.now in
    let new = c.reserve_at_once-found.new.seat in
    let found = c.reserve_at_once-found.ensures in
    let on = goes_on tags r c.args.side c.args.recent.now.word 0 (own_at r.index c.args.side) share.seat new c.requires.seat refl found.seat
    c.reserve_at_once-found.result found.won found.lost in
    record {
      counted = share.counted ∙ sym on.parts;
      alive = subst (λ n. 0 < n) (sym on.parts) share.alive;
      well = well_later tags share.seat.me.0 new.me.0 on share.well;
      row = row_later tags share.seat.me.0 new.me.0 on share.owned share.row;
    }

pub returns-clause-started : goal.returns-clause-started
returns-clause-started g c =
    let tags = g.T.Tagged.numbers in
    let r = c.args.self.now in
    let share = c.args.share.now in
    let plan = r.shape.now.plan in
    let known = told_ring _ _ r.index plan c.requires.seat.plans r.in_plan.0 in
    let yes = c.is_recent.ensures.yes c.if-not-is_recent.false in
    let old = c.requires.recent yes.0 r.index c.args.side plan yes.1 known in
    let may = may_start tags c.args.most 1 c.args.side share.seat.me.0 share.owned plan share.row (c.is_bad_count.ensures.good c.if-is_bad_count.false) in
    started_one tags r c.args.side c.args.recent.now.word 0 (own_at r.index c.args.side) share.seat c.reserve_at_once-found.new.seat c.requires.seat refl
    c.reserve_at_once-found.ensures.seat (c.reserve_at_once-found.ensures.won c.if-found-word.false) c.args.most (tail_in share.seat.me.0.observed)
    (record { start = c.position-start.result; count = 1; left = 0; last = _ }) c.position-start.ensures refl c.requires.idle.0
    (found_room_of r.index c.args.side share.seat.me.0 old.0) (omega (arith, old.1, yes.0)) (omega (arith, c.position-start.ensures, c.if-start-last.false)) may

pub returns-clause-recent : goal.returns-clause-recent
returns-clause-recent g c _ =
    let r = c.args.self.now in
    let recent = c.args.recent.now in
    let yes = c.is_recent.ensures.yes c.if-not-is_recent.false in
    recent_on g.T.Tagged.numbers r c.args.side recent.word 0 (own_at r.index c.args.side) c.args.share.now.seat c.reserve_at_once-found.new.seat
    c.requires.seat refl c.reserve_at_once-found.ensures.seat (c.reserve_at_once-found.ensures.won c.if-found-word.false) recent
    (record { own = recent.own; word = c.word_from-recent.result; left = recent.left - 1 })
    yes.1 refl refl (c.word_from-recent.ensures.at ∙ ap (λ n. n + 1) c.position-start.ensures) c.word_from-recent.ensures.whole refl yes.0
    (c.requires.recent yes.0)
