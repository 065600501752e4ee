use Rattle.std.proofs.Common.{◌≡◌, ◌++◌, drop, length, refl, rules, subst, take}
use borrow.Rule.Slice.Relend.{set_name}
use Rattle.pool.proofs.Shown.{shown_room}
use Rattle.pool.proofs.slices.Local+T+N+S+WordStack+T.receive_into_slice.Goals as goal

pub returns-clause-exact : goal.returns-clause-exact
returns-clause-exact g c =
    let into = c.args.into.now in
    let call = c.receive in
    let front = call.new.into in (
      take front.count front.words.now,
      subst (λ w. w ≡ take front.count front.words.now ++ drop (length (take front.count front.words.now)) into) (search rules)
          (shown_room (λ f. f.words.now) (λ f. f.count) (λ f h. h.words.ghost_name ≡ f.words.ghost_name) (record { words = set_name _ c.args.into; count = 0 }) front call.result refl call.ensures.beside),
      call.ensures.exact,
    )
