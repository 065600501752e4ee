use Rattle.std.proofs.Common.{rules, false, All, refl}
use Rattle.std.proofs.lemmas.Bool.{false≢true}
use Rattle.std.proofs.lemmas.List.Elements.{All-push, All-same}
use Rattle.live_value.specs.Lanes.{is_some}
use Rattle.live_value.specs.Lines.{IsShown}
use Rattle.live_value.proofs.publisher.Publisher.share.Goals as goal

pub invariant_of-self-2 : goal.invariant_of-self-2
invariant_of-self-2 g c =
    let P = IsShown c.self.inside.history (is_some c.self.inside.former) in
    let swept : All P c.reserve.new.self.items = search rules in
    let line : P record { showing = c.in_ok-showing.showing; is_late = false } =
    record {
      all = λ _. search rules;
      late = λ e. absurd (false≢true e);
      none = λ _. record { shown = refl; back = search rules };
    } in
    record {
      last = c.self.invariant.last;
      each = All-same P _ _ c.push_reserved.ensures.items (All-push P _ _ swept line);
    }
