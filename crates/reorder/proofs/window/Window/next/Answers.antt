use Rattle.std.proofs.Common.{subst}
use Rattle.reorder.specs.Waiting.{IsWindow}
use Rattle.reorder.proofs.StepLaws.{is_window}
use Rattle.reorder.proofs.window.Window.next.Goals as goal

pub returns-clause-window : goal.returns-clause-window
returns-clause-window g c = subst IsWindow c.self.view_is (is_window _ _ _ c.self.invariant)
