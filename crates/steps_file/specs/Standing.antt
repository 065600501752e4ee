-- When what the code has stored of the lines so far agrees with the definitions
use Rattle.std.specs.Prelude.{◌≡◌, ◌++◌, ℕ, true, false, Option, Some, None, IsTrue, codes}
use Rattle.ringcore_laws.specs.declared.protocol.Step.{Step}
use Rattle.ringcore.specs.declared.world.World.{World}
use Rattle.ringcore.specs.Histories.{History, AgreesWith, IsRight}
use Rattle.command_file.specs.Text.{Bytes}
use Rattle.steps_file.specs.Plans.{Named, named, IsLawful}
use Rattle.steps_file.specs.Replies.{State, may_stand, after_line, line_text, is_step, stepped}
use Rattle.steps_file.specs.declared.command.Command.{Command}
use Rattle.steps_file.specs.declared.stage.Stage.{Stage}

-- what a right history leaves before a step, that history and the step leave after it, and this history is right again
abbrev pub GoesOn : World → World → ℕ → Step → Type 0
GoesOn old new actor step = (h : History) → AgreesWith old h → IsRight h
    → AgreesWith new (stepped h actor step) × IsRight (stepped h actor step)

-- a line was appended: this text of the right history that leaves the world
abbrev pub Tells : World → (History → Bytes) → Bytes → Bytes → Type 0
Tells world text before after = (h : History) → AgreesWith world h → IsRight h → after ≡ before ++ (text h ++ codes "\n")

-- a world that is what a right history of a valid plan leaves
pub record IsRunning (p : Named) (w : World) (h : History) : Type 0 where
  pub agrees : AgreesWith w h
  pub right : IsRight h
  pub lawful : IsLawful p

abbrev pub KeepsRun : Named → Option World → Option History → Type 0
KeepsRun p None None = Unit {0}
KeepsRun p (Some w) (Some h) = IsRunning p w h
KeepsRun p _ _ = ⊥

pub record Keeps (stage : Stage) (s : State) : Type 0 where
  pub plan : named stage.draft ≡ s.plan
  pub run : KeepsRun s.plan stage.world s.run

-- a line that was answered
pub record LineAnswered (s : State) (line : Option Command) (after : Stage) (old new : Bytes) : Type 0 where
  pub kept : Keeps after (after_line s line)
  pub admitted : may_stand s line ≡ true
  pub reply : new ≡ old ++ line_text s line

-- a line that isn't allowed at its place
pub record LineRefused (s : State) (line : Option Command) : Type 0 where
  pub bad : may_stand s line ≡ false
  pub plan : IsTrue (is_step line) → IsLawful s.plan

-- a plan that was checked at a line
pub record PlanRefused (s : State) : Type 0 where
  pub unopened : s.run ≡ None
  pub unlawful : ¬ IsLawful s.plan
