-- When the plan of a steps file is checked, and that lines without a step line get no reply
use Rattle.std.proofs.Common.{◌≡◌, ℕ, ◌+◌, ◌<◌, List, [], ◌∷◌, ◌++◌, length, take, get_or, Bool, true, false, Option, Some, None, inl, inr, refl, sym, ap, ap₂}
use Rattle.std.proofs.Common.{subst, ◌∙◌}
use Rattle.std.specs.Prelude.{IsTrue, is_some, if◌then◌else◌}
use Rattle.std.proofs.lemmas.List.{append-nil}
use Rattle.ringcore.specs.declared.world.World.{World}
use Rattle.ringcore.specs.Histories.{History}
use Rattle.command_file.specs.Text.{Bytes, words_of, is_blank_or_comment}
use Rattle.command_file.specs.Files.{state_past, state_after, replies_at, left_by, IsAnsweredTo}
use Rattle.command_file.proofs.Runs.{line_at, back_to}
use Rattle.steps_file.specs.Forms.{form_of}
use Rattle.steps_file.specs.Plans.{Named, IsLawful}
use Rattle.steps_file.specs.Replies.{State, steps_file, start, line_text, after_line, judges, IsJudgedBy, IsJudgedAt, IsBadPlan}
use Rattle.steps_file.specs.Standing.{KeepsRun, Keeps, PlanRefused}
use Rattle.steps_file.specs.declared.command.Command.{Command}
use Rattle.steps_file.specs.declared.command.Command.TheVariants.{Plan, Act, Ask}
use Rattle.steps_file.specs.declared.stage.Stage.{Stage}

-- a world that runs was opened with a valid plan
run_lawful : (p : Named) (w : Option World) (r : Option History) → KeepsRun p w r → IsTrue (is_some r) → IsLawful p
run_lawful p None None keeps some = absurd (let h : false ≡ true = some in cc)
run_lawful p (Some w) (Some h) keeps some = keeps.lawful
run_lawful p (Some w) None keeps some = absurd keeps
run_lawful p None (Some h) keeps some = absurd keeps

pub judged_by : (stage : Stage) (k : ℕ) (lines : List Bytes) → Keeps stage (left_by steps_file k lines) → IsJudgedBy k lines
judged_by stage k lines keeps some =
    let s = left_by steps_file k lines in
    run_lawful s.plan stage.world s.run keeps.run some

pub judged_at : (lines : List Bytes) (k : ℕ) (line : Bytes) → k < length lines → line ≡ get_or lines k line
    → (IsTrue (judges (words_of line)) → IsLawful (left_by steps_file k lines).plan) → IsJudgedAt (k + 1) lines
judged_at lines k line there at plan judged =
    subst (λ (j : ℕ). IsLawful (left_by steps_file j lines).plan) (sym (back_to k))
    (plan (subst (λ (l : Bytes). IsTrue (judges (words_of l))) (line_at lines k line there at) judged))

pub bad_plan : (lines : List Bytes) (k : ℕ) (line old out : Bytes) → k < length lines → line ≡ get_or lines k line
    → IsAnsweredTo steps_file k lines old out → IsTrue (judges (words_of line))
    → PlanRefused (left_by steps_file k lines) → IsBadPlan k lines
bad_plan lines k line old out there at so_far judged refused =
    record {
      within = so_far.within;
      admitted = so_far.admitted;
      unopened = refused.unopened;
      judged = inr (subst (λ (l : Bytes). IsTrue (judges (words_of l))) (sym (line_at lines k line there at)) judged);
      unlawful = refused.unlawful;
    }

pub bad_plan_last : (lines : List Bytes) (k : ℕ) (old out : Bytes) → k ≡ length lines
    → IsAnsweredTo steps_file k lines old out → PlanRefused (left_by steps_file k lines) → IsBadPlan k lines
bad_plan_last lines k old out all so_far refused =
    record {
      within = so_far.within;
      admitted = so_far.admitted;
      unopened = refused.unopened;
      judged = inl all;
      unlawful = refused.unlawful;
    }

-- lines that open no world get no reply
unopened_line : (s : State) (skipped : Bool) (line : Option Command) → (if skipped then s else after_line s line).run ≡ None
    → (s.run ≡ None) × ((if skipped then [] else line_text s line) ≡ [])
unopened_line s true line none = (none, refl)
unopened_line s false None none = (none, refl)
unopened_line s false (Some (Plan line)) none = (none, refl)
unopened_line s false (Some (Act actor step)) none = absurd cc
unopened_line s false (Some (Ask b)) none = absurd cc

unopened_before : (s : State) (lines : List Bytes) → (state_after steps_file s lines).run ≡ None → s.run ≡ None
unopened_before s [] none = none
unopened_before s (line ∷ lines) none =
    let words = words_of line in
    (unopened_line s (is_blank_or_comment words) (form_of words) (unopened_before (state_past steps_file s words) lines none)).0

no_replies : (s : State) (lines : List Bytes) → (state_after steps_file s lines).run ≡ None
    → replies_at steps_file s lines ≡ []
no_replies s [] none = refl
no_replies s (line ∷ lines) none =
    let words = words_of line in
    let next = state_past steps_file s words in
    ap₂ (λ xs ys. xs ++ ys) (unopened_line s (is_blank_or_comment words) (form_of words) (unopened_before next lines none)).1
    (no_replies next lines none)

pub none_replied : (lines : List Bytes) (k : ℕ) (old out : Bytes) → IsAnsweredTo steps_file k lines old out
    → (left_by steps_file k lines).run ≡ None → out ≡ old
none_replied lines k old out so_far none =
    so_far.replies ∙ ap (λ xs. old ++ xs) (no_replies start (take k lines) none) ∙ append-nil old

-- what a definition gives for a line that isn't skipped
pub unskipped : {A : Type 0} (a : A) (g : Option Command → A) (words read : List Bytes) (command : Option Command)
    → read ≡ words → is_blank_or_comment read ≡ false → command ≡ form_of read
    → (if is_blank_or_comment words then a else g (form_of words)) ≡ g command
unskipped a g words read command same not_skipped is =
    ap (λ (ws : List Bytes). if is_blank_or_comment ws then a else g (form_of ws)) (sym same)
    ∙ ap (λ b. if b then a else g (form_of read)) not_skipped
    ∙ ap g (sym is)
