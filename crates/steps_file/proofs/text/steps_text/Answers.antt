use Rattle.std.proofs.Common.{◌≡◌, ℕ, ◌+◌, ◌-◌, ◌++◌, length, ◌==◌, Err, ap, sym, ◌∙◌, subst, arith, rules, tests}
use Rattle.std.proofs.lemmas.List.{length_push}
use Rattle.std.proofs.lemmas.Iterator.Splits.{YieldsList-from_slice_split}
use Rattle.std.proofs.lemmas.Result.{on_ok_weaker}
use Rattle.command_file.specs.Text.{Bytes, lines_of}
use Rattle.command_file.specs.Files.{left_by, IsAnsweredTo, IsFirstBad}
use Rattle.steps_file.specs.Replies.{State, steps_file, IsJudgedAt, IsJudgedBy}
use Rattle.steps_file.specs.Standing.{Keeps}
use Rattle.command_file.specs.declared.fault.TextFault.TheVariants.{BadLine, BadPlan}
use Rattle.command_file.proofs.Lines.{all_lines, this_line}
use Rattle.command_file.proofs.Runs.{answered_more, left_more, first_bad}
use Rattle.steps_file.proofs.Judged.{judged_by, judged_at, bad_plan, bad_plan_last, none_replied}
use Rattle.steps_file.proofs.text.steps_text.Goals as goal

pub returns-in_err-answer_line-clause-first_bad : goal.returns-in_err-answer_line-clause-first_bad
returns-in_err-answer_line-clause-first_bad c = λ n fault.
    let bytes = c.args.bytes.now in
    let number = c.loop-line.number in
    let line = c.strip_carriage_return.result.now in
    let road = YieldsList-from_slice_split _ (λ b. b == 10) bytes (search rules) (search rules) (search rules) (λ x b q k. search (rules, tests)) in
    let here =
    this_line bytes road c.loop-line.yielded c.loop-line.yielded_by number c.loop-line.invariant.0 _ _ c.next.ensures.steps
    c.in-Some.line c.in-Some.is line c.strip_carriage_return.ensures in
    let refused : c.answer_line.result ≡ Err (BadLine n) = search rules in
    let told = c.answer_line.ensures.number n refused in
    let stands = c.loop-line.invariant.2 in
    let s = left_by steps_file number (lines_of bytes) in
    subst (λ (m : ℕ). IsFirstBad steps_file m (lines_of bytes) × IsJudgedAt m (lines_of bytes)) (sym told) (
      first_bad steps_file (lines_of bytes) number line c.args.out.now.items c.loop-line.out.items here.0 here.1
          c.loop-line.invariant.1 (c.answer_line.ensures.bad n refused s stands),
      judged_at (lines_of bytes) number line here.0 here.1 (c.answer_line.ensures.judged n refused s stands),
    )

pub returns-in_err-answer_line-clause-bad_plan : goal.returns-in_err-answer_line-clause-bad_plan
returns-in_err-answer_line-clause-bad_plan c = λ fault.
    let bytes = c.args.bytes.now in
    let number = c.loop-line.number in
    let line = c.strip_carriage_return.result.now in
    let road = YieldsList-from_slice_split _ (λ b. b == 10) bytes (search rules) (search rules) (search rules) (λ x b q k. search (rules, tests)) in
    let here =
    this_line bytes road c.loop-line.yielded c.loop-line.yielded_by number c.loop-line.invariant.0 _ _ c.next.ensures.steps
    c.in-Some.line c.in-Some.is line c.strip_carriage_return.ensures in
    let refused : c.answer_line.result ≡ Err BadPlan = search rules in
    let told = c.answer_line.ensures.plan refused (left_by steps_file number (lines_of bytes)) c.loop-line.invariant.2 in
    (number, bad_plan (lines_of bytes) number line c.args.out.now.items c.loop-line.out.items here.0 here.1 c.loop-line.invariant.1 told.0 told.1)

pub returns-in_err-answer_line-clause-none_replied : goal.returns-in_err-answer_line-clause-none_replied
returns-in_err-answer_line-clause-none_replied c = λ fault.
    let bytes = c.args.bytes.now in
    let number = c.loop-line.number in
    let refused : c.answer_line.result ≡ Err BadPlan = search rules in
    let told = c.answer_line.ensures.plan refused (left_by steps_file number (lines_of bytes)) c.loop-line.invariant.2 in
    none_replied (lines_of bytes) number c.args.out.now.items c.loop-line.out.items c.loop-line.invariant.1 told.1.unopened

pub loop-line-preserved : goal.loop-line-preserved
loop-line-preserved c =
    let bytes = c.args.bytes.now in
    let number = c.loop-line.number in
    let so_far = c.loop-line.invariant in
    let line = c.strip_carriage_return.result.now in
    let road = YieldsList-from_slice_split _ (λ b. b == 10) bytes (search rules) (search rules) (search rules) (λ x b q k. search (rules, tests)) in
    let here =
    this_line bytes road c.loop-line.yielded c.loop-line.yielded_by number so_far.0 _ _ c.next.ensures.steps
    c.in-Some.line c.in-Some.is line c.strip_carriage_return.ensures in
    let answered = c.in_ok-answer_line.ensures in
    let longer = length_push c.loop-line.yielded c.in-Some.line in
    let before = so_far.0 in
    let s = left_by steps_file number (lines_of bytes) in
    let gained : c.extend_from_slice.new.self.items ≡ c.loop-line.out.items ++ c.as_slice.result.now = search rules in
    let stands : Keeps c.answer_line.new.stage (left_by steps_file (number + 1) (lines_of bytes)) =
    subst (λ (t : State). Keeps c.answer_line.new.stage t)
    (sym (left_more steps_file (lines_of bytes) number line here.0 here.1)) (answered.stage s so_far.2) in (
      omega arith,
      answered_more steps_file (lines_of bytes) number line c.args.out.now.items c.loop-line.out.items
          c.extend_from_slice.new.self.items here.0 here.1
          so_far.1 (answered.admitted s so_far.2)
          (gained ∙ ap (λ xs. c.loop-line.out.items ++ xs) (c.as_slice.ensures.value ∙ answered.reply s so_far.2)),
      stands,
    )

pub returns-clause-ok : goal.returns-clause-ok
returns-clause-ok c =
    let bytes = c.args.bytes.now in
    let road = YieldsList-from_slice_split _ (λ b. b == 10) bytes (search rules) (search rules) (search rules) (λ x b q k. search (rules, tests)) in
    let all =
    all_lines bytes road c.loop-line.yielded c.loop-line.yielded_by c.loop-line.number c.loop-line.invariant.0 _ _ c.next.ensures.steps c.in-None.is in
    let stands = subst (λ (k : ℕ). Keeps c.loop-line.stage (left_by steps_file k (lines_of bytes))) all c.loop-line.invariant.2 in
    let answered = subst (λ (k : ℕ). IsAnsweredTo steps_file k (lines_of bytes) c.args.out.now.items c.loop-line.out.items) all c.loop-line.invariant.1 in
    on_ok_weaker c.judge.result (λ lawful. (answered, lawful (left_by steps_file (length (lines_of bytes)) (lines_of bytes)) stands)) c.judge.ensures.ok

pub returns-clause-bad_plan : goal.returns-clause-bad_plan
returns-clause-bad_plan c = λ refused.
    let bytes = c.args.bytes.now in
    let road = YieldsList-from_slice_split _ (λ b. b == 10) bytes (search rules) (search rules) (search rules) (λ x b q k. search (rules, tests)) in
    let all =
    all_lines bytes road c.loop-line.yielded c.loop-line.yielded_by c.loop-line.number c.loop-line.invariant.0 _ _ c.next.ensures.steps c.in-None.is in
    let told = c.judge.ensures.plan refused (left_by steps_file c.loop-line.number (lines_of bytes)) c.loop-line.invariant.2 in
    (c.loop-line.number, bad_plan_last (lines_of bytes) c.loop-line.number c.args.out.now.items c.loop-line.out.items all c.loop-line.invariant.1 told)

pub returns-clause-none_replied : goal.returns-clause-none_replied
returns-clause-none_replied c = λ refused.
    let lines = lines_of c.args.bytes.now in
    let told = c.judge.ensures.plan refused (left_by steps_file c.loop-line.number lines) c.loop-line.invariant.2 in
    none_replied lines c.loop-line.number c.args.out.now.items c.loop-line.out.items c.loop-line.invariant.1 told.unopened

pub returns-in_err-answer_line-clause-before_bad : goal.returns-in_err-answer_line-clause-before_bad
returns-in_err-answer_line-clause-before_bad c = λ n fault.
    let refused : c.answer_line.result ≡ Err (BadLine n) = search rules in
    let told = c.answer_line.ensures.number n refused in
    let before : c.loop-line.number ≡ n - 1 = omega (arith, told) in
    let lines = lines_of c.args.bytes.now in
    subst (λ (k : ℕ). IsAnsweredTo steps_file k lines c.args.out.now.items c.loop-line.out.items × IsJudgedBy k lines)
    before (c.loop-line.invariant.1, judged_by c.loop-line.stage c.loop-line.number lines c.loop-line.invariant.2)

pub returns-then-is_err-clause-memory : goal.returns-then-is_err-clause-memory
returns-then-is_err-clause-memory c = λ fault.
    let k = c.loop-line.number in
    let lines = lines_of c.args.bytes.now in
    let same : c.extend_from_slice.new.self.items ≡ c.loop-line.out.items = search rules in (
      k,
      subst (λ (out : Bytes). IsAnsweredTo steps_file k lines c.args.out.now.items out) (sym same) c.loop-line.invariant.1,
      judged_by c.loop-line.stage k lines c.loop-line.invariant.2,
    )

pub returns-in_err-answer_line-clause-memory : goal.returns-in_err-answer_line-clause-memory
returns-in_err-answer_line-clause-memory c = λ fault.
    let k = c.loop-line.number in
    (k, c.loop-line.invariant.1, judged_by c.loop-line.stage k (lines_of c.args.bytes.now) c.loop-line.invariant.2)
