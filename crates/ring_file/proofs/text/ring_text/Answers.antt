use Rattle.std.proofs.Common.{◌≡◌, ℕ, ◌++◌, ◌==◌, Err, ap, sym, ◌∙◌, subst, arith, rules, tests}
use Rattle.std.proofs.lemmas.List.{length_push}
use Rattle.std.proofs.lemmas.Iterator.Splits.{YieldsList-from_slice_split}
use Rattle.command_file.specs.Text.{lines_of, words_of}
use Rattle.command_file.specs.Files.{is_admitted, reply_at, state_past, IsAnsweredTo, IsFirstBad}
use Rattle.ring_file.specs.Replies.{RingState, ring_file}
use Rattle.command_file.specs.declared.fault.TextFault.TheVariants.{BadLine}
use Rattle.command_file.proofs.Lines.{all_lines, this_line}
use Rattle.command_file.proofs.Runs.{answered_more, left_more, first_bad}
use Rattle.ring_file.proofs.text.ring_text.Goals as goal

pub returns-in_err-answer_line-clause-first_bad : goal.returns-in_err-answer_line-clause-first_bad
returns-in_err-answer_line-clause-first_bad c = λ n fault.
    let bytes = c.args.bytes.now in
    let number = c.loop-line.number in
    let road = YieldsList-from_slice_split _ (λ b. b == 10) bytes (search rules) (search rules) (search rules) (λ x b q k. search (rules, tests)) in
    let here =
    this_line bytes road c.loop-line.yielded c.loop-line.yielded_by number c.loop-line.invariant.0 _ _ c.next.ensures.steps
    c.in-Some.line c.in-Some.is c.strip_carriage_return.result.now c.strip_carriage_return.ensures in
    let refused : c.answer_line.result ≡ Err (BadLine n) = search rules in
    let told = c.answer_line.ensures.number n refused in
    let line = c.strip_carriage_return.result.now in
    subst (λ (m : ℕ). IsFirstBad ring_file m (lines_of bytes)) (sym told)
    (first_bad ring_file (lines_of bytes) number line c.args.out.now.items c.loop-line.out.items here.0 here.1
    c.loop-line.invariant.1
    (ap (λ (s : RingState). is_admitted ring_file s (words_of line)) (sym c.loop-line.invariant.2)
    ∙ c.answer_line.ensures.bad n refused))

pub loop-line-preserved : goal.loop-line-preserved
loop-line-preserved c =
    let bytes = c.args.bytes.now in
    let number = c.loop-line.number in
    let so_far = c.loop-line.invariant in
    let line = c.strip_carriage_return.result.now in
    let road = YieldsList-from_slice_split _ (λ b. b == 10) bytes (search rules) (search rules) (search rules) (λ x b q k. search (rules, tests)) in
    let here =
    this_line bytes road c.loop-line.yielded c.loop-line.yielded_by number so_far.0 _ _ c.next.ensures.steps
    c.in-Some.line c.in-Some.is line c.strip_carriage_return.ensures in
    let answered = c.in_ok-answer_line.ensures in
    let longer = length_push c.loop-line.yielded c.in-Some.line in
    let before = so_far.0 in
    let gained : c.extend_from_slice.new.self.items ≡ c.loop-line.out.items ++ c.as_slice.result.now = search rules in (
      omega arith,
      answered_more ring_file (lines_of bytes) number line c.args.out.now.items c.loop-line.out.items
          c.extend_from_slice.new.self.items here.0 here.1 so_far.1
          (ap (λ (s : RingState). is_admitted ring_file s (words_of line)) (sym so_far.2) ∙ answered.admitted)
          (gained
          ∙ ap (λ xs. c.loop-line.out.items ++ xs)
          (c.as_slice.ensures.value ∙ answered.reply
          ∙ ap (λ (s : RingState). reply_at ring_file s (words_of line)) so_far.2)),
      answered.ring ∙ ap (λ (s : RingState). state_past ring_file s (words_of line)) so_far.2
          ∙ sym (left_more ring_file (lines_of bytes) number line here.0 here.1),
    )

pub returns-clause-ok : goal.returns-clause-ok
returns-clause-ok c =
    let bytes = c.args.bytes.now in
    let road = YieldsList-from_slice_split _ (λ b. b == 10) bytes (search rules) (search rules) (search rules) (λ x b q k. search (rules, tests)) in
    let all =
    all_lines bytes road c.loop-line.yielded c.loop-line.yielded_by c.loop-line.number c.loop-line.invariant.0 _ _ c.next.ensures.steps c.in-None.is in
    subst (λ (k : ℕ). IsAnsweredTo ring_file k (lines_of bytes) c.args.out.now.items c.loop-line.out.items) all c.loop-line.invariant.1
