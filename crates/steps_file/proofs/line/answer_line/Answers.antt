use Rattle.std.proofs.Common.{◌≡◌, [], ◌++◌, false, true, sym, ap, ◌∙◌, subst, rules}
use Rattle.std.proofs.lemmas.Result.{on_ok_weaker}
use Rattle.command_file.specs.Text.{texts, words_of, is_blank_or_comment}
use Rattle.steps_file.specs.Forms.{form_of}
use Rattle.steps_file.specs.Replies.{State, after_line, may_stand, line_text, is_step}
use Rattle.steps_file.specs.Standing.{Keeps}
use Rattle.steps_file.proofs.Judged.{unskipped}
use Rattle.steps_file.proofs.line.answer_line.Goals as goal

pub returns-clause-stage : goal.returns-clause-stage
returns-clause-stage c =
    let words = words_of c.args.line.now in
    let read : texts c.split_words.new.words.items ≡ words = search rules in
    let skip : is_blank_or_comment (texts c.split_words.new.words.items) ≡ false = search rules in
    let command : c.in-Ok.command ≡ form_of (texts c.split_words.new.words.items) = search rules in
    on_ok_weaker c.answer.result (λ ok s keeps.
    subst (λ (t : State). Keeps c.answer.new.self t)
    (sym (unskipped s (after_line s) words (texts c.split_words.new.words.items) c.in-Ok.command read skip command))
    (ok s keeps).kept) c.answer.ensures.ok

pub returns-clause-admitted : goal.returns-clause-admitted
returns-clause-admitted c =
    let words = words_of c.args.line.now in
    let read : texts c.split_words.new.words.items ≡ words = search rules in
    let skip : is_blank_or_comment (texts c.split_words.new.words.items) ≡ false = search rules in
    let command : c.in-Ok.command ≡ form_of (texts c.split_words.new.words.items) = search rules in
    on_ok_weaker c.answer.result (λ ok s keeps.
    unskipped true (may_stand s) words (texts c.split_words.new.words.items) c.in-Ok.command read skip command ∙ (ok s keeps).admitted) c.answer.ensures.ok

pub returns-clause-reply : goal.returns-clause-reply
returns-clause-reply c =
    let words = words_of c.args.line.now in
    let read : texts c.split_words.new.words.items ≡ words = search rules in
    let skip : is_blank_or_comment (texts c.split_words.new.words.items) ≡ false = search rules in
    let command : c.in-Ok.command ≡ form_of (texts c.split_words.new.words.items) = search rules in
    on_ok_weaker c.answer.result (λ ok s keeps.
    (ok s keeps).reply
    ∙ ap (λ xs. xs ++ line_text s c.in-Ok.command) c.requires
    ∙ sym (unskipped [] (line_text s) words (texts c.split_words.new.words.items) c.in-Ok.command read skip command)) c.answer.ensures.ok

pub returns-clause-bad : goal.returns-clause-bad
returns-clause-bad c =
    let words = words_of c.args.line.now in
    let read : texts c.split_words.new.words.items ≡ words = search rules in
    let skip : is_blank_or_comment (texts c.split_words.new.words.items) ≡ false = search rules in
    let command : c.in-Ok.command ≡ form_of (texts c.split_words.new.words.items) = search rules in
    λ n refused s keeps.
    unskipped true (may_stand s) words (texts c.split_words.new.words.items) c.in-Ok.command read skip command ∙ (c.answer.ensures.bad n refused s keeps).bad

pub returns-clause-judged : goal.returns-clause-judged
returns-clause-judged c =
    let words = words_of c.args.line.now in
    let read : texts c.split_words.new.words.items ≡ words = search rules in
    let skip : is_blank_or_comment (texts c.split_words.new.words.items) ≡ false = search rules in
    let command : c.in-Ok.command ≡ form_of (texts c.split_words.new.words.items) = search rules in
    λ n refused s keeps judged.
    (c.answer.ensures.bad n refused s keeps).plan
    (sym (unskipped false is_step words (texts c.split_words.new.words.items) c.in-Ok.command read skip command) ∙ judged)

pub returns-clause-plan : goal.returns-clause-plan
returns-clause-plan c =
    let words = words_of c.args.line.now in
    let read : texts c.split_words.new.words.items ≡ words = search rules in
    let skip : is_blank_or_comment (texts c.split_words.new.words.items) ≡ false = search rules in
    let command : c.in-Ok.command ≡ form_of (texts c.split_words.new.words.items) = search rules in
    λ refused s keeps.
    let told = c.answer.ensures.plan refused s keeps in
    (unskipped false is_step words (texts c.split_words.new.words.items) c.in-Ok.command read skip command ∙ told.0, told.1)
