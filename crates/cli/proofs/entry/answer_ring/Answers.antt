use Rattle.std.proofs.Common.{List, ℕ, [], length, subst}
use Rattle.std.specs.Prelude.{OnOk}
use Rattle.command_file.specs.Files.{IsAnsweredTo}
use Rattle.command_file.specs.Text.{lines_of}
use Rattle.ring_file.specs.Replies.{ring_file}
use Rattle.cli.proofs.Printing.{printed_of}
use Rattle.cli.proofs.entry.answer_ring.Goals as goal

pub returns : goal.returns
returns g c none =
    let answered = c.ring_text-answered in
    let bytes = c.in_ok-bytes.bytes.items in
    let replies = answered.new.out.items in
    printed_of c.text_result.result answered.result (g.I.Read.remaining c.args.input) bytes replies c.as_slice-2.result.now
    (g.O.Write.contents c.args.out.now) (g.O.Write.contents c.print.new.out)
    (λ k r. IsAnsweredTo ring_file (length (lines_of k)) (lines_of k) [] r) c.text_result.ensures
    (subst (λ (xs : List ℕ). OnOk answered.result (IsAnsweredTo ring_file (length (lines_of bytes)) (lines_of bytes) xs replies))
    c.new-replies.ensures.items
    (subst (λ (bs : List ℕ). OnOk answered.result (IsAnsweredTo ring_file (length (lines_of bs)) (lines_of bs) c.new-replies.result.items replies))
    c.as_slice.ensures.value answered.ensures.ok))
    (c.in_ok-bytes.ensures none) c.as_slice-2.ensures.value c.in_ok-print.ensures
