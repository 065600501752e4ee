use Rattle.std.proofs.Common.{◌≡◌, ◌∙◌, ◌++◌, ap, take, length, drop, append_assoc, codes, decimal}
use Rattle.std.proofs.lemmas.Result.{on_ok_weaker}
use Rattle.ringcore.specs.Fifo.{Fifo}
use Rattle.ring_file.specs.Replies.{ring_contents, words_text}
use Rattle.ring_file.proofs.Contents.{take_contents, take_text-texts, on_ok_always}
use Rattle.command_file.specs.Text.{texts}
use Rattle.ring_file.proofs.answer.take.Goals as goal

pub returns-clause-ring : goal.returns-clause-ring
returns-clause-ring c =
    let moved = c.in_ok-moved in
    on_ok_always c.list.result
    (ap ring_contents moved.ensures.queued ∙ take_contents c.args.ring.now c.args.how c.args.n moved.moved.count moved.ensures.count)

pub returns-clause-text : goal.returns-clause-text
returns-clause-text c =
    let moved = c.in_ok-moved in
    let ring = c.args.ring.now in
    let old = c.args.reply.now.items in
    let head = codes "take " ++ decimal moved.moved.count ++ codes " left " ++ decimal moved.moved.left in
    let given : c.as_slice.result.now ≡ take moved.moved.count ring.items =
    c.as_slice.ensures.value ∙ moved.ensures.given ∙ ap (λ xs. xs ++ take moved.moved.count ring.items) c.new-taken.ensures.items in
    let left : moved.moved.left ≡ length (drop moved.moved.count ring.items) =
    moved.ensures.left ∙ ap (λ (q : Fifo _). length q.items) moved.ensures.queued in
    on_ok_weaker c.list.result (λ listed.
    listed
    ∙ ap (λ xs. xs ++ words_text (texts c.as_slice.result.now)) c.in_ok-write_two_numbers.ensures
    ∙ append_assoc old head (words_text (texts c.as_slice.result.now))
    ∙ ap (λ xs. old ++ xs) (take_text-texts ring c.args.how c.args.n moved.moved.count moved.moved.left c.as_slice.result.now moved.ensures.count left given))
    c.list.ensures
