use Rattle.std.proofs.Common.{◌∙◌, ◌++◌, ap, rules, ◌≡◌, length, take, ◌-◌}
use Rattle.geom.specs.Plan.{granted}
use Rattle.ring_file.specs.Replies.{ring_contents}
use Rattle.ring_file.proofs.Contents.{put_contents, on_ok_always}
use Rattle.ring_file.proofs.answer.put.Goals as goal

pub returns-clause-ring : goal.returns-clause-ring
returns-clause-ring c =
    let ring = c.args.ring.now in
    let queue : c.in_ok-queue.queue.items ≡ c.args.items.now = search rules in
    let count : c.put-moved.result.count ≡ granted c.args.how (length c.args.items.now) (ring.capacity - length ring.items) =
    c.put-moved.ensures.count ∙ ap (λ items. granted c.args.how (length items) (ring.capacity - length ring.items)) queue in
    on_ok_always c.write_two_numbers.result
    (ap ring_contents c.put-moved.ensures.queued
    ∙ ap (λ items. ring_contents record ring { items = ring.items ++ take c.put-moved.result.count items }) queue
    ∙ put_contents ring c.args.how c.args.items.now c.put-moved.result.count count)
