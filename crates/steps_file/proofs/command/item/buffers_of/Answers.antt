use Rattle.std.proofs.Common.{sym, ap, ◌∙◌, Some}
use Rattle.steps_file.proofs.Lone.{lone}
use Rattle.steps_file.proofs.command.item.buffers_of.Goals as goal

pub returns-in_ok-one_buffer-in-Some : goal.returns-in_ok-one_buffer-in-Some
returns-in_ok-one_buffer-in-Some c = ap Some c.in_ok-one_buffer-in-Some.ensures ∙ sym (lone c.args.digits.now c.in-Some.n (sym c.number_of.ensures ∙ c.in-Some.is))
