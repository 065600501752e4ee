use Rattle.std.proofs.Common.{◌≡◌, Some, sym, subst, Option}
use Rattle.steps_file.specs.Standing.{LineRefused}
use Rattle.steps_file.specs.declared.command.Command.{Command}
use Rattle.steps_file.specs.declared.command.Command.TheVariants.{Act}
use Rattle.steps_file.proofs.stage.Stage.answer.Goals as goal

pub returns-in-Some-Act-clause-bad : goal.returns-in-Some-Act-clause-bad
returns-in-Some-Act-clause-bad c = λ n refused s keeps.
    let command : c.args.command ≡ Some (Act c.in-Some-Act.actor c.in-Some-Act.step) = cc in
    subst (λ (o : Option Command). LineRefused s o) (sym command) (c.act.ensures.bad n refused s keeps)
