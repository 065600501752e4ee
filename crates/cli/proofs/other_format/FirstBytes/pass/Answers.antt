use Rattle.std.proofs.Common.{rules}
use Rattle.cli.proofs.Keeping.{kept}
use Rattle.cli.proofs.other_format.FirstBytes.pass.Goals as goal

pub returns : goal.returns
returns c =
    kept c.args.self.now.bytes.items c.args.bytes.now c.try_extend_from_slice.new.self.items c.remaining_capacity.result c.min-count.result
    (search rules) c.min-count.ensures (search rules)
