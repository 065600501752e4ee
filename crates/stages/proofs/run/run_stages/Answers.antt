use Rattle.std.proofs.Common.{rules}
use Rattle.stages.proofs.run.run_stages.Goals as goal

pub scoped-requires : goal.scoped-requires
scoped-requires g c = record {
  at = λ a. (
    (
      c.requires.hand,
      c.requires.rings,
      c.requires.at_most,
      c.requires.vacant,
      c.requires.input,
      c.requires.settings,
    ),
    (search rules, search rules, search rules, search rules, search rules),
  );
}
