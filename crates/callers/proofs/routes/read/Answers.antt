use Rattle.std.proofs.Common.{◌%◌, Some, None, refl, sym, subst}
use Rattle.lpm.specs.Prefixes.{size_of}
use Rattle.lpm.specs.Match.{IsLongestMatch}
use Rattle.callers.proofs.Joined.{joined, first_below, low_below}
use Rattle.callers.proofs.routes.read.Goals as goal

pub returns-in-Group : goal.returns-in-Group
returns-in-Group c =
    subst (λ a. IsLongestMatch c.args.table.now.members a c.group_entry.result)
    (joined c.args.table.now c.bits-bits.result c.args.addr c.first_of.result c.low_of.result c.bits-bits.ensures.value c.first_of.ensures.value
    c.low_of.ensures.value)
    (c.group_entry.ensures c.first_of.result (first_below c.args.table.now c.bits-bits.result _ c.bits-bits.ensures.value c.first_of.ensures.below)
    (sym c.in-Group.ensures.group))

pub returns-in-Hop : goal.returns-in-Hop
returns-in-Hop c =
    subst (λ a. IsLongestMatch c.args.table.now.members a (Some c.in-Hop.hop))
    (joined c.args.table.now c.bits-bits.result c.args.addr c.first_of.result _ c.bits-bits.ensures.value c.first_of.ensures.value refl)
    (c.in-Hop.ensures.hop (c.args.addr % size_of c.bits-bits.result) (low_below c.args.table.now c.bits-bits.result c.args.addr c.bits-bits.ensures.value))

pub returns-in-None : goal.returns-in-None
returns-in-None c =
    subst (λ a. IsLongestMatch c.args.table.now.members a None)
    (joined c.args.table.now c.bits-bits.result c.args.addr c.first_of.result _ c.bits-bits.ensures.value c.first_of.ensures.value refl)
    (c.in-None.ensures.hop (c.args.addr % size_of c.bits-bits.result) (low_below c.args.table.now c.bits-bits.result c.args.addr c.bits-bits.ensures.value))
