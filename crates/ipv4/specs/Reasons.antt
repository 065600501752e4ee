-- The numbers of the reasons to drop a frame.
use Rattle.std.specs.Prelude.{ℕ}
use Rattle.ipv4.specs.declared.verdicts.Reason.{Reason}

abbrev pub number_of : Reason → ℕ
number_of Reason.Short = 1
number_of Reason.NotIpv4 = 2
number_of Reason.BadHeader = 3
number_of Reason.BadLength = 4
number_of Reason.BadChecksum = 5
number_of Reason.Expired = 6
number_of Reason.NoRoute = 7
