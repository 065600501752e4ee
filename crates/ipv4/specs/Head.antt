-- The front of a frame.
use Rattle.std.specs.Prelude.{◌≤◌, ℕ, List, length}
use Rattle.ipv4.specs.Fields.{packet_of, header_len}

-- it has the whole header, or what would be one
pub record HoldsHeader (head : List ℕ) : Type 0 where
  pub long : 14 ≤ length head
  pub least : 20 ≤ length (packet_of head)
  pub whole : header_len (packet_of head) ≤ length (packet_of head)
