-- One segment as contracts see it (DPDK Programmer's Guide, "Mbuf Library": headroom, data and tailroom of an mbuf).
use Rattle.std.specs.Prelude.{ℕ, ◌+◌, ◌-◌, List, [], ◌++◌, length, take, drop, slice_set, replicate}
use Rattle.std.specs.List.{refill}

-- a numbered buffer: the bytes of a packet that are in it, and the free bytes before and after them
pub record Buffer : Type 0 where
  pub number : ℕ
  -- the headroom that it has when fresh
  pub reserve : ℕ
  pub headroom : ℕ
  pub bytes : List ℕ
  pub tailroom : ℕ

-- its total number of bytes
abbrev pub size_of : Buffer → ℕ
size_of b = b.headroom + length b.bytes + b.tailroom

-- how much tailroom it has when fresh
abbrev pub room_of : Buffer → ℕ
room_of b = size_of b - b.reserve

-- without bytes, and with its original headroom
abbrev pub fresh : Buffer → Buffer
fresh b = record b { headroom = b.reserve; bytes = []; tailroom = room_of b }

-- a fresh buffer, as it is made
abbrev pub made : ℕ → ℕ → ℕ → Buffer
made headroom room number =
    record { number = number; reserve = headroom; headroom = headroom; bytes = []; tailroom = room }

abbrev pub prepended : List ℕ → Buffer → Buffer
prepended xs b = record b { headroom = b.headroom - length xs; bytes = xs ++ b.bytes }

abbrev pub appended : List ℕ → Buffer → Buffer
appended xs b = record b { bytes = b.bytes ++ xs; tailroom = b.tailroom - length xs }

-- without its first n bytes
abbrev pub cut_front : ℕ → Buffer → Buffer
cut_front n b = record b { headroom = b.headroom + n; bytes = drop n b.bytes }

-- without its last n bytes
abbrev pub cut_back : ℕ → Buffer → Buffer
cut_back n b = record b { bytes = take (length b.bytes - n) b.bytes; tailroom = b.tailroom + n }

-- with byte i replaced
abbrev pub with_byte : ℕ → ℕ → Buffer → Buffer
with_byte i v b = record b { bytes = slice_set b.bytes i v }

-- a list of bytes with others written over those from index `at` on: what comes before, what is written, what comes
-- after
abbrev pub overwritten : {X : Type 0} → ℕ → List X → List X → List X
overwritten at ws bytes = take at bytes ++ (ws ++ drop (length ws) (drop at bytes))

-- with xs written over its bytes from index `at` on
abbrev pub written : ℕ → List ℕ → Buffer → Buffer
written at xs b = record b { bytes = overwritten at xs b.bytes }

-- with xs written over its bytes, whose number is unchanged
abbrev pub rewritten : List ℕ → Buffer → Buffer
rewritten xs b = record b { bytes = refill (length b.bytes) b.bytes xs }

-- with each of its bytes 0: what is unchanged in a buffer when only the values of its bytes change
abbrev pub blanked : Buffer → Buffer
blanked b = record b { bytes = replicate (length b.bytes) 0 }
