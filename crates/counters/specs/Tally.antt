-- Counts as numbers.
use Rattle.std.specs.Prelude.{◌≡◌, ℕ, ◌+◌, ◌<◌, ◌≤◌, ◌^◌, List, [], ◌∷◌, length, sum, fold, slice_set, slice_index}
use Rattle.std.specs.Prelude.{Bool, if◌then◌else◌, refl}
use Rattle.std.specs.List.{AllByRecursion}
use Rattle.std.specs.Coded.{Coded, code_by, coded×, coded_ℕ, coded_list}

pub record Tally : Type 0 where
  -- records above the size that is forwarded
  pub oversize : ℕ
  -- sent frames, for each port
  pub sent : List ℕ
  -- dropped frames, for each of the seven reasons, in the order of their numbers
  pub dropped : List ℕ
  -- sent frames with an 802.1Q tag; these are counted at their port, too
  pub tagged : ℕ

-- a tally is stored as the pairs of its fields
abbrev pub tally_code : Coded Tally
tally_code =
    code_by (ℕ × (List ℕ × (List ℕ × ℕ))) (coded× coded_ℕ
    (coded× (coded_list coded_ℕ) (coded× (coded_list coded_ℕ) coded_ℕ)))
    (λ t. (t.oversize, (t.sent, (t.dropped, t.tagged))))
    (λ c. record { oversize = c.0; sent = c.1.0; dropped = c.1.1.0; tagged = c.1.1.1 })
    (λ _. refl)

-- the number of records: the oversize ones, and those of each verdict
abbrev pub records_of : Tally → ℕ
records_of t = t.oversize + sum t.sent + sum t.dropped

-- element by element
abbrev pub added : List ℕ → List ℕ → List ℕ
added [] ys = []
added (x ∷ xs) [] = x ∷ xs
added (x ∷ xs) (y ∷ ys) = (x + y) ∷ added xs ys

-- the sums of two tallies
abbrev pub plus : Tally → Tally → Tally
plus t u = record {
  oversize = t.oversize + u.oversize;
  sent = added t.sent u.sent;
  dropped = added t.dropped u.dropped;
  tagged = t.tagged + u.tagged;
}

-- the sums of several
abbrev pub gathered : List Tally → Tally
gathered [] = record { oversize = 0; sent = []; dropped = []; tagged = 0 }
gathered (t ∷ ts) = fold plus t ts

-- what holds for the counts of a run
pub record IsTally (t : Tally) : Type 0 where
  pub some_ports : 0 < length t.sent
  pub few_ports : length t.sent ≤ 16
  pub reasons : length t.dropped ≡ 7
  pub tags : t.tagged ≤ sum t.sent
  pub fits : records_of t < 2 ^ 64

-- all have the same number of ports as the first
abbrev pub SamePorts : List Tally → Type 0
SamePorts [] = Unit {0}
SamePorts (t ∷ ts) = AllByRecursion (λ u. length u.sent ≡ length t.sent) ts

-- with one more sent frame
abbrev pub with_sent : Tally → ℕ → Bool → Tally
with_sent t port tagged = record {
  oversize = t.oversize;
  sent = slice_set t.sent port (slice_index t.sent port + 1);
  dropped = t.dropped;
  tagged = t.tagged + (if tagged then 1 else 0);
}

-- with one more dropped frame
abbrev pub with_dropped : Tally → ℕ → Tally
with_dropped t place = record {
  oversize = t.oversize;
  sent = t.sent;
  dropped = slice_set t.dropped place (slice_index t.dropped place + 1);
  tagged = t.tagged;
}
