-- When the levels agree with the members.
use Rattle.std.specs.Prelude.{◌≡◌, ℕ, ◌<◌, ◌≤◌, ◌^◌}
use Rattle.lpm.specs.TableEntry.{is_group}
use Rattle.lpm.specs.Prefixes.{Members, AreMembers}
use Rattle.lpm.specs.Match.{longest}
use Rattle.lpm.specs.Groups.{has_deeper, groups_of}
use Rattle.lpm.specs.TwoLevels.{TwoLevels, EachPlace, address_at, entry_at, first_at, used_of}

pub record IsRight (p : TwoLevels) (m : Members) : Type 0 where
  pub some : 0 < p.bits
  pub most : p.bits ≤ 24
  pub members : AreMembers m
  -- the entry at each place is the longest match of its address, with its depth
  pub right : EachPlace p (λ i low. entry_at p i low ≡ longest m (address_at p i low) 32)
  -- an entry has a group exactly if a deeper member has its first bits
  pub grouped : (i : ℕ) → i < 2 ^ p.bits → is_group (first_at p i) ≡ has_deeper p.bits m i
  pub used : used_of p ≡ groups_of p.bits m
  pub within : used_of p ≤ p.limit
