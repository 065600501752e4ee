-- What the entries of a right table show.
use Rattle.std.proofs.Common.{◌≡◌, ℕ, ◌^◌, ◌<◌, Bool, true, false, cond, Some, None, List, get_or, map, length, refl, sym, ap, ◌∙◌, subst, inl, inr, arith}
use Rattle.std.proofs.lemmas.Bool.{cases_lt}
use Rattle.std.proofs.lemmas.List.{get_or-map, get_or_past, length-map}
use Rattle.lpm.specs.TableEntry.{TableEntry, entry_of, is_group, group_of, hop_of}
use Rattle.lpm.specs.Prefixes.{Members, size_of}
use Rattle.lpm.specs.Match.{longest, IsLongestMatch, lookup_in}
use Rattle.lpm.specs.Groups.{HasDeeper, has_deeper}
use Rattle.lpm.specs.TwoLevels.{TwoLevels, first_at, grouped_at, address_at}
use Rattle.lpm.specs.Right.{IsRight}
use Rattle.lpm.proofs.Firsts.{deeper_has, has_deeper_is}
use Rattle.lpm.proofs.Matches.{lookup_in_holds}
use Rattle.lpm.proofs.LevelReads.{entry_at-grouped, entry_at-plain}

group_of-split : (c : TableEntry) (b : Bool) → is_group c ≡ b → (g : ℕ) → cond b (Some c.number) None ≡ Some g → (is_group c ≡ true)
    × (c.number ≡ g)
group_of-split c true e g f = (e, cc)
group_of-split c false e g f = cc

-- an entry that names this group
pub group_of-is : (c : TableEntry) (g : ℕ) → group_of c ≡ Some g → (is_group c ≡ true) × (c.number ≡ g)
group_of-is c g e = group_of-split c (is_group c) refl g e

-- the groups that a table shows are those that its entries name
pub shown_group : (es : List TableEntry) (i : ℕ) → get_or (map group_of es) i None ≡ group_of (get_or es i (entry_of 0 0))
shown_group es i = elim (cases_lt i (length es)) [
  | inl within ↦ get_or-map group_of es i (entry_of 0 0) None within
  | inr past ↦ get_or_past (map group_of es) i None (omega (arith, length-map es group_of))
      ∙ ap group_of (sym (get_or_past es i (entry_of 0 0) past))
]

module _ (p : TwoLevels) (m : Members) (r : IsRight p m) (i : ℕ) (fits : i < 2 ^ p.bits) where
  pub group_deeper : is_group (first_at p i) ≡ true → HasDeeper p.bits m i
  group_deeper e = has_deeper_is p.bits m i (sym (r.grouped i fits) ∙ e)

  pub plain_shallow : is_group (first_at p i) ≡ false → ¬ HasDeeper p.bits m i
  plain_shallow e d = let has : has_deeper p.bits m i ≡ true = deeper_has p.bits m i d in let grouped = r.grouped i fits in cc

  pub plain_matches : is_group (first_at p i) ≡ false → (low : ℕ) → low < size_of p.bits
      → IsLongestMatch m (address_at p i low) (hop_of (first_at p i))
  plain_matches e low place =
      let value : hop_of (first_at p i) ≡ lookup_in m (address_at p i low) = ap hop_of
      (sym (entry_at-plain p i low e) ∙ r.right i low fits place) in
      subst (IsLongestMatch m (address_at p i low)) (sym value) (lookup_in_holds m (address_at p i low))

  pub group_matches : (g low : ℕ) → group_of (first_at p i) ≡ Some g → low < size_of p.bits
      → IsLongestMatch m (address_at p i low) (hop_of (grouped_at p g low))
  group_matches g low e place =
      let named = group_of-is (first_at p i) g e in
      let says : grouped_at p g low ≡ longest m (address_at p i low) 32 =
      ap (λ n. grouped_at p n low) (sym named.1) ∙ sym (entry_at-grouped p i low named.0) ∙ r.right i low fits place in
      subst (IsLongestMatch m (address_at p i low)) (ap hop_of (sym says)) (lookup_in_holds m (address_at p i low))
