-- What a right table returns.
use Rattle.std.proofs.Common.{◌≡◌, ℕ, zero, suc, ◌+◌, ◌-◌, ◌%◌, ◌^◌, ◌≤◌, ◌<◌, false, cond, Some, None, Option, List, [], length, map, replicate, get_or, refl}
use Rattle.std.proofs.Common.{sym, ap, ◌∙◌, subst, inl, inr, arith}
use Rattle.std.proofs.lemmas.Nat.{shr_below, shr_split, mod_below}
use Rattle.std.proofs.lemmas.List.{get_or-map, get_or-replicate, get_or_past, length-map, length-replicate, same_lists}
use Rattle.std.proofs.lemmas.List.Sums.{sum_by-cons}
use Rattle.std.proofs.lemmas.Bool.{cases_lt}
use Rattle.std.specs.Option.{IfSome}
use Rattle.std.specs.FinMap as fin_map
use Rattle.std.specs.FinSet as fin_set
use Rattle.std.specs.FinSet.{nat_cmp-IsAntisymmetric}
use Rattle.std.specs.Cmp.{nat_cmp_total, both_ways}
use Rattle.std.specs.Ordering.{nat_cmp}
use Rattle.std.specs.List.{count_by}
use Rattle.lpm.specs.declared.prefix.Prefix.{Prefix}
use Rattle.lpm.specs.TableEntry.{TableEntry, entry_of, hop_of, is_group}
use Rattle.lpm.specs.Prefixes.{Members, AreMembers, prefix_cmp, first_bits, size_of, prefix_of}
use Rattle.lpm.specs.Match.{IsLongestMatch, longest, entry_or, lookup_in}
use Rattle.lpm.specs.Groups.{deeper_firsts}
use Rattle.lpm.specs.TwoLevels.{TwoLevels, first_at, entry_for}
use Rattle.lpm.specs.Right.{IsRight}
use Rattle.lpm.proofs.Masks.{size_pos}
use Rattle.lpm.proofs.Firsts.{has_deeper_is}
use Rattle.lpm.proofs.LevelReads.{entry_at-plain}

-- what holds for an address
pub right_at : (p : TwoLevels) (m : Members) → IsRight p m → (a : ℕ) → a < 2 ^ 32
    → entry_for p a ≡ longest m a 32
right_at p m r a small =
    let whole : 32 ≡ p.bits + (32 - p.bits) = omega (arith, r.most) in
    r.right (first_bits a p.bits) (a % size_of p.bits) (shr_below a p.bits (32 - p.bits) (subst (λ n. a < 2 ^ n) whole small))
    (mod_below a (size_of p.bits) (size_pos p.bits))
    ∙ ap (λ n. longest m n 32) (shr_split a (32 - p.bits))

-- and for a burst of them
pub hops_right : (p : TwoLevels) (m : Members) → IsRight p m → (addresses : List ℕ) → ((k : ℕ) → get_or addresses k 0 < 2 ^ 32)
    → map (λ a. hop_of (entry_for p a)) addresses ≡ map (lookup_in m) addresses
hops_right p m r addresses small =
    let hop : ℕ → Option ℕ = λ a. hop_of (entry_for p a) in
    same_lists (map hop addresses) (map (lookup_in m) addresses)
    (omega (arith, length-map addresses hop, length-map addresses (lookup_in m)))
    (λ k d within.
    let inside : k < length addresses = omega (arith, length-map addresses hop) in
    get_or-map hop addresses k 0 d inside ∙ ap hop_of (right_at p m r (get_or addresses k 0) (small k))
    ∙ sym (get_or-map (lookup_in m) addresses k 0 d inside))

-- the result at one index of a burst
pub hop_at : (m : Members) (addresses : List ℕ) (hops : List (Option ℕ)) → hops ≡ map (lookup_in m) addresses
    → (k : ℕ) → k < length addresses → get_or hops k None ≡ lookup_in m (get_or addresses k 0)
hop_at m addresses hops e k within =
    ap (λ hs. get_or hs k None) e ∙ get_or-map (lookup_in m) addresses k 0 None within

-- a result is the hop of a member, and so has 24 bits
pub small_hop : (m : Members) (a : ℕ) (answer : Option ℕ) → AreMembers m → IsLongestMatch m a answer
    → IfSome answer (λ hop. hop < 2 ^ 24)
small_hop m a None are matches = tt
small_hop m a (Some hop) are matches = (are (prefix_of a matches.0) hop matches.1.member).small

-- a table without members
abbrev nothing : Members
nothing = fin_map.empty

get-nothing : (q : Prefix) (hop : ℕ) → fin_map.get nothing q ≡ Some hop → ⊥
get-nothing q hop e = let none = fin_map.get-empty {X = ℕ} prefix_cmp q in cc

longest-nothing : (a n : ℕ) → longest nothing a n ≡ entry_of 0 0
unfolding longest
longest-nothing a zero = refl
longest-nothing a (suc n) = ap (λ w. entry_or w (suc n) (longest nothing a n))
    (fin_map.get-empty {X = ℕ} prefix_cmp (prefix_of a (suc n))) ∙ longest-nothing a n

firsts_of_nothing : (bits : ℕ) → deeper_firsts bits nothing ≡ fin_set.empty
firsts_of_nothing bits = fin_set.same_set nat_cmp_total nat_cmp-IsAntisymmetric _ _ (λ f.
    both_ways _ _ (λ e. let d = has_deeper_is bits nothing f e in absurd (get-nothing d.prefix d.hop d.member))
    (λ e. let none = fin_set.contains-empty nat_cmp f in cc))

none_grouped : (n : ℕ) → count_by is_group (replicate n (entry_of 0 0)) ≡ 0
none_grouped zero = refl
none_grouped (suc n) = omega (
  arith,
  sum_by-cons (λ (e : TableEntry). cond {A = ℕ} (is_group e) 1 0) (entry_of 0 0)
      (replicate n (entry_of 0 0)),
  none_grouped n,
)

at_nothing : (n i : ℕ) → get_or (replicate n (entry_of 0 0)) i (entry_of 0 0) ≡ entry_of 0 0
at_nothing n i = elim (cases_lt i n) [
  | inl within ↦ get_or-replicate n i (entry_of 0 0) (entry_of 0 0) within
  | inr past ↦ get_or_past (replicate n (entry_of 0 0)) i (entry_of 0 0) (omega (arith, length-replicate n (entry_of 0 0)))
]

pub right_nothing : (bits limit : ℕ) → 0 < bits → bits ≤ 24 → IsRight
    (record { bits = bits; limit = limit; first = replicate (2 ^ bits) (entry_of 0 0); groups = []; free = 0 }) nothing
right_nothing bits limit some most =
    let p : TwoLevels = record { bits = bits; limit = limit; first = replicate (2 ^ bits) (entry_of 0 0); groups = []; free = 0 } in
    let plain : (i : ℕ) → is_group (first_at p i) ≡ false = λ i. ap is_group (at_nothing (2 ^ bits) i) in
    let none = none_grouped (2 ^ bits) in
    record {
      some = some;
      most = most;
      members = λ q hop e. absurd (get-nothing q hop e);
      right = λ i low fits_i fits. entry_at-plain p i low (plain i) ∙ at_nothing (2 ^ bits) i ∙ sym (longest-nothing _ 32);
      grouped = λ i fits. plain i ∙ sym (fin_set.contains-empty nat_cmp i) ∙ ap (λ s. fin_set.contains s i) (sym (firsts_of_nothing bits));
      used = none ∙ sym (fin_set.len-empty nat_cmp) ∙ ap fin_set.len (sym (firsts_of_nothing bits));
      within = omega arith;
    }
