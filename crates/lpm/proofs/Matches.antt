-- The longest match agrees with the relation.
use Rattle.std.proofs.Common.{◌≡◌, ◌≢◌, ℕ, zero, suc, ◌≤◌, ◌<◌, Option, Some, None, refl, sym, ap, ◌∙◌, subst, inl, inr, arith}
use Rattle.std.proofs.lemmas.Bool.{cases_lt, cases_eq}
use Rattle.std.proofs.lemmas.Bool.Decides.{nat_tests}
use Rattle.std.specs.FinMap as map
use Rattle.lpm.specs.TableEntry.{TableEntry, hop_of}
use Rattle.lpm.specs.Prefixes.{Members, prefix_of}
use Rattle.lpm.specs.Match.{Holds, IsLongestMatch, longest, entry_or, lookup_in}

-- an entry that was found is that of a member
abbrev pub IsFound : Members → ℕ → TableEntry → Type 0
IsFound m a c = 0 < c.depth → Holds m a c.depth c.number

found_or : (m : Members) (a n : ℕ) (w : Option ℕ) (c : TableEntry) → map.get m (prefix_of a (suc n)) ≡ w → suc n ≤ 32 → IsFound m a c
    → IsFound m a (entry_or w (suc n) c)
found_or m a n None c e h k = k
found_or m a n (Some hop) c e h k = λ _. record { within = (omega arith, h); member = e }

pub longest_found : (m : Members) (a n : ℕ) → n ≤ 32 → IsFound m a (longest m a n)
unfolding longest
longest_found m a zero h = λ pos. absurd (omega arith)
longest_found m a (suc n) h = found_or m a n _ (longest m a n) refl h (longest_found m a n (omega arith))

found_here : (w : Option ℕ) (n d h : ℕ) (c : TableEntry) → w ≡ Some h → d ≤ n → d ≤ (entry_or w n c).depth
found_here None n d h c e k = cc
found_here (Some x) n d h c e k = k

kept_or : (w : Option ℕ) (n d : ℕ) (c : TableEntry) → d ≤ n → d ≤ c.depth → d ≤ (entry_or w n c).depth
kept_or None n d c k e = e
kept_or (Some x) n d c k e = k

-- no member that covers the address is deeper
pub longest_greatest : (m : Members) (a n d h : ℕ) → Holds m a d h → d ≤ n → d ≤ (longest m a n).depth
unfolding longest
longest_greatest m a zero d h holds k = k
longest_greatest m a (suc n) d h holds k =
    elim (cases_lt n d) [
      | inl here ↦
          let is : d ≡ suc n = omega arith in
          found_here _ (suc n) d h (longest m a n) (ap (λ e. map.get m (prefix_of a e)) (sym is) ∙ holds.member) k
      | inr deeper ↦ kept_or _ (suc n) d (longest m a n) k (longest_greatest m a n d h holds deeper)
    ]

pub hop_of-none : (c : TableEntry) → c.depth ≡ 0 → hop_of c ≡ None
hop_of-none c e = grind (arith, nat_tests)

pub hop_of-some : (c : TableEntry) → c.depth ≢ 0 → hop_of c ≡ Some c.number
hop_of-some c e = grind (arith, nat_tests)

pub answer_holds : (m : Members) (a : ℕ) (c : TableEntry) → IsFound m a c → ((d h : ℕ) → Holds m a d h → d ≤ c.depth)
    → IsLongestMatch m a (hop_of c)
answer_holds m a c found greatest =
    elim (cases_eq c.depth 0) [
      | inl zero_depth ↦
          let unmatched : IsLongestMatch m a None = λ d h holds. omega (arith, holds.within, greatest d h holds) in
          subst (IsLongestMatch m a) (sym (hop_of-none c zero_depth)) unmatched
      | inr pos ↦
          let matched : IsLongestMatch m a (Some c.number) = (c.depth, found (omega arith), greatest) in
          subst (IsLongestMatch m a) (sym (hop_of-some c pos)) matched
    ]

pub lookup_in_holds : (m : Members) (a : ℕ) → IsLongestMatch m a (lookup_in m a)
lookup_in_holds m a = answer_holds m a (longest m a 32) (longest_found m a 32 (omega arith))
    (λ d h holds. longest_greatest m a 32 d h holds holds.within.1)
