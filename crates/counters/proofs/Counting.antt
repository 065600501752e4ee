-- Counts of kinds: for concatenated lists, and for one verdict.
use Rattle.std.proofs.Common.{◌≡◌, ℕ, zero, suc, ◌+◌, ◌-◌, ◌<◌, ◌≤◌, ◌==◌, Bool, true, false, cond, List, [], ◌∷◌, ◌++◌, length, set, get_or, refl, sym, ap}
use Rattle.std.proofs.Common.{ap₂, ◌∙◌, arith, add-zero, zero-add, take, replicate}
use Rattle.std.proofs.lemmas.Bool.Decides.{nat_tests}
use Rattle.std.specs.List.{count_by}
use Rattle.std.proofs.lemmas.List.Sums.{sum_by-append}
use Rattle.ipv4.specs.declared.Verdict.{Verdict}
use Rattle.ipv4.specs.declared.Reason.{Reason}
use Rattle.ipv4.specs.declared.Verdict.TheVariants.{Send, Drop}
use Rattle.ipv4.specs.declared.Reason.TheVariants.{Short, NotIpv4, BadHeader, BadLength, BadChecksum, Expired, NoRoute}
use Rattle.ipv4.specs.Reasons.{number_of}
use Rattle.counters.specs.Tally.{Tally, added, plus, with_sent, with_dropped}
use Rattle.counters.specs.Counted.{of_kinds, counts_of, is_sent_by, is_dropped_for, is_tagged}

count_by-append : {X : Type 0} (p : X → Bool) (xs ys : List X) → count_by p (xs ++ ys) ≡ count_by p xs + count_by p ys
count_by-append p xs ys = sum_by-append (λ x. cond (p x) 1 0) xs ys

pub of_kinds-append : (is_of : ℕ → Verdict → Bool) (first n : ℕ) (vs ws : List Verdict)
    → added (of_kinds is_of first n vs) (of_kinds is_of first n ws) ≡ of_kinds is_of first n (vs ++ ws)
of_kinds-append is_of first zero vs ws = refl
of_kinds-append is_of first (suc n) vs ws =
    ap₂ (λ a b. a ∷ b) (sym (count_by-append (is_of first) vs ws)) (of_kinds-append is_of (first + 1) n vs ws)

-- the counts of two lists are the sums
pub counts_of-append : (ports before after : ℕ) (vs ws : List Verdict)
    → plus (counts_of ports before vs) (counts_of ports after ws) ≡ counts_of ports (before + after) (vs ++ ws)
counts_of-append ports before after vs ws i = record {
  oversize = before + after;
  sent = of_kinds-append is_sent_by 0 ports vs ws i;
  dropped = of_kinds-append is_dropped_for 1 7 vs ws i;
  tagged = sym (count_by-append is_tagged vs ws) i;
}

-- a verdict of none of these kinds
of_kinds-none : (is_of : ℕ → Verdict → Bool) (verdict : Verdict) (first n : ℕ) (xs : List ℕ)
    → ((q : ℕ) → first ≤ q → is_of q verdict ≡ false) → added xs (of_kinds is_of first n (verdict ∷ [])) ≡ xs
of_kinds-none is_of verdict first n [] none = refl
of_kinds-none is_of verdict first zero (x ∷ xs) none = refl
of_kinds-none is_of verdict first (suc n) (x ∷ xs) none =
    ap₂ (λ a b. (x + (0 + cond a 1 0)) ∷ b) (none first (omega arith)) (of_kinds-none is_of verdict (first + 1) n xs (λ q h. none q (omega arith)))
    ∙ ap (λ m. m ∷ xs) (omega arith)

-- a verdict of one of these kinds
of_kinds-one : (is_of : ℕ → Verdict → Bool) (verdict : Verdict) (kind first n i : ℕ) (xs : List ℕ)
    → ((q : ℕ) → is_of q verdict ≡ (kind == q)) → kind ≡ first + i → i < n
    → added xs (of_kinds is_of first n (verdict ∷ [])) ≡ set xs i (get_or xs i 0 + 1)
of_kinds-one is_of verdict kind first n i [] same at within = refl
of_kinds-one is_of verdict kind first zero i (x ∷ xs) same at within = absurd (omega arith)
of_kinds-one is_of verdict kind first (suc n) zero (x ∷ xs) same at within =
    let here : is_of first verdict ≡ true = same first ∙ grind (arith, nat_tests) in
    ap₂ (λ a b. (x + (0 + cond a 1 0)) ∷ b) here (of_kinds-none is_of verdict (first + 1) n xs (λ q h. same q ∙ grind (arith, nat_tests)))
of_kinds-one is_of verdict kind first (suc n) (suc i) (x ∷ xs) same at within =
    let here : is_of first verdict ≡ false = same first ∙ grind (arith, nat_tests) in
    ap₂ (λ a b. (x + (0 + cond a 1 0)) ∷ b) here (of_kinds-one is_of verdict kind (first + 1) n i xs same (omega arith) (omega arith))
    ∙ ap (λ m. m ∷ set xs i (get_or xs i 0 + 1)) (omega arith)

-- one more sent frame, and one more dropped frame
pub plus_sent : (t : Tally) (port : ℕ) (tagged : Bool) → port < length t.sent
    → plus t (counts_of (length t.sent) 0 (Send port tagged ∷ [])) ≡ with_sent t port tagged
plus_sent t port tagged within i = record {
  oversize = add-zero t.oversize i;
  sent = of_kinds-one is_sent_by (Send port tagged) port 0 (length t.sent) port t.sent (λ q. refl) (omega arith) within i;
  dropped = of_kinds-none is_dropped_for (Send port tagged) 1 7 t.dropped (λ q h. refl) i;
  tagged = ap (λ n. t.tagged + n) (zero-add (cond tagged 1 0)) i;
}

numbered : (reason : Reason) → (1 ≤ number_of reason) × (number_of reason ≤ 7)
numbered Short = (omega arith, omega arith)
numbered NotIpv4 = (omega arith, omega arith)
numbered BadHeader = (omega arith, omega arith)
numbered BadLength = (omega arith, omega arith)
numbered BadChecksum = (omega arith, omega arith)
numbered Expired = (omega arith, omega arith)
numbered NoRoute = (omega arith, omega arith)

pub plus_dropped : (t : Tally) (reason : Reason)
    → plus t (counts_of (length t.sent) 0 (Drop reason ∷ [])) ≡ with_dropped t (number_of reason - 1)
plus_dropped t reason i =
    let (low, high) = numbered reason in
    record {
      oversize = add-zero t.oversize i;
      sent = of_kinds-none is_sent_by (Drop reason) 0 (length t.sent) t.sent (λ q h. refl) i;
      dropped = of_kinds-one is_dropped_for (Drop reason) (number_of reason) 1 7 (number_of reason - 1) t.dropped (λ q. refl) (omega arith) (omega arith) i;
      tagged = add-zero t.tagged i;
    }

-- one more verdict after those that were counted
pub one_more : (t new : Tally) (ports : ℕ) (verdict : Verdict) → new ≡ plus t (counts_of ports 0 (verdict ∷ []))
    → (oversize : ℕ) (verdicts : List Verdict) → t ≡ counts_of ports oversize verdicts
    → new ≡ counts_of ports oversize (verdicts ++ verdict ∷ [])
one_more t new ports verdict more oversize verdicts before =
    more ∙ ap (λ u. plus u (counts_of ports 0 (verdict ∷ []))) before
    ∙ counts_of-append ports oversize 0 verdicts (verdict ∷ [])
    ∙ ap (λ n. counts_of ports n (verdicts ++ verdict ∷ [])) (add-zero oversize)

-- counts of 0
pub none_yet : (is_of : ℕ → Verdict → Bool) (first n m : ℕ) → n ≤ m → take n (replicate m 0) ≡ of_kinds is_of first n []
none_yet is_of first zero m within = refl
none_yet is_of first (suc n) zero within = absurd (omega arith)
none_yet is_of first (suc n) (suc m) within = ap (λ xs. 0 ∷ xs) (none_yet is_of (first + 1) n m (omega arith))
