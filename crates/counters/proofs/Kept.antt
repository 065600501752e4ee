-- What counts keep as they grow.
use Rattle.std.proofs.Common.{◌≡◌, ℕ, zero, suc, ◌+◌, [], ◌∷◌, ap₂, ◌<◌, ◌≤◌, ◌^◌, Bool, true, false, cond, List, length, sum, take, set, get_or, refl, sym, ap}
use Rattle.std.proofs.Common.{◌∙◌, arith}
use Rattle.std.proofs.Math.Seq.{take-set-lt}
use Rattle.std.proofs.Math.ListN.{length-set}
use Rattle.std.proofs.lemmas.List.{get_or-take}
use Rattle.std.proofs.lemmas.List.Sums.{sum_by-set}
use Rattle.counters.specs.Tally.{Tally, IsTally, records_of, plus, added, with_sent}
use Rattle.counters.proofs.Adding.{length-added, sum-added, length-take-le}

pub sum-raised : (xs : List ℕ) (k : ℕ) → k < length xs → sum (set xs k (get_or xs k 0 + 1)) ≡ sum xs + 1
sum-raised xs k there = omega (arith, sum_by-set (λ n. n) xs k (get_or xs k 0 + 1) 0 there)

one_at_most : (b : Bool) → cond b 1 0 ≤ 1
one_at_most true = omega arith
one_at_most false = omega arith

pub sent_kept : (t : Tally) (port : ℕ) (tagged : Bool) → IsTally t → port < length t.sent → records_of t + 1 < 2 ^ 64
    → IsTally (with_sent t port tagged)
sent_kept t port tagged kept there room =
    let long : length (set t.sent port (get_or t.sent port 0 + 1)) ≡ length t.sent = length-set t.sent port (get_or t.sent port 0 + 1) in
    let more = sum-raised t.sent port there in
    let one = one_at_most tagged in
    record {
      some_ports = omega (arith, kept.some_ports);
      few_ports = omega (arith, kept.few_ports);
      reasons = kept.reasons;
      tags = omega (arith, kept.tags);
      fits = omega arith;
    }

abbrev pub tally : ℕ → List ℕ → List ℕ → ℕ → Tally
tally oversize sent dropped tagged = record { oversize = oversize; sent = sent; dropped = dropped; tagged = tagged }

pub take-all : {A : Type 0} (n : ℕ) (xs : List A) → length xs ≤ n → take n xs ≡ xs
take-all zero [] h = refl
take-all (suc n) [] h = refl
take-all zero (x ∷ xs) h = absurd (omega arith)
take-all (suc n) (x ∷ xs) h = ap (λ ys. x ∷ ys) (take-all n xs (omega arith))

-- for the elements of the existing ports
pub take-raised : (ports port : ℕ) (row : List ℕ) → port < ports
    → take ports (set row port (get_or row port 0 + 1)) ≡ set (take ports row) port (get_or (take ports row) port 0 + 1)
take-raised ports port row below =
    take-set-lt ports row port (get_or row port 0 + 1) below
    ∙ ap (λ n. set (take ports row) port (n + 1)) (sym (get_or-take ports row port 0 below))

pub records_of-plus : (t u : Tally) → length u.sent ≡ length t.sent → length u.dropped ≡ length t.dropped
    → records_of (plus t u) ≡ records_of t + records_of u
records_of-plus t u ports reasons = omega (arith, sum-added t.sent u.sent ports, sum-added t.dropped u.dropped reasons)

pub plus_kept : (t u : Tally) → IsTally t → IsTally u → length u.sent ≡ length t.sent → records_of t + records_of u < 2 ^ 64
    → IsTally (plus t u)
plus_kept t u kept other ports room =
    let sums = sum-added t.sent u.sent ports in
    record {
      some_ports = omega (arith, length-added t.sent u.sent, kept.some_ports);
      few_ports = omega (arith, length-added t.sent u.sent, kept.few_ports);
      reasons = length-added t.dropped u.dropped ∙ kept.reasons;
      tags = omega (arith, sums, kept.tags, other.tags);
      fits = omega (arith, records_of-plus t u ports (other.reasons ∙ sym kept.reasons));
    }

-- the counts in the fields after a sent frame, and after other counts are added
pub sent_shown : (oversize ports : ℕ) (sent row dropped : List ℕ) (tagged more port : ℕ) (b : Bool) → port < ports
    → row ≡ set sent port (get_or sent port 0 + 1) → more ≡ cond b 1 0
    → tally oversize (take ports row) dropped (tagged + more) ≡ with_sent (tally oversize (take ports sent) dropped tagged) port b
sent_shown oversize ports sent row dropped tagged more port b below raised one i = record {
  oversize = oversize;
  sent = (ap (take ports) raised ∙ take-raised ports port sent below) i;
  dropped = dropped;
  tagged = tagged + one i;
}

pub plus_shown : (oversize others ports ports' : ℕ) (sent sent' row dropped dropped' row' : List ℕ) (tagged tagged' : ℕ)
    → length sent ≡ 16 → length sent' ≡ 16 → length dropped ≡ 7 → length dropped' ≡ 7 → length row' ≡ 7 → ports ≤ 16 → ports' ≤ 16
    → length (take ports' sent') ≡ length (take ports sent)
    → take ports row ≡ added (take ports sent) (take ports sent') → take 7 row' ≡ added (take 7 dropped) (take 7 dropped')
    → tally (oversize + others) (take ports row) row' (tagged + tagged')
    ≡ plus (tally oversize (take ports sent) dropped tagged) (tally others (take ports' sent') dropped' tagged')
plus_shown oversize others ports ports' sent sent' row dropped dropped' row' tagged tagged' long long' seven seven' seven'' few few' same summed dropped_too i =
    let ports_same : ports ≡ ports' =
    omega (arith, length-take-le ports sent (omega arith), length-take-le ports' sent' (omega arith)) in
    record {
      oversize = oversize + others;
      sent = (summed ∙ ap (λ n. added (take ports sent) (take n sent')) ports_same) i;
      dropped =
          (sym (take-all 7 row' (omega arith)) ∙ dropped_too ∙ ap₂ added (take-all 7 dropped (omega arith)) (take-all 7 dropped' (omega arith))) i;
      tagged = tagged + tagged';
    }
