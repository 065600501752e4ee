-- The number of workers that is chosen, in plain numbers
use Rattle.std.proofs.Common.{◌≡◌, ℕ, zero, suc, ◌+◌, ◌-◌, ◌≤◌, ◌⊎◌, inl, inr, refl, arith, min}
use Rattle.cli.specs.Chosen.{IsChosen, threads_of}

room_of : (p less w : ℕ) → less ≡ p - 2 → w ≡ min less 2 → (w ≡ 0) ⊎ (threads_of w ≤ p)
room_of p less zero behind e = inl refl
room_of p less (suc n) behind e = inr (omega arith)

most_of : (p less w n : ℕ) → less ≡ p - 2 → w ≡ min less 2 → n ≤ 2 → threads_of n ≤ p → n ≤ w
most_of p less w zero behind e small fits = omega arith
most_of p less w (suc n) behind e small fits = let room : suc n + 2 ≤ p = fits in omega arith

pub chosen_of : (p less w : ℕ) → less ≡ p - 2 → w ≡ min less 2 → IsChosen p w
chosen_of p less w behind e =
    record { few = omega arith; room = room_of p less w behind e; most = λ n. most_of p less w n behind e }
