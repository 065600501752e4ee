-- What is kept of bytes that come one after the other: the first four
use Rattle.std.proofs.Common.{◌≡◌, ℕ, ◌+◌, List, ◌++◌, length, take, min, arith, sym, ap, ◌∙◌}
use Rattle.std.proofs.Math.Seq.{take-append-add}
use Rattle.std.proofs.lemmas.List.{take_min}

pub kept : (old bytes new : List ℕ) (room count : ℕ) → room + length old ≡ 4 → count ≡ min room (length bytes)
    → new ≡ old ++ take count bytes → new ≡ take 4 (old ++ bytes)
kept old bytes new room count full counted is =
    let whole : length old + room ≡ 4 = omega arith in
    let few : take count bytes ≡ take room bytes = ap (λ n. take n bytes) counted ∙ take_min room bytes in
    is ∙ ap (λ xs. old ++ xs) few ∙ sym (take-append-add old bytes room) ∙ ap (λ n. take n (old ++ bytes)) whole
