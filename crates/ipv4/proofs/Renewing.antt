-- The checksum of a header with one less time to live (RFC 1624, section 3).
use Rattle.std.proofs.Common.{◌≡◌, ℕ, zero, suc, ◌+◌, ◌-◌, ◌*◌, ◌/◌, ◌%◌, ◌<◌, ◌≤◌, List, [], ◌∷◌, ◌++◌, length, get_or, slice_set, take, drop, sym, ap, ◌∙◌}
use Rattle.std.proofs.Common.{arith}
use Rattle.std.proofs.lemmas.List.{length-set, get_or-set_other, set-append_left, take-append-drop, length-take-le, get_or-take}
use Rattle.ipv4.specs.Bytes.{AreBytes, word_at}
use Rattle.ipv4.specs.Checksum.{ones_complement_sum, complement, reduced}
use Rattle.ipv4.specs.Fields.{with_checksum, with_time_to_live}
use Rattle.ipv4.specs.Forwarding.{lowered, renewed, renewed_checksum}
use Rattle.ipv4.proofs.ByteLists.{AreBytes-set, AreBytes-take}
use Rattle.ipv4.proofs.Sums.{total_of, sum_reduced, reduced-is}

-- the weight of a byte in the sum: 256 for the high byte of a number
weight : ℕ → ℕ
weight zero = 256
weight (suc zero) = 1
weight (suc (suc i)) = weight i

total_of-set : (xs : List ℕ) (i v : ℕ) → i < length xs → total_of (slice_set xs i v) + weight i * get_or xs i 0 ≡ total_of xs + weight i * v
unfolding weight
total_of-set [] i v h = absurd (omega arith)
total_of-set (a ∷ []) zero v h = omega arith
total_of-set (a ∷ []) (suc i) v h = absurd (omega arith)
total_of-set (a ∷ b ∷ xs) zero v h = omega arith
total_of-set (a ∷ b ∷ xs) (suc zero) v h = omega arith
total_of-set (a ∷ b ∷ xs) (suc (suc i)) v h = omega (arith, total_of-set xs i v (omega arith))

total_of-first : (xs : List ℕ) → 256 * get_or xs 0 0 ≤ total_of xs
total_of-first [] = omega arith
total_of-first (a ∷ []) = omega arith
total_of-first (a ∷ b ∷ xs) = omega arith

-- the header over which its new checksum is summed
abbrev cleared : List ℕ → List ℕ
cleared h = with_checksum 0 (lowered h)

-- what is left of the sum
total_of-cleared : (h : List ℕ) → 12 ≤ length h → 0 < get_or h 8 0 → total_of (cleared h) + word_at h 10 + 256 ≡ total_of h
unfolding weight
total_of-cleared h long alive =
    let low = slice_set h 8 (get_or h 8 0 - 1) in
    let high = slice_set low 10 0 in
    let long_low : length low ≡ length h = length-set h 8 (get_or h 8 0 - 1) in
    let long_high : length high ≡ length low = length-set low 10 0 in
    let there : get_or low 10 0 ≡ get_or h 10 0 = get_or-set_other h 8 10 (get_or h 8 0 - 1) 0 (λ e. omega arith) in
    let there_next : get_or high 11 0 ≡ get_or h 11 0 =
    get_or-set_other low 10 11 0 0 (λ e. omega arith) ∙ get_or-set_other h 8 11 (get_or h 8 0 - 1) 0 (λ e. omega arith) in
    omega (arith, total_of-set h 8 (get_or h 8 0 - 1) (omega arith), total_of-set low 10 0 (omega arith), total_of-set high 11 0 (omega arith))

first_kept : (h : List ℕ) → get_or (cleared h) 0 0 ≡ get_or h 0 0
first_kept h =
    get_or-set_other (slice_set (slice_set h 8 (get_or h 8 0 - 1)) 10 0) 11 0 0 0 (λ e. omega arith)
    ∙ get_or-set_other (slice_set h 8 (get_or h 8 0 - 1)) 10 0 0 0 (λ e. omega arith)
    ∙ get_or-set_other h 8 0 (get_or h 8 0 - 1) 0 (λ e. omega arith)

-- the complement, if the whole was a multiple of 65535
complement-reduced : (left word whole : ℕ) → left + word + 256 ≡ whole → 0 < left → reduced whole ≡ 65535 → complement (reduced left) ≡ (word + 256) % 65535
complement-reduced left word whole e some right = omega (arith, reduced-is left, reduced-is whole)

AreBytes-cleared : (h : List ℕ) → AreBytes h → AreBytes (cleared h)
AreBytes-cleared h all =
    AreBytes-set (slice_set (slice_set h 8 (get_or h 8 0 - 1)) 10 0) 11 0 (omega arith)
    (AreBytes-set (slice_set h 8 (get_or h 8 0 - 1)) 10 0 (omega arith) (AreBytes-set h 8 (get_or h 8 0 - 1) (omega (arith, all 8)) all))

-- the new checksum of a correct header
checksum_of_header : (h : List ℕ) → 12 ≤ length h → AreBytes h → ones_complement_sum h ≡ 65535 → 0 < get_or h 0 0 → 0 < get_or h 8 0
    → renewed_checksum (lowered h) ≡ (word_at h 10 + 256) % 65535
checksum_of_header h long all right some alive =
    ap complement (sum_reduced (cleared h) (AreBytes-cleared h all))
    ∙ complement-reduced (total_of (cleared h)) (word_at h 10) (total_of h) (total_of-cleared h long alive)
    (omega (arith, total_of-first (cleared h), first_kept h)) (sym (sum_reduced h all) ∙ right)

pub checksum_of_packet : (packet : List ℕ) (n : ℕ) → 12 ≤ n → n ≤ length packet → AreBytes packet → ones_complement_sum (take n packet) ≡ 65535
    → 0 < get_or packet 0 0 → 0 < get_or packet 8 0 → renewed_checksum (lowered (take n packet)) ≡ (word_at packet 10 + 256) % 65535
checksum_of_packet packet n long whole all right some alive =
    let h = take n packet in
    let size : length h ≡ n = length-take-le n packet whole in
    let time : get_or h 8 0 ≡ get_or packet 8 0 = get_or-take n packet 8 0 (omega arith) in
    let first : get_or h 0 0 ≡ get_or packet 0 0 = get_or-take n packet 0 0 (omega arith) in
    let high : get_or h 10 0 ≡ get_or packet 10 0 = get_or-take n packet 10 0 (omega arith) in
    let low : get_or h 11 0 ≡ get_or packet 11 0 = get_or-take n packet 11 0 (omega arith) in
    checksum_of_header h (omega arith) (AreBytes-take n packet all) right (omega arith) (omega arith) ∙ ap (λ k. k % 65535) (omega arith)

-- the checksum counts as the number that it is
total_of-checksum : (h : List ℕ) (sum : ℕ) → 12 ≤ length h → total_of (with_checksum sum h) + word_at h 10 ≡ total_of h + sum
unfolding weight
total_of-checksum h sum long =
    let high = slice_set h 10 (sum / 256) in
    let long_high : length high ≡ length h = length-set h 10 (sum / 256) in
    let there : get_or high 11 0 ≡ get_or h 11 0 = get_or-set_other h 10 11 (sum / 256) 0 (λ e. omega arith) in
    omega (arith, total_of-set h 10 (sum / 256) (omega arith), total_of-set high 11 (sum % 256) (omega arith))

whole_again : (left whole : ℕ) → whole ≡ left + complement (reduced left) → reduced whole ≡ 65535
whole_again left whole e = omega (arith, reduced-is left, reduced-is whole)

complement_fits : (n : ℕ) → complement n / 256 < 256
complement_fits n = omega arith

AreBytes-checksum : (h : List ℕ) (sum : ℕ) → sum / 256 < 256 → AreBytes h → AreBytes (with_checksum sum h)
AreBytes-checksum h sum small all = AreBytes-set (slice_set h 10 (sum / 256)) 11 (sum % 256) (omega arith) (AreBytes-set h 10 (sum / 256) small all)

-- the new header is correct again
pub sum-renewed : (h : List ℕ) → 12 ≤ length h → AreBytes h → ones_complement_sum (renewed h) ≡ 65535
unfolding renewed
sum-renewed h long all =
    let low = lowered h in
    let sum = renewed_checksum low in
    let all_low = AreBytes-set h 8 (get_or h 8 0 - 1) (omega (arith, all 8)) all in
    let left = total_of (with_checksum 0 low) in
    let is : sum ≡ complement (reduced left) = ap complement (sum_reduced (with_checksum 0 low) (AreBytes-checksum low 0 (omega arith) all_low)) in
    let long_low : length low ≡ length h = length-set h 8 (get_or h 8 0 - 1) in
    sum_reduced (with_checksum sum low) (AreBytes-checksum low sum (complement_fits _) all_low)
    ∙ whole_again left (total_of (with_checksum sum low)) (omega (arith, is, total_of-checksum low sum (omega arith), total_of-checksum low 0 (omega arith)))

-- writes to a header are writes to the packet
lowered-append : (h body : List ℕ) (time sum : ℕ) → 12 ≤ length h
    → with_checksum sum (with_time_to_live time (h ++ body)) ≡ with_checksum sum (with_time_to_live time h) ++ body
lowered-append h body time sum long =
    let low = slice_set h 8 time in
    let high = slice_set low 10 (sum / 256) in
    let long_low : length low ≡ length h = length-set h 8 time in
    let long_high : length high ≡ length low = length-set low 10 (sum / 256) in
    ap (λ (l : List ℕ). with_checksum sum l) (set-append_left h body 8 time (omega arith))
    ∙ ap (λ (l : List ℕ). slice_set l 11 (sum % 256)) (set-append_left low body 10 (sum / 256) (omega arith))
    ∙ set-append_left high body 11 (sum % 256) (omega arith)

-- what the writes leave of a packet
pub renewed-written : (packet : List ℕ) (n sum : ℕ) → 12 ≤ n → n ≤ length packet → sum ≡ renewed_checksum (lowered (take n packet))
    → with_checksum sum (lowered packet) ≡ renewed (take n packet) ++ drop n packet
unfolding renewed
renewed-written packet n sum long whole e =
    let h = take n packet in
    let size : length h ≡ n = length-take-le n packet whole in
    let before : get_or packet 8 0 ≡ get_or h 8 0 = sym (get_or-take n packet 8 0 (omega arith)) in
    ap (λ (l : List ℕ). with_checksum sum (with_time_to_live (get_or packet 8 0 - 1) l)) (sym (take-append-drop n packet))
    ∙ lowered-append h (drop n packet) (get_or packet 8 0 - 1) sum (omega arith)
    ∙ (λ k. with_checksum (e k) (with_time_to_live (before k - 1) h) ++ drop n packet)
