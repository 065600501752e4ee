-- Records of two inputs, concatenated.
use Rattle.std.proofs.Common.{◌≡◌, ℕ, ◌+◌, cond, List, [], ◌∷◌, ◌++◌, map, sym, ap, ◌∙◌}
use Rattle.std.proofs.lemmas.List.{map-append}
use Rattle.std.proofs.lemmas.List.Elements.{filter-append}
use Rattle.std.proofs.lemmas.List.Sums.{sum_by-append}
use Rattle.counters.specs.Counted.{counts_of, is_sent_by}
use Rattle.counters.specs.Tally.{gathered}
use Rattle.counters.proofs.Counting.{counts_of-append}
use Rattle.pcapio_laws.specs.Capture.{Packet}
use Rattle.stages_laws.specs.Output.{Forwarding, Fate, fits, stamped, is_oversize, oversize, fate, fates, verdicts, records_at, tally_of}

pub fates-append : (forwarding : Forwarding) (room : ℕ) (xs ys : List Packet) → fates forwarding room (xs ++ ys) ≡ fates forwarding room xs ++ fates
    forwarding room ys
fates-append forwarding room xs ys = ap (map (fate forwarding)) (filter-append (fits room) xs ys) ∙ map-append (fate forwarding) (stamped room xs)
    (stamped room ys)

pub records-append : (q : ℕ) (xs ys : List Fate) → records_at q (xs ++ ys) ≡ records_at q xs ++ records_at q ys
records-append q xs ys =
    ap (map (λ (o : Fate). o.packet)) (filter-append (λ (o : Fate). is_sent_by q o.verdict) xs ys) ∙ map-append (λ (o : Fate). o.packet) _ _

pub oversize-append : (room : ℕ) (xs ys : List Packet) → oversize room (xs ++ ys) ≡ oversize room xs + oversize room ys
oversize-append room xs ys = sum_by-append (λ x. cond (is_oversize room x) 1 0) xs ys

pub records_add : (forwarding : Forwarding) (room q : ℕ) (xs ys : List Packet)
    → records_at q (fates forwarding room (xs ++ ys)) ≡ records_at q (fates forwarding room xs) ++ records_at q (fates forwarding room ys)
records_add forwarding room q xs ys =
    ap (records_at q) (fates-append forwarding room xs ys) ∙ records-append q (fates forwarding room xs) (fates forwarding room ys)

pub counts_add : (forwarding : Forwarding) (room ports : ℕ) (xs ys : List Packet)
    → tally_of ports forwarding room (xs ++ ys) ≡ gathered (tally_of ports forwarding room xs ∷ tally_of ports forwarding room ys ∷ [])
counts_add forwarding room ports xs ys =
    let told : verdicts (fates forwarding room (xs ++ ys)) ≡ verdicts (fates forwarding room xs) ++ verdicts (fates forwarding room ys) =
    ap verdicts (fates-append forwarding room xs ys) ∙ map-append (λ (o : Fate). o.verdict) (fates forwarding room xs) (fates forwarding room ys) in
    (λ k. counts_of ports (oversize-append room xs ys k) (told k))
    ∙ sym (counts_of-append ports (oversize room xs) (oversize room ys) (verdicts (fates forwarding room xs)) (verdicts (fates forwarding room ys)))
