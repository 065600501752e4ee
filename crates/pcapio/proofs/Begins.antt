-- Prefixes of what was to be written.
use Rattle.std.proofs.Common.{◌≡◌, ℕ, ◌+◌, ◌-◌, List, arith, [], ◌++◌, length, take, drop, Option, Some, None, sym, ap, ◌∙◌, subst, append_assoc, append-nil}
use Rattle.std.proofs.Common.{take-append-drop}
use Rattle.std.specs.Io.KnownBytes.{Keeps, Appends, append_known}
use Rattle.std.proofs.KnownBytes.{Appends-trans}
use Rattle.pcapio.specs.Begin.{Begins}
use Rattle.std.proofs.lemmas.List.{take_all, length-drop}
use lib.Seq.{take-add}

pub begins-failed : (a b c : Option (List ℕ)) (bs : List ℕ) (at : ℕ) → Appends a b (take at bs) → Keeps b c → Begins c (append_known a bs)
begins-failed None b c bs at p k = ([], tt)
begins-failed (Some x) None c bs at p k = absurd p
begins-failed (Some x) (Some y) None bs at p k = absurd k
begins-failed (Some x) (Some y) (Some z) bs at p k =
    (drop at bs, ap (λ l. l ++ drop at bs) (k ∙ p) ∙ append_assoc x (take at bs) (drop at bs) ∙ ap (λ l. x ++ l) (take-append-drop at bs))

pub sent-more : (a b c : Option (List ℕ)) (bs : List ℕ) (at n : ℕ) → Appends a b (take at bs) → Appends b c (take n (take (length bs - at) (drop at bs)))
    → Appends a c (take (at + n) bs)
sent-more a b c bs at n p q =
    let all : take (length bs - at) (drop at bs) ≡ drop at bs = take_all (length bs - at) (drop at bs) (omega (arith, length-drop at bs)) in
    subst (Appends a c) (sym (take-add at n bs)) (Appends-trans a b c _ _ p (subst (λ l. Appends b c (take n l)) all q))

pub begins-more : (p w : Option (List ℕ)) (bs : List ℕ) → Begins p w → Begins p (append_known w bs)
begins-more p None bs h = ([], tt)
begins-more None (Some x) bs h = absurd h.1
begins-more (Some y) (Some x) bs h = (h.0 ++ bs, sym (append_assoc y h.0 bs) ∙ ap (λ l. l ++ bs) h.1)

pub begins-after : (a b p : Option (List ℕ)) (h q : List ℕ) → Appends a b h → Begins p (append_known b q) → Begins p (append_known a (h ++ q))
begins-after None b p h q e k = ([], tt)
begins-after (Some x) None p h q e k = absurd e
begins-after (Some x) (Some y) None h q e k = absurd k.1
begins-after (Some x) (Some y) (Some z) h q e k =
    (k.0, k.1 ∙ ap (λ l. l ++ q) e ∙ append_assoc x h q)

-- the first bytes of what comes
pub begins-front : (p w : Option (List ℕ)) (xs ys : List ℕ) → Begins p (append_known w xs) → Begins p (append_known w (xs ++ ys))
begins-front p None xs ys h = ([], tt)
begins-front p (Some x) xs ys h = subst (λ l. Begins p (Some l)) (append_assoc x xs ys) (begins-more p (Some (x ++ xs)) ys h)

pub begins_self : (a : Option (List ℕ)) → Begins a a
begins_self None = ([], tt)
begins_self (Some x) = ([], append-nil x)

pub begins-trans : (p a b : Option (List ℕ)) → Begins p a → Begins a b → Begins p b
begins-trans p a None h k = ([], tt)
begins-trans p None (Some x) h k = absurd k.1
begins-trans None (Some y) (Some x) h k = absurd h.1
begins-trans (Some z) (Some y) (Some x) h k =
    (h.0 ++ k.0, sym (append_assoc z h.0 k.0) ∙ ap (λ l. l ++ k.0) h.1 ∙ k.1)
