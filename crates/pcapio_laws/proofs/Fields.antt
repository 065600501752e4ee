-- Numbers and fields, in the bytes that begin with them.
use Rattle.std.proofs.Common.{◌≡◌, ℕ, ◌+◌, ◌≤◌, List, ◌++◌, length, drop, ap, ◌∙◌, arith}
use Rattle.std.proofs.lemmas.List.{drop-append-le, length-drop}
use Rattle.byteorder.specs.Numbers.{big_from-append, little_from-append}
use Rattle.pcapio_laws.specs.declared.format.ByteOrder.{ByteOrder}
use Rattle.pcapio_laws.specs.declared.format.ByteOrder.TheVariants.{Little, Big}
use Rattle.pcapio_laws.specs.Capture.{number_in, field, short_field}

pub number_in-front : (order : ByteOrder) (n : ℕ) (xs ys : List ℕ) → n ≤ length xs → number_in order n (xs ++ ys) ≡ number_in order n xs
number_in-front Little n xs ys h = little_from-append n xs ys h
number_in-front Big n xs ys h = big_from-append n xs ys h

pub field-front : (order : ByteOrder) (offset : ℕ) (xs ys : List ℕ) → offset + 4 ≤ length xs → field order offset (xs ++ ys) ≡ field order offset xs
field-front order offset xs ys h =
    ap (number_in order 4) (drop-append-le offset xs ys (omega arith))
    ∙ number_in-front order 4 (drop offset xs) ys (omega (arith, length-drop offset xs))

pub short_field-front : (order : ByteOrder) (offset : ℕ) (xs ys : List ℕ) → offset + 2 ≤ length xs
    → short_field order offset (xs ++ ys) ≡ short_field order offset xs
short_field-front order offset xs ys h =
    ap (number_in order 2) (drop-append-le offset xs ys (omega arith))
    ∙ number_in-front order 2 (drop offset xs) ys (omega (arith, length-drop offset xs))
