-- A text that grew line by line.
use Rattle.std.proofs.Common.{◌≡◌, ℕ, List, ◌++◌, ap, ◌∙◌, append_assoc}

abbrev Text : Type 0
Text = List ℕ

two : (a b c : Text) (l m : Text) → b ≡ a ++ l → c ≡ b ++ m → c ≡ a ++ (l ++ m)
two a b c l m first second = second ∙ ap (λ t. t ++ m) first ∙ append_assoc a l m

pub six : (a b c d e f g : Text) (l m n o p q : Text) → b ≡ a ++ l → c ≡ b ++ m → d ≡ c ++ n → e ≡ d ++ o → f ≡ e ++ p → g ≡ f ++ q
    → g ≡ a ++ (l ++ m ++ n ++ o ++ p ++ q)
six a b c d e f g l m n o p q e1 e2 e3 e4 e5 e6 =
    two a f g (l ++ m ++ n ++ o ++ p) q
    (two a e f (l ++ m ++ n ++ o) p (two a d e (l ++ m ++ n) o (two a c d (l ++ m) n (two a b c l m e1 e2) e3) e4) e5) e6

pub seven : (a b c d e f g h : Text) (l m n o p q r : Text) → b ≡ a ++ l → c ≡ b ++ m → d ≡ c ++ n → e ≡ d ++ o → f ≡ e ++ p → g ≡ f ++ q
    → h ≡ g ++ r → h ≡ a ++ (l ++ m ++ n ++ o ++ p ++ q ++ r)
seven a b c d e f g h l m n o p q r e1 e2 e3 e4 e5 e6 e7 =
    two a g h (l ++ m ++ n ++ o ++ p ++ q) r (six a b c d e f g l m n o p q e1 e2 e3 e4 e5 e6) e7
