-- The words of all sides, when one word changes
use Rattle.std.proofs.Common.{◌≡◌, ℕ, ◌*◌, ◌<◌, ◌≢◌, List, length, set, refl, arith}
use Rattle.std.specs.Prelude.{slice_index}
use Rattle.std.proofs.lemmas.List.{get_or-set_other, get_or-set_same}
use Rattle.geom.specs.declared.plan.Side.{Side}
use Rattle.geom.specs.declared.plan.Side.TheVariants.{Put, Take}
use Rattle.fabric_laws.specs.Words.{own_at, tail_at}

-- two sides with the same name, or with different ones
abbrev pub Same : ℕ → Side → ℕ → Side → Type 0
Same r a q b = (r ≡ q) × (a ≡ b)

pub own_same : (r : ℕ) (a : Side) (q : ℕ) (b : Side) → own_at r a ≡ own_at q b → Same r a q b
own_same r Put q Put e = (omega arith, refl)
own_same r Put q Take e = absurd (omega arith)
own_same r Take q Put e = absurd (omega arith)
own_same r Take q Take e = (omega arith, refl)

pub tail_same : (r : ℕ) (a : Side) (q : ℕ) (b : Side) → tail_at r a ≡ tail_at q b → Same r a q b
tail_same r Put q Put e = (omega arith, refl)
tail_same r Put q Take e = absurd (omega arith)
tail_same r Take q Put e = absurd (omega arith)
tail_same r Take q Take e = (omega arith, refl)

pub own_no_tail : (r : ℕ) (a : Side) (q : ℕ) (b : Side) → own_at r a ≢ tail_at q b
own_no_tail r Put q Put e = omega arith
own_no_tail r Put q Take e = omega arith
own_no_tail r Take q Put e = omega arith
own_no_tail r Take q Take e = omega arith

pub own_inside : (r n : ℕ) (a : Side) → r < n → own_at r a < 64 * n
own_inside r n Put h = omega arith
own_inside r n Take h = omega arith

pub tail_inside : (r n : ℕ) (a : Side) → r < n → tail_at r a < 64 * n
tail_inside r n Put h = omega arith
tail_inside r n Take h = omega arith

pub word_set : (ws : List ℕ) (i n : ℕ) → i < length ws → slice_index (set ws i n) i ≡ n
word_set ws i n lt = get_or-set_same ws i n 0 lt

pub word_else : (ws : List ℕ) (i j n : ℕ) → j ≢ i → slice_index (set ws i n) j ≡ slice_index ws j
word_else ws i j n apart = get_or-set_other ws i j n 0 apart
