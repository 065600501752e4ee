-- What holds for levels as they are laid out in memory.
use Rattle.std.proofs.Common.{◌≡◌, ℕ, ◌+◌, ◌*◌, ◌%◌, ◌<◌, ◌≤◌, inl, inr, true, false, cond, List, length, get_or, sym, ap, ◌∙◌, subst, arith}
use Rattle.std.proofs.lemmas.Bool.{cases_eq}
use Rattle.std.proofs.lemmas.Nat.{mul-add-lt}
use Rattle.std.proofs.lemmas.List.{get_or_read}
use Rattle.lpm.specs.TableEntry.{TableEntry, entry_of, is_group}
use Rattle.lpm.specs.TwoLevels.{TwoLevels, first_at, grouped_at, entry_at, entry_for}
use Rattle.lpm.specs.Prefixes.{size_of, first_bits}
use Rattle.lpm.specs.Allocated.{GroupsAreAllocated, made_of}

pub entry_at-grouped : (p : TwoLevels) (i low : ℕ) → is_group (first_at p i) ≡ true → entry_at p i low ≡ grouped_at p (first_at p i).number low
unfolding entry_at
entry_at-grouped p i low e = ap (λ b. cond b (grouped_at p (first_at p i).number low) (first_at p i)) e

pub entry_at-plain : (p : TwoLevels) (i low : ℕ) → is_group (first_at p i) ≡ false → entry_at p i low ≡ first_at p i
unfolding entry_at
entry_at-plain p i low e = ap (λ b. cond b (grouped_at p (first_at p i).number low) (first_at p i)) e

pub place_fits : {bits limit cap : ℕ} {first groups : List TableEntry} {free : List ℕ} → GroupsAreAllocated bits limit first groups free cap
    → (group low : ℕ) → group < made_of first free → low < size_of bits
    → group * size_of bits + low < length groups
place_fits {bits} {limit} {cap} {first} {groups} {free} allocated group low g l =
    omega (arith, allocated.made, mul-add-lt group (size_of bits) low (made_of first free) g l)

-- either form of the first level
pub at_least : {bits limit cap : ℕ} {first groups : List TableEntry} {free : List ℕ}
    → GroupsAreAllocated bits limit first groups free cap → 0 < bits
at_least {bits} allocated =
    elim (cases_eq bits 16) [ inl narrow ↦ omega arith | inr other ↦ let wide = allocated.form other in omega arith ]

pub at_most : {bits limit cap : ℕ} {first groups : List TableEntry} {free : List ℕ}
    → GroupsAreAllocated bits limit first groups free cap → bits ≤ 24
at_most {bits} allocated =
    elim (cases_eq bits 16) [ inl narrow ↦ omega arith | inr other ↦ let wide = allocated.form other in omega arith ]

-- an entry that was read
pub read_is : (xs : List TableEntry) (i : ℕ) (x : TableEntry) → i < length xs → x ≡ get_or xs i x → x ≡ get_or xs i (entry_of 0 0)
read_is xs i x h e = get_or_read xs i x h e (entry_of 0 0)

-- what a read of an entry that names no group, or of a place in its group, shows about the place
pub read_plain : (p : TwoLevels) (i low : ℕ) (entry : TableEntry) → entry ≡ first_at p i → is_group entry ≡ false → entry ≡ entry_at p i low
read_plain p i low entry is plain =
    is ∙ sym (entry_at-plain p i low (ap is_group (sym is) ∙ plain))

pub read_grouped : (p : TwoLevels) (i low k : ℕ) (entry x : TableEntry) → entry ≡ first_at p i → is_group entry ≡ true
    → k ≡ entry.number * size_of p.bits + low → k < length p.groups → x ≡ get_or p.groups k x → x ≡ entry_at p i low
read_grouped p i low k entry x is grouped at fits read =
    read_is p.groups k x fits read ∙ ap (λ n. get_or p.groups n (entry_of 0 0)) (at ∙ ap (λ (s : TableEntry). s.number * size_of p.bits + low) is)
    ∙ sym (entry_at-grouped p i low (ap is_group (sym is) ∙ grouped))

-- what the first place of an entry's group shows
pub first_place : (p q : TwoLevels) (i number : ℕ) (x : TableEntry) → p ≡ q → is_group (first_at q i) ≡ true
    → number ≡ (first_at p i).number → x ≡ grouped_at q number 0 → x ≡ entry_at q i 0
first_place p q i number x same grouped named read =
    read ∙ ap (λ n. grouped_at q n 0) (named ∙ ap (λ (s : TwoLevels). (first_at s i).number) same) ∙ sym (entry_at-grouped q i 0 grouped)

-- the place of an address, computed with the number of bits of the first level
pub addressed : (p : TwoLevels) (a bits i low : ℕ) → p.bits ≡ bits → i ≡ first_bits a bits → low ≡ a % size_of bits
    → entry_at p i low ≡ entry_for p a
addressed p a bits i low form at_first at_low =
    ap (λ n. entry_at p n low) (at_first ∙ ap (first_bits a) (sym form))
    ∙ ap (entry_at p (first_bits a p.bits)) (at_low ∙ ap (λ n. a % size_of n) (sym form))

pub number_made : {bits limit cap : ℕ} {first groups : List TableEntry} {free : List ℕ} → GroupsAreAllocated bits limit first groups free cap
    → (i : ℕ) (entry : TableEntry) → entry ≡ get_or first i (entry_of 0 0) → is_group entry ≡ true → entry.number < made_of first free
number_made {bits} {limit} {cap} {first} {groups} {free} allocated i entry is grouped =
    subst (λ (s : TableEntry). s.number < made_of first free) (sym is) (allocated.named i (ap is_group (sym is) ∙ grouped))
