-- How the first bits that need a group change with the members.
use Rattle.std.proofs.Common.{◌≡◌, ℕ, ◌<◌, Bool, true, false, cond, ◌||◌, List, [], ◌∷◌, map, Option, Some, None, ltb, is_some, refl, sym, ap, ◌∙◌, inl, inr}
use Rattle.std.proofs.Common.{arith}
use Rattle.std.specs.List.{filter, list_any}
use Rattle.std.specs.Ordering.{nat_cmp, eq_by_cmp, is_eq}
use Rattle.std.specs.Cmp.{nat_cmp_total, Equal-is, tied_itself}
use Rattle.std.proofs.lemmas.Bool.{or_cases, or_right}
use borrow.Author.Tests.{lt-ltb, ltb-true}
use Rattle.std.specs.FinMap as fin_map
use Rattle.std.specs.FinSet as fin_set
use Rattle.std.specs.FinSet.{nat_cmp-IsAntisymmetric}
use Rattle.lpm.specs.declared.prefix.Prefix.{Prefix}
use Rattle.lpm.specs.Prefixes.{Members, prefix_cmp, first_bits}
use Rattle.lpm.specs.Groups.{deeper_firsts, firsts_of, has_deeper, HasDeeper}
use Rattle.lpm.proofs.Keys.{prefix_total, prefix_antisymmetric}

pub firsts_of-cons : (bits : ℕ) (k : Prefix) (ks : List Prefix) → firsts_of bits (k ∷ ks) ≡ cond (ltb bits k.depth)
    (first_bits k.address bits ∷ firsts_of bits ks) (firsts_of bits ks)
firsts_of-cons bits k ks =
    elim (ltb bits k.depth) as (λ b. map (λ (p : Prefix). first_bits p.address bits)
    (cond b (k ∷ filter (λ (p : Prefix). ltb bits p.depth) ks) (filter (λ (p : Prefix). ltb bits p.depth) ks)) ≡ cond b
    (first_bits k.address bits ∷ firsts_of bits ks) (firsts_of bits ks)) [ true ↦ refl | false ↦ refl ]

-- a test that passes somewhere passes in the list that may have one more
later_any : (t : ℕ → Bool) (b : Bool) (f : ℕ) (fs : List ℕ) → list_any t fs ≡ true → list_any t (cond b (f ∷ fs) fs) ≡ true
later_any t true f fs e = elim (t f) as (λ b. (b || list_any t fs) ≡ true) [ true ↦ refl | false ↦ e ]
later_any t false f fs e = e

here_any : (t : ℕ → Bool) (b : Bool) (f : ℕ) (fs : List ℕ) → b ≡ true → t f ≡ true → list_any t (cond b (f ∷ fs) fs) ≡ true
here_any t b f fs kept pass = ap (λ c. list_any t (cond c (f ∷ fs) fs)) kept ∙ ap (λ c. c || list_any t fs) pass

first_tied : (p k : Prefix) (bits : ℕ) → eq_by_cmp prefix_cmp p k ≡ true → p ≡ k
first_tied p k bits e = prefix_antisymmetric p k ((Equal-is (prefix_cmp p k)).0 e)

pub any_first : (bits : ℕ) (p : Prefix) → bits < p.depth → (ks : List Prefix) → list_any (eq_by_cmp prefix_cmp p) ks ≡ true
    → list_any (eq_by_cmp nat_cmp (first_bits p.address bits)) (firsts_of bits ks) ≡ true
any_first bits p h [] e = cc
any_first bits p h (k ∷ ks) e =
    let t : ℕ → Bool = eq_by_cmp nat_cmp (first_bits p.address bits) in
    ap (list_any t) (firsts_of-cons bits k ks) ∙ elim (or_cases _ _ e) [
      | inl here ↦
          let is : p ≡ k = first_tied p k bits here in
          here_any t _ _ _ (lt-ltb bits k.depth (omega (arith, ap (λ (q : Prefix). q.depth) is)))
          (ap (λ (q : Prefix). t (first_bits q.address bits)) (sym is)
          ∙ ap is_eq (tied_itself nat_cmp_total (first_bits p.address bits)))
      | inr later ↦ later_any t _ _ _ (any_first bits p h ks later)
    ]

-- a prefix of the list, deeper than the first level, with these first bits
abbrev pub SomeFirst : ℕ → ℕ → List Prefix → Type 0
SomeFirst bits f ks = (p : Prefix) × (list_any (eq_by_cmp prefix_cmp p) ks ≡ true) × (bits < p.depth) × (first_bits p.address bits ≡ f)

first_later : (bits f : ℕ) (k : Prefix) (ks : List Prefix) → SomeFirst bits f ks → SomeFirst bits f (k ∷ ks)
first_later bits f k ks h = (h.0, or_right (eq_by_cmp prefix_cmp h.0 k) _ h.1, h.2, h.3)

first_here : (bits f : ℕ) (k : Prefix) (ks : List Prefix) → ltb bits k.depth ≡ true
    → eq_by_cmp nat_cmp f (first_bits k.address bits) ≡ true → SomeFirst bits f (k ∷ ks)
first_here bits f k ks deep same = (
  k,
  ap (λ b. b || list_any (eq_by_cmp prefix_cmp k) ks) (ap is_eq (tied_itself prefix_total k)),
  ltb-true bits k.depth deep,
  sym (nat_cmp-IsAntisymmetric f (first_bits k.address bits) ((Equal-is (nat_cmp f (first_bits k.address bits))).0 same)),
)

first_from : (bits f : ℕ) (k : Prefix) (ks : List Prefix) (b : Bool) → ltb bits k.depth ≡ b
    → (list_any (eq_by_cmp nat_cmp f) (firsts_of bits ks) ≡ true → SomeFirst bits f ks)
    → list_any (eq_by_cmp nat_cmp f) (cond b (first_bits k.address bits ∷ firsts_of bits ks) (firsts_of bits ks)) ≡ true
    → SomeFirst bits f (k ∷ ks)
first_from bits f k ks true deep later e =
    elim (or_cases _ _ e) [ inl here ↦ first_here bits f k ks deep here | inr rest ↦ first_later bits f k ks (later rest) ]
first_from bits f k ks false deep later e = first_later bits f k ks (later e)

pub first_any : (bits f : ℕ) (ks : List Prefix) → list_any (eq_by_cmp nat_cmp f) (firsts_of bits ks) ≡ true → SomeFirst bits f ks
first_any bits f [] e = cc
first_any bits f (k ∷ ks) e =
    first_from bits f k ks _ refl (first_any bits f ks) (ap (list_any (eq_by_cmp nat_cmp f)) (sym (firsts_of-cons bits k ks)) ∙ e)

-- `has_deeper` is whether there is such a member
pub deeper_has : (bits : ℕ) (m : Members) (f : ℕ) → HasDeeper bits m f → has_deeper bits m f ≡ true
unfolding deeper_firsts
deeper_has bits m f d =
    fin_set.contains-from_list nat_cmp_total _ f
    ∙ ap (λ g. list_any (eq_by_cmp nat_cmp g) (firsts_of bits (fin_map.keys m))) (sym d.among)
    ∙ any_first bits d.prefix d.deeper (fin_map.keys m) (sym (fin_map.contains_key-keys m d.prefix) ∙ ap is_some d.member)

pub some_hop : (w : Option ℕ) → is_some w ≡ true → (h : ℕ) × (w ≡ Some h)
some_hop None e = cc
some_hop (Some h) e = (h, refl)

pub has_deeper_is : (bits : ℕ) (m : Members) (f : ℕ) → has_deeper bits m f ≡ true → HasDeeper bits m f
unfolding deeper_firsts
has_deeper_is bits m f e =
    let h : SomeFirst bits f (fin_map.keys m) = first_any bits f (fin_map.keys m)
    (sym (fin_set.contains-from_list nat_cmp_total _ f) ∙ e) in
    let hop = some_hop (fin_map.get m h.0) (fin_map.contains_key-keys m h.0 ∙ h.1) in
    record { prefix = h.0; hop = hop.0; member = hop.1; deeper = h.2; among = h.3 }
