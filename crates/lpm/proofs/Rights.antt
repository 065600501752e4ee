-- A right table stays right through each step of an add or a remove.
use Rattle.std.proofs.Common.{◌≡◌, ◌≢◌, ℕ, ◌+◌, ◌-◌, ◌*◌, ◌^◌, ◌<◌, ◌≤◌, Bool, true, false, cond, Option, Some, None, IsSome, List, get_or, refl, sym, ap, ◌∙◌}
use Rattle.std.proofs.Common.{subst, inl, inr, ◌↔◌, arith}
use Rattle.std.proofs.lemmas.Bool.{cases_eq, cases_Bool}
use Rattle.std.specs.FinMap as fin_map
use Rattle.std.specs.FinSet as fin_set
use Rattle.std.specs.FinMap.{get-insert, get-remove}
use Rattle.std.specs.List.{count_by}
use Rattle.std.specs.Cmp.{nat_cmp_total, Equal-is}
use Rattle.lpm.specs.declared.prefix.Prefix.{Prefix}
use Rattle.lpm.specs.TableEntry.{TableEntry, entry_of, is_group, overwritten}
use Rattle.lpm.specs.Prefixes.{Members, AreMembers, IsDepth, IsMember, prefix_of, prefix_cmp, masked, first_bits, size_of}
use Rattle.lpm.specs.Match.{longest, entry_or}
use Rattle.lpm.specs.Groups.{deeper_firsts, has_deeper, groups_of}
use Rattle.lpm.specs.TwoLevels.{TwoLevels, EachPlace, address_at, first_at, entry_at, used_of, Grows, Regroups, Overwrites, KeepsGroups}
use Rattle.lpm.specs.Right.{IsRight}
use Rattle.std.specs.Ordering.{eq_by_cmp}
use Rattle.lpm.proofs.Keys.{prefix_total, prefix_antisymmetric}
use Rattle.lpm.proofs.Masks.{masked-masked, masked_le, size_pos}
use Rattle.lpm.proofs.Longest.{ChangesAt, longest-shared, longest-covered, longest-outside, changed_here}
use Rattle.lpm.proofs.Firsts.{deeper_has, some_hop}
use Rattle.lpm.proofs.Cover.{first_bits-place}
use Rattle.lpm.proofs.Shallow.{longest-shallow, longest_plain, next_shorter}
use Rattle.lpm.proofs.GroupChanges.{firsts_of_shallow, has_deeper_other, firsts_with, firsts_without}

pub inserts : (m : Members) (k : Prefix) (hop : ℕ) → ChangesAt m (fin_map.insert m k hop) k (Some hop)
inserts m k hop q = get-insert prefix_total m k hop q

pub removes : (m : Members) (k : Prefix) → ChangesAt m (fin_map.remove m k) k None
removes m k q = get-remove prefix_total m k q

-- a table is right for members that agree with its places and groups, whatever it was right for before
pub right_for : (p q : TwoLevels) (m m' : Members) → IsRight p m → q.bits ≡ p.bits → q.limit ≡ p.limit → AreMembers m'
    → EachPlace p (λ i low. entry_at q i low ≡ longest m' (address_at p i low) 32)
    → ((i : ℕ) → i < 2 ^ p.bits → is_group (first_at q i) ≡ has_deeper p.bits m' i)
    → used_of q ≡ groups_of p.bits m' → used_of q ≤ p.limit → IsRight q m'
right_for p q m m' r bits limit are entries grouped used within = record {
  some = subst (λ n. 0 < n) (sym bits) r.some;
  most = subst (λ n. n ≤ 24) (sym bits) r.most;
  members = are;
  right = λ i low fits_i fits.
      entries i low (subst (λ n. i < 2 ^ n) bits fits_i) (subst (λ n. low < size_of n) bits fits)
      ∙ ap (λ n. longest m' (i * size_of n + low) 32) (sym bits);
  grouped = λ i fits. grouped i (subst (λ n. i < 2 ^ n) bits fits) ∙ ap (λ n. has_deeper n m' i) (sym bits);
  used = used ∙ ap (λ n. groups_of n m') (sym bits);
  within = subst (λ n. used_of q ≤ n) (sym limit) within;
}

-- places overwritten for one prefix have the new longest match, if the overwrite is what holds there now
pub overwritten_right : (p q r : TwoLevels) (m m' : Members) (x d : ℕ) (w : Option ℕ) (c : TableEntry) → IsRight p m → q.bits ≡ p.bits
    → EachPlace p (λ i low. entry_at q i low ≡ entry_at p i low)
    → IsDepth d → ChangesAt m m' (prefix_of x d) w → ((a : ℕ) → masked a d ≡ masked x d → c ≡ entry_or w d (longest m a (d - 1)))
    → Overwrites q r (prefix_of x d) c
    → EachPlace p (λ i low. entry_at r i low ≡ longest m' (address_at p i low) 32)
overwritten_right p q r m m' x d w c right bits same is_depth change is overwrites i low fits_i fits =
    let a : ℕ = address_at p i low in
    let in_level : i < 2 ^ q.bits = subst (λ n. i < 2 ^ n) (sym bits) fits_i in
    let place : low < size_of q.bits = subst (λ n. low < size_of n) (sym bits) fits in
    let address : i * size_of q.bits + low ≡ a = ap (λ n. i * size_of n + low) bits in
    let was : entry_at q i low ≡ longest m a 32 = same i low fits_i fits ∙ right.right i low fits_i fits in
    elim (cases_eq (masked a d) (masked x d)) [
      | inl held ↦
          overwrites.covered i low in_level place (ap (λ n. masked n d) address ∙ held)
          ∙ ap (overwritten d c) was ∙ ap (λ e. overwritten d e (longest m a 32)) (is a held)
          ∙ sym (longest-covered m m' x d w change a 32 held is_depth.0 is_depth.1)
      | inr other ↦
          overwrites.others i low in_level place (λ e. other (sym (ap (λ n. masked n d) address) ∙ e)) ∙ was
          ∙ sym (longest-outside m m' x d w change a 32 other)
    ]

changed_case : (q k : Prefix) (b : Bool) → eq_by_cmp prefix_cmp q k ≡ b → (h : ℕ) (w v : Option ℕ) → cond b w v ≡ Some h
    → ((h : ℕ) → w ≡ Some h → IsMember k h) → (v ≡ Some h → IsMember q h) → IsMember q h
changed_case q k true same h w v e here there = subst (λ n. IsMember n h)
    (sym (prefix_antisymmetric q k ((Equal-is (prefix_cmp q k)).0 same))) (here h e)
changed_case q k false apart h w v e here there = there e

-- what a table keeps of its members still holds after one member changed
pub members_changed : (m m' : Members) (k : Prefix) (w : Option ℕ) → ChangesAt m m' k w → ((h : ℕ) → w ≡ Some h → IsMember k h)
    → AreMembers m → AreMembers m'
members_changed m m' k w change here are q h e =
    changed_case q k (eq_by_cmp prefix_cmp q k) refl h w (fin_map.get m q) (sym (change q) ∙ e) here (are q h)

pub prefix_is_member : (x d hop : ℕ) → IsDepth d → x < 2 ^ 32 → hop < 2 ^ 24 → IsMember (prefix_of x d) hop
prefix_is_member x d hop is_depth short small = record {
  within = is_depth;
  cleared = masked-masked x d;
  short = omega (arith, masked_le x d);
  small = small;
}

-- a member no deeper than the first level is added or removed
pub right_shallow : (p q : TwoLevels) (m m' : Members) (x d : ℕ) (w : Option ℕ) (c : TableEntry) → IsRight p m → IsDepth d → d ≤ p.bits
    → ChangesAt m m' (prefix_of x d) w → AreMembers m'
    → ((a : ℕ) → masked a d ≡ masked x d → c ≡ entry_or w d (longest m a (d - 1))) → KeepsGroups p q → Overwrites p q (prefix_of x d) c
    → IsRight q m'
right_shallow p q m m' x d w c right is_depth shallow change are is keeps overwrites =
    let firsts = firsts_of_shallow p.bits m m' (prefix_of x d) w change shallow in
    right_for p q m m' right keeps.bits keeps.limit are
    (overwritten_right p p q m m' x d w c right refl (λ i low fits_i fits. refl) is_depth change is overwrites)
    (λ i fits. keeps.kinds i ∙ right.grouped i fits ∙ ap (λ s. fin_set.contains s i) (sym firsts))
    (keeps.used ∙ right.used ∙ ap fin_set.len (sym firsts))
    (omega (arith, keeps.used, right.within))

-- how many groups the members need with one deep member more
pub groups_with : (p : TwoLevels) (m m' : Members) (x d hop : ℕ) → ChangesAt m m' (prefix_of x d) (Some hop) → p.bits < d
    → groups_of p.bits m' ≡ cond (has_deeper p.bits m (first_bits (masked x d) p.bits)) (groups_of p.bits m) (groups_of p.bits m + 1)
groups_with p m m' x d hop change deep =
    let f : ℕ = first_bits (masked x d) p.bits in
    let here : has_deeper p.bits m' f ≡ true =
    deeper_has p.bits m' f (record {
      prefix = prefix_of x d;
      hop = hop;
      member = changed_here m m' (prefix_of x d)
          (Some hop) change;
      deeper = deep;
      among = refl;
    }) in
    ap fin_set.len (firsts_with p.bits m m' (prefix_of x d) (Some hop) change here)
    ∙ fin_set.len-insert nat_cmp_total (deeper_firsts p.bits m) f

-- a deep member is added: its entry has a group afterwards
pub right_deep : (p q r : TwoLevels) (m m' : Members) (x d hop : ℕ) → IsRight p m → IsDepth d → p.bits < d
    → ChangesAt m m' (prefix_of x d) (Some hop) → AreMembers m'
    → q.bits ≡ p.bits → q.limit ≡ p.limit → EachPlace p (λ i low. entry_at q i low ≡ entry_at p i low)
    → is_group (first_at q (first_bits (masked x d) p.bits)) ≡ true →
    ((i : ℕ) → i ≢ first_bits (masked x d) p.bits → is_group (first_at q i) ≡ is_group (first_at p i))
    → used_of q ≡ groups_of p.bits m' → used_of q ≤ p.limit → KeepsGroups q r → Overwrites q r (prefix_of x d) (entry_of d hop) → IsRight r m'
right_deep p q r m m' x d hop right is_depth deep change are bits limit same here others used within keeps overwrites =
    let f : ℕ = first_bits (masked x d) p.bits in
    let has : has_deeper p.bits m' f ≡ true =
    deeper_has p.bits m' f (record {
      prefix = prefix_of x d;
      hop = hop;
      member = changed_here m m' (prefix_of x d)
          (Some hop) change;
      deeper = deep;
      among = refl;
    }) in
    right_for p r m m' right (keeps.bits ∙ bits) (keeps.limit ∙ limit) are
    (overwritten_right p q r m m' x d (Some hop) (entry_of d hop) right bits same is_depth change (λ a e. refl) overwrites)
    (λ i fits. keeps.kinds i ∙ elim (cases_eq i f) [
      | inl at ↦ subst (λ n. is_group (first_at q n) ≡ has_deeper p.bits m' n) (sym at) (here ∙ sym has)
      | inr other ↦ others i other ∙ right.grouped i fits ∙ sym (has_deeper_other p.bits m m' (prefix_of x d) (Some hop) change i other)
    ])
    (keeps.used ∙ used)
    (omega (arith, keeps.used))

-- a member no deeper than the first level needs no further group
pub shallow_fits : (p : TwoLevels) (m m' : Members) (x d : ℕ) (w : Option ℕ) → IsRight p m → d ≤ p.bits → ChangesAt m m' (prefix_of x d) w
    → groups_of p.bits m' ≤ p.limit
shallow_fits p m m' x d w right shallow change =
    let same = ap fin_set.len (firsts_of_shallow p.bits m m' (prefix_of x d) w change shallow) in
    omega (arith, right.used, right.within)

-- a deeper member needs too many groups exactly if its entry has none and no more are available
pub deep_needs : (p : TwoLevels) (m m' : Members) (x d hop f : ℕ) → IsRight p m → ChangesAt m m' (prefix_of x d) (Some hop) → p.bits < d
    → f ≡ first_bits (masked x d) p.bits → f < 2 ^ p.bits
    → ((is_group (first_at p f) ≡ false) × (used_of p ≡ p.limit)) ↔ (p.limit < groups_of p.bits m')
deep_needs p m m' x d hop f right change deep at fits =
    let count = groups_with p m m' x d hop change deep ∙ ap
    (λ n. cond (has_deeper p.bits m n) (groups_of p.bits m) (groups_of p.bits m + 1)) (sym at)
    ∙ ap (λ b. cond b (groups_of p.bits m) (groups_of p.bits m + 1)) (sym (right.grouped f fits)) in (
      λ h. let more = count ∙ ap (λ b. cond b (groups_of p.bits m) (groups_of p.bits m + 1)) h.0 in omega (arith, right.used, h.1),
      λ h. elim (cases_Bool (is_group (first_at p f))) [
        | inl grouped ↦ let same = count ∙ ap (λ b. cond b (groups_of p.bits m) (groups_of p.bits m + 1)) grouped in absurd
            (omega (arith, right.used, right.within))
        | inr plain ↦ let more = count ∙ ap (λ b. cond b (groups_of p.bits m) (groups_of p.bits m + 1)) plain in
            (plain, omega (arith, right.used, right.within))
      ],
    )

pub members_with : (m : Members) (x d hop : ℕ) → AreMembers m → IsDepth d → x < 2 ^ 32 → hop < 2 ^ 24
    → AreMembers (fin_map.insert m (prefix_of x d) hop)
members_with m x d hop are is_depth short small =
    members_changed m (fin_map.insert m (prefix_of x d) hop) (prefix_of x d) (Some hop) (inserts m (prefix_of x d) hop)
    (λ h e. let same : hop ≡ h = cc in subst (λ n. IsMember (prefix_of x d) n) same (prefix_is_member x d hop is_depth short small)) are

pub members_without : (m : Members) (k : Prefix) → AreMembers m → AreMembers (fin_map.remove m k)
members_without m k are = members_changed m (fin_map.remove m k) k None (removes m k) (λ h e. cc) are

abbrev old_or_new : Bool → ℕ
old_or_new b = cond b 0 1

-- a deep member is added by its steps: room for a group, the entry's group, and the overwrite
pub deep_added : (p q r s : TwoLevels) (m m' : Members) (x d hop f : ℕ) → IsRight p m → IsDepth d → p.bits < d
    → ChangesAt m m' (prefix_of x d) (Some hop) → AreMembers m'
    → f ≡ first_bits (masked x d) p.bits → f < 2 ^ p.bits → Grows p q → Regroups q r f true
    → used_of r ≡ used_of q + cond (is_group (first_at q f)) 0 1
    → (is_group (first_at p f) ≡ false → used_of p < p.limit) → KeepsGroups r s → Overwrites r s (prefix_of x d) (entry_of d hop) → IsRight s m'
deep_added p q r s m m' x d hop f right is_depth deep change are at fits grows opens used room keeps overwrites =
    let g : ℕ = groups_of p.bits m in
    let kind : (i : ℕ) → is_group (first_at q i) ≡ is_group (first_at p i) = λ i. ap
    (λ (es : List TableEntry). is_group (get_or es i (entry_of 0 0))) grows.first in
    let same_used : used_of q ≡ used_of p = ap (λ (es : List TableEntry). count_by is_group es) grows.first in
    let needs : groups_of p.bits m' ≡ cond (is_group (first_at p f)) g (g + 1) =
    groups_with p m m' x d hop change deep ∙ ap (λ n. cond (has_deeper p.bits m n) g (g + 1)) (sym at)
    ∙ ap (λ b. cond b g (g + 1)) (sym (right.grouped f fits)) in
    let counts : used_of r ≡ used_of p + cond (is_group (first_at p f)) 0 1 = used ∙ (λ i. same_used i + cond (kind f i) 0 1) in
    right_deep p r s m m' x d hop right is_depth deep change are (opens.bits ∙ grows.bits) (opens.limit ∙ grows.limit)
    (λ i low fits_i fits_low. opens.entries i low (subst (λ n. i < 2 ^ n) (sym grows.bits) fits_i)
    (subst (λ n. low < size_of n) (sym grows.bits) fits_low) ∙ grows.entries i low fits_i fits_low)
    (subst (λ n. is_group (first_at r n) ≡ true) at opens.here)
    (λ i other. opens.others i (λ e. other (e ∙ at)) ∙ kind i)
    (elim (cases_Bool (is_group (first_at p f))) [
      | inl grouped ↦
          let a = ap (λ b. cond b g (g + 1)) grouped in let b = ap old_or_new grouped in omega (arith, right.used)
      | inr plain ↦
          let a = ap (λ b. cond b g (g + 1)) plain in let b = ap old_or_new plain in omega (arith, right.used)
    ])
    (elim (cases_Bool (is_group (first_at p f))) [
      | inl grouped ↦ let b = ap old_or_new grouped in omega (arith, right.within)
      | inr plain ↦ let b = ap old_or_new plain in omega (arith, room plain)
    ])
    keeps overwrites

-- a member is removed: its places have what is left
pub removed_places : (p q : TwoLevels) (m m' : Members) (x d : ℕ) (c : TableEntry) → IsRight p m → IsDepth d → ChangesAt m m' (prefix_of x d) None
    → c ≡ longest m' x (d - 1)
    → Overwrites p q (prefix_of x d) c → EachPlace p (λ i low. entry_at q i low ≡ longest m' (address_at p i low) 32)
removed_places p q m m' x d c right is_depth change is overwrites =
    overwritten_right p p q m m' x d None c right refl (λ i low fits_i fits. refl) is_depth change
    (λ a e. is ∙ next_shorter m m' x d None change is_depth.0 is_depth.1 a e) overwrites

-- the entry of a prefix is the one that its first bits name
pub first_is : (x d : ℕ) {bits f n : ℕ} {k : Prefix} → k ≡ prefix_of x d → bits ≡ n → f ≡ first_bits k.address bits → f ≡ first_bits (masked x d) n
first_is x d is same at = at ∙ (λ i. first_bits (is i).address (same i))

-- whether another member needs an entry's group, as code finds it
pub still_needed : (m : Members) (x : ℕ) {bits f n : ℕ} {b : Bool} → bits ≡ n → f ≡ first_bits x bits → b ≡ has_deeper bits m (first_bits x bits)
    → b ≡ has_deeper n m f
still_needed m x same at is = is ∙ (λ i. has_deeper (same i) m (sym at i))

-- a deep member exists, and this is its entry
pub record HasDeep (p : TwoLevels) (m : Members) (x d f : ℕ) : Type 0 where
  pub right : IsRight p m
  pub is_depth : IsDepth d
  pub deep : p.bits < d
  pub there : IsSome (fin_map.get m (prefix_of x d))
  pub at : f ≡ first_bits (masked x d) p.bits
  pub fits : f < 2 ^ p.bits

pub has_deep : {p : TwoLevels} {m : Members} {x d bits f : ℕ} {k : Prefix} → IsRight p m → IsDepth d → p.bits < d → k ≡ prefix_of x d
    → IsSome (fin_map.get m k) → bits ≡ p.bits → f ≡ first_bits k.address bits → f < 2 ^ bits → HasDeep p m x d f
has_deep {p} {m} {x} {d} {bits} {f} {k} right is_depth deep is there same at fits = record {
  right = right;
  is_depth = is_depth;
  deep = deep;
  there = subst (λ k. IsSome (fin_map.get m k)) is there;
  at = first_is x d is same at;
  fits = subst (λ n. f < 2 ^ n) same fits;
}

module _ {p : TwoLevels} {m : Members} {x d f : ℕ} (had : HasDeep p m x d f) where
  needed : has_deeper p.bits m f ≡ true
  needed =
      let hop = some_hop (fin_map.get m (prefix_of x d)) had.there in
      deeper_has p.bits m f (record { prefix = prefix_of x d; hop = hop.0; member = hop.1; deeper = had.deep; among = sym had.at })

  pub had_group : is_group (first_at p f) ≡ true
  had_group = had.right.grouped f had.fits ∙ needed

-- the member is removed, and its places have what is left
pub record LosesDeep (p q : TwoLevels) (m m' : Members) (x d f : ℕ) : Type 0 where
  pub had : HasDeep p m x d f
  pub change : ChangesAt m m' (prefix_of x d) None
  pub are : AreMembers m'
  pub keeps : KeepsGroups p q
  pub entries : EachPlace p (λ i low. entry_at q i low ≡ longest m' (address_at p i low) 32)

pub loses_deep : {p q : TwoLevels} {m m' : Members} {x d f : ℕ} {k : Prefix} {c : TableEntry} → HasDeep p m x d f → k ≡ prefix_of x d
    → m' ≡ fin_map.remove m k → c ≡ longest m' x (d - 1) → KeepsGroups p q → Overwrites p q k c → LosesDeep p q m m' x d f
loses_deep {p} {q} {m} {m'} {x} {d} {f} {k} {c} had is after next keeps overwrites =
    let change : ChangesAt m m' (prefix_of x d) None =
    subst (λ n. ChangesAt m n (prefix_of x d) None) (sym (after ∙ ap (fin_map.remove m) is)) (removes m (prefix_of x d)) in
    record {
      had = had;
      change = change;
      are = subst AreMembers (sym after) (members_without m k had.right.members);
      keeps = keeps;
      entries = removed_places p q m m' x d c had.right had.is_depth change next (subst (λ k. Overwrites p q k c) is overwrites);
    }

module _ {p q : TwoLevels} {m m' : Members} {x d f : ℕ} (loses : LosesDeep p q m m' x d f) where
  -- if another member needs the group, the table is right
  pub right_kept : has_deeper p.bits m' f ≡ true → IsRight q m'
  right_kept still =
      let right = loses.had.right in
      let at = loses.had.at in
      let keeps = loses.keeps in
      let here = subst (λ n. has_deeper p.bits m' n ≡ true) at still in
      let count = ap fin_set.len (firsts_with p.bits m m' (prefix_of x d) None loses.change here)
      ∙ fin_set.len-insert nat_cmp_total (deeper_firsts p.bits m) (first_bits (masked x d) p.bits)
      ∙ ap (λ n. cond (has_deeper p.bits m n) (groups_of p.bits m) (groups_of p.bits m + 1)) (sym at)
      ∙ ap (λ b. cond b (groups_of p.bits m) (groups_of p.bits m + 1)) (needed loses.had) in
      right_for p q m m' right keeps.bits keeps.limit loses.are loses.entries
      (λ i fits_i. keeps.kinds i ∙ right.grouped i fits_i ∙ elim (cases_eq i f) [
        | inl same ↦ subst (λ n. has_deeper p.bits m n ≡ has_deeper p.bits m' n) (sym same) (needed loses.had ∙ sym still)
        | inr other ↦ sym (has_deeper_other p.bits m m' (prefix_of x d) None loses.change i (λ e. other (e ∙ sym at)))
      ])
      (keeps.used ∙ right.used ∙ sym count) (omega (arith, keeps.used, right.within))

  module _ (none : has_deeper p.bits m' f ≡ false) where
    same_match : (low : ℕ) → low < size_of p.bits → entry_at q f low ≡ longest m' (address_at p f 0) p.bits
    same_match low place =
        let first : first_bits (address_at p f low) p.bits ≡ f = first_bits-place p.bits f low place in
        let first_0 : first_bits (address_at p f 0) p.bits ≡ f = first_bits-place p.bits f 0 (size_pos p.bits) in
        let within = loses.had.right.most in
        loses.entries f low loses.had.fits place
        ∙ longest-shallow m' (address_at p f low) p.bits 32 (ap (has_deeper p.bits m') first ∙ none) (omega arith) (omega arith)
        ∙ longest-shared m' (address_at p f low) (address_at p f 0) p.bits (first ∙ sym first_0) (omega arith)

    -- otherwise its places have the same content, so that the entry can have it
    pub closes_alike : (low : ℕ) → low < size_of q.bits → entry_at q f low ≡ entry_at q f 0
    closes_alike low place = same_match low (subst (λ n. low < size_of n) loses.keeps.bits place) ∙ sym (same_match 0 (size_pos p.bits))

    pub closes_plain : is_group (entry_at q f 0) ≡ false
    closes_plain = let within = loses.had.right.most in ap is_group (same_match 0 (size_pos p.bits))
        ∙ longest_plain m' (address_at p f 0) p.bits (omega arith)

    pub right_closed : (r : TwoLevels) → Regroups q r f false → used_of r + 1 ≡ used_of q → IsRight r m'
    right_closed r closes used =
        let right = loses.had.right in
        let at = loses.had.at in
        let keeps = loses.keeps in
        let here = subst (λ n. has_deeper p.bits m' n ≡ false) at none in
        let count = ap fin_set.len (firsts_without p.bits m m' (prefix_of x d) None loses.change here)
        ∙ fin_set.len-remove nat_cmp_total (deeper_firsts p.bits m) (first_bits (masked x d) p.bits)
        ∙ ap (λ n. cond (has_deeper p.bits m n) (groups_of p.bits m - 1) (groups_of p.bits m)) (sym at)
        ∙ ap (λ b. cond b (groups_of p.bits m - 1) (groups_of p.bits m)) (needed loses.had) in
        right_for p r m m' right (closes.bits ∙ keeps.bits) (closes.limit ∙ keeps.limit) loses.are
        (λ i low fits_i fits_low. closes.entries i low (subst (λ n. i < 2 ^ n) (sym keeps.bits) fits_i)
        (subst (λ n. low < size_of n) (sym keeps.bits) fits_low) ∙ loses.entries i low fits_i fits_low)
        (λ i fits_i. elim (cases_eq i f) [
          | inl same ↦ subst (λ n. is_group (first_at r n) ≡ has_deeper p.bits m' n) (sym same) (closes.here ∙ sym none)
          | inr other ↦ closes.others i other ∙ keeps.kinds i ∙ right.grouped i fits_i
              ∙ sym (has_deeper_other p.bits m m' (prefix_of x d) None loses.change i (λ e. other (e ∙ sym at)))
        ])
        (omega (arith, keeps.used, right.used)) (omega (arith, keeps.used, right.within))
