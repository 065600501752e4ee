-- A share that is removed from a table.
use Rattle.std.proofs.Common.{◌≡◌, ◌≢◌, ◌+◌, ◌<◌, ◌==◌, ℕ, zero, suc, Bool, true, false, ◌||◌, inl, inr, List, [], ◌∷◌, length, get_or, sym}
use Rattle.std.proofs.Common.{refl, ap, ◌∙◌, subst, Option, None, IsSome, arith}
use Rattle.std.specs.Prelude.{remove, All}
use Rattle.std.specs.List.{count_by, list_any}
use Rattle.std.proofs.lemmas.Bool.{eq-eqb}
use Rattle.std.proofs.lemmas.Bool.Decides.{eqb_tells}
use Rattle.std.proofs.lemmas.List.Elements.{All-map}
use Rattle.std.proofs.lemmas.List.Sums.{sum_by-cons, sum_by-remove}
use Rattle.slab.specs.Slab.{Slab, get, Updates}
use Rattle.burst.specs.Numbers.{times}
use Rattle.mbuf.specs.Buffer.{Buffer}
use Rattle.mbuf.specs.Chain.{numbers_of, fresh_of}
use Rattle.mbuf.specs.Links.{rest_of}
use Rattle.mbuf.specs.Deck.{Share, mentions_of, unmentioned}
use Rattle.mbuf.specs.declared.entry.Entry.{Entry}
use Rattle.mbuf.specs.Entries.{packet_at, kept_by, live_of, IsKept, IsTable}
use Rattle.mbuf.proofs.Chains.{numbers_fresh}
use Rattle.mbuf.proofs.Entries.{All-remove, none_passes, filter_all, filter_none, sum_by_none, map_remove, same_kept, same_live, naming, one_if, mentioned}
use Rattle.mbuf.proofs.Entries.{named_somewhere}
use Rattle.mbuf.proofs.Adding.{names}

in_list : (buffers : List Buffer) (k : ℕ) (d : Buffer) → k < length buffers → 0 < times (get_or buffers k d).number (numbers_of buffers)
in_list [] k d below = absurd (omega arith)
in_list (b ∷ buffers) zero d below =
    omega (arith, sum_by-cons (λ n. one_if (n == b.number)) b.number (numbers_of buffers), ap one_if (eq-eqb b.number b.number refl))
in_list (b ∷ buffers) (suc k) d below =
    omega (arith, sum_by-cons (λ n. one_if (n == (get_or buffers k d).number)) b.number (numbers_of buffers), in_list buffers k d (omega arith))

counted_any : (p : Entry → Bool) (entries : List Entry) → list_any p entries ≡ true → 0 < count_by p entries
counted_any p [] some = absurd (cc)
counted_any p (entry ∷ entries) some = by_test (p entry) refl some (counted_any p entries)
  where
    by_test : (t : Bool) → p entry ≡ t → (t || list_any p entries) ≡ true → (list_any p entries ≡ true → 0 < count_by p entries)
        → 0 < count_by p (entry ∷ entries)
    by_test true e h rest = omega (arith, sum_by-cons (λ (s : Entry). one_if (p s)) entry entries, ap one_if e)
    by_test false e h rest = omega (arith, sum_by-cons (λ (s : Entry). one_if (p s)) entry entries, rest h)

module _ (packets : Slab (List Buffer)) (entries : List Entry) (place : ℕ) (entry : Entry) (there : place < length entries)
    (here : entry ≡ get_or entries place entry) (is : IsTable packets entries) where
  abbrev left : List Entry
  left = remove entries place

  abbrev key_of : ℕ
  key_of = entry.packet

  fewer : (key : ℕ) → naming key left + names key entry ≡ naming key entries
  fewer key = ap (λ (s : Entry). naming key left + names key s) here ∙ sum_by-remove (names key) entries place entry there

  pub remove_live : live_of packets left ≡ remove (live_of packets entries) place
  remove_live = map_remove (kept_by packets) entries place

  kept_left : All (IsKept packets) left
  kept_left = All-remove (IsKept packets) entries place there is.kept

  -- if another entry names the packet
  pub keeps_table : list_any (λ (s : Entry). s.packet == entry.packet) left ≡ true → IsTable packets left
  keeps_table some = record {
    kept = kept_left;
    named = λ key stored. elim (eqb_tells entry.packet key) [
      | inl same ↦ subst (λ k. 0 < naming k left) same.1 (counted_any (λ (s : Entry). s.packet == entry.packet) left some)
      | inr else ↦ omega (arith, is.named key stored, fewer key, ap one_if else.0)
    ];
    apart = is.apart;
  }

  pub keeps_all : list_any (λ (s : Entry). s.packet == entry.packet) left ≡ true
      → unmentioned (live_of packets left) (fresh_of (packet_at packets entry.packet)) ≡ []
  keeps_all some = filter_none (λ (b : Buffer). mentions_of b.number (live_of packets left) == 0) (fresh_of (packet_at packets entry.packet)) (λ k d below.
      let buffers = fresh_of (packet_at packets entry.packet) in
      let number = (get_or buffers k d).number in
      let at = named_somewhere left entry.packet (counted_any (λ (s : Entry). s.packet == entry.packet) left some) in
      let stands : 0 < times number (numbers_of (packet_at packets entry.packet)) =
      subst (λ (ns : List ℕ). 0 < times number ns) (numbers_fresh (packet_at packets entry.packet)) (in_list buffers k d below) in
      let more : 0 < mentions_of number (live_of packets left) =
      omega (arith, mentioned packets left at.0 number at.1 at.2, ap (λ j. times number (numbers_of (packet_at packets j))) at.3) in
      elim (eqb_tells (mentions_of number (live_of packets left)) 0) [ inl none ↦ absurd (omega (arith, none.1)) | inr else ↦ else.0 ])

  -- if none does, and the packet is taken out
  module _ (later : Slab (List Buffer)) (updates : Updates packets later entry.packet None)
      (none : list_any (λ (s : Entry). s.packet == entry.packet) left ≡ false) where
    left_differ : All (λ (s : Entry). s.packet ≢ entry.packet) left
    left_differ k d below same = let e = none_passes (λ (s : Entry). s.packet == entry.packet) left none k d below in let f = eq-eqb _ _ same in cc

    left_same : All (λ (s : Entry). get later s.packet ≡ get packets s.packet) left
    left_same k d below = updates.others _ (left_differ k d below)

    pub last_live : live_of later left ≡ remove (live_of packets entries) place
    last_live = same_live packets later left left_same ∙ remove_live

    pub last_table : IsTable later left
    last_table = record {
      kept = λ k d below. same_kept packets later (get_or left k d) (left_same k d below) (kept_left k d below);
      named = λ key stored. elim (eqb_tells key entry.packet) [
        | inl same ↦
            absurd (let gone : get later key ≡ None = ap (get later) same.1 ∙ updates.changed in let nothing : IsSome {T = List Buffer} None =
            subst IsSome gone stored in cc)
        | inr else ↦ omega (arith, is.named key (subst IsSome (updates.others key else.1) stored), fewer key, elsewhere key else.1)
      ];
      apart = λ key other number differ some. elim (eqb_tells key entry.packet) [
        | inl same ↦
            absurd (let gone : get later key ≡ None = ap (get later) same.1 ∙ updates.changed in let f =
            ap (λ (o : Option (List Buffer)). times number (numbers_of (rest_of o))) gone in omega arith)
        | inr else ↦ (
            let in_old : 0 < times number (numbers_of (packet_at packets key)) =
            subst (λ (o : Option (List Buffer)). 0 < times number (numbers_of (rest_of o))) (updates.others key else.1) some in
            elim (eqb_tells other entry.packet) [
              | inl too ↦ ap (λ (o : Option (List Buffer)). times number (numbers_of (rest_of o))) (ap (get later) too.1 ∙ updates.changed)
              | inr apart_too ↦
                  ap (λ (o : Option (List Buffer)). times number (numbers_of (rest_of o))) (updates.others other apart_too.1)
                  ∙ is.apart key other number differ in_old
            ]
            )
      ];
    }
      where
        elsewhere : (key : ℕ) → key ≢ entry.packet → names key entry ≡ 0
        elsewhere key differ = elim (eqb_tells entry.packet key) [ inl same ↦ absurd (differ (sym same.1)) | inr else ↦ ap one_if else.0 ]

    pub gives_all : unmentioned (live_of later left) (fresh_of (packet_at packets entry.packet)) ≡ fresh_of (packet_at packets entry.packet)
    gives_all = filter_all (λ (b : Buffer). mentions_of b.number (live_of later left) == 0) (fresh_of (packet_at packets entry.packet)) (λ k d below.
        let buffers = fresh_of (packet_at packets entry.packet) in
        let number = (get_or buffers k d).number in
        let stands : 0 < times number (numbers_of (packet_at packets entry.packet)) =
        subst (λ (ns : List ℕ). 0 < times number ns) (numbers_fresh (packet_at packets entry.packet)) (in_list buffers k d below) in
        let gone : mentions_of number (live_of packets left) ≡ 0 =
        sum_by_none (λ (share : Share). times number (numbers_of share.mentions)) (live_of packets left)
        (All-map (λ (share : Share). times number (numbers_of share.mentions) ≡ 0) (kept_by packets) left (λ i e in_left.
        ap (times number) (numbers_fresh (packet_at packets (get_or left i e).packet))
        ∙ is.apart entry.packet (get_or left i e).packet number (λ same. left_differ i e in_left (sym same)) stands)) in
        eq-eqb _ 0 (ap (mentions_of number) (same_live packets later left left_same) ∙ gone))
