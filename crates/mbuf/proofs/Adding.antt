-- A share that is added to a table.
use Rattle.std.proofs.Common.{◌≡◌, ◌≢◌, ◌<◌, ◌^◌, ◌==◌, ℕ, zero, suc, inl, inr, List, [], ◌∷◌, ◌++◌, length, take, get_or, sym}
use Rattle.std.proofs.Common.{refl, ap, ◌∙◌, subst, Option, Some, None, IsSome, arith}
use Rattle.std.specs.Prelude.{All}
use Rattle.std.proofs.lemmas.Bool.Decides.{eqb_tells}
use Rattle.std.proofs.lemmas.List.{take_all, map-append}
use Rattle.std.proofs.lemmas.List.Elements.{All-append, All-cons}
use Rattle.std.proofs.lemmas.List.Sums.{sum_by-append, sum_by-cons}
use Rattle.slab.specs.Slab.{Slab, get, Updates}
use Rattle.burst.specs.Numbers.{times}
use Rattle.mbuf.specs.Buffer.{Buffer}
use Rattle.mbuf.specs.Chain.{numbers_of, bytes_of, fresh_of}
use Rattle.mbuf.specs.Links.{rest_of}
use Rattle.mbuf.specs.Deck.{Share, mentions_of, shared}
use Rattle.mbuf.specs.declared.entry.Entry.{Entry}
use Rattle.mbuf.specs.Entries.{packet_at, kept_by, live_of, IsKept, IsTable, IsStored}
use Rattle.mbuf.proofs.Entries.{same_kept, same_live, one_if, mentioned}
use Rattle.mbuf.proofs.Entries.{named_somewhere}

abbrev pub names : ℕ → Entry → ℕ
names key entry = one_if (entry.packet == key)

numbers_at : Slab (List Buffer) → ℕ → List ℕ
numbers_at packets key = numbers_of (packet_at packets key)

-- a number that no share mentions is in no stored packet
unmentioned_apart : (packets : Slab (List Buffer)) (entries : List Entry) → IsTable packets entries → (number key : ℕ)
    → mentions_of number (live_of packets entries) ≡ 0 → times number (numbers_of (packet_at packets key)) ≡ 0
unmentioned_apart packets entries is number key none = by_packet (get packets key) refl
  where
    by_packet : (o : Option (List Buffer)) → get packets key ≡ o → times number (numbers_of (packet_at packets key)) ≡ 0
    by_packet None e = ap (λ (o : Option (List Buffer)). times number (numbers_of (rest_of o))) e
    by_packet (Some chain) e =
        let at = named_somewhere entries key (is.named key (subst IsSome (sym e) refl)) in
        omega (arith, mentioned packets entries at.0 number at.1 at.2, ap (λ k. times number (numbers_of (packet_at packets k))) at.3)

-- ---- adding a share of a chain
module _ (packets later : Slab (List Buffer)) (entries : List Entry) (id key : ℕ) (chain : List Buffer) (vacant : get packets key ≡ None)
    (updates : Updates packets later key (Some chain)) (fits : length (bytes_of chain) < 2 ^ 64) (is : IsTable packets entries) where
  abbrev added : Entry
  added = record { id = id; packet = key; from = 0; len = length (bytes_of chain) }

  others_differ : (entry : Entry) → IsKept packets entry → entry.packet ≢ key
  others_differ entry kept same = let e : Some (packet_at packets entry.packet) ≡ None = sym kept.stored ∙ ap (get packets) same ∙ vacant in cc

  others_same : All (λ entry. get later entry.packet ≡ get packets entry.packet) entries
  others_same k d below = updates.others _ (others_differ (get_or entries k d) (is.kept k d below))

  packet_added : packet_at later key ≡ chain
  packet_added = ap rest_of updates.changed

  pub add_live : live_of later (entries ++ added ∷ []) ≡ live_of packets entries ++ shared id chain ∷ []
  add_live =
      let whole : take (length (bytes_of (packet_at later key))) (bytes_of (packet_at later key)) ≡ bytes_of (packet_at later key) =
      take_all _ _ (omega arith) in
      let bytes : (kept_by later added).bytes ≡ bytes_of chain =
      ap (λ (c : List Buffer). take (length (bytes_of chain)) (bytes_of c)) packet_added ∙ take_all _ (bytes_of chain) (omega arith) in
      map-append (kept_by later) entries (added ∷ [])
      ∙ (λ k. same_live packets later entries others_same k ++ record { id = id; mentions = fresh_of (packet_added k); bytes = bytes k } ∷ [])

  kept_added : IsKept later added
  kept_added =
      record {
        stored = updates.changed ∙ ap Some (sym packet_added);
        within = omega (arith, ap (λ (c : List Buffer). length (bytes_of c)) packet_added);
        fits = omega arith;
      }

  pub add_table : ((number : ℕ) → 0 < times number (numbers_of chain) → mentions_of number (live_of packets entries) ≡ 0)
      → IsTable later (entries ++ added ∷ [])
  add_table unmentioned_all = record {
    kept = All-append (IsKept later) entries (added ∷ []) (λ k d below. same_kept packets later (get_or entries k d) (others_same k d below)
        (is.kept k d below)) (All-cons (IsKept later) added [] kept_added (λ k d below. absurd (omega arith)));
    named = λ k some. elim (eqb_tells key k) [
      | inl here ↦ omega (arith, sum_by-append (names k) entries (added ∷ []), sum_by-cons (names k) added [], ap one_if here.0)
      | inr else ↦ let before =
          is.named k (subst IsSome (updates.others k (λ e. else.1 (sym e))) some) in omega (arith, sum_by-append (names k) entries (added ∷ []), before)
    ];
    apart = λ k other number differ some. elim (eqb_tells k key) [
      | inl here ↦ (
          let e : packet_at later k ≡ chain = ap (packet_at later) here.1 ∙ packet_added in
          let in_chain : 0 < times number (numbers_of chain) = subst (λ (c : List Buffer). 0 < times number (numbers_of c)) e some in
          ap (λ (o : Option (List Buffer)). times number (numbers_of (rest_of o))) (updates.others other (λ f. differ (here.1 ∙ sym f)))
          ∙ unmentioned_apart packets entries is number other (unmentioned_all number in_chain)
          )
      | inr else ↦ (
          let stays = updates.others k else.1 in
          let in_old : 0 < times number (numbers_of (packet_at packets k)) =
          subst (λ (o : Option (List Buffer)). 0 < times number (numbers_of (rest_of o))) stays some in
          elim (eqb_tells other key) [
            | inl there ↦
                ap (λ j. times number (numbers_of (packet_at later j))) there.1 ∙ ap (λ (c : List Buffer). times number (numbers_of c)) packet_added
                ∙ not_in_chain k number in_old
            | inr apart_too ↦
                ap (λ (o : Option (List Buffer)). times number (numbers_of (rest_of o))) (updates.others other apart_too.1)
                ∙ is.apart k other number differ in_old
          ]
          )
    ];
  }
    where
      no_more : (number n : ℕ) → times number (numbers_of chain) ≡ n → (0 < n → ⊥) → n ≡ 0
      no_more number zero e h = refl
      no_more number (suc n) e h = absurd (h (omega arith))

      not_in_chain : (k number : ℕ) → 0 < times number (numbers_of (packet_at packets k)) → times number (numbers_of chain) ≡ 0
      not_in_chain k number in_old =
          no_more number (times number (numbers_of chain)) refl
          (λ some. let none = unmentioned_apart packets entries is number k (unmentioned_all number some) in omega arith)

-- what a call of `store` leaves
pub stored_live : (packets later : Slab (List Buffer)) (entries after : List Entry) (id : ℕ) (chain : List Buffer)
    → IsStored entries after packets later id chain → IsTable packets entries → live_of later after ≡ live_of packets entries ++ shared id chain ∷ []
stored_live packets later entries after id chain stored is =
    ap (live_of later) stored.entries ∙ add_live packets later entries id stored.key chain stored.vacant stored.updates stored.fits is

pub stored_table : (packets later : Slab (List Buffer)) (entries after : List Entry) (live : List Share) (id : ℕ) (chain : List Buffer)
    → live_of packets entries ≡ live → IsStored entries after packets later id chain → IsTable packets entries
    → ((number : ℕ) → 0 < times number (numbers_of chain) → mentions_of number live ≡ 0) → IsTable later after
stored_table packets later entries after live id chain view stored is unmentioned_all =
    subst (IsTable later) (sym stored.entries) (add_table packets later entries id stored.key chain stored.vacant stored.updates stored.fits is
    (λ number some. ap (mentions_of number) view ∙ unmentioned_all number some))
