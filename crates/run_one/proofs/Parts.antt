-- What one record adds to each port.
use Rattle.std.proofs.Common.{◌≡◌, ◌≢◌, ℕ, ◌==◌, inl, inr, Bool, true, false, List, [], ◌++◌, Option, Some, None, slice_get, slice_set, refl, sym, ap, ◌∙◌}
use Rattle.std.proofs.Common.{subst, append-nil, eq-eqb, ne_eqb}
use Rattle.std.specs.Io.KnownBytes.{Appends, append_known}
use Rattle.std.proofs.KnownBytes.{Appends-nil}
use Rattle.ipv4.specs.declared.verdicts.Verdict.TheVariants.{Send, Drop}
use Rattle.ipv4.specs.declared.verdicts.Reason.{Reason}
use Rattle.pcapio.specs.Begin.{Begins}
use Rattle.pcapio_laws.specs.Capture.{Packet}
use Rattle.pcapio.specs.Counted.{told}
use Rattle.pcapio_laws.specs.Text.{record_text}
use Rattle.pcapio.specs.WriteBuffer.{waiting}
use Rattle.pcapio.specs.Writer.{text, fault_of, sink_of}
use Rattle.pcapio.specs.declared.writer.Writer.{Writer}
use Rattle.run_one.specs.Ports.{AreWell}
use Rattle.run_one.specs.PortSteps.{AreLonger, AreCut, part_at}
use Rattle.run_one.proofs.Lists.{at_set, changed}

-- the port that a packet is sent to gets its record, and any other port nothing
pub part_here : (p : ℕ) (tagged : Bool) (packet : Packet) → part_at p (Send p tagged) packet ≡ record_text packet
part_here p tagged packet = let e : (p == p) ≡ true = eq-eqb p p refl in rw e refl

pub part_there : (p q : ℕ) (tagged : Bool) (packet : Packet) → q ≢ p → part_at q (Send p tagged) packet ≡ []
part_there p q tagged packet other = let e : (p == q) ≡ false = ne_eqb p q (λ f. other (sym f)) in rw e refl

begins_nil : (a : Option (List ℕ)) (xs : List ℕ) → Begins a (append_known (append_known a xs) [])
begins_nil None xs = ([], tt)
begins_nil (Some x) xs = (xs, sym (append-nil (x ++ xs)))

module _ {W : Type 0} where
  -- no port gets more
  pub none_longer : (contents : W → Option (List ℕ)) (writers : List (Writer W)) (reason : Reason) (packet : Packet)
      → AreLonger contents writers writers (λ q. part_at q (Drop reason) packet)
  none_longer contents writers reason packet q w got = (w, got, Appends-nil (text contents w))

  pub one_longer : (contents : W → Option (List ℕ)) (writers : List (Writer W)) (p : ℕ) (tagged : Bool) (packet : Packet)
      (was new : Writer W) → slice_get writers p ≡ Some was → Appends (text contents was) (text contents new) (record_text packet)
      → AreLonger contents writers (slice_set writers p new) (λ q. part_at q (Send p tagged) packet)
  one_longer contents writers p tagged packet was new at grown =
      changed (λ q a b. Appends (text contents a) (text contents b) (part_at q (Send p tagged) packet)) writers p was new at
      (subst (Appends (text contents was) (text contents new)) (sym (part_here p tagged packet)) grown)
      (λ q w other. subst (Appends (text contents w) (text contents w)) (sym (part_there p q tagged packet other)) (Appends-nil (text contents w)))

  pub one_cut : (contents : W → Option (List ℕ)) (writers : List (Writer W)) (p : ℕ) (tagged : Bool) (packet : Packet)
      (was new : Writer W) → slice_get writers p ≡ Some was
      → Begins (told contents (sink_of new)) (append_known (text contents was) (record_text packet))
      → AreCut contents writers (slice_set writers p new) (λ q. part_at q (Send p tagged) packet)
  one_cut contents writers p tagged packet was new at begun =
      changed (λ q a b. Begins (told contents (sink_of b)) (append_known (text contents a) (part_at q (Send p tagged) packet))) writers p was new at
      (subst (λ xs. Begins (told contents (sink_of new)) (append_known (text contents was) xs)) (sym (part_here p tagged packet)) begun)
      (λ q w other. subst (λ xs. Begins (told contents (sink_of w)) (append_known (text contents w) xs)) (sym (part_there p q tagged packet other))
      (begins_nil (told contents (sink_of w)) (waiting w.behind)))

  pub one_well : (writers : List (Writer W)) (p : ℕ) (was new : Writer W) → slice_get writers p ≡ Some was → AreWell writers
      → fault_of new ≡ None → AreWell (slice_set writers p new)
  one_well writers p was new at well here q w got = elim (at_set writers p q was new w at got) [
    | inl e ↦ ap fault_of e.1 ∙ here
    | inr e ↦ well q w e.1
  ]
