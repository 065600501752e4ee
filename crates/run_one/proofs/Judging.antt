-- What becomes of a record is what forwarding does with its frame.
use Rattle.std.proofs.Common.{◌≡◌, ℕ, Option, Some, slice_get, sym, ap, ◌∙◌}
use Rattle.std.specs.Option.{option_map}
use Rattle.std.proofs.lemmas.Option.{slice_get-map}
use Rattle.ipv4.specs.declared.verdicts.Verdict.{Verdict}
use Rattle.pcapio_laws.specs.Capture.{Packet}
use Rattle.stages_laws.specs.Input.{Input}
use Rattle.stages_laws.specs.Output.{Forwarding, fate, stamped}
use Rattle.run_one.specs.Packets.{IsRecord, IsFate, fate_with}
use Rattle.run_one.specs.Tallies.{fates_of}
use Rattle.run_one.proofs.Known.{known_input}

pub judged_is : (forwarding : Forwarding) (room : ℕ) (input : Option Input) (seq : ℕ) (packet new : Packet) (verdict : Verdict) → IsRecord input room seq packet
    → verdict ≡ (forwarding packet.bytes packet.wire).verdict → new ≡ record packet { bytes = (forwarding packet.bytes packet.wire).frame }
    → IsFate (fates_of forwarding room input) seq verdict new
judged_is forwarding room input seq packet new verdict is v n all known =
    let i = known_input forwarding room input all known in
    ap (λ l. slice_get l seq) (sym i.2)
    ∙ (slice_get-map (fate forwarding) (stamped room i.0.packets) seq
    ∙ (ap (option_map (fate forwarding)) (is i.0 i.1) ∙ (λ k. Some (fate_with (sym v k) (sym n k)))))
