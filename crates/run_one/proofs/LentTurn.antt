-- A record whose bytes were lent by the reader: what was taken, and what becomes of it.
use Rattle.std.proofs.Common.{◌≡◌, ◌≤◌, ◌+◌, ◌*◌, ℕ, List, length, ap, arith, Option}
use Rattle.ipv4.specs.declared.verdicts.Verdict.{Verdict}
use Rattle.pcapio.specs.Lent.{TakesLent}
use Rattle.pcapio.specs.Reader.{Takes, pending_of, rest, state_of}
use Rattle.pcapio.specs.ReaderState.{head_of}
use Rattle.pcapio.specs.Record.{packet_of}
use Rattle.pcapio.specs.declared.reader.Reader.{Reader}
use Rattle.pcapio.specs.declared.reader_state.ReaderState.TheVariants.{Pending}
use Rattle.pcapio.specs.declared.record.Head.{Head}
use Rattle.pcapio.proofs.Runs.{some-so}
use Rattle.stages_laws.specs.Input.{Input}
use Rattle.stages_laws.specs.Output.{Forwarding}
use Rattle.run_one.specs.Packets.{IsFate}
use Rattle.run_one.specs.SoFar.{HasRead}
use Rattle.run_one.specs.Tallies.{fates_of}
use Rattle.run_one.specs.declared.records.read_state.ReadState.{ReadState}
use Rattle.run_one.proofs.Judging.{judged_is}
use Rattle.run_one.proofs.SoFar.{read_is, read_one}
use Rattle.run_one.proofs.Taken.{wire_is}

module _ {R : Type 0} (remaining : R → Option (List ℕ)) where
  -- what was lent is the pending record's
  pub lent_takes : (old new : Reader R) (head : Head) (bytes : List ℕ) → state_of old ≡ Pending head → TakesLent remaining old new bytes
      → (length bytes ≡ head.captured) × Takes remaining old new (packet_of head bytes)
  lent_takes old new head bytes at lent =
      some-so (pending_of old) head (λ h. (length bytes ≡ h.captured) × Takes remaining old new (packet_of h bytes)) (ap head_of at) lent.body

  -- as many bytes as on the wire at most
  pub lent_wire : (old new : Reader R) (head : Head) (bytes : List ℕ) → state_of old ≡ Pending head → TakesLent remaining old new bytes
      → length bytes ≤ head.wire
  lent_wire old new head bytes at lent =
      wire_is old.order (rest remaining old) (rest remaining new) (packet_of head bytes) (lent_takes old new head bytes at lent).1

  module _ (input : Option Input) (room ports : ℕ) where
    -- one more record was read, and numbered
    pub lent_read : (old new : Reader R) (before after : ReadState) (head : Head) (bytes : List ℕ) → HasRead remaining input room ports old before
        → state_of old ≡ Pending head → head.captured ≤ 64 * room → TakesLent remaining old new bytes
        → after ≡ record before { count = before.count + 1 } → HasRead remaining input room ports new after
    lent_read old new before after head bytes read at small lent same =
        let takes = lent_takes old new head bytes at lent in
        read_one remaining input room ports old new before after (packet_of head bytes) read lent.file.0 takes.1 (omega (arith, takes.0, small))
        (ap (λ p. p.count) same) (ap (λ p. p.oversize) same)

    -- what becomes of it
    pub lent_fate : (forwarding : Forwarding) (old new : Reader R) (progress : ReadState) (head : Head) (bytes frame : List ℕ) (verdict : Verdict)
        → HasRead remaining input room ports old progress → state_of old ≡ Pending head → head.captured ≤ 64 * room → TakesLent remaining old new bytes
        → verdict ≡ (forwarding bytes head.wire).verdict → frame ≡ (forwarding bytes head.wire).frame
        → IsFate (fates_of forwarding room input) progress.count verdict (packet_of head frame)
    lent_fate forwarding old new progress head bytes frame verdict read at small lent told written =
        let takes = lent_takes old new head bytes at lent in
        judged_is forwarding room input progress.count (packet_of head bytes) (packet_of head frame) verdict
        (read_is remaining input room ports old new progress (packet_of head bytes) read takes.1 (omega (arith, takes.0, small))) told
        (λ k. packet_of head (written k))
