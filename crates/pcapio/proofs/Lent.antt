-- A record whose bytes were lent from the reader's buffer.
use Rattle.std.proofs.Common.{◌≡◌, ℕ, ◌+◌, ◌≤◌, List, length, take, drop, Option, None, Some, IfSome, refl, sym, ap, ◌∙◌, subst, arith}
use Rattle.std.proofs.lemmas.List.{drop-drop, length-take-le, length-drop}
use Rattle.std.proofs.lemmas.Option.{none-some, same_Some}
use Rattle.std.specs.Io.KnownBytes.{Consumes, prepend_known}
use Rattle.std.specs.Option.{ForSome}
use mathlib.Core.HLevel.{is_prop→PathP}
use Rattle.pcapio_laws.specs.declared.format.ByteOrder.{ByteOrder}
use Rattle.pcapio.specs.BufferLends.{consumed}
use Rattle.pcapio.specs.Lent.{IsBuffered, after_lent, TakesLent}
use Rattle.pcapio.specs.ReadBuffer.{items}
use Rattle.pcapio.specs.Reader.{TakesRecord, pending_of}
use Rattle.pcapio.specs.ReaderState.{head_of, captured_of}
use Rattle.pcapio.specs.Record.{IsHead, packet_of}
use Rattle.pcapio.specs.declared.read_buffer.ReadBuffer.{ReadBuffer}
use Rattle.pcapio.specs.declared.reader.Reader.{Reader}
use Rattle.pcapio.specs.declared.reader_state.ReaderState.TheVariants.{Between, Pending}
use Rattle.pcapio.specs.declared.record.Head.{Head}
use Rattle.pcapio.proofs.Lending.{still}
use Rattle.pcapio.proofs.Records.{whole_record}
use Rattle.pcapio.proofs.Windows.{prepend_known-dropped}

vacant_prop : {T : Type 0} {P : T → Type 0} → IsProp (ForSome None P)
vacant_prop x y k value is =
    let same : x value is ≡ y value is = absurd (none-some value is) in
    same k

-- the reader as it is left, whose fields are `after_lent`'s
pub left_so : {R : Type 0} (r : Reader R) (n : ℕ) (ws : List ℕ)
    (free : ForSome (head_of Between) (λ head. IsHead r.order (items (consumed r.ahead 16 n ws)) head)) → n ≡ captured_of r.state
    → record {
      device = r.device;
      ahead = consumed r.ahead 16 n ws;
      order = r.order;
      resolution = r.resolution;
      state = Between;
      pending = free;
    } ≡ after_lent r ws
left_so r n ws free e i =
    record {
      device = r.device;
      ahead = consumed r.ahead 16 (e i) ws;
      order = r.order;
      resolution = r.resolution;
      state = Between;
      pending = is_prop→PathP (λ j. ForSome (head_of Between) (λ head. IsHead r.order (items (consumed r.ahead 16 (e j) ws)) head)) (λ j. vacant_prop) free
          (λ head is. absurd (none-some head is)) i;
    }

taken : (order : ByteOrder) (a : ReadBuffer) (d : Option (List ℕ)) (head : Head) (n : ℕ) (bytes ws : List ℕ) → IsHead order (items a) head
    → n ≡ head.captured → 16 + head.captured ≤ length (items a) → bytes ≡ take head.captured (drop 16 (items a)) → length ws ≡ length bytes
    → (length bytes ≡ head.captured) × TakesRecord order (prepend_known (items a) d) (prepend_known (items (consumed a 16 n ws)) d) (packet_of head bytes)
taken order a d head n bytes ws h many whole is same =
    let xs = items a in
    let after = items (consumed a 16 n ws) in
    let len : length bytes ≡ head.captured = ap length is ∙ length-take-le head.captured (drop 16 xs) (omega (arith, length-drop {A = ℕ} 16 xs)) in
    let left : after ≡ drop head.captured (drop 16 xs) =
    still a 16 n ws (omega arith) (omega arith) ∙ ap (λ k. drop (16 + k) xs) many ∙ sym (drop-drop head.captured 16 xs) in
    let took : Consumes (prepend_known (drop 16 xs) d) (prepend_known after d) bytes =
    subst (Consumes (prepend_known (drop 16 xs) d) (prepend_known after d)) (sym is) (prepend_known-dropped d (drop 16 xs) after head.captured left) in
    (len, whole_record order (prepend_known after d) d xs (drop 16 xs) bytes head h refl took len)

-- the pending record was taken, whatever was written over its bytes
pub taken_lent : {R : Type 0} (remaining : R → Option (List ℕ)) (r : Reader R) (head : Head) (bytes ws : List ℕ) → r.state ≡ Pending head → IsBuffered r
    → bytes ≡ take head.captured (drop 16 (items r.ahead)) → length ws ≡ length bytes → TakesLent remaining r (after_lent r ws) bytes
taken_lent {R} remaining r head bytes ws at whole is same =
    let pending : pending_of r ≡ Some head = ap head_of at in
    let held : whole.head ≡ head = same_Some whole.head head (sym whole.pending ∙ pending) in
    let inside : 16 + head.captured ≤ length (items r.ahead) = subst (λ (h : Head). 16 + h.captured ≤ length (items r.ahead)) held whole.whole in
    let one = taken r.order r.ahead (remaining r.device.device) head (captured_of r.state) bytes ws (r.pending head pending) (ap captured_of at) inside is same in
    record {
      file = (refl, refl);
      body =
          subst (λ v. IfSome v (λ (h : Head). (length bytes ≡ h.captured) × TakesRecord r.order (prepend_known (items r.ahead) (remaining r.device.device))
          (prepend_known (items (after_lent r ws).ahead) (remaining r.device.device)) (packet_of h bytes))) (sym pending) one;
      state = refl;
      device = refl;
    }
