-- What is written is read back.
use Rattle.std.proofs.Common.{◌≡◌, ℕ, max, List, [], ◌∷◌, ◌++◌, length, drop, false, refl, sym, ap, ◌∙◌, arith}
use Rattle.std.specs.List.{flat_map, AllByRecursion}
use Rattle.byteorder.specs.Numbers.{little_number-reads_back}
use Rattle.pcapio_laws.specs.declared.format.ByteOrder.TheVariants.{Little}
use Rattle.pcapio_laws.specs.declared.format.Resolution.{Resolution}
use Rattle.pcapio_laws.specs.declared.format.Resolution.TheVariants.{Micro, Nano}
use Rattle.pcapio_laws.specs.Capture.{Packet, field, captured, IsRecord, AreRecords, Whole, HasHeader, IsCapture}
use Rattle.pcapio_laws.specs.Text.{record_text, file_header, file_text, IsPacket}

is_record : (p : Packet) → IsPacket p → IsRecord Little (record_text p) p
is_record p h =
    let small = h.small in
    let at_0 : field Little 0 (record_text p) ≡ p.seconds = little_number-reads_back 4 p.seconds (drop 4 (record_text p)) h.seconds in
    let at_4 : field Little 4 (record_text p) ≡ p.fraction = little_number-reads_back 4 p.fraction (drop 8 (record_text p)) h.fraction in
    let at_8 : field Little 8 (record_text p) ≡ length p.bytes = little_number-reads_back 4 (length p.bytes) (drop 12 (record_text p)) (omega arith) in
    let at_12 : field Little 12 (record_text p) ≡ p.wire = little_number-reads_back 4 p.wire p.bytes h.wire in
    let greater : max p.wire (length p.bytes) ≡ p.wire = omega (arith, h.captured) in
    record {
      whole = omega (arith, at_8);
      small = omega (arith, at_8);
      seconds = sym at_0;
      fraction = sym at_4;
      wire = sym (ap (λ n. max n (captured Little (record_text p))) at_12 ∙ ap (max p.wire) at_8 ∙ greater);
      bytes = refl;
    }

records_again : (packets : List Packet) → AllByRecursion IsPacket packets → AreRecords Little (flat_map record_text packets) packets Whole
records_again [] h = refl
records_again (p ∷ packets) h = (record_text p, flat_map record_text packets, refl, is_record p h.0, records_again packets h.1)

header_again : (resolution : Resolution) (rest : List ℕ) → HasHeader (file_header resolution ++ rest) Little resolution
header_again Micro rest = record { whole = omega arith; magic = refl; version = (refl, refl); link = refl }
header_again Nano rest = record { whole = omega arith; magic = refl; version = (refl, refl); link = refl }

behind_header : (resolution : Resolution) (rest : List ℕ) → drop 24 (file_header resolution ++ rest) ≡ rest
behind_header Micro rest = refl
behind_header Nano rest = refl

pub again : (resolution : Resolution) (packets : List Packet) → AllByRecursion IsPacket packets
    → IsCapture (file_text resolution packets) (record { order = Little; resolution = resolution; packets = packets; torn = false })
again resolution packets h =
    record {
      header = header_again resolution (flat_map record_text packets);
      records = rw (behind_header resolution (flat_map record_text packets)) (records_again packets h);
    }
