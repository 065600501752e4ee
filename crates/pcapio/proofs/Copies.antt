-- A copy of a whole file: its header and then its records.
use Rattle.std.proofs.Common.{◌≡◌, ℕ, List, Bool, Option, Some, None, IfSome, OnErr, Result, Ok, Err, drop, refl, sym, ◌∙◌, subst}
use Rattle.std.specs.Io.KnownBytes.{Appends, append_known}
use Rattle.std.proofs.KnownBytes.{Appends-trans}
use Rattle.pcapio_laws.specs.Capture.{Packet, End, AreRecords, end_of, HasHeader, Capture, IsCapture, IsRefused}
use Rattle.pcapio_laws.specs.Text.{file_header, file_text}
use Rattle.pcapio_laws.specs.declared.fault.CapFault.{CapFault}
use Rattle.pcapio_laws.specs.declared.fault.CapFault.TheVariants.{NotPcap, BadVersion, BadLink, BadRecord, Read, Write, Memory}
use Rattle.pcapio_laws.specs.declared.format.ByteOrder.{ByteOrder}
use Rattle.pcapio_laws.specs.declared.format.Resolution.{Resolution}
use Rattle.pcapio_laws.proofs.Cases.{one_magic}
use Rattle.pcapio.specs.Begin.{Begins}
use Rattle.pcapio.specs.Copy.{fitting, copied_text, IfEnded, StopsBy, ExplainsRefusal}
use Rattle.pcapio.specs.Reader.{Refuses}
use Rattle.pcapio.proofs.Begins.{begins_self, begins-more, begins-after}

-- a device to which nothing was written has received a prefix
pub untold : (a told : Option (List ℕ)) (space : ℕ)
    → IfSome a (λ bytes. (order : ByteOrder) (resolution : Resolution) (packets : List Packet) (end : End) → HasHeader bytes order resolution
    → AreRecords order (drop 24 bytes) packets end → Begins told (append_known told (file_text resolution (fitting space packets))))
untold None told space = tt
untold (Some x) told space = λ order resolution packets end h r. begins-more told told (file_text resolution (fitting space packets)) (begins_self told)

pub capture-copied : (space : ℕ) (order : ByteOrder) (resolution said : Resolution) (a rest old text new : Option (List ℕ)) (torn : Bool)
    → said ≡ resolution → IfSome a (λ bytes. HasHeader bytes order resolution) → IfSome a (λ bytes. rest ≡ Some (drop 24 bytes))
    → Appends old text (file_header said)
    → IfSome rest (λ bytes. (packets : List Packet) × AreRecords order bytes packets (end_of torn) × Appends text new (copied_text space packets))
    → IfSome a (λ bytes. (capture : Capture) × IsCapture bytes capture × (capture.torn ≡ torn)
    × Appends old new (file_text capture.resolution (fitting space capture.packets)))
capture-copied space order resolution said None rest old text new torn same header behind opened copied = tt
capture-copied space order resolution said (Some x) rest old text new torn same header behind opened copied =
    let Q : Option (List ℕ) → Type 0 =
    λ o. IfSome o (λ bytes. (packets : List Packet) × AreRecords order bytes packets (end_of torn) × Appends text new (copied_text space packets)) in
    let found = subst Q behind copied in (
      record { order = order; resolution = resolution; packets = found.0; torn = torn },
      record { header = header; records = found.1 },
      refl,
      Appends-trans old text new _ _ (subst (λ r. Appends old text (file_header r)) same opened) found.2,
    )

pub begins-captured : (space : ℕ) (order : ByteOrder) (resolution said : Resolution) (a rest old text told : Option (List ℕ))
    → said ≡ resolution → IfSome a (λ bytes. HasHeader bytes order resolution) → IfSome a (λ bytes. rest ≡ Some (drop 24 bytes))
    → Appends old text (file_header said)
    → IfSome rest (λ bytes. (packets : List Packet) (end : End) → AreRecords order bytes packets end
    → Begins told (append_known text (copied_text space packets)))
    → IfSome a (λ bytes. (o : ByteOrder) (r : Resolution) (packets : List Packet) (end : End) → HasHeader bytes o r → AreRecords o (drop 24 bytes) packets end
    → Begins told (append_known old (file_text r (fitting space packets))))
begins-captured space order resolution said None rest old text told same header behind opened begins = tt
begins-captured space order resolution said (Some x) rest old text told same header behind opened begins = λ o r packets end h records.
    let Q : Option (List ℕ) → Type 0 =
    λ v. IfSome v (λ bytes. (packets : List Packet) (end : End) → AreRecords order bytes packets end
    → Begins told (append_known text (copied_text space packets))) in
    let one = one_magic x order o resolution r header.magic h.magic in
    let part = subst Q behind begins packets end (subst (λ it. AreRecords it (drop 24 x) packets end) (sym one.0) records) in
    begins-after old text told (file_header r) (copied_text space packets) (subst (λ it. Appends old text (file_header it)) (same ∙ one.1) opened) part

-- why a copy stopped, for the records and for the file
pub stopped : (fault : CapFault) (a : Option (List ℕ)) (B F V G W : Type 0) → StopsBy fault B F V → (B → IfSome a (λ known. IsRefused known BadRecord))
    → (F → G) → (V → W)
    → ExplainsRefusal fault a G W
stopped NotPcap a B F V G W h b f w = absurd h
stopped BadVersion a B F V G W h b f w = absurd h
stopped BadLink a B F V G W h b f w = absurd h
stopped BadRecord a B F V G W h b f w = b h
stopped Read a B F V G W h b f w = f h
stopped Write a B F V G W h b f w = w h
stopped Memory a B F V G W h b f w = tt

pub not_opened : (fault : CapFault) (a : Option (List ℕ)) (F W : Type 0) → Refuses a fault F → ExplainsRefusal fault a F W
not_opened NotPcap a F W h = h
not_opened BadVersion a F W h = h
not_opened BadLink a F W h = h
not_opened BadRecord a F W h = absurd h
not_opened Read a F W h = h
not_opened Write a F W h = absurd h
not_opened Memory a F W h = tt

-- the same for the result of a copy
pub ended-captured : {E : Type 0} (answer : Result (Option Bool) E) (space : ℕ) (order : ByteOrder) (resolution said : Resolution)
    (a rest old text new : Option (List ℕ))
    → said ≡ resolution → IfSome a (λ bytes. HasHeader bytes order resolution) → IfSome a (λ bytes. rest ≡ Some (drop 24 bytes))
    → Appends old text (file_header said)
    → IfEnded answer (λ torn. IfSome rest (λ bytes. (packets : List Packet) × AreRecords order bytes packets (end_of torn)
    × Appends text new (copied_text space packets)))
    → IfEnded answer (λ torn. IfSome a (λ bytes. (capture : Capture) × IsCapture bytes capture × (capture.torn ≡ torn)
    × Appends old new (file_text capture.resolution (fitting space capture.packets))))
ended-captured (Ok (Some torn)) space order resolution said a rest old text new same header behind opened copied =
    capture-copied space order resolution said a rest old text new torn same header behind opened copied
ended-captured (Ok None) space order resolution said a rest old text new same header behind opened copied = tt
ended-captured (Err e) space order resolution said a rest old text new same header behind opened copied = tt

pub failed-captured : {X E : Type 0} (answer : Result X E) (space : ℕ) (order : ByteOrder) (resolution said : Resolution)
    (a rest old text told : Option (List ℕ))
    → said ≡ resolution → IfSome a (λ bytes. HasHeader bytes order resolution) → IfSome a (λ bytes. rest ≡ Some (drop 24 bytes))
    → Appends old text (file_header said)
    → OnErr answer (IfSome rest (λ bytes. (packets : List Packet) (end : End) → AreRecords order bytes packets end
    → Begins told (append_known text (copied_text space packets))))
    → OnErr answer (IfSome a (λ bytes. (o : ByteOrder) (r : Resolution) (packets : List Packet) (end : End) → HasHeader bytes o r
    → AreRecords o (drop 24 bytes) packets end
    → Begins told (append_known old (file_text r (fitting space packets)))))
failed-captured (Ok x) space order resolution said a rest old text told same header behind opened begins = tt
failed-captured (Err e) space order resolution said a rest old text told same header behind opened begins =
    begins-captured space order resolution said a rest old text told same header behind opened begins
