-- The turns of a run by one thread: how one more record changes the numbers so far, and what follows from the last one.
use Rattle.std.proofs.Common.{◌≡◌, ◌≢◌, ℕ, ◌+◌, ◌*◌, ◌<◌, ◌≤◌, Bool, true, false, cond, if◌then◌else◌, List, [], ◌∷◌, ◌++◌, length, slice_get, Option, None}
use Rattle.std.proofs.Common.{Some, IfSome, refl, sym, ap, ◌∙◌, arith, append_assoc, length-append}
use Rattle.std.specs.List.{count_by}
use Rattle.std.specs.Cmp.{nat_cmp_total}
use Rattle.std.specs.FinMap as map
use Rattle.std.specs.FinMap.{get-insert, get-remove}
use Rattle.std.proofs.lemmas.Bool.{le-leb, lt-leb, lt-ltb, le-ltb}
use Rattle.std.proofs.lemmas.List.Elements.{filter-append}
use Rattle.std.proofs.lemmas.List.Sums.{sum_by-cons}
use Rattle.mbuf.specs.Buffer.{Buffer}
use Rattle.mbuf.specs.Chain.{space_of}
use Rattle.pcapio_laws.specs.Capture.{Packet, AreRecords, End, Bad}
use Rattle.pcapio_laws.specs.declared.format.ByteOrder.{ByteOrder}
use Rattle.pcapio_laws.proofs.Unique.{one}
use Rattle.pcapio.specs.Copy.{Stand}
use Rattle.pcapio.specs.Counted.{HasNotFailed}
use Rattle.pcapio.specs.Reader.{TakesRecord, IsBadAhead, order_of, source_of, rest}
use Rattle.pcapio.specs.declared.reader.Reader.{Reader}
use Rattle.pcapio.proofs.Runs.{prefix, more-stand, one_stands, ended-bad, failed-later}
use Rattle.reorder.specs.Waiting.{Waiting, with_number, after_next}
use Rattle.stages_laws.specs.Input.{Input, IsInput}
use Rattle.stages_laws.specs.Output.{fits, stamped, is_oversize, oversize}
use Rattle.stages_laws.proofs.Parts.{oversize-append}
use Rattle.run_one.specs.Packets.{IsRecord}
use Rattle.run_one.specs.Reading.{WhyNone}
use Rattle.run_one.specs.Turns.{IsVacant, EndsBad, WhyStopped, long_of}
use Rattle.run_one.specs.declared.fault.RunFault.{RunFault}
use Rattle.run_one.specs.declared.fault.RunFault.TheVariants.{Memory, Thread, Read, Write, Capture, Window, Worn}
use Rattle.run_one.proofs.Windows.{untied}

-- records with this end that are in the whole input are the input's
pub input_is : (order : ByteOrder) (a : Option (List ℕ)) (input : Option Input) (packets : List Packet) (end : End) → IsInput order a input
    → IfSome a (λ bytes. AreRecords order bytes packets end) → (i : Input) → input ≡ Some i → (i.packets ≡ packets) × (i.ending ≡ end)
input_is order None input packets end is r i known = absurd (cc (sym is ∙ known))
input_is order (Some bytes) None packets end is r i known = absurd is
input_is order (Some bytes) (Some j) packets end is r i known =
    let e : j ≡ i = cc known in
    let o = one order j.packets packets bytes j.ending end is r in
    (ap (λ x. x.packets) (sym e) ∙ o.0, ap (λ x. x.ending) (sym e) ∙ o.1)

-- those taken so far are the first of the input's
pub begins_with : (order : ByteOrder) (a b : Option (List ℕ)) (input : Option Input) (packets : List Packet) → IsInput order a input → Stand order a b packets
    → (i : Input) → input ≡ Some i → (more : List Packet) × (i.packets ≡ packets ++ more)
begins_with order None b input packets is s i known = absurd (cc (sym is ∙ known))
begins_with order (Some x) b None packets is s i known = absurd is
begins_with order (Some x) b (Some j) packets is s i known =
    let e : j ≡ i = cc known in
    let m = prefix order x b packets j.packets j.ending s is in
    (m.0, ap (λ y. y.packets) (sym e) ∙ m.1)

pub ends_bad : (order now : ByteOrder) (a b : Option (List ℕ)) (input : Option Input) (packets : List Packet) → IsInput order a input → now ≡ order
    → Stand order a b packets → IsBadAhead now b → EndsBad input
ends_bad order now None b input packets is same s bad i known = absurd (cc (sym is ∙ known))
ends_bad order now (Some x) b input packets is same s bad i known =
    let found = ended-bad order now (Some x) b packets same s bad in
    (input_is order (Some x) input found.0 Bad is found.1 i known).1

pub endless : (order : ByteOrder) (a b : Option (List ℕ)) (input : Option Input) (packets : List Packet) (n : ℕ) → IsInput order a input → Stand order a
    b packets
    → n ≤ length packets → (i : Input) → input ≡ Some i → n ≤ length i.packets
endless order a b input packets n is s many i known =
    let m = begins_with order a b input packets is s i known in
    omega (arith, many, ap length m.1, length-append packets m.0)

-- why a turn found no record is why the run stopped
pub stopped : {R : Type 0} (remaining : R → Option (List ℕ)) (order : ByteOrder) (a : Option (List ℕ)) (input : Option Input) (start old new : Reader R)
    (failed : Option ℕ) (packets : List Packet) (fault : RunFault) → IsInput order a input → order_of old ≡ order → Stand order a (rest remaining old) packets
    → HasNotFailed (source_of start) (source_of old) → WhyNone remaining old new fault → WhyStopped input start new failed fault
stopped remaining order a input start old new failed packets Read is same s worked why = failed-later _ _ _ worked why
stopped remaining order a input start old new failed packets (Capture fault) is same s worked why =
    (why.0, ends_bad order (order_of old) a (rest remaining old) input packets is same s why.1)
stopped remaining order a input start old new failed packets Memory is same s worked why = absurd why
stopped remaining order a input start old new failed packets Thread is same s worked why = absurd why
stopped remaining order a input start old new failed packets (Write p) is same s worked why = absurd why
stopped remaining order a input start old new failed packets Window is same s worked why = absurd why
stopped remaining order a input start old new failed packets Worn is same s worked why = absurd why

at_seam : {A : Type 0} (xs : List A) (y : A) (ys : List A) → slice_get (xs ++ y ∷ ys) (length xs) ≡ Some y
at_seam [] y ys = refl
at_seam (x ∷ xs) y ys = at_seam xs y ys

first_fits : (room : ℕ) (packet : Packet) (more : List Packet) → length packet.bytes ≤ 64 * room → stamped room (packet ∷ more) ≡ packet ∷ stamped room more
first_fits room packet more small = ap (λ t. if t then packet ∷ stamped room more else stamped room more) (le-leb (length packet.bytes) (64 * room) small)

-- the number of the record that was found is the number of those before it
pub found_is : (order now : ByteOrder) (a b c : Option (List ℕ)) (input : Option Input) (room : ℕ) (packets : List Packet) (packet : Packet) → IsInput
    order a input
    → now ≡ order → Stand order a b packets → TakesRecord now b c packet → length packet.bytes ≤ 64 * room
    → IsRecord input room (length (stamped room packets)) packet
found_is order now a b c input room packets packet is same s t small i known =
    let stand = more-stand order now a b c packets (packet ∷ []) same s (one_stands now b c packet t) in
    let m = begins_with order a c input (packets ++ packet ∷ []) is stand i known in
    let all : stamped room i.packets ≡ stamped room packets ++ packet ∷ stamped room m.0 =
    ap (stamped room) (m.1 ∙ append_assoc packets (packet ∷ []) m.0)
    ∙ (filter-append (fits room) packets (packet ∷ m.0) ∙ ap (λ l. stamped room packets ++ l) (first_fits room packet m.0 small)) in
    ap (λ l. slice_get l (length (stamped room packets))) all ∙ at_seam (stamped room packets) packet (stamped room m.0)

pub one_stamped : (room : ℕ) (packets : List Packet) (packet : Packet) → length packet.bytes ≤ 64 * room
    → length (stamped room (packets ++ packet ∷ [])) ≡ length (stamped room packets) + 1
one_stamped room packets packet small =
    ap length (filter-append (fits room) packets (packet ∷ []) ∙ ap (λ l. stamped room packets ++ l) (first_fits room packet [] small))
    ∙ length-append (stamped room packets) (packet ∷ [])

pub none_stamped : (room : ℕ) (packets : List Packet) (packet : Packet) → 64 * room < length packet.bytes
    → length (stamped room (packets ++ packet ∷ [])) ≡ length (stamped room packets)
none_stamped room packets packet large =
    let none : stamped room (packet ∷ []) ≡ [] = ap (λ t. if t then packet ∷ [] else []) (lt-leb (length packet.bytes) (64 * room) large) in
    ap length (filter-append (fits room) packets (packet ∷ []) ∙ ap (λ l. stamped room packets ++ l) none)
    ∙ (length-append (stamped room packets) [] ∙ omega arith)

one_of : {A : Type 0} (p : A → Bool) (x : A) → p x ≡ true → count_by p (x ∷ []) ≡ 1
one_of p x e = sum_by-cons (λ y. cond (p y) 1 0) x [] ∙ ap (λ b. cond b 1 0 + 0) e

none_of : {A : Type 0} (p : A → Bool) (x : A) → p x ≡ false → count_by p (x ∷ []) ≡ 0
none_of p x e = sum_by-cons (λ y. cond (p y) 1 0) x [] ∙ ap (λ b. cond b 1 0 + 0) e

pub one_oversize : (room : ℕ) (packets : List Packet) (packet : Packet) → 64 * room < length packet.bytes
    → oversize room (packets ++ packet ∷ []) ≡ oversize room packets + 1
one_oversize room packets packet large = oversize-append room packets (packet ∷ [])
    ∙ ap (λ n. oversize room packets + n) (one_of (is_oversize room) packet (lt-ltb (64 * room) (length packet.bytes) large))

pub none_oversize : (room : ℕ) (packets : List Packet) (packet : Packet) → length packet.bytes ≤ 64 * room
    → oversize room (packets ++ packet ∷ []) ≡ oversize room packets
none_oversize room packets packet small = oversize-append room packets (packet ∷ [])
    ∙ (ap (λ n. oversize room packets + n) (none_of (is_oversize room) packet (le-ltb (64 * room) (length packet.bytes) small)) ∙ omega arith)

-- the number whose turn it was came and went: none is held from the next on
pub vacant_after : {T : Type 0} (w : Waiting T) (k : ℕ) (x : T) → k ≡ w.next → IsVacant w → IsVacant (after_next (with_number w k x))
vacant_after w k x same vacant n high =
    let other : n ≢ w.next = λ e. absurd (omega (arith, e, high)) in
    get-remove nat_cmp_total (map.insert w.held k x) w.next n
    ∙ (ap (λ b. cond b None (map.get (map.insert w.held k x) n)) (untied n w.next other)
    ∙ (get-insert nat_cmp_total w.held k x n
    ∙ (ap (λ b. cond b (Some x) (map.get w.held n)) (untied n k (λ e. other (e ∙ same)))
    ∙ vacant n (omega (arith, high)))))

-- the long one of two chains keeps its space where the first keeps its own
pub same_long : (is_long : Bool) (chain back other : List Buffer) → space_of back ≡ space_of chain
    → space_of (long_of is_long back other) ≡ space_of (long_of is_long chain other)
same_long true chain back other same = same
same_long false chain back other same = refl
