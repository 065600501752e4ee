-- Records in the bytes that are still to come.
use Rattle.std.proofs.Common.{◌≡◌, ℕ, ◌+◌, ◌<◌, ◌≤◌, max, Bool, true, List, ◌++◌, length, take, drop, Option, Some, None, IfSome, sym}
use Rattle.std.proofs.Common.{ap, ◌∙◌, arith, subst, inr, length-append, take-append-drop}
use Rattle.std.proofs.lemmas.List.{length-drop, length-take-le, drop_at}
use Rattle.std.specs.Io.KnownBytes.{Keeps, Consumes, prepend_known}
use Rattle.std.proofs.KnownBytes.{Consumes-trans}
use Rattle.pcapio_laws.specs.declared.format.ByteOrder.{ByteOrder}
use Rattle.pcapio_laws.proofs.Fields.{field-front}
use Rattle.pcapio.specs.declared.record.Head.{Head}
use Rattle.pcapio_laws.specs.Capture.{field, captured, IsRecord, Packet}
use Rattle.pcapio.specs.Record.{IsHead, packet_of, view}
use Rattle.pcapio.specs.declared.record.Record.{Record}
use Rattle.pcapio.specs.Reader.{TakesRecord, EndsSo}
use Rattle.pcapio.proofs.Windows.{prepend_known-dropped, kept-Consumes}

pub head-front : (order : ByteOrder) (xs ys : List ℕ) (head : Head) → IsHead order xs head → IsHead order (xs ++ ys) head
head-front order xs ys head h =
    let whole = h.whole in
    let at_0 = field-front order 0 xs ys (omega arith) in
    let at_4 = field-front order 4 xs ys (omega arith) in
    let at_8 = field-front order 8 xs ys (omega arith) in
    let at_12 = field-front order 12 xs ys (omega arith) in
    record {
      whole = omega (arith, length-append xs ys);
      small = h.small;
      seconds = h.seconds ∙ sym at_0;
      fraction = h.fraction ∙ sym at_4;
      captured_length = h.captured_length ∙ sym at_8;
      wire = h.wire ∙ sym (ap (λ n. max n (captured order (xs ++ ys))) at_12 ∙ ap (max (field order 12 xs)) at_8);
    }

pub head-ahead : (order : ByteOrder) (a d : Option (List ℕ)) (xs : List ℕ) (head : Head) → Keeps a (prepend_known xs d) → IsHead order xs head
    → IfSome a (λ bytes. IsHead order bytes head)
head-ahead order None d xs head k h = tt
head-ahead order (Some x) None xs head k h = absurd k
head-ahead order (Some x) (Some y) xs head k h = subst (λ bytes. IsHead order bytes head) k (head-front order xs y head h)

-- a field of the header, if the bytes continue with others
field-header : (order : ByteOrder) (offset : ℕ) (xs ys : List ℕ) → 16 ≤ length xs → offset + 4 ≤ 16
    → field order offset (take 16 xs ++ ys) ≡ field order offset xs
field-header order offset xs ys whole h =
    let len = length-take-le 16 xs whole in
    field-front order offset (take 16 xs) ys (omega arith)
    ∙ sym (ap (field order offset) (sym (take-append-drop 16 xs)) ∙ field-front order offset (take 16 xs) (drop 16 xs) (omega arith))

pub record_text : (order : ByteOrder) (xs bytes : List ℕ) (head : Head) → IsHead order xs head → length bytes ≡ head.captured
    → IsRecord order (take 16 xs ++ bytes) (packet_of head bytes)
record_text order xs bytes head h e =
    let len = length-take-le 16 xs h.whole in
    let at_8 = field-header order 8 xs bytes h.whole (omega arith) in
    let same = h.captured_length ∙ sym at_8 in
    record {
      whole = omega (arith, length-append (take 16 xs) bytes, len, same, e);
      small = subst (λ n. n ≤ 262144) same h.small;
      seconds = h.seconds ∙ sym (field-header order 0 xs bytes h.whole (omega arith));
      fraction = h.fraction ∙ sym (field-header order 4 xs bytes h.whole (omega arith));
      wire = h.wire ∙ sym (ap (λ n. max n (captured order (take 16 xs ++ bytes))) (field-header order 12 xs bytes h.whole (omega arith))
          ∙ ap (max (field order 12 xs)) at_8);
      bytes = sym (drop_at (take 16 xs) bytes 16 len);
    }

pub whole_record : (order : ByteOrder) (c d : Option (List ℕ)) (xs ys bytes : List ℕ) (head : Head) → IsHead order xs head → ys ≡ drop 16 xs
    → Consumes (prepend_known ys d) c bytes → length bytes ≡ head.captured → TakesRecord order (prepend_known xs d) c (packet_of head bytes)
whole_record order c d xs ys bytes head h e took len =
    (take 16 xs ++ bytes, Consumes-trans _ _ c (take 16 xs) bytes (prepend_known-dropped d xs ys 16 e) took, record_text order xs bytes head h len)

pub torn_record : (order : ByteOrder) (d : Option (List ℕ)) (xs ys : List ℕ) (head : Head) → IsHead order xs head → ys ≡ drop 16 xs
    → IfSome (prepend_known ys d) (λ left. length left < head.captured) → EndsSo order (prepend_known xs d) true
torn_record order None xs ys head h e short = tt
torn_record order (Some y) xs ys head h e short =
    let whole = h.whole in
    let at_8 = field-front order 8 xs y (omega arith) in
    let same = h.captured_length ∙ sym at_8 in
    let all = length-append xs y in
    let left = length-append ys y in
    let cut = ap length e ∙ length-drop 16 xs in
    inr (omega arith, subst (λ n. n ≤ 262144) same h.small, omega arith)

pub skipped : (order : ByteOrder) (o : Option Head) (head : Head) (res all : Bool) (a b c d : Option (List ℕ))
    → o ≡ Some head → res ≡ all → d ≡ c
    → ((bytes : List ℕ) (after : Option (List ℕ)) → length bytes ≡ head.captured → Consumes b after bytes → TakesRecord order a after (packet_of head bytes))
    → (all ≡ true → (bytes : List ℕ) × (length bytes ≡ head.captured) × Consumes b c bytes)
    → res ≡ true → (bytes : List ℕ) × IfSome o (λ h. (length bytes ≡ h.captured) × TakesRecord order a d (packet_of h bytes))
skipped order o head res all a b c d is same after takes whole t =
    let w = whole (sym same ∙ t) in
    let record_taken = subst (λ v. TakesRecord order a v (packet_of head w.0)) (sym after) (takes w.0 c w.1 w.2) in
    (w.0, subst (λ v. IfSome v (λ h. (length w.0 ≡ h.captured) × TakesRecord order a d (packet_of h w.0))) (sym is) (w.1, record_taken))

pub streamed : (order : ByteOrder) (o : Option Head) (head : Head) (res all : Bool) (a b c d : Option (List ℕ)) (bytes : List ℕ)
    → o ≡ Some head → res ≡ all → d ≡ c
    → ((bs : List ℕ) (after : Option (List ℕ)) → length bs ≡ head.captured → Consumes b after bs → TakesRecord order a after (packet_of head bs))
    → (all ≡ true → length bytes ≡ head.captured) → (all ≡ true → Consumes b c bytes)
    → res ≡ true → IfSome o (λ h. (length bytes ≡ h.captured) × TakesRecord order a d (packet_of h bytes))
streamed order o head res all a b c d bytes is same after takes len whole t =
    let e = sym same ∙ t in
    subst (λ v. IfSome v (λ h. (length bytes ≡ h.captured) × TakesRecord order a d (packet_of h bytes))) (sym is)
    (len e, subst (λ v. TakesRecord order a v (packet_of head bytes)) (sym after) (takes bytes c (len e) (whole e)))

pub kept-takes : (order before : ByteOrder) (a b c : Option (List ℕ)) (packet : Packet) → order ≡ before → Keeps a b → TakesRecord order b c packet
    → TakesRecord before a c packet
kept-takes order before a b c packet same k t =
    (t.0, kept-Consumes a b c t.0 k t.1, subst (λ o. IsRecord o t.0 packet) same t.2)

pub kept-next : (order before : ByteOrder) (a b c : Option (List ℕ)) (found : Option Record) → order ≡ before → Keeps a b
    → IfSome found (λ r. TakesRecord order b c (view r)) → IfSome found (λ r. TakesRecord before a c (view r))
kept-next order before a b c None same k h = tt
kept-next order before a b c (Some r) same k h = kept-takes order before a b c (view r) same k h
