-- Records taken one after another.
use Rattle.std.proofs.Common.{◌≡◌, if◌then◌else◌, ℕ, ◌+◌, ◌-◌, ◌^◌, ◌<◌, ◌≤◌, List, [], ◌∷◌, ◌++◌, Bool, Option, Some, None, IfSome, IfNone, nat_le, Result, Ok}
use Rattle.std.proofs.Common.{Err, IfErr, IsErrAnd, min, refl, sym, ap, ◌∙◌, subst, append_assoc, append-nil, length, length-append, map, arith}
use Rattle.std.proofs.lemmas.Bool.{le-leb, lt-leb}
use Rattle.std.proofs.lemmas.Grind.{flat_map-append}
use Rattle.std.proofs.lemmas.List.{map-append}
use Rattle.std.proofs.lemmas.List.Elements.{filter-append}
use Rattle.std.specs.List.{flat_map}
use Rattle.std.specs.Io.KnownBytes.{Keeps, Appends, append_known}
use Rattle.std.proofs.KnownBytes.{Appends-trans, Appends-nil}
use Rattle.pcapio_laws.specs.declared.format.ByteOrder.{ByteOrder}
use Rattle.pcapio_laws.specs.Capture.{Packet, AreRecords, End, Whole, Bad, end_of}
use Rattle.pcapio_laws.specs.declared.fault.CapFault.{CapFault}
use Rattle.pcapio_laws.specs.declared.fault.CapFault.TheVariants.{NotPcap, BadVersion, BadLink, BadRecord, Read, Write, Memory}
use Rattle.pcapio_laws.specs.Text.{record_text}
use Rattle.pcapio_laws.proofs.Unique.{one}
use Rattle.pcapio_laws.proofs.Exists.{exists}
use Rattle.pcapio.specs.Begin.{Begins}
use Rattle.pcapio.specs.Copy.{fitting, copied_text, Stand, StopsBy}
use Rattle.pcapio.specs.Reader.{TakesRecord, EndsSo, IsBadAhead, Explains}
use Rattle.pcapio.specs.Record.{view}
use Rattle.pcapio.specs.declared.record.Head.{Head}
use Rattle.pcapio.specs.declared.record.Record.{Record}
use Rattle.pcapio.proofs.Begins.{begins-front, begins-trans}

pub none_stand : (order : ByteOrder) (a : Option (List ℕ)) → Stand order a a []
none_stand order a more end h = h

pub kept-stand : (order : ByteOrder) (a b c : Option (List ℕ)) (packets : List Packet) → Stand order a b packets → Keeps b c → Stand order a c packets
kept-stand order a None c packets s k more end h = s more end tt
kept-stand order a (Some x) None packets s k more end h = absurd k
kept-stand order a (Some x) (Some y) packets s k more end h = s more end (subst (λ bytes. AreRecords order bytes more end) k h)

took : (order : ByteOrder) (b c : Option (List ℕ)) (packet : Packet) (more : List Packet) (end : End) → TakesRecord order b c packet
    → IfSome c (λ bytes. AreRecords order bytes more end) → IfSome b (λ bytes. AreRecords order bytes (packet ∷ more) end)
took order None c packet more end t h = tt
took order (Some x) None packet more end t h = absurd t.1
took order (Some x) (Some y) packet more end t h = (t.0, y, t.1, t.2, h)

pub one_stands : (order : ByteOrder) (a b : Option (List ℕ)) (packet : Packet) → TakesRecord order a b packet → Stand order a b (packet ∷ [])
one_stands order a b packet t more end h = took order a b packet more end t h

-- those of one step after those of the steps before
pub more-stand : (order now : ByteOrder) (a b c : Option (List ℕ)) (packets others : List Packet) → now ≡ order → Stand order a b packets → Stand now b c others
    → Stand order a c (packets ++ others)
more-stand order now a b c packets others same s t more end h =
    subst (λ all. IfSome a (λ bytes. AreRecords order bytes all end)) (sym (append_assoc packets others more))
    (s (others ++ more) end (subst (λ o. IfSome b (λ bytes. AreRecords o bytes (others ++ more) end)) same
    (t more end (subst (λ o. IfSome c (λ bytes. AreRecords o bytes more end)) (sym same) h))))

pub ended : (order now : ByteOrder) (a b : Option (List ℕ)) (packets : List Packet) (torn : Bool) → now ≡ order → Stand order a b packets → EndsSo now b torn
    → IfSome a (λ bytes. AreRecords order bytes packets (end_of torn))
ended order now a b packets torn same s e =
    subst (λ all. IfSome a (λ bytes. AreRecords order bytes all (end_of torn))) (append-nil packets)
    (s [] (end_of torn) (subst (λ o. EndsSo o b torn) same e))

bad-some : (order : ByteOrder) (a : Option (List ℕ)) (packets : List Packet) → IfSome a (λ bytes. AreRecords order bytes packets Bad)
    → IfSome a (λ bytes. (all : List Packet) × AreRecords order bytes all Bad)
bad-some order None packets h = tt
bad-some order (Some x) packets h = (packets, h)

pub ended-bad : (order now : ByteOrder) (a b : Option (List ℕ)) (packets : List Packet) → now ≡ order → Stand order a b packets → IsBadAhead now b
    → IfSome a (λ bytes. (all : List Packet) × AreRecords order bytes all Bad)
ended-bad order now a b packets same s e =
    bad-some order a packets (subst (λ all. IfSome a (λ bytes. AreRecords order bytes all Bad)) (append-nil packets)
    (s [] Bad (subst (λ o. IsBadAhead o b) same e)))

copied-append : (space : ℕ) (xs ys : List Packet) → copied_text space (xs ++ ys) ≡ copied_text space xs ++ copied_text space ys
copied-append space xs ys =
    ap (flat_map record_text) (filter-append (λ packet. nat_le (length packet.bytes) space) xs ys)
    ∙ flat_map-append record_text (fitting space xs) (fitting space ys)

pub written-more : (space : ℕ) (a b c : Option (List ℕ)) (packets others : List Packet) → Appends a b (copied_text space packets)
    → Appends b c (copied_text space others)
    → Appends a c (copied_text space (packets ++ others))
written-more space a b c packets others p q =
    subst (Appends a c) (sym (copied-append space packets others)) (Appends-trans a b c _ _ p q)

fits : (space : ℕ) (packet : Packet) → length packet.bytes ≤ space → copied_text space (packet ∷ []) ≡ record_text packet
fits space packet h =
    ap (λ t. flat_map record_text (if t then packet ∷ [] else [])) (le-leb (length packet.bytes) space h)
    ∙ append-nil (record_text packet)

fits_not : (space : ℕ) (packet : Packet) → space < length packet.bytes → copied_text space (packet ∷ []) ≡ []
fits_not space packet h = ap (λ t. flat_map record_text (if t then packet ∷ [] else [])) (lt-leb (length packet.bytes) space h)

-- a record that fits was put, or one that doesn't was skipped
pub put_one : (space : ℕ) (a b : Option (List ℕ)) (packet : Packet) → length packet.bytes ≤ space → Appends a b (record_text packet)
    → Appends a b (copied_text space (packet ∷ []))
put_one space a b packet h p = subst (Appends a b) (sym (fits space packet h)) p

pub skipped_one : (space : ℕ) (a : Option (List ℕ)) (packet : Packet) → space < length packet.bytes → Appends a a (copied_text space (packet ∷ []))
skipped_one space a packet h = subst (Appends a a) (sym (fits_not space packet h)) (Appends-nil a)

pub begins_one : (space : ℕ) (p a : Option (List ℕ)) (packet : Packet) → length packet.bytes ≤ space → Begins p (append_known a (record_text packet))
    → Begins p (append_known a (copied_text space (packet ∷ [])))
begins_one space p a packet h b = subst (λ l. Begins p (append_known a l)) (sym (fits space packet h)) b

pub copied : (space : ℕ) (order : ByteOrder) (a : Option (List ℕ)) (old new : Option (List ℕ)) (packets : List Packet) (torn : Bool)
    → IfSome a (λ bytes. AreRecords order bytes packets (end_of torn)) → Appends old new (copied_text space packets)
    → IfSome a (λ bytes. (all : List Packet) × AreRecords order bytes all (end_of torn) × Appends old new (copied_text space all))
copied space order None old new packets torn h w = tt
copied space order (Some x) old new packets torn h w = (packets, h, w)

pub pending-takes : (o : Option Head) (head : Head) (P : Head → Type 0) → o ≡ Some head → IfSome o P → P head
pending-takes o head P e h = let Q : Option Head → Type 0 = λ v. IfSome v P in subst Q e h

pub none-so : {X : Type 0} (o : Option X) (P : Type 0) → o ≡ None → IfNone o P → P
none-so {X} o P e h = let Q : Option X → Type 0 = λ v. IfNone v P in subst Q e h

-- those taken so far are the first of all
pub prefix : (order : ByteOrder) (x : List ℕ) (b : Option (List ℕ)) (packets all : List Packet) (e : End) → Stand order (Some x) b packets
    → AreRecords order x all e
    → (more : List Packet) × (all ≡ packets ++ more)
prefix order x None packets all e s r = ([], (one order all (packets ++ []) x e Whole r (s [] Whole tt)).0)
prefix order x (Some y) packets all e s r =
    let found = exists order (length y) y (omega arith) in
    (found.0, (one order all (packets ++ found.0) x e found.1 r (s found.0 found.1 found.2)).0)

-- if n were taken, there are at least as many
pub as_many : (order : ByteOrder) (a b : Option (List ℕ)) (packets : List Packet) (n : ℕ) → Stand order a b packets → n ≤ length packets
    → IfSome a (λ bytes. (all : List Packet) × (e : End) × AreRecords order bytes all e × (n ≤ length all))
as_many order None b packets n s h = tt
as_many order (Some x) b packets n s h =
    let all = exists order (length x) x (omega arith) in
    let pre = prefix order x b packets all.0 all.1 s all.2 in
    (all.0, all.1, all.2, omega (arith, h, ap length pre.1, length-append packets pre.0))

begins-same : (told old new : Option (List ℕ)) (bs : List ℕ) → Appends old new bs → Begins told new → Begins told (append_known old bs)
begins-same told None new bs p h = ([], tt)
begins-same told (Some x) None bs p h = absurd p
begins-same told (Some x) (Some y) bs p h = subst (λ l. Begins told (Some l)) p h

-- what was written for the packets so far is a prefix of what all would write
pub begins-all : (space : ℕ) (order : ByteOrder) (a b told old new : Option (List ℕ)) (packets : List Packet) → Stand order a b packets
    → Appends old new (copied_text space packets) → Begins told new
    → IfSome a (λ bytes. (all : List Packet) (e : End) → AreRecords order bytes all e → Begins told (append_known old (copied_text space all)))
begins-all space order None b told old new packets s w h = tt
begins-all space order (Some x) b told old new packets s w h = λ all e r.
    let pre = prefix order x b packets all e s r in
    let text : copied_text space all ≡ copied_text space packets ++ copied_text space pre.0 =
    ap (copied_text space) pre.1 ∙ copied-append space packets pre.0 in
    subst (λ l. Begins told (append_known old l)) (sym text)
    (begins-front told old (copied_text space packets) (copied_text space pre.0) (begins-same told old new _ w h))

pub Appends-self : (a : Option (List ℕ)) (bs : List ℕ) → Appends a (append_known a bs) bs
Appends-self None bs = tt
Appends-self (Some x) bs = refl

-- a fault that was passed on
pub err-so : {X : Type 0} (answer : Result X CapFault) (fault : CapFault) (P : CapFault → Type 0) → IsErrAnd answer (λ it. it ≡ fault) → P fault
    → IfErr answer P
err-so (Ok x) fault P h k = tt
err-so (Err it) fault P h k = subst P (sym h) k

pub stops-head : (fault : CapFault) (B F C G W : Type 0) → Explains fault B F ⊥ → (B → C) → (F → G) → StopsBy fault C G W
stops-head NotPcap B F C G W h b f = h
stops-head BadVersion B F C G W h b f = h
stops-head BadLink B F C G W h b f = h
stops-head BadRecord B F C G W h b f = b h
stops-head Read B F C G W h b f = f h
stops-head Write B F C G W h b f = absurd h
stops-head Memory B F C G W h b f = h

pub stops-one : (fault : CapFault) (B F G V W : Type 0) → StopsBy fault ⊥ F V → (F → G) → (V → W) → StopsBy fault B G W
stops-one NotPcap B F G V W h f w = h
stops-one BadVersion B F G V W h f w = h
stops-one BadLink B F G V W h f w = h
stops-one BadRecord B F G V W h f w = absurd h
stops-one Read B F G V W h f w = f h
stops-one Write B F G V W h f w = w h
stops-one Memory B F G V W h f w = h

pub failed-later : (a b c : ℕ) → b ≡ a → c ≡ min (b + 1) (2 ^ 64 - 1) → c ≡ min (a + 1) (2 ^ 64 - 1)
failed-later a b c same failed = failed ∙ ap (λ n. min (n + 1) (2 ^ 64 - 1)) same

-- one step after those before, if the chain's space is unchanged
pub written-on : (space here : ℕ) (a b c : Option (List ℕ)) (packets others : List Packet) → here ≡ space → Appends a b (copied_text space packets)
    → Appends b c (copied_text here others) → Appends a c (copied_text space (packets ++ others))
written-on space here a b c packets others same p q =
    written-more space a b c packets others p (subst (λ n. Appends b c (copied_text n others)) same q)

pub begins-on : (space here : ℕ) (order now : ByteOrder) (a b c after told old text : Option (List ℕ)) (packets others : List Packet)
    → here ≡ space → now ≡ order → Stand order a b packets → Keeps b c → Appends old text (copied_text space packets)
    → Stand now c after others → Begins told (append_known text (copied_text here others))
    → IfSome a (λ bytes. (all : List Packet) (e : End) → AreRecords order bytes all e → Begins told (append_known old (copied_text space all)))
begins-on space here order now a b c after told old text packets others same alike s k w t h =
    begins-all space order a after told old (append_known text (copied_text space others)) (packets ++ others)
    (more-stand order now a c after packets others alike (kept-stand order a b c packets s k) t)
    (written-more space old text _ packets others w (Appends-self text (copied_text space others)))
    (subst (λ n. Begins told (append_known text (copied_text n others))) same h)

-- what has been written of what was put
pub part-told : (space : ℕ) (order : ByteOrder) (a told part old : Option (List ℕ)) → Begins told part
    → IfSome a (λ bytes. (all : List Packet) (e : End) → AreRecords order bytes all e → Begins part (append_known old (copied_text space all)))
    → IfSome a (λ bytes. (all : List Packet) (e : End) → AreRecords order bytes all e → Begins told (append_known old (copied_text space all)))
part-told space order None told part old h k = tt
part-told space order (Some x) told part old h k = λ all e r. begins-trans told part _ h (k all e r)

pub some-so : {X : Type 0} (o : Option X) (x : X) (P : X → Type 0) → o ≡ Some x → IfSome o P → P x
some-so {X} o x P e h = let Q : Option X → Type 0 = λ v. IfSome v P in subst Q e h

-- those taken so far are the first of all, whatever else is to come
pub all-begin : (order : ByteOrder) (a b : Option (List ℕ)) (packets : List Packet) → Stand order a b packets
    → IfSome a (λ bytes. (all : List Packet) (e : End) → AreRecords order bytes all e → (more : List Packet) × (all ≡ packets ++ more))
all-begin order None b packets s = tt
all-begin order (Some x) b packets s = λ all e r. prefix order x b packets all e s r

pub explains-all : (fault : CapFault) (B F C G : Type 0) → Explains fault B F (Unit {0}) → (B → C) → (F → G)
    → Explains fault C G (Unit {0})
explains-all NotPcap B F C G h b f = h
explains-all BadVersion B F C G h b f = h
explains-all BadLink B F C G h b f = h
explains-all BadRecord B F C G h b f = b h
explains-all Read B F C G h b f = f h
explains-all Write B F C G h b f = h
explains-all Memory B F C G h b f = h

-- one more record of a list
pub records-more : (order now : ByteOrder) (a b c : Option (List ℕ)) (given : List Record) (r : Record) → now ≡ order → Stand order a b (map view given)
    → TakesRecord now b c (view r) → Stand order a c (map view (given ++ r ∷ []))
records-more order now a b c given r same s t =
    subst (Stand order a c) (sym (map-append view given (r ∷ [])))
    (more-stand order now a b c (map view given) (view r ∷ []) same s (one_stands now b c (view r) t))
