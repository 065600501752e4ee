-- A run over the records after a file header as a run over the whole file.
use Rattle.std.proofs.Common.{◌≡◌, ℕ, ◌-◌, ◌^◌, ◌≤◌, List, [], ◌++◌, length, drop, map, Option, None, Some, IfSome, Result, Ok, Err, IfOk, OnOk, refl, sym, ap}
use Rattle.std.proofs.Common.{◌∙◌, subst, arith, append-nil, slice_get}
use Rattle.std.specs.Option.{option_map}
use Rattle.std.proofs.lemmas.Option.{slice_get-map}
use Rattle.pcapio.specs.Begin.{Begins}
use Rattle.pcapio.specs.Counted.{to_come, told, failures_of, HasNotFailed}
use Rattle.pcapio.specs.Reader.{source_of}
use Rattle.pcapio.specs.declared.counted.Counted.{Counted}
use Rattle.pcapio.specs.declared.reader.Reader.{Reader}
use Rattle.pcapio.proofs.Runs.{failed-later}
use Rattle.pcapio_laws.specs.Capture.{Packet, End, Bad, AreRecords, HasHeader, IsRefused}
use Rattle.pcapio_laws.specs.declared.fault.CapFault.{CapFault}
use Rattle.pcapio_laws.specs.declared.fault.CapFault.TheVariants.{BadRecord}
use Rattle.pcapio_laws.specs.declared.format.ByteOrder.{ByteOrder}
use Rattle.pcapio_laws.specs.declared.format.Resolution.{Resolution}
use Rattle.pcapio_laws.proofs.Cases.{one_magic}
use Rattle.pcapio_laws.proofs.Exists.{exists}
use Rattle.pcapio_laws.proofs.Unique.{one}
use Rattle.settings.specs.declared.read.Settings.{Settings}
use Rattle.stages_laws.specs.Input.{Input}
use Rattle.stages_laws.specs.Output.{Fate, fates, output_of}
use Rattle.run_one.specs.Ending.{Sums}
use Rattle.run_one.specs.Failing.{FailedAt}
use Rattle.run_one.specs.Ports.{AreOutputs, AreBeginnings}
use Rattle.run_one.specs.Tallies.{fates_of}
use Rattle.run_one.specs.Whole.{forwarding_by, IsRun, IsBegun, WhyStoppedAt, WhyNoSummary}
use Rattle.run_one.specs.declared.summary.Summary.{Summary}
use Rattle.run_one.specs.declared.fault.RunFault.{RunFault}
use Rattle.run_one.specs.declared.fault.RunFault.TheVariants.{Memory, Thread, Read, Write, Capture as Refused, Window, Worn}
use Rattle.run_one.proofs.Texts.{beginning}

-- the records in bytes, and their end
abbrev pub input_in : ByteOrder → List ℕ → Input
input_in order bytes = let found = exists order (length bytes) bytes (omega arith) in record { packets = found.0; ending = found.1 }

read_in : (order : ByteOrder) (bytes : List ℕ) → AreRecords order bytes (input_in order bytes).packets (input_in order bytes).ending
read_in order bytes = (exists order (length bytes) bytes (omega arith)).2

abbrev pub input_of : ByteOrder → Option (List ℕ) → Option Input
input_of order rest = option_map (input_in order) rest

module _ {W : Type 0} where
  -- devices to which nothing was written in the run have received a prefix
  pub untold : (contents : W → Option (List ℕ)) (before : List (Option (List ℕ))) (resolution : Resolution) (all : List Fate) (devices : List (Counted W))
      → map (told contents) devices ≡ before → AreBeginnings contents before resolution all devices
  untold contents before resolution all devices same q d x got known =
      let e : Some (told contents d) ≡ Some (Some x) =
      sym (slice_get-map (told contents) devices q ∙ ap (option_map (told contents)) got) ∙ (ap (λ l. slice_get l q) same ∙ known) in
      let t : told contents d ≡ Some x = cc e in
      beginning (told contents d) x (output_of resolution q all) (x ++ output_of resolution q all)
      (subst (λ a. Begins a (Some x)) (sym t) ([], append-nil x)) refl

  pub untouched_begun : (contents : W → Option (List ℕ)) (settings : Settings) (a : Option (List ℕ)) (writers devices : List (Counted W)) → devices ≡ writers
      → IfSome a (λ bytes. IsBegun contents settings bytes writers devices)
  untouched_begun contents settings None writers devices same = tt
  untouched_begun contents settings (Some x) writers devices same = λ order resolution packets end h r.
      untold contents (map (told contents) writers) resolution (fates (forwarding_by settings) settings.room packets) devices (ap (map (told contents)) same)

  module _ (contents : W → Option (List ℕ)) (settings : Settings) (order : ByteOrder) (resolution : Resolution) where
    pub begun_whole : (a rest : Option (List ℕ)) (writers devices : List (Counted W)) → IfSome a (λ bytes. HasHeader bytes order resolution)
        → IfSome a (λ bytes. rest ≡ Some (drop 24 bytes))
        → ((all : List Fate) → fates_of (forwarding_by settings) settings.room (input_of order rest) ≡ Some all
        → AreBeginnings contents (map (told contents) writers) resolution all devices)
        → IfSome a (λ bytes. IsBegun contents settings bytes writers devices)
    begun_whole None rest writers devices header behind begun = tt
    begun_whole (Some x) rest writers devices header behind begun = λ o r packets end h records.
        let m = one_magic x order o resolution r header.magic h.magic in
        let i = input_in order (drop 24 x) in
        let known : fates_of (forwarding_by settings) settings.room (input_of order rest) ≡ Some (fates (forwarding_by settings) settings.room i.packets) =
        ap (λ b. fates_of (forwarding_by settings) settings.room (input_of order b)) behind in
        let same = one order i.packets packets (drop 24 x) i.ending end (read_in order (drop 24 x))
        (subst (λ it. AreRecords it (drop 24 x) packets end) (sym m.0) records) in
        subst (λ res. AreBeginnings contents (map (told contents) writers) res (fates (forwarding_by settings) settings.room packets) devices) m.1
        (subst (λ ps. AreBeginnings contents (map (told contents) writers) resolution (fates (forwarding_by settings) settings.room ps) devices) same.0
        (begun _ known))

    run_whole : (a rest : Option (List ℕ)) (writers devices : List (Counted W)) (summary : Summary) → IfSome a (λ bytes. HasHeader bytes order resolution)
        → IfSome a (λ bytes. rest ≡ Some (drop 24 bytes)) → length devices ≡ length writers
        → ((all : List Fate) → fates_of (forwarding_by settings) settings.room (input_of order rest) ≡ Some all
        → AreOutputs contents (map (told contents) writers) resolution all devices)
        → Sums (input_of order rest) (length writers) settings.room (forwarding_by settings) summary
        → IfSome a (λ bytes. IsRun contents settings bytes writers devices summary)
    run_whole None rest writers devices summary header behind all outputs sums = tt
    run_whole (Some x) rest writers devices summary header behind all outputs sums =
        let i = input_in order (drop 24 x) in
        let is : input_of order rest ≡ Some i = ap (input_of order) behind in
        let s = sums i is in
        record {
          capture = record { order = order; resolution = resolution; packets = i.packets; torn = summary.torn };
          is = record { header = header; records = subst (AreRecords order (drop 24 x) i.packets) s.1 (read_in order (drop 24 x)) };
          all = all;
          outputs = outputs _ (ap (fates_of (forwarding_by settings) settings.room) is);
          counts = s.0;
          torn = refl;
        }

    pub run_told : (a rest : Option (List ℕ)) (writers devices : List (Counted W)) (r : Result Summary RunFault) → IfSome a
        (λ bytes. HasHeader bytes order resolution)
        → IfSome a (λ bytes. rest ≡ Some (drop 24 bytes)) → length devices ≡ length writers
        → OnOk r ((all : List Fate) → fates_of (forwarding_by settings) settings.room (input_of order rest) ≡ Some all
        → AreOutputs contents (map (told contents) writers) resolution all devices)
        → IfOk r (Sums (input_of order rest) (length writers) settings.room (forwarding_by settings))
        → IfOk r (λ summary. IfSome a (λ bytes. IsRun contents settings bytes writers devices summary))
    run_told a rest writers devices (Ok summary) header behind all outputs sums = run_whole a rest writers devices summary header behind all outputs sums
    run_told a rest writers devices (Err fault) header behind all outputs sums = tt

module _ (order : ByteOrder) (resolution : Resolution) where
  pub refused_whole : (a rest : Option (List ℕ)) (fault : CapFault) → IfSome a (λ bytes. HasHeader bytes order resolution) → IfSome a
      (λ bytes. rest ≡ Some (drop 24 bytes))
      → fault ≡ BadRecord → ((i : Input) → input_of order rest ≡ Some i → i.ending ≡ Bad)
      → IfSome a (λ bytes. IsRefused bytes fault)
  refused_whole None rest fault header behind is bad_end = tt
  refused_whole (Some x) rest fault header behind is bad_end =
      let i = input_in order (drop 24 x) in
      let end = bad_end i (ap (input_of order) behind) in
      subst (IsRefused x) (sym is) (record {
        order = order;
        resolution = resolution;
        packets = i.packets;
        header = header;
        records = subst (AreRecords order (drop 24 x) i.packets) end (read_in order (drop 24 x));
      })

  endless_whole : (a rest : Option (List ℕ)) (n : ℕ) → IfSome a (λ bytes. HasHeader bytes order resolution) → IfSome a (λ bytes. rest ≡ Some (drop 24 bytes))
      → ((i : Input) → input_of order rest ≡ Some i → n ≤ length i.packets)
      → IfSome a (λ bytes. (o : ByteOrder) × (r : Resolution) × HasHeader bytes o r × (packets : List Packet) × (end : End)
      × AreRecords o (drop 24 bytes) packets end × (n ≤ length packets))
  endless_whole None rest n header behind many = tt
  endless_whole (Some x) rest n header behind many =
      let i = input_in order (drop 24 x) in
      (order, resolution, header, i.packets, i.ending, read_in order (drop 24 x), many i (ap (input_of order) behind))

  pub why_whole : {R W : Type 0} (remaining : R → Option (List ℕ)) (rest : Option (List ℕ)) (failures : List ℕ) (reader source : Counted R) (opened : Reader R)
      (writers devices : List (Counted W)) (fault : RunFault) → IfSome (to_come remaining reader) (λ bytes. HasHeader bytes order resolution)
      → IfSome (to_come remaining reader) (λ bytes. rest ≡ Some (drop 24 bytes)) → HasNotFailed reader (source_of opened) → failures ≡ map failures_of writers
      → WhyStoppedAt (input_of order rest) failures opened source devices fault → WhyNoSummary remaining reader source writers devices fault
  why_whole remaining rest failures reader source opened writers devices Memory header behind well same why = tt
  why_whole remaining rest failures reader source opened writers devices Thread header behind well same why = why
  why_whole remaining rest failures reader source opened writers devices Read header behind well same why = failed-later _ _ _ well why
  why_whole remaining rest failures reader source opened writers devices (Write p) header behind well same why = subst (λ f. FailedAt f p devices) same why
  why_whole remaining rest failures reader source opened writers devices (Refused fault) header behind well same why =
      refused_whole (to_come remaining reader) rest fault header behind why.0 why.1
  why_whole remaining rest failures reader source opened writers devices Window header behind well same why =
      endless_whole (to_come remaining reader) rest (2 ^ 64 - 1) header behind why
  why_whole remaining rest failures reader source opened writers devices Worn header behind well same why = why
