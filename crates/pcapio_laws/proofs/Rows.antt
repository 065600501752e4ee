-- The worked rows.
use Rattle.std.proofs.Common.{◌≡◌, ◌≢◌, ℕ, ◌<◌, List, [], ◌∷◌, length, take, drop, get_or, true, false, refl, ap, arith, inl, inr}
use Rattle.std.proofs.lemmas.List.{length-take}
use Rattle.pcapio_laws.specs.declared.fault.CapFault.TheVariants.{NotPcap, BadVersion, BadLink, BadRecord}
use Rattle.pcapio_laws.specs.declared.format.ByteOrder.TheVariants.{Little, Big}
use Rattle.pcapio_laws.specs.declared.format.Resolution.TheVariants.{Micro, Nano}
use Rattle.pcapio_laws.specs.Capture.{captured, HasHeader, HasNoMagic, IsRecord, Short, Other, IsCase, Refused}
use Rattle.pcapio_laws.specs.Rows.{header_alone, big_header, torn_file, first_packet, nanosecond, empty_file, with_byte, record_header_of, one_byte_record}
use Rattle.pcapio_laws.specs.Rows.{behind_header, microsecond, small_file}

pub alone : IsCase header_alone (empty_file Little Micro)
alone =
    let len : length header_alone ≡ 24 = refl in
    record { header = record { whole = omega arith; magic = refl; version = (refl, refl); link = refl }; records = refl }

pub little_nano : IsCase (with_byte 0 77 (with_byte 1 60 header_alone)) (empty_file Little Nano)
little_nano =
    let len : length (with_byte 0 77 (with_byte 1 60 header_alone)) ≡ 24 = refl in
    record { header = record { whole = omega arith; magic = refl; version = (refl, refl); link = refl }; records = refl }

pub big_micro : IsCase (with_byte 2 195 (with_byte 3 212 big_header)) (empty_file Big Micro)
big_micro =
    let len : length (with_byte 2 195 (with_byte 3 212 big_header)) ≡ 24 = refl in
    record { header = record { whole = omega arith; magic = refl; version = (refl, refl); link = refl }; records = refl }

-- zone, sigfigs and snaplen may be anything, and so may the high 16 bits of the link type
pub ignored : IsCase (with_byte 8 1 (with_byte 12 2 (with_byte 16 3 header_alone))) (empty_file Little Micro)
ignored =
    let len : length (with_byte 8 1 (with_byte 12 2 (with_byte 16 3 header_alone))) ≡ 24 = refl in
    record { header = record { whole = omega arith; magic = refl; version = (refl, refl); link = refl }; records = refl }

pub ignored_high : IsCase (with_byte 22 4 (with_byte 23 5 header_alone)) (empty_file Little Micro)
ignored_high =
    let len : length (with_byte 22 4 (with_byte 23 5 header_alone)) ≡ 24 = refl in
    record { header = record { whole = omega arith; magic = refl; version = (refl, refl); link = refl }; records = refl }

-- bytes that begin like no magic
no_magic : (first : ℕ) (rest : List ℕ) → first ≢ 212 → first ≢ 77 → first ≢ 161 → HasNoMagic (first ∷ rest)
no_magic first rest micro nano big Little Micro m = absurd (micro (ap (λ (l : List ℕ). get_or l 0 0) m))
no_magic first rest micro nano big Little Nano m = absurd (nano (ap (λ (l : List ℕ). get_or l 0 0) m))
no_magic first rest micro nano big Big Micro m = absurd (big (ap (λ (l : List ℕ). get_or l 0 0) m))
no_magic first rest micro nano big Big Nano m = absurd (big (ap (λ (l : List ℕ). get_or l 0 0) m))

-- not a magic, and a bad version too
pub not_pcap : IsCase (with_byte 0 213 (with_byte 4 3 header_alone)) (Refused NotPcap)
not_pcap = Other (no_magic 213 (drop 1 (with_byte 4 3 header_alone)) (λ e. omega arith) (λ e. omega arith) (λ e. omega arith))

-- the magic of captures with longer record headers, and the one that begins a pcapng file
pub modified : IsCase (with_byte 0 52 (with_byte 1 205 header_alone)) (Refused NotPcap)
modified = Other (no_magic 52 (drop 1 (with_byte 1 205 header_alone)) (λ e. omega arith) (λ e. omega arith) (λ e. omega arith))

pub next_format : IsCase (with_byte 0 10 (with_byte 1 13 (with_byte 2 13 (with_byte 3 10 header_alone)))) (Refused NotPcap)
next_format =
    Other (no_magic 10 (drop 1 (with_byte 1 13 (with_byte 2 13 (with_byte 3 10 header_alone)))) (λ e. omega arith) (λ e. omega arith) (λ e. omega arith))

-- major version 3, and another link type too
pub bad_major : IsCase (with_byte 4 3 (with_byte 20 2 header_alone)) (Refused BadVersion)
bad_major =
    let len : length (with_byte 4 3 (with_byte 20 2 header_alone)) ≡ 24 = refl in
    record {
      order = Little;
      resolution = Micro;
      whole = omega arith;
      magic = refl;
      version = λ v. (let n : ◌≡◌ {A = ℕ} 3 2 = v.0 in omega arith);
    }

pub bad_minor : IsCase (with_byte 6 5 header_alone) (Refused BadVersion)
bad_minor =
    let len : length (with_byte 6 5 header_alone) ≡ 24 = refl in
    record {
      order = Little;
      resolution = Micro;
      whole = omega arith;
      magic = refl;
      version = λ v. (let n : ◌≡◌ {A = ℕ} 5 4 = v.1 in omega arith);
    }

pub bad_link : IsCase (with_byte 20 2 header_alone) (Refused BadLink)
bad_link =
    let len : length (with_byte 20 2 header_alone) ≡ 24 = refl in
    record {
      order = Little;
      resolution = Micro;
      whole = omega arith;
      magic = refl;
      version = (refl, refl);
      link = λ l. (let n : ◌≡◌ {A = ℕ} 2 1 = l in omega arith);
    }

-- versions before 2.4
pub old_major : IsCase (with_byte 4 1 header_alone) (Refused BadVersion)
old_major =
    let len : length (with_byte 4 1 header_alone) ≡ 24 = refl in
    record {
      order = Little;
      resolution = Micro;
      whole = omega arith;
      magic = refl;
      version = λ v. (let n : ◌≡◌ {A = ℕ} 1 2 = v.0 in omega arith);
    }

pub old_minor : IsCase (with_byte 6 3 header_alone) (Refused BadVersion)
old_minor =
    let len : length (with_byte 6 3 header_alone) ≡ 24 = refl in
    record {
      order = Little;
      resolution = Micro;
      whole = omega arith;
      magic = refl;
      version = λ v. (let n : ◌≡◌ {A = ℕ} 3 4 = v.1 in omega arith);
    }

-- the link type before Ethernet's, and one of which only the lowest byte is Ethernet's
pub no_link : IsCase (with_byte 20 0 header_alone) (Refused BadLink)
no_link =
    let len : length (with_byte 20 0 header_alone) ≡ 24 = refl in
    record {
      order = Little;
      resolution = Micro;
      whole = omega arith;
      magic = refl;
      version = (refl, refl);
      link = λ l. (let n : ◌≡◌ {A = ℕ} 0 1 = l in omega arith);
    }

pub high_link : IsCase (with_byte 21 1 header_alone) (Refused BadLink)
high_link =
    let len : length (with_byte 21 1 header_alone) ≡ 24 = refl in
    record {
      order = Little;
      resolution = Micro;
      whole = omega arith;
      magic = refl;
      version = (refl, refl);
      link = λ l. (let n : ◌≡◌ {A = ℕ} 257 1 = l in omega arith);
    }

header_of : (rest : List ℕ) → HasHeader (behind_header rest) Little Micro
header_of rest = record { whole = omega arith; magic = refl; version = (refl, refl); link = refl }

-- 262144 captured bytes are allowed, none of which are in the file
pub longest : IsCase (behind_header (record_header_of 0 0 4 0)) (microsecond [] true)
longest =
    let left : length (record_header_of 0 0 4 0) ≡ 16 = refl in
    let at_8 : captured Little (record_header_of 0 0 4 0) ≡ 262144 = refl in
    record { header = header_of (record_header_of 0 0 4 0); records = inr (omega arith, omega arith, omega arith) }

-- one more isn't allowed
pub too_long : IsCase (behind_header (record_header_of 1 0 4 0)) (Refused BadRecord)
too_long =
    let left : length (record_header_of 1 0 4 0) ≡ 16 = refl in
    let at_8 : captured Little (record_header_of 1 0 4 0) ≡ 262145 = refl in
    record { order = Little; resolution = Micro; packets = []; header = header_of (record_header_of 1 0 4 0); records = (omega arith, omega arith) }

-- unless the header isn't complete
pub too_long_cut : IsCase (behind_header (take 15 (record_header_of 1 0 4 0))) (microsecond [] true)
too_long_cut =
    let left : length (take 15 (record_header_of 1 0 4 0)) ≡ 15 = refl in
    record { header = header_of (take 15 (record_header_of 1 0 4 0)); records = inl (omega arith, omega arith) }

-- none of nine captured bytes
pub none_of_nine : IsCase (behind_header (record_header_of 0 0 0 9)) (small_file 9 [])
none_of_nine =
    let none : captured Little (record_header_of 0 0 0 9) ≡ 0 = refl in
    record {
      header = header_of (record_header_of 0 0 0 9);
      records = (
        record_header_of 0 0 0 9,
        [],
        refl,
        record { whole = refl; small = omega arith; seconds = refl; fraction = refl; wire = refl; bytes = refl },
        refl,
      );
    }

-- one captured byte with length 0 on the wire: the length is the greater one
pub one_of_none : IsCase (behind_header (one_byte_record 7)) (small_file 1 (7 ∷ []))
one_of_none =
    let one : captured Little (one_byte_record 7) ≡ 1 = refl in
    record {
      header = header_of (one_byte_record 7);
      records = (
        one_byte_record 7,
        [],
        refl,
        record { whole = refl; small = omega arith; seconds = refl; fraction = refl; wire = refl; bytes = refl },
        refl,
      );
    }

pub short : IsCase (take 23 header_alone) (Refused NotPcap)
short =
    let len : length (take 23 header_alone) ≡ 23 = refl in
    Short (omega arith)

-- a header that isn't complete, and has a bad version and a different link type
pub short_first : IsCase (take 23 (with_byte 4 3 (with_byte 20 2 header_alone))) (Refused NotPcap)
short_first =
    let len : length (take 23 (with_byte 4 3 (with_byte 20 2 header_alone))) ≡ 23 = refl in
    Short (omega arith)

pub short_file : (n : ℕ) → n < 24 → IsCase (take n torn_file) (Refused NotPcap)
short_file n h = Short (omega (arith, length-take n torn_file))

first_text : IsRecord Big (take 50 (drop 24 torn_file)) first_packet
first_text =
    let len : length (take 50 (drop 24 torn_file)) ≡ 50 = refl in
    let at_8 : captured Big (take 50 (drop 24 torn_file)) ≡ 34 = refl in
    record { whole = refl; small = omega arith; seconds = refl; fraction = refl; wire = refl; bytes = refl }

header_24 : HasHeader (take 24 torn_file) Big Nano
header_24 =
    let len : length (take 24 torn_file) ≡ 24 = refl in
    record { whole = omega arith; magic = refl; version = (refl, refl); link = refl }

pub big_nano : IsCase (take 24 torn_file) (empty_file Big Nano)
big_nano = record { header = header_24; records = refl }

header_25 : HasHeader (take 25 torn_file) Big Nano
header_25 =
    let len : length (take 25 torn_file) ≡ 25 = refl in
    record { whole = omega arith; magic = refl; version = (refl, refl); link = refl }

pub cut_25 : IsCase (take 25 torn_file) (nanosecond [] true)
cut_25 = record { header = header_25; records = let left : length (drop 24 (take 25 torn_file)) ≡ 1 = refl in inl (omega arith, omega arith) }

header_39 : HasHeader (take 39 torn_file) Big Nano
header_39 =
    let len : length (take 39 torn_file) ≡ 39 = refl in
    record { whole = omega arith; magic = refl; version = (refl, refl); link = refl }

pub cut_39 : IsCase (take 39 torn_file) (nanosecond [] true)
cut_39 = record { header = header_39; records = let left : length (drop 24 (take 39 torn_file)) ≡ 15 = refl in inl (omega arith, omega arith) }

header_40 : HasHeader (take 40 torn_file) Big Nano
header_40 =
    let len : length (take 40 torn_file) ≡ 40 = refl in
    record { whole = omega arith; magic = refl; version = (refl, refl); link = refl }

pub cut_40 : IsCase (take 40 torn_file) (nanosecond [] true)
cut_40 = record {
  header = header_40;
  records = let left : length (drop 24 (take 40 torn_file)) ≡ 16 =
      refl in let at_8 : captured Big (drop 24 (take 40 torn_file)) ≡ 34 = refl in inr (omega arith, omega arith, omega arith);
}

header_73 : HasHeader (take 73 torn_file) Big Nano
header_73 =
    let len : length (take 73 torn_file) ≡ 73 = refl in
    record { whole = omega arith; magic = refl; version = (refl, refl); link = refl }

pub cut_73 : IsCase (take 73 torn_file) (nanosecond [] true)
cut_73 = record {
  header = header_73;
  records = let left : length (drop 24 (take 73 torn_file)) ≡ 49 =
      refl in let at_8 : captured Big (drop 24 (take 73 torn_file)) ≡ 34 = refl in inr (omega arith, omega arith, omega arith);
}

header_74 : HasHeader (take 74 torn_file) Big Nano
header_74 =
    let len : length (take 74 torn_file) ≡ 74 = refl in
    record { whole = omega arith; magic = refl; version = (refl, refl); link = refl }

pub cut_74 : IsCase (take 74 torn_file) (nanosecond (first_packet ∷ []) false)
cut_74 = record { header = header_74; records = (take 50 (drop 24 torn_file), drop 74 (take 74 torn_file), refl, first_text, refl) }

header_75 : HasHeader (take 75 torn_file) Big Nano
header_75 =
    let len : length (take 75 torn_file) ≡ 75 = refl in
    record { whole = omega arith; magic = refl; version = (refl, refl); link = refl }

pub cut_75 : IsCase (take 75 torn_file) (nanosecond (first_packet ∷ []) true)
cut_75 = record {
  header = header_75;
  records = (
    take 50 (drop 24 torn_file),
    drop 74 (take 75 torn_file),
    refl,
    first_text,
    (let left : length (drop 74 (take 75 torn_file)) ≡ 1 = refl in inl (omega arith, omega arith)),
  );
}

header_99 : HasHeader (take 99 torn_file) Big Nano
header_99 =
    let len : length (take 99 torn_file) ≡ 99 = refl in
    record { whole = omega arith; magic = refl; version = (refl, refl); link = refl }

pub cut_99 : IsCase (take 99 torn_file) (nanosecond (first_packet ∷ []) true)
cut_99 = record {
  header = header_99;
  records = (
    take 50 (drop 24 torn_file),
    drop 74 (take 99 torn_file),
    refl,
    first_text,
    (let left : length (drop 74 (take 99 torn_file)) ≡ 25 = refl in let at_8 : captured Big (drop 74 (take 99 torn_file)) ≡ 34 =
        refl in inr (omega arith, omega arith, omega arith)),
  );
}

header_100 : HasHeader (take 100 torn_file) Big Nano
header_100 =
    let len : length (take 100 torn_file) ≡ 100 = refl in
    record { whole = omega arith; magic = refl; version = (refl, refl); link = refl }

pub cut_100 : IsCase (take 100 torn_file) (nanosecond (first_packet ∷ []) true)
cut_100 =
    record {
      header = header_100;
      records = (
        take 50 (drop 24 torn_file),
        drop 74 (take 100 torn_file),
        refl,
        first_text,
        (let left : length (drop 74 (take 100 torn_file)) ≡ 26 = refl in let at_8 : captured Big (drop 74 (take 100 torn_file)) ≡ 34 =
            refl in inr (omega arith, omega arith, omega arith)),
      );
    }
