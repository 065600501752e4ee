-- The header of a file, in the bytes that begin with it.
use Rattle.std.proofs.Common.{◌≡◌, ◌≢◌, ℕ, ◌≤◌, ◌%◌, ◌^◌, List, [], ◌++◌, length, take, Option, Some, None, IfSome, refl, sym, ap, ◌∙◌, arith, subst}
use Rattle.std.proofs.Common.{length-append}
use Rattle.std.proofs.lemmas.List.{take-append-le}
use Rattle.std.specs.Io.KnownBytes.{Keeps, prepend_known}
use Rattle.pcapio_laws.specs.declared.fault.CapFault.{CapFault}
use Rattle.pcapio_laws.specs.declared.fault.CapFault.TheVariants.{NotPcap, BadVersion, BadLink, BadRecord, Read, Write, Memory}
use Rattle.pcapio_laws.specs.declared.format.ByteOrder.{ByteOrder}
use Rattle.pcapio_laws.specs.Capture.{field, short_field, HasVersion, IsRefused, IsNotPcap, Short, Other, IsBadVersion, IsBadLink}
use Rattle.pcapio.specs.Reader.{Refuses}
use Rattle.pcapio_laws.proofs.Fields.{short_field-front, field-front}

module _ (xs ys : List ℕ) (whole : 24 ≤ length xs) where
  longer : 24 ≤ length (xs ++ ys)
  longer = omega (arith, length-append xs ys)

  magic-front : take 4 (xs ++ ys) ≡ take 4 xs
  magic-front = take-append-le 4 xs ys (omega arith)

  major-front : (order : ByteOrder) → short_field order 4 (xs ++ ys) ≡ short_field order 4 xs
  major-front order = short_field-front order 4 xs ys (omega arith)

  minor-front : (order : ByteOrder) → short_field order 6 (xs ++ ys) ≡ short_field order 6 xs
  minor-front order = short_field-front order 6 xs ys (omega arith)

  link-front : (order : ByteOrder) → field order 20 (xs ++ ys) ≡ field order 20 xs
  link-front order = field-front order 20 xs ys (omega arith)

  version-front : (order : ByteOrder) → HasVersion xs order → HasVersion (xs ++ ys) order
  version-front order h = (major-front order ∙ h.0, minor-front order ∙ h.1)

  version-back : (order : ByteOrder) → HasVersion (xs ++ ys) order → HasVersion xs order
  version-back order h = (sym (major-front order) ∙ h.0, sym (minor-front order) ∙ h.1)

  not_pcap-front : IsNotPcap xs → IsNotPcap (xs ++ ys)
  not_pcap-front (Short h) = absurd (omega arith)
  not_pcap-front (Other h) = Other (λ order resolution m. h order resolution (sym magic-front ∙ m))

  bad_version-front : IsBadVersion xs → IsBadVersion (xs ++ ys)
  bad_version-front h =
      record {
        order = h.order;
        resolution = h.resolution;
        whole = longer;
        magic = magic-front ∙ h.magic;
        version = λ v. h.version (version-back h.order v);
      }

  bad_link-front : IsBadLink xs → IsBadLink (xs ++ ys)
  bad_link-front h =
      record {
        order = h.order;
        resolution = h.resolution;
        whole = longer;
        magic = magic-front ∙ h.magic;
        version = version-front h.order h.version;
        link = λ l. h.link (ap (λ n. n % 2 ^ 16) (sym (link-front h.order)) ∙ l);
      }

  refused-front : (fault : CapFault) → IsRefused xs fault → fault ≢ BadRecord → IsRefused (xs ++ ys) fault
  refused-front NotPcap h n = not_pcap-front h
  refused-front BadVersion h n = bad_version-front h
  refused-front BadLink h n = bad_link-front h
  refused-front BadRecord h n = absurd (n refl)
  refused-front Read h n = absurd h
  refused-front Write h n = absurd h
  refused-front Memory h n = absurd h

known_ahead : (a d : Option (List ℕ)) (none xs : List ℕ) (fault : CapFault) → none ≡ [] → Keeps (prepend_known none a) (prepend_known xs d) → 24 ≤ length xs
    → IsRefused xs fault → fault ≢ BadRecord → IfSome a (λ known. IsRefused known fault)
known_ahead None d none xs fault e k whole h n = tt
known_ahead (Some x) None none xs fault e k whole h n = absurd k
known_ahead (Some x) (Some y) none xs fault e k whole h n =
    subst (λ known. IsRefused known fault) (k ∙ ap (λ l. l ++ x) e) (refused-front xs y whole fault h n)

pub refused-ahead : (a d : Option (List ℕ)) (none xs : List ℕ) (fault : CapFault) (F : Type 0) → none ≡ [] → Keeps (prepend_known none a) (prepend_known xs d)
    → 24 ≤ length xs
    → IsRefused xs fault → fault ≢ BadRecord → Refuses a fault F
refused-ahead a d none xs NotPcap F e k whole h n = known_ahead a d none xs NotPcap e k whole h n
refused-ahead a d none xs BadVersion F e k whole h n = known_ahead a d none xs BadVersion e k whole h n
refused-ahead a d none xs BadLink F e k whole h n = known_ahead a d none xs BadLink e k whole h n
refused-ahead a d none xs BadRecord F e k whole h n = absurd (n refl)
refused-ahead a d none xs Read F e k whole h n = absurd h
refused-ahead a d none xs Write F e k whole h n = absurd h
refused-ahead a d none xs Memory F e k whole h n = absurd h
