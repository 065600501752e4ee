-- How one more record changes what was read so far, and what is reported at the end.
use Rattle.std.proofs.Common.{◌≡◌, ◌≤◌, ◌<◌, ◌*◌, ◌+◌, ◌++◌, ◌-◌, ◌^◌, ℕ, Bool, List, [], ◌∷◌, length, Option, None, refl, sym, ap, ◌∙◌, subst, arith}
use Rattle.std.proofs.Common.{length-append}
use Rattle.counters.specs.Counted.{counts_of}
use Rattle.counters.specs.Tally.{records_of}
use Rattle.pcapio.specs.Counted.{HasNotFailed}
use Rattle.pcapio.specs.Reader.{EndsSo, Takes, order_of, rest, source_of}
use Rattle.pcapio.specs.declared.reader.Reader.{Reader}
use Rattle.pcapio.proofs.Runs.{none_stand, one_stands, more-stand, ended, failed-later}
use Rattle.pcapio_laws.specs.Capture.{Packet, end_of}
use Rattle.stages_laws.specs.Input.{Input, IsInput}
use Rattle.stages_laws.specs.Output.{stamped, oversize}
use Rattle.run_one.specs.Packets.{IsRecord}
use Rattle.run_one.specs.Reading.{WhyNone}
use Rattle.run_one.specs.SoFar.{HasRead, IsAll}
use Rattle.run_one.specs.Turns.{IsEndless, WhyStopped}
use Rattle.run_one.specs.declared.fault.RunFault.{RunFault}
use Rattle.run_one.specs.declared.fault.RunFault.TheVariants.{Memory, Thread, Read, Write, Capture, Window, Worn}
use Rattle.run_one.specs.declared.records.read_state.ReadState.{ReadState}
use Rattle.run_one.proofs.Turning.{input_is, stopped, endless, found_is, one_stamped, none_stamped, one_oversize, none_oversize}

module _ {R : Type 0} (remaining : R → Option (List ℕ)) (input : Option Input) (room ports : ℕ) where
  -- before the first record
  pub none_read : (reader : Reader R) (progress : ReadState) → IsInput (order_of reader) (rest remaining reader) input → progress.count ≡ 0
      → progress.oversize ≡ counts_of ports 0 [] → length (counts_of ports 0 []).sent ≡ ports → records_of (counts_of ports 0 []) ≡ 0
      → HasRead remaining input room ports reader progress
  none_read reader progress is zero none wide empty = (
    order_of reader,
    rest remaining reader,
    [],
    record {
      whole = is;
      stand = none_stand _ _;
      same = refl;
      count = zero;
      skipped = none;
      wide = ap (λ t. length t.sent) none ∙ wide;
      many = omega (arith, zero, ap records_of none, empty);
    },
  )

  -- an oversize record was skipped, and counted
  pub passed_over : (old new : Reader R) (before after : ReadState) (packet : Packet) → HasRead remaining input room ports old before
      → order_of new ≡ order_of old → Takes remaining old new packet → 64 * room < length packet.bytes → after.count ≡ before.count
      → ((n : ℕ) → before.oversize ≡ counts_of (length before.oversize.sent) n [] → after.oversize ≡ counts_of (length before.oversize.sent) (n + 1) []) → length
      after.oversize.sent ≡ length before.oversize.sent
      → records_of after.oversize ≡ records_of before.oversize + 1 → HasRead remaining input room ports new after
  passed_over old new before after packet (order, all, packets, f) same takes large count skipped wide more = (
    order,
    all,
    packets ++ packet ∷ [],
    record {
      whole = f.whole;
      stand = more-stand _ _ _ _ _ packets (packet ∷ []) f.same f.stand (one_stands _ _ _ packet takes);
      same = same ∙ f.same;
      count = omega (arith, count, f.count, none_stamped room packets packet large);
      skipped = skipped (oversize room packets) (f.skipped ∙ ap (λ n. counts_of n (oversize room packets) []) (sym f.wide))
          ∙ (λ k. counts_of (f.wide k) (sym (one_oversize room packets packet large) k) []);
      wide = wide ∙ f.wide;
      many = omega (arith, count, more, f.many, length-append packets (packet ∷ []));
    },
  )

  -- a record was read, and numbered
  pub read_one : (old new : Reader R) (before after : ReadState) (packet : Packet) → HasRead remaining input room ports old before
      → order_of new ≡ order_of old → Takes remaining old new packet → length packet.bytes ≤ 64 * room → after.count ≡ before.count + 1
      → after.oversize ≡ before.oversize → HasRead remaining input room ports new after
  read_one old new before after packet (order, all, packets, f) same takes small count skipped = (
    order,
    all,
    packets ++ packet ∷ [],
    record {
      whole = f.whole;
      stand = more-stand _ _ _ _ _ packets (packet ∷ []) f.same f.stand (one_stands _ _ _ packet takes);
      same = same ∙ f.same;
      count = omega (arith, count, f.count, one_stamped room packets packet small);
      skipped = skipped ∙ (f.skipped ∙ ap (λ n. counts_of ports n []) (sym (none_oversize room packets packet small)));
      wide = ap (λ t. length t.sent) skipped ∙ f.wide;
      many = omega (arith, count, ap records_of skipped, f.many, length-append packets (packet ∷ []));
    },
  )

  -- its number is the number of records before it
  pub read_is : (old new : Reader R) (progress : ReadState) (packet : Packet) → HasRead remaining input room ports old progress
      → Takes remaining old new packet → length packet.bytes ≤ 64 * room → IsRecord input room progress.count packet
  read_is old new progress packet (order, all, packets, f) takes small =
      subst (λ n. IsRecord input room n packet) (sym f.count) (found_is _ _ _ _ _ input room packets packet f.whole f.same f.stand takes small)

  -- the file ends
  pub all_read : (old : Reader R) (progress : ReadState) (torn : Bool) → HasRead remaining input room ports old progress
      → EndsSo old.order (rest remaining old) torn → IsAll input room ports progress torn
  all_read old progress torn (order, all, packets, f) ends =
      let whole = input_is _ _ input packets (end_of torn) f.whole (ended _ _ _ _ packets torn f.same f.stand ends) in
      record {
        count = λ j known. f.count ∙ ap (λ ps. length (stamped room ps)) (sym (whole j known).0);
        skipped = λ j known. f.skipped ∙ ap (λ ps. counts_of ports (oversize room ps) []) (sym (whole j known).0);
        end = λ j known. (whole j known).1;
        wide = f.wide;
      }

  -- why there is no further record
  pub none_further : (old new : Reader R) (progress : ReadState) (fault : RunFault) → HasRead remaining input room ports old progress
      → WhyNone remaining old new fault → WhyStopped input old new None fault
  none_further old new progress fault (order, all, packets, f) why =
      stopped remaining order all input old old new None packets fault f.whole f.same f.stand refl why

  -- this many have been read: the input has too many
  pub too_many : (reader : Reader R) (progress : ReadState) → HasRead remaining input room ports reader progress
      → 2 ^ 64 - 1 ≤ progress.count + records_of progress.oversize → IsEndless input
  too_many reader progress (order, all, packets, f) many =
      endless _ _ _ input packets (2 ^ 64 - 1) f.whole f.stand (omega (arith, many, f.many))

-- why the reader stopped, since the start of a run
pub stopped_since : {R : Type 0} (input : Option Input) (start old new : Reader R) (failed later : Option ℕ) (fault : RunFault)
    → HasNotFailed (source_of start) (source_of old) → failed ≡ None → WhyStopped input old new failed fault → WhyStopped input start new later fault
stopped_since input start old new failed later Read worked none why = failed-later _ _ _ worked why
stopped_since input start old new failed later (Capture fault) worked none why = why
stopped_since input start old new failed later Window worked none why = why
stopped_since input start old new failed later Memory worked none why = absurd why
stopped_since input start old new failed later Thread worked none why = absurd why
stopped_since input start old new failed later (Write p) worked none why = absurd (cc (sym none ∙ why))
stopped_since input start old new failed later Worn worked none why = absurd why
