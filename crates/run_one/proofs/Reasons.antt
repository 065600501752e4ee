-- Why a run has no summary, from the results of its parts.
use Rattle.std.proofs.Common.{◌≡◌, ◌≢◌, ◌≤◌, ℕ, List, Option, None, Result, Ok, Err, IfOk, IfErr, refl, sym, subst, arith}
use Rattle.pcapio.specs.Counted.{HasFailed}
use Rattle.pcapio.specs.Reader.{source_of}
use Rattle.pcapio.specs.declared.counted.Counted.{Counted}
use Rattle.pcapio.specs.declared.reader.Reader.{Reader}
use Rattle.stages_laws.specs.Input.{Input}
use Rattle.stages_laws.specs.declared.run.Run.{Ghosts}
use Rattle.run_one.specs.Ending.{WhyFaulted}
use Rattle.run_one.specs.Failing.{FailedAt, FailedOnce, HidesNoPort}
use Rattle.run_one.specs.Faults.{lowest_of, number_of}
use Rattle.run_one.specs.Turns.{WhyStopped}
use Rattle.run_one.specs.Whole.{WhyStoppedAt}
use Rattle.run_one.specs.declared.fault.RunFault.{RunFault}
use Rattle.run_one.specs.declared.fault.RunFault.TheVariants.{Memory, Thread, Read, Write, Capture, Window, Worn}
use Rattle.run_one.specs.declared.records.input_totals.InputTotals.{InputTotals}

module _ {J W : Type 0} (G : Ghosts J) where
  -- the turns ended as they did, and the run for that reason
  pub why_stopped_at : {R : Type 0} (input : Option Input) (failures : List ℕ) (next : ℕ) (totals : Result (InputTotals J G) RunFault) (old new : Reader R)
      (failed : Option ℕ) (source : Counted R) (devices : List (Counted W)) (fault : RunFault) → IfOk totals (λ s. next ≡ s.count)
      → IfErr totals (WhyStopped input old new failed) → source ≡ source_of new → WhyFaulted failures next totals devices fault
      → WhyStoppedAt input failures old source devices fault
  why_stopped_at input failures next (Ok s) old new failed source devices Memory turn stop is why = tt
  why_stopped_at input failures next (Ok s) old new failed source devices Thread turn stop is why = absurd (cc why.0)
  why_stopped_at input failures next (Ok s) old new failed source devices Read turn stop is why = absurd (cc why.0)
  why_stopped_at input failures next (Ok s) old new failed source devices (Write p) turn stop is why = why
  why_stopped_at input failures next (Ok s) old new failed source devices (Capture f) turn stop is why = absurd (cc why.0)
  why_stopped_at input failures next (Ok s) old new failed source devices Window turn stop is why = absurd (why.1 turn)
  why_stopped_at input failures next (Ok s) old new failed source devices Worn turn stop is why = absurd (cc why.0)
  why_stopped_at input failures next (Err reason) old new failed source devices Memory turn stop is why = tt
  why_stopped_at input failures next (Err reason) old new failed source devices Thread turn stop is why =
      absurd (subst (WhyStopped input old new failed) (sym why) stop)
  why_stopped_at input failures next (Err reason) old new failed source devices Read turn stop is why =
      subst (HasFailed (source_of old)) (sym is) (subst (WhyStopped input old new failed) (sym why) stop)
  why_stopped_at input failures next (Err reason) old new failed source devices (Write p) turn stop is why = why
  why_stopped_at input failures next (Err reason) old new failed source devices (Capture f) turn stop is why =
      subst (WhyStopped input old new failed) (sym why) stop
  why_stopped_at input failures next (Err reason) old new failed source devices Window turn stop is why =
      subst (WhyStopped input old new failed) (sym why) stop
  why_stopped_at input failures next (Err reason) old new failed source devices Worn turn stop is why =
      absurd (subst (WhyStopped input old new failed) (sym why) stop)

  pub why_lowest : (failures : List ℕ) (next : ℕ) (devices : List (Counted W)) (port : ℕ) (fault : RunFault) → FailedAt failures port devices
      → WhyFaulted {J = J} {W = W} {G = G} failures next (Err fault) devices (lowest_of port fault)
  why_lowest failures next devices port Memory at = refl
  why_lowest failures next devices port Thread at = refl
  why_lowest failures next devices port Read at = refl
  why_lowest failures next devices port (Write p) at = at
  why_lowest failures next devices port (Capture f) at = at
  why_lowest failures next devices port Window at = at
  why_lowest failures next devices port Worn at = at

  pub why_reason : (failures : List ℕ) (next : ℕ) (devices : List (Counted W)) (fault : RunFault) → ((p : ℕ) → fault ≡ Write p → FailedAt failures p devices)
      → WhyFaulted {J = J} {W = W} {G = G} failures next (Err fault) devices fault
  why_reason failures next devices Memory at = refl
  why_reason failures next devices Thread at = refl
  why_reason failures next devices Read at = refl
  why_reason failures next devices (Write p) at = at p refl
  why_reason failures next devices (Capture f) at = refl
  why_reason failures next devices Window at = refl
  why_reason failures next devices Worn at = refl

  pub why_window : (failures : List ℕ) (next : ℕ) (devices : List (Counted W)) (totals : InputTotals J G) (fault : RunFault) → fault ≡ Window → next ≢
      totals.count
      → WhyFaulted failures next (Ok totals) devices fault
  why_window failures next devices totals fault is other = subst (WhyFaulted failures next (Ok totals) devices) (sym is) (refl, other)

-- a port's fault is returned in place of one of the reader only if that one has no lower number
pub none_lower : (port p : ℕ) (fault : RunFault) → lowest_of port fault ≡ Write p → 4 ≤ number_of fault
none_lower port p Memory is = absurd (cc is)
none_lower port p Thread is = absurd (cc is)
none_lower port p Read is = absurd (cc is)
none_lower port p (Write q) is = omega arith
none_lower port p (Capture f) is = omega arith
none_lower port p Window is = omega arith
none_lower port p Worn is = omega arith

module _ {W : Type 0} (before : List ℕ) (devices : List (Counted W)) where
  -- where a port failed, its fault or a lower one is returned
  pub lowest_hides : (port : ℕ) (fault : RunFault) → HidesNoPort before devices (lowest_of port fault)
  lowest_hides port Memory = tt
  lowest_hides port Thread = tt
  lowest_hides port Read = tt
  lowest_hides port (Write q) = tt
  lowest_hides port (Capture f) = tt
  lowest_hides port Window = tt
  lowest_hides port Worn = tt

  -- where none failed, any fault may be
  pub none_hidden : FailedOnce before None devices → (fault : RunFault) → HidesNoPort before devices fault
  none_hidden once Memory = tt
  none_hidden once Thread = tt
  none_hidden once Read = tt
  none_hidden once (Write q) = tt
  none_hidden once (Capture f) = once
  none_hidden once Window = once
  none_hidden once Worn = once

  pub any_hidden : {X : Type 0} (r : Result X RunFault) → FailedOnce before None devices → IfErr r (HidesNoPort before devices)
  any_hidden (Ok x) once = tt
  any_hidden (Err fault) once = none_hidden once fault
