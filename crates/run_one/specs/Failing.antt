-- How often the devices of a run's ports failed: as often as before, and the one that failed once more.
use Rattle.std.specs.Prelude.{◌≡◌, ◌<◌, ℕ, ◌+◌, ◌-◌, ◌^◌, ◌==◌, min, List, length, Option, None, Some, slice_get}
use Rattle.std.specs.Prelude.{if◌then◌else◌, ⊤}
use Rattle.pcapio.specs.Counted.{failures_of}
use Rattle.pcapio.specs.Writer.{sink_of}
use Rattle.pcapio.specs.declared.counted.Counted.{Counted}
use Rattle.pcapio.specs.declared.writer.Writer.{Writer}
use Rattle.run_one.specs.declared.fault.RunFault.{RunFault}
use Rattle.run_one.specs.declared.fault.RunFault.TheVariants.{Memory, Thread, Read, Write, Capture, Window, Worn}

-- how often device q failed, after n times before, if the device of this port failed
abbrev pub failures_after : ℕ → ℕ → Option ℕ → ℕ
failures_after n q None = n
failures_after n q (Some p) = if p == q then min (n + 1) (2 ^ 64 - 1) else n

module _ {W : Type 0} where
  -- the devices failed as often as this, and the one of this port once more
  abbrev pub FailedOnce : List ℕ → Option ℕ → List (Counted W) → Type 0
  FailedOnce before failed devices = (q : ℕ) (d : Counted W) (n : ℕ)
      → slice_get devices q ≡ Some d → slice_get before q ≡ Some n → failures_of d ≡ failures_after n q failed

  -- the device of each writer failed as often as it had, and the one of this port once more
  abbrev pub FailsOnce : List (Writer W) → List (Writer W) → Option ℕ → Type 0
  FailsOnce old new failed = (q : ℕ) (w : Writer W) → slice_get new q ≡ Some w
      → (was : Writer W) × (slice_get old q ≡ Some was)
      × (failures_of (sink_of w) ≡ failures_after (failures_of (sink_of was)) q failed)

  -- the same for the devices that were the writers'
  abbrev pub AllFailOnce : List (Writer W) → List (Counted W) → Option ℕ → Type 0
  AllFailOnce writers devices failed = (q : ℕ) (d : Counted W) → slice_get devices q ≡ Some d
      → (w : Writer W) × (slice_get writers q ≡ Some w)
      × (failures_of d ≡ failures_after (failures_of (sink_of w)) q failed)

  -- the device of this port failed, once, and no other one
  abbrev pub FailedAt : List ℕ → ℕ → List (Counted W) → Type 0
  FailedAt before port devices = (port < length devices) × FailedOnce before (Some port) devices

  -- a fault whose number is above that of a port's fault is returned only if no port's device failed
  abbrev pub HidesNoPort : List ℕ → List (Counted W) → RunFault → Type 0
  HidesNoPort before devices Memory = ⊤
  HidesNoPort before devices Thread = ⊤
  HidesNoPort before devices Read = ⊤
  HidesNoPort before devices (Write p) = ⊤
  HidesNoPort before devices (Capture fault) = FailedOnce before None devices
  HidesNoPort before devices Window = FailedOnce before None devices
  HidesNoPort before devices Worn = FailedOnce before None devices
