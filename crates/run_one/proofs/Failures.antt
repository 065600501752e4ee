-- How often the devices of a run failed, call by call.
use Rattle.std.proofs.Common.{◌≡◌, ◌≢◌, ℕ, ◌+◌, ◌-◌, ◌^◌, ◌==◌, min, true, false, List, Option, Some, None, slice_get, slice_set, map, refl, sym, ap, ◌∙◌}
use Rattle.std.proofs.Common.{subst, eq-eqb, ne_eqb}
use Rattle.std.specs.Option.{option_map}
use Rattle.std.proofs.lemmas.Option.{slice_get-map}
use Rattle.pcapio.specs.Counted.{failures_of, HasFailed, HasNotFailed}
use Rattle.pcapio.specs.Writer.{sink_of}
use Rattle.pcapio.specs.declared.counted.Counted.{Counted}
use Rattle.pcapio.specs.declared.writer.Writer.{Writer}
use Rattle.run_one.specs.Failing.{failures_after, FailedOnce, FailsOnce, AllFailOnce}
use Rattle.run_one.specs.Ports.{devices_of}
use Rattle.run_one.proofs.Devices.{writer_at}
use Rattle.run_one.proofs.Lists.{changed}

failing : (n p : ℕ) → failures_after n p (Some p) ≡ min (n + 1) (2 ^ 64 - 1)
failing n p = let e : (p == p) ≡ true = eq-eqb p p refl in rw e refl

not_failing : (n p q : ℕ) → q ≢ p → failures_after n q (Some p) ≡ n
not_failing n p q other = let e : (p == q) ≡ false = ne_eqb p q (λ f. other (sym f)) in rw e refl

module _ {W : Type 0} where
  pub none_fails : (writers : List (Writer W)) → FailsOnce writers writers None
  none_fails writers q w got = (w, got, refl)

  -- one writer was used, whose device worked, or failed
  pub one_works : (writers : List (Writer W)) (p : ℕ) (was new : Writer W) → slice_get writers p ≡ Some was
      → HasNotFailed (sink_of was) (sink_of new) → FailsOnce writers (slice_set writers p new) None
  one_works writers p was new at here =
      changed (λ q a b. failures_of (sink_of b) ≡ failures_of (sink_of a)) writers p was new at here (λ q w other. refl)

  pub one_fails : (writers : List (Writer W)) (p : ℕ) (was new : Writer W) → slice_get writers p ≡ Some was
      → HasFailed (sink_of was) (sink_of new) → FailsOnce writers (slice_set writers p new) (Some p)
  one_fails writers p was new at here =
      changed (λ q a b. failures_of (sink_of b) ≡ failures_after (failures_of (sink_of a)) q (Some p)) writers p was new at
      (here ∙ sym (failing (failures_of (sink_of was)) p)) (λ q w other. sym (not_failing (failures_of (sink_of w)) p q other))

  -- after calls in which no device failed
  pub fails_later : (old now new : List (Writer W)) (failed : Option ℕ) → FailsOnce old now None → FailsOnce now new failed → FailsOnce old new failed
  fails_later old now new failed before here q w got =
      let m = here q w got in
      let n = before q m.0 m.1 in
      (n.0, n.1, m.2 ∙ ap (λ k. failures_after k q failed) n.2)

  pub devices_fail : (old new : List (Writer W)) (devices : List (Counted W)) (failed : Option ℕ) → FailsOnce old new failed
      → devices ≡ devices_of new → AllFailOnce old devices failed
  devices_fail old new devices failed once same q d got =
      let w = writer_at new q d (ap (λ l. slice_get l q) (sym same) ∙ got) in
      let m = once q w.0 w.1 in
      (m.0, m.1, ap failures_of (sym w.2) ∙ m.2)

  device_at : (writers : List (Writer W)) (q : ℕ) (w : Writer W) → slice_get writers q ≡ Some w → slice_get (devices_of writers) q ≡ Some (sink_of w)
  device_at writers q w got = slice_get-map sink_of writers q ∙ ap (option_map sink_of) got

  pub fresh_failures : (before : List ℕ) (failed : Option ℕ) (devices : List (Counted W)) → map failures_of devices ≡ before → failed ≡ None
      → FailedOnce before failed devices
  fresh_failures before failed devices same well q d n got at =
      let e : Some (failures_of d) ≡ Some n =
      sym (slice_get-map failures_of devices q ∙ ap (option_map failures_of) got) ∙ (ap (λ l. slice_get l q) same ∙ at) in
      let f : failures_of d ≡ n = cc e in
      f ∙ ap (failures_after n q) (sym well)

  pub failures_turn : (before : List ℕ) (was failed : Option ℕ) (old new : List (Writer W)) → FailedOnce before was (devices_of old)
      → ((p : ℕ) → was ≡ Some p → (failed ≡ Some p) × (new ≡ old)) → (was ≡ None → FailsOnce old new failed)
      → FailedOnce before failed (devices_of new)
  failures_turn before None failed old new so_far still once q d n got at =
      let w = writer_at new q d got in
      let m = once refl q w.0 w.1 in
      let e : failures_of (sink_of m.0) ≡ n = so_far q (sink_of m.0) n (device_at old q m.0 m.1) at in
      ap failures_of (sym w.2) ∙ (m.2 ∙ ap (λ k. failures_after k q failed) e)
  failures_turn before (Some p) failed old new so_far still once q d n got at =
      let s = still p refl in
      let all : FailedOnce before failed (devices_of new) =
      subst (λ f. FailedOnce before f (devices_of new)) (sym s.0) (subst (λ ws. FailedOnce before (Some p) (devices_of ws)) (sym s.1) so_far) in
      all q d n got at

  pub closed_failures : (before : List ℕ) (was failed : Option ℕ) (writers : List (Writer W)) (devices : List (Counted W))
      → FailedOnce before was (devices_of writers) → was ≡ None → AllFailOnce writers devices failed → FailedOnce before failed devices
  closed_failures before was failed writers devices so_far well all q d n got at =
      let m = all q d got in
      let e : failures_of (sink_of m.0) ≡ n = so_far q (sink_of m.0) n (device_at writers q m.0 m.1) at ∙ ap (failures_after n q) well in
      m.2 ∙ ap (λ k. failures_after k q failed) e

  -- closing writes to no device after one has failed
  pub closed_once : (before : List ℕ) (failed now : Option ℕ) (writers : List (Writer W)) (devices : List (Counted W))
      → FailedOnce before failed (devices_of writers)
      → ((p : ℕ) → failed ≡ Some p → (now ≡ Some p) × (devices ≡ devices_of writers))
      → (failed ≡ None → AllFailOnce writers devices now) → FailedOnce before now devices
  closed_once before None now writers devices was still once = closed_failures before None now writers devices was refl (once refl)
  closed_once before (Some p) now writers devices was still once =
      let s = still p refl in
      subst (λ f. FailedOnce before f devices) (sym s.0) (subst (FailedOnce before (Some p)) (sym s.1) was)
