-- What holds for free rings, besides soundness: each settled item carries one buffer, and nobody reserves more than it
-- could put
use Rattle.std.specs.Prelude.{ℕ, true, ◌<◌, ◌≤◌, ◌≡◌, ◌==◌, List, length, slice_get, slice_index_or, Some}
use Rattle.std.specs.List.{list_all, range_with_len, sum_by}
use Rattle.geom.specs.declared.plan.RingPlan.{RingPlan}
use Rattle.geom.specs.declared.plan.Side.TheVariants.{Put}
use Rattle.ringcore_laws.specs.declared.protocol.Span.{Span}
use Rattle.ringcore_laws.specs.declared.party.Party.{Party}
use Rattle.ringcore_laws.specs.RingSide.{listed, side_of}
use Rattle.ringcore_laws.specs.Sound.{holds}

module _ {I : Type 0} (tags : I → List ℕ) where
  -- each item carries exactly one buffer
  abbrev pub AreSingle : List I → Type 0
  AreSingle items = list_all (λ x. length (tags x) == 1) items ≡ true

  -- how many buffers a party has, held or cached
  unfoldable pub buffers_had : ℕ → Party I → ℕ
  buffers_had pool party = sum_by (λ b. holds tags b party) (range_with_len 0 pool)

  pub record FreeRule (plans : List RingPlan) (pool : ℕ) (parties : List (Party I)) : Type 0 where
    -- for each item that was put there; those that were taken are the first of them
    pub singles : (r : ℕ) (plan : RingPlan) → slice_get plans r ≡ Some plan → plan.free ≡ true
        → AreSingle (listed (side_of parties r Put))
    pub few : (k : ℕ) (d : Party I) → k < length parties → (s : Span) (plan : RingPlan)
        → (slice_index_or parties k d).span ≡ Some s
        → slice_get plans s.ring ≡ Some plan → s.side ≡ Put → plan.free ≡ true
        → s.count ≤ buffers_had pool (slice_index_or parties k d)
