-- How many items are queued on a ring
use Rattle.std.specs.Prelude.{◌≡◌, ℕ, ◌-◌, List, min}
use Rattle.geom.specs.declared.plan.RingPlan.{RingPlan}
use Rattle.geom.specs.declared.plan.Side.TheVariants.{Put, Take}
use Rattle.ringcore_laws.specs.History.{position_of}
use Rattle.fabric_laws.specs.declared.view.View.{View}
use Rattle.fabric_laws.specs.Changes.{loaded}
use Rattle.fabric_laws.specs.Refusals.{Was}
use Rattle.fabric_laws.specs.Words.{settled_word_at}

-- how many items are queued between what was found of the take side and of the put side, no more than the ring takes
abbrev pub queued_between : RingPlan → (taken published : ℕ) → ℕ
queued_between plan taken published =
    min (position_of plan.geometry plan.put published - position_of plan.geometry plan.take taken) plan.geometry.capacity

module _ {T : Type 0} (tags : T → List ℕ) where
  -- What a count finds by two loads: how far the take side was settled, and then how far the put side was. Both may have
  -- moved in between
  pub record CountsQueued (ring : ℕ) (plan : RingPlan) (v : View T) (count : ℕ) : Type 0 where
    pub taken : ℕ
    pub published : ℕ
    pub first : Was tags v (settled_word_at plan.take ring Take) taken
    pub second : Was tags (loaded v) (settled_word_at plan.put ring Put) published
    pub queued : count ≡ queued_between plan taken published
