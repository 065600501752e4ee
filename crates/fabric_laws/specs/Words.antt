-- Where the words and the slots of a ring are. Words that different threads write are 128 bytes apart, so that they
-- share no cache line
use Rattle.std.specs.Prelude.{ℕ, zero, suc, ◌+◌, ◌*◌, ◌%◌, List, [], ◌∷◌}
use Rattle.std.specs.List.{sum_by}
use Rattle.geom.specs.declared.plan.Mode.{Mode}
use Rattle.geom.specs.declared.plan.Mode.TheVariants.{Multi, Hts}
use Rattle.geom.specs.declared.plan.Side.{Side}
use Rattle.geom.specs.declared.plan.Side.TheVariants.{Put, Take}
use Rattle.geom.specs.declared.plan.RingPlan.{RingPlan}

-- the word by which a side is reserved: the head of a multi side, the one word of an HTS side
abbrev pub own_at : ℕ → Side → ℕ
own_at ring Put = 64 * ring
own_at ring Take = 64 * ring + 32

-- the tail of a multi side
abbrev pub tail_at : ℕ → Side → ℕ
tail_at ring Put = 64 * ring + 16
tail_at ring Take = 64 * ring + 48

-- the word that shows how far a side is settled
abbrev pub settled_word_at : Mode → ℕ → Side → ℕ
settled_word_at Multi ring side = tail_at ring side
settled_word_at Hts ring side = own_at ring side

-- how many slots a ring has
abbrev pub slots_in : RingPlan → ℕ
slots_in plan = plan.geometry.size

-- how many slots all rings have
abbrev pub slot_count : List RingPlan → ℕ
slot_count plans = sum_by slots_in plans

-- the rings' slots are in one row, ring after ring: how many slots the rings before this one have
abbrev pub slots_before : List RingPlan → ℕ → ℕ
slots_before plans zero = 0
slots_before [] (suc ring) = 0
slots_before (plan ∷ plans) (suc ring) = slots_in plan + slots_before plans ring

-- the slot of a position
abbrev pub slot_at : List RingPlan → ℕ → RingPlan → ℕ → ℕ
slot_at plans ring plan p = slots_before plans ring + p % slots_in plan
