-- The replies to the lines of a steps file
use Rattle.std.specs.Prelude.{ℕ, ◌+◌, ◌-◌, ◌≡◌, ◌≤◌, nat_lt, not, ◌&&◌, List, [], ◌∷◌, ◌++◌, length, slice_get, Bool}
use Rattle.std.specs.Prelude.{true, false, Option, Some, None, is_some, IsTrue, ◌⊎◌, codes, decimal, if◌then◌else◌}
use Rattle.std.specs.Option.{unwrap_or}
use Rattle.std.specs.List.{flat_map}
use Rattle.geom.specs.Plan.{mode_of}
use Rattle.geom.specs.Word.{unpack}
use Rattle.geom.specs.declared.plan.Mode.{Mode}
use Rattle.geom.specs.declared.plan.Mode.TheVariants.{Multi, Hts}
use Rattle.geom.specs.declared.plan.Side.{Side}
use Rattle.geom.specs.declared.plan.RingPlan.{RingPlan}
use Rattle.ringcore_laws.specs.declared.contents.Item.{Item}
use Rattle.ringcore_laws.specs.declared.contents.Item.TheVariants.{Word, Buffers}
use Rattle.ringcore_laws.specs.declared.protocol.Step.{Step}
use Rattle.ringcore_laws.specs.declared.protocol.Step.TheVariants.{Look, Room, Reserve, SettlePut, SettleTake, Stash}
use Rattle.ringcore_laws.specs.declared.protocol.Step.TheVariants.{Unstash}
use Rattle.ringcore_laws.specs.declared.protocol.Reply.{Reply}
use Rattle.ringcore_laws.specs.declared.protocol.Reply.TheVariants.{Seen, Granted, Done, Busy, Contended, NoRoom}
use Rattle.ringcore_laws.specs.declared.protocol.Reply.TheVariants.{NotYet, Worn, NoSpan, BadCount, NotYours}
use Rattle.ringcore_laws.specs.declared.protocol.Place.{Place}
use Rattle.ringcore_laws.specs.declared.protocol.Place.TheVariants.{AtRing, Held, Cached, Nowhere}
use Rattle.ringcore_laws.specs.History.{reply_to}
use Rattle.ringcore_laws.specs.Place.{place}
use Rattle.ringcore.specs.Histories.{History, actors_of, pool_size, followed_by}
use Rattle.command_file.specs.Text.{Bytes, is_blank_or_comment}
use Rattle.command_file.specs.Files.{Kind, left_by, words_at, AreAdmitted}
use Rattle.steps_file.specs.Forms.{form_of}
use Rattle.steps_file.specs.Plans.{Named, nothing_named, with_line, opened, IsLawful}
use Rattle.steps_file.specs.declared.command.Command.{Command}
use Rattle.steps_file.specs.declared.command.Command.TheVariants.{Plan, Act, Ask}

-- 1. The text of a reply

-- a value that a step shows, in this mode: the own word of a head/tail-sync side is its position, `+`, and what is
-- reserved
abbrev pub value_text : Mode → ℕ → Bytes
value_text Multi value = decimal value
value_text Hts value = decimal (unpack value).0 ++ codes "+" ++ decimal (unpack value).1

abbrev pub mode_on : Option RingPlan → Side → Mode
mode_on None side = Multi
mode_on (Some plan) side = mode_of plan side

-- Look and Reserve show the own word of their side, all other steps show plain numbers
abbrev pub mode_shown : List RingPlan → Step → Mode
mode_shown rings (Look ring side) = mode_on (slice_get rings ring) side
mode_shown rings (Reserve ring side how count) = mode_on (slice_get rings ring) side
mode_shown rings (Room ring side) = Multi
mode_shown rings (SettlePut ring items) = Multi
mode_shown rings (SettleTake ring count) = Multi
mode_shown rings (Stash b) = Multi
mode_shown rings (Unstash b) = Multi

-- the numbers of the buffers, with a sign between them
abbrev pub buffers_text : List ℕ → Bytes
buffers_text [] = []
buffers_text (b ∷ buffers) = decimal b ++ flat_map (λ n. 43 ∷ decimal n) buffers

abbrev pub item_text : Item → Bytes
item_text (Word n) = codes "x" ++ decimal n
item_text (Buffers buffers) = codes "b" ++ buffers_text buffers

-- items, each after a space
abbrev pub items_text : List Item → Bytes
items_text items = flat_map (λ item. 32 ∷ item_text item) items

-- a reply without its end of line, if the step shows values in this mode
abbrev pub answer_text : Mode → Reply → Bytes
answer_text mode (Seen value) = codes "seen " ++ value_text mode value
answer_text mode (Granted start count left) =
    codes "granted " ++ decimal start ++ codes " " ++ decimal count ++ codes " left " ++ decimal left
answer_text mode (Done count items) = codes "done " ++ decimal count ++ items_text items
answer_text mode (Busy value) = codes "busy " ++ value_text mode value
answer_text mode (Contended value) = codes "contended " ++ value_text mode value
answer_text mode (NoRoom left) = codes "noroom " ++ decimal left
answer_text mode (NotYet tail) = codes "notyet " ++ decimal tail
answer_text mode Worn = codes "worn"
answer_text mode NoSpan = codes "nospan"
answer_text mode BadCount = codes "badcount"
answer_text mode NotYours = codes "notyours"

abbrev pub place_text : Place → Bytes
place_text (AtRing ring position) = codes "ring " ++ decimal ring ++ codes " at " ++ decimal position
place_text (Held actor) = codes "held " ++ decimal actor
place_text (Cached actor) = codes "cached " ++ decimal actor
place_text Nowhere = codes "nowhere"

-- 2. One line after another

-- the state after the lines so far: what the plan lines named, and the history of the steps, once there was a step line
pub record State : Type 0 where
  pub plan : Named
  pub run : Option History

abbrev pub start : State
start = record { plan = nothing_named; run = None }

-- the history at a step line: the plan is checked at the first one
abbrev pub running : State → History
running s = unwrap_or s.run (opened s.plan)

-- the reply to a step, by the rules of the rings
abbrev pub reply_in : History → ℕ → Step → Reply
reply_in h actor step = reply_to h.plans (pool_size h) (actors_of h) actor step

abbrev pub stepped : History → ℕ → Step → History
stepped h actor step = followed_by h (record { actor = actor; step = step; reply = reply_in h actor step } ∷ [])

-- where a buffer is, by the rules of the rings
abbrev pub place_in : History → ℕ → Place
place_in h b = place (length h.plans) (actors_of h) b

-- whether the ring of a step is below this number
abbrev pub is_on_ring : ℕ → Step → Bool
is_on_ring rings (Look ring side) = nat_lt ring rings
is_on_ring rings (Room ring side) = nat_lt ring rings
is_on_ring rings (Reserve ring side how count) = nat_lt ring rings
is_on_ring rings (SettlePut ring items) = nat_lt ring rings
is_on_ring rings (SettleTake ring count) = nat_lt ring rings
is_on_ring rings (Stash b) = true
is_on_ring rings (Unstash b) = true

-- whether a plan has the actor and the ring of a step
abbrev pub has_both : History → ℕ → Step → Bool
has_both h actor step = nat_lt actor h.actors && is_on_ring (length h.plans) step

-- whether a line is allowed here: a plan line before all step lines, and a step of an existing actor and ring
abbrev pub may_stand : State → Option Command → Bool
may_stand s None = false
may_stand s (Some (Plan line)) = not (is_some s.run)
may_stand s (Some (Act actor step)) = has_both (running s) actor step
may_stand s (Some (Ask b)) = true

-- the state after it
abbrev pub after_line : State → Option Command → State
after_line s None = s
after_line s (Some (Plan line)) = record { plan = with_line s.plan line; run = s.run }
after_line s (Some (Act actor step)) = record { plan = s.plan; run = Some (stepped (running s) actor step) }
after_line s (Some (Ask b)) = record { plan = s.plan; run = Some (running s) }

-- the reply to it
abbrev pub line_text : State → Option Command → Bytes
line_text s None = []
line_text s (Some (Plan line)) = []
line_text s (Some (Act actor step)) =
    answer_text (mode_shown s.plan.rings step) (reply_in (running s) actor step) ++ codes "\n"
line_text s (Some (Ask b)) = place_text (place_in (running s) b) ++ codes "\n"

-- how a steps file is answered
abbrev pub steps_file : Kind State
steps_file =
    record {
      opening = start;
      admits = λ s words. may_stand s (form_of words);
      answer = λ s words. line_text s (form_of words);
      follow = λ s words. after_line s (form_of words);
    }

-- 3. When the plan is checked

-- whether a line is a step line: the plan is checked at the first one
abbrev pub is_step : Option Command → Bool
is_step None = false
is_step (Some (Plan line)) = false
is_step (Some (Act actor step)) = true
is_step (Some (Ask b)) = true

abbrev pub judges : List Bytes → Bool
judges words = if is_blank_or_comment words then false else is_step (form_of words)

-- if a step line is among the first k lines, the plan is valid
abbrev pub IsJudgedBy : ℕ → List Bytes → Type 0
IsJudgedBy k lines = IsTrue (is_some (left_by steps_file k lines).run) → IsLawful (left_by steps_file k lines).plan

-- if line n is a step line, the plan before it is valid
abbrev pub IsJudgedAt : ℕ → List Bytes → Type 0
IsJudgedAt n lines = IsTrue (judges (words_at n lines)) → IsLawful (left_by steps_file (n - 1) lines).plan

-- the first k lines are allowed and without a step line, then comes a step line or the end, and the plan they name
-- isn't valid
pub record IsBadPlan (k : ℕ) (lines : List Bytes) : Type 0 where
  pub within : k ≤ length lines
  pub admitted : AreAdmitted steps_file k lines
  pub unopened : (left_by steps_file k lines).run ≡ None
  pub judged : (k ≡ length lines) ⊎ IsTrue (judges (words_at (k + 1) lines))
  pub unlawful : ¬ IsLawful (left_by steps_file k lines).plan
