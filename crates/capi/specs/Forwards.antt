-- What calls on a reader of a forwarding table do: lookups and forwarding
use Rattle.std.specs.Prelude.{◌≡◌, ◌<◌, ◌≤◌, ℕ, true, false, All, List, length, map, Option, None, Some, Ok, Err}
use Rattle.ipv4.specs.declared.ports.Hop.{Hop}
use Rattle.live_routes.specs.Forwarding.{Forwarding}
use Rattle.live_value.specs.Lanes.{Glance}
use Rattle.live_value.specs.Pasts.{IsLater}
use Rattle.live_routes.specs.Addressed.{TellsOf, bits_of}
use Rattle.live_routes.specs.Frames.{IsWhole, forwarded_in, left, number_of_verdict, sent_count, verdict_by}
use Rattle.live_routes.specs.declared.addressed.Addressed.{Addressed}
use Rattle.live_routes.specs.declared.frame.Frame.{Frame}
use Rattle.live_routes.specs.declared.ports.Port.{Port}
use Rattle.capi.specs.Codes.{Outcome}
use Rattle.capi.specs.declared.rings.fault.Fault.TheVariants as fault
use Rattle.capi.specs.Handles.{IsEmpty, IsOther}
use Rattle.capi.specs.declared.object.Object.{Object}
use Rattle.capi.specs.declared.object.Object.TheVariants as object

-- the handle has a reader, of which this holds
abbrev pub HasForward : Option Object → (Glance (Forwarding Hop Port) → Type 0) → Type 0
HasForward None holds = ⊥
HasForward (Some (object.Forward f)) holds = holds f
HasForward (Some (object.Fib r)) holds = ⊥
HasForward (Some (object.Hand m)) holds = ⊥
HasForward (Some (object.Leftover r)) holds = ⊥
HasForward (Some (object.Pool p)) holds = ⊥
HasForward (Some (object.Routes t)) holds = ⊥
HasForward (Some (object.Reorder w)) holds = ⊥

-- a call of a reader: what it does
abbrev pub AtReader : Option Object → Option Object → Outcome
    → (Glance (Forwarding Hop Port) → Glance (Forwarding Hop Port) → Type 0) → Type 0
AtReader None new outcome does = IsEmpty outcome new
AtReader (Some (object.Forward f)) new outcome does = HasForward new (does f)
AtReader (Some (object.Fib r)) new outcome does = IsOther outcome (object.Fib r) new
AtReader (Some (object.Hand m)) new outcome does = IsOther outcome (object.Hand m) new
AtReader (Some (object.Leftover r)) new outcome does = IsOther outcome (object.Leftover r) new
AtReader (Some (object.Pool p)) new outcome does = IsOther outcome (object.Pool p) new
AtReader (Some (object.Routes t)) new outcome does = IsOther outcome (object.Routes t) new
AtReader (Some (object.Reorder w)) new outcome does = IsOther outcome (object.Reorder w) new

-- the reader saw nothing older than before, and nothing else than before if it held a publish, which it holds still
abbrev pub IsRead : Glance (Forwarding Hop Port) → Glance (Forwarding Hop Port) → Type 0
IsRead f g = IsLater g.seen f.seen × ((f.inside ≡ true) → (g.seen ≡ f.seen)) × (g.inside ≡ f.inside)

-- a call that is answered by one publish: the one that the reader holds, or the last one
abbrev pub AtForward : Option Object → Option Object → Outcome → (Forwarding Hop Port → Type 0) → Type 0
AtForward old new outcome does = AtReader old new outcome (λ f g. IsRead f g × does g.seen.latest)

-- a publish is held, which is no older than any that this handle saw; one that was held is held still
abbrev pub Holds : Outcome → Glance (Forwarding Hop Port) → Glance (Forwarding Hop Port) → Type 0
Holds outcome f g =
    (outcome ≡ Ok 0) × IsLater g.seen f.seen × ((f.inside ≡ true) → (g.seen ≡ f.seen)) × (g.inside ≡ true)

-- none is held
abbrev pub LetsGo : Outcome → Glance (Forwarding Hop Port) → Glance (Forwarding Hop Port) → Type 0
LetsGo outcome f g = (outcome ≡ Ok 0) × (g.seen ≡ f.seen) × (g.inside ≡ false)

-- a frame was forwarded: its bytes before and after; or it had more bytes than on the wire, and is as it was
abbrev pub Forwards : Outcome → ℕ → List ℕ → List ℕ → Forwarding Hop Port → Type 0
Forwards (Ok verdict) wire before after r =
    (length before ≤ wire) × (verdict ≡ number_of_verdict (forwarded_in r before wire).verdict)
    × (after ≡ (forwarded_in r before wire).frame)
Forwards (Err why) wire before after r = (why ≡ fault.Count) × (wire < length before) × (after ≡ before)

-- the verdict on a frame
abbrev pub Judges : Outcome → ℕ → List ℕ → Forwarding Hop Port → Type 0
Judges (Ok verdict) wire frame r =
    (length frame ≤ wire) × (verdict ≡ number_of_verdict (forwarded_in r frame wire).verdict)
Judges (Err why) wire frame r = (why ≡ fault.Count) × (wire < length frame)

-- 1 to 64 frames with a place each, none with more bytes than it had on the wire
pub record IsBurst (frames : List Frame) (places : List ℕ) : Type 0 where
  pub some : 0 < length frames
  pub few : length frames ≤ 64
  pub a_place_each : length places ≡ length frames
  pub whole : All IsWhole frames

-- frames were forwarded, each with the number of its verdict at its place, and so many were sent; or it is no burst, and
-- all is as it was
abbrev pub ForwardsAll : Outcome → List Frame → List Frame → List ℕ → List ℕ → Forwarding Hop Port → Type 0
ForwardsAll (Ok sent) before after places verdicts r =
    IsBurst before places × (verdicts ≡ map (verdict_by r) before) × (after ≡ map (left r) before)
    × (sent ≡ sent_count verdicts)
ForwardsAll (Err why) before after places verdicts r =
    (why ≡ fault.Count) × (IsBurst before places → ⊥) × (after ≡ before) × (verdicts ≡ places)

-- what a frame is addressed to that came in through this port; or there is no such port
abbrev pub TellsAddressed : Outcome → ℕ → List ℕ → Forwarding Hop Port → Type 0
TellsAddressed (Ok bits) port frame r = (a : Addressed) × (bits ≡ bits_of a) × TellsOf r.ports port frame (Some a)
TellsAddressed (Err why) port frame r = (why ≡ fault.Count) × TellsOf r.ports port frame None
