-- The table of drops: the frames for which no row of it holds.
use Rattle.std.proofs.Common.{◌≡◌, ℕ, ◌-◌, ◌≤◌, Bool, true, false, not, eqb, ltb, List, [], ◌∷◌, length, Option, Some, None, Ok, refl, sym, ap, ◌∙◌, eq-eqb, arith}
use Rattle.std.specs.Prelude.{⊤, if◌then◌else◌, option_and_then, unwrap_or}
use Rattle.std.proofs.lemmas.Bool.Decides.{nat_tests}
use Rattle.lpm.specs.Prefixes.{Members}
use Rattle.ipv4.specs.declared.ports.Hop.{Hop}
use Rattle.ipv4.specs.declared.ports.Ports.{Ports}
use Rattle.ipv4.specs.declared.ports.Way.{Way}
use Rattle.ipv4.specs.declared.verdicts.Reason.{Reason}
use Rattle.lpm.specs.Match.{lookup_in}
use Rattle.ipv4.specs.Fields.{offset_of, type_of, packet_of, header_len, total_len, destination_of}
use Rattle.ipv4.specs.Forwarding.{drops, first_reason, way_from, way_or, judged, judged_along, judged_by, destination_in, IsForwardable}
use Rattle.ipv4.specs.Ports.{way_in}

-- no row of the table holds
pub record IsPassed (frame : List ℕ) (wire : ℕ) : Type 0 where
  pub long : 14 ≤ length frame
  pub typed : offset_of frame ≤ length frame
  pub ipv4 : type_of frame ≡ 2048
  pub headed : 20 ≤ length (packet_of frame)
  pub holds_header : header_len (packet_of frame) ≤ total_len (packet_of frame)
  pub on_wire : total_len (packet_of frame) ≤ wire - offset_of frame
  pub right : IsForwardable (packet_of frame)

-- the frame is sent this way
pub record IsSent (routes : Members) (ports : Ports) (frame : List ℕ) (wire : ℕ) (way : Way) : Type 0 where
  pub long : 14 ≤ length frame
  pub typed : offset_of frame ≤ length frame
  pub ipv4 : type_of frame ≡ 2048
  pub headed : 20 ≤ length (packet_of frame)
  pub holds_header : header_len (packet_of frame) ≤ total_len (packet_of frame)
  pub on_wire : total_len (packet_of frame) ≤ wire - offset_of frame
  pub right : IsForwardable (packet_of frame)
  pub led : way_from routes ports (packet_of frame) ≡ Some way

below : (a b : ℕ) → b ≤ a → ltb a b ≡ false
below a b h = grind (arith, nat_tests)

not_below : (a b : ℕ) → ltb a b ≡ false → b ≤ a
not_below a b h = grind (arith, nat_tests)

same : (a b : ℕ) → a ≡ b → not (eqb a b) ≡ false
same a b h = grind (arith, nat_tests)

is_same : (a b : ℕ) → not (eqb a b) ≡ false → a ≡ b
is_same a b h = grind (arith, nat_tests)

-- no row holds
abbrev AllPassed : List (Bool × Reason) → Type 0
AllPassed [] = ⊤
AllPassed (row ∷ rows) = (row.0 ≡ false) × AllPassed rows

one_passed : (b : Bool) (reason : Reason) (rest : Option Reason) → (if b then Some reason else rest) ≡ None → (b ≡ false) × (rest ≡ None)
one_passed true reason rest e = absurd (cc)
one_passed false reason rest e = (refl, e)

all_passed : (rows : List (Bool × Reason)) → first_reason rows ≡ None → AllPassed rows
all_passed [] e = tt
all_passed (row ∷ rows) e = let passed = one_passed row.0 row.1 (first_reason rows) e in (passed.0, all_passed rows passed.1)

led_by : (reason : Option Reason) (found : Option Way) (way : Way) → way_or reason found ≡ Ok way → (reason ≡ None) × (found ≡ Some way)
led_by (Some reason) found way e = absurd (cc)
led_by None None way e = absurd (cc)
led_by None (Some other) way e = (refl, cc)

pub passed : (frame : List ℕ) (wire : ℕ) → first_reason (drops frame wire) ≡ None → IsPassed frame wire
passed frame wire e =
    let rows = all_passed (drops frame wire) e in
    record {
      long = not_below _ _ rows.0;
      typed = not_below _ _ rows.1.0;
      ipv4 = is_same _ _ rows.1.1.0;
      headed = not_below _ _ rows.1.1.1.0;
      holds_header = not_below _ _ rows.1.1.1.1.1.1.1.0;
      on_wire = not_below _ _ rows.1.1.1.1.1.1.1.1.0;
      right = record {
        version = is_same _ _ rows.1.1.1.1.0;
        least = not_below _ _ rows.1.1.1.1.1.0;
        whole = not_below _ _ rows.1.1.1.1.1.1.0;
        summed = is_same _ _ rows.1.1.1.1.1.1.1.1.1.0;
        alive = not_below _ _ rows.1.1.1.1.1.1.1.1.1.1.0;
      };
    }

-- a frame whose destination was looked up has passed, if it is sent
pub sent_passed : (led : Option Way) (frame : List ℕ) (wire : ℕ) (way : Way) → judged_along led frame wire ≡ Ok way
    → IsPassed frame wire
unfolding judged_along
sent_passed led frame wire way e = passed frame wire (led_by (first_reason (drops frame wire)) led way e).0

pub found_led : (hops : List Hop) (sources : List (List ℕ)) (found : Option ℕ) (frame : List ℕ) (wire : ℕ) (way : Way)
    → judged_by hops sources found frame wire ≡ Ok way → option_and_then (way_in hops sources) found ≡ Some way
unfolding judged_along
found_led hops sources found frame wire way e =
    (led_by (first_reason (drops frame wire)) (option_and_then (way_in hops sources) found) way e).1

-- a frame that has passed has a destination
pub destination_passed : (frame : List ℕ) (wire : ℕ) → first_reason (drops frame wire) ≡ None → destination_in frame ≡ Some (destination_of (packet_of frame))
unfolding destination_in
destination_passed frame wire e =
    let is = passed frame wire e in
    simp (below _ _ is.long, below _ _ is.headed, eq-eqb _ _ is.ipv4)

-- so the lookup of its destination judges it
pub judged_found : (routes : Members) (ports : Ports) (frame : List ℕ) (wire : ℕ)
    → judged_by ports.hops.items ports.sources.items (lookup_in routes (unwrap_or (destination_in frame) 0)) frame wire ≡ judged routes ports frame wire
unfolding judged judged_along
judged_found routes ports frame wire = at (first_reason (drops frame wire)) refl
  where
    led : ℕ → Option Way
    led address = option_and_then (way_in ports.hops.items ports.sources.items) (lookup_in routes address)

    at : (o : Option Reason) → first_reason (drops frame wire) ≡ o
        → way_or (first_reason (drops frame wire)) (led (unwrap_or (destination_in frame) 0))
        ≡ way_or (first_reason (drops frame wire)) (led (destination_of (packet_of frame)))
    at None e = ap (λ (d : Option ℕ). way_or (first_reason (drops frame wire)) (led (unwrap_or d 0))) (destination_passed frame wire e)
    at (Some reason) e = ap (λ o. way_or o (led (unwrap_or (destination_in frame) 0))) e ∙ sym (ap (λ o. way_or o (led (destination_of (packet_of frame)))) e)

pub judged_sent : (routes : Members) (ports : Ports) (frame : List ℕ) (wire : ℕ) (way : Way) → judged routes ports frame wire ≡ Ok way
    → IsSent routes ports frame wire way
unfolding judged
judged_sent routes ports frame wire way e =
    let led = led_by (first_reason (drops frame wire)) (way_from routes ports (packet_of frame)) way e in
    let is = passed frame wire led.0 in
    record {
      long = is.long;
      typed = is.typed;
      ipv4 = is.ipv4;
      headed = is.headed;
      holds_header = is.holds_header;
      on_wire = is.on_wire;
      right = is.right;
      led = led.1;
    }

pub sent_judged : (routes : Members) (ports : Ports) (frame : List ℕ) (wire : ℕ) (way : Way) → IsSent routes ports frame wire way
    → judged routes ports frame wire ≡ Ok way
unfolding judged
sent_judged routes ports frame wire way sent =
    let right = sent.right in
    simp (
      below _ _ sent.long,
      below _ _ sent.typed,
      same _ _ sent.ipv4,
      below _ _ sent.headed,
      same _ _ right.version,
      below _ _ right.least,
      below _ _ right.whole,
      below _ _ sent.holds_header,
      below _ _ sent.on_wire,
      same _ _ right.summed,
      below _ _ right.alive,
      sent.led,
    )
