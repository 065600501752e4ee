-- A frame is sent through one of the existing ports.
use Rattle.std.proofs.Common.{◌≡◌, ◌<◌, ℕ, Bool, List, length, Option, None, Some, Result, Ok, Err, slice_get, refl, sym, ap, ◌∙◌, subst}
use Rattle.std.specs.Option.{option_map, option_and_then}
use Rattle.std.proofs.lemmas.Option.{slice_get_within}
use Rattle.lpm.specs.Prefixes.{Members}
use Rattle.lpm.specs.Match.{lookup_in}
use Rattle.ipv4.specs.Fields.{packet_of, destination_of}
use Rattle.ipv4.specs.Forwarding.{judged, judged_by, outcome_of, forwarded, forwarded_by}
use Rattle.ipv4.specs.Ports.{way_in, leaving}
use Rattle.ipv4.specs.declared.ports.Hop.{Hop}
use Rattle.ipv4.specs.declared.ports.Ports.{Ports}
use Rattle.ipv4.specs.declared.ports.Way.{Way}
use Rattle.ipv4.specs.declared.verdicts.Reason.{Reason}
use Rattle.ipv4.specs.declared.verdicts.Verdict.TheVariants.{Send}
use Rattle.ipv4.proofs.Drops.{found_led, judged_sent}

led_to : (hops : List Hop) (sources : List (List ℕ)) (hop : Option ℕ) (way : Way) → option_and_then (way_in hops sources) hop ≡ Some way
    → (h : ℕ) × (way_in hops sources h ≡ Some way)
led_to hops sources None way e = absurd (cc e)
led_to hops sources (Some h) way e = (h, e)

-- the port of a way has a source
has_source : (hops : List Hop) (sources : List (List ℕ)) (hop : ℕ) (way : Way) → way_in hops sources hop ≡ Some way → way.port < length sources
has_source hops sources hop way e = at (slice_get hops hop) refl
  where
    by : (entry : Hop) (from : Option (List ℕ)) → slice_get sources entry.port ≡ from → option_map (leaving entry) from ≡ Some way
        → way.port < length sources
    by entry None is f = absurd (cc f)
    by entry (Some from) is f =
        let same : leaving entry from ≡ way = cc f in
        subst (λ n. n < length sources) (ap (λ w. w.port) same) (slice_get_within sources entry.port from is)

    at : (o : Option Hop) → slice_get hops hop ≡ o → way.port < length sources
    at None is =
        absurd (cc (sym (ap (option_and_then (λ entry. option_map (leaving entry) (slice_get sources entry.port))) is) ∙ e))
    at (Some entry) is =
        by entry (slice_get sources entry.port) refl
        (sym (ap (option_and_then (λ entry. option_map (leaving entry) (slice_get sources entry.port))) is) ∙ e)

-- where a lookup found a hop for the frame
pub found_by_a_port : (hops : List Hop) (sources : List (List ℕ)) (found : Option ℕ) (frame : List ℕ) (wire port : ℕ) (tagged : Bool)
    → (forwarded_by hops sources found frame wire).verdict ≡ Send port tagged → port < length sources
found_by_a_port hops sources found frame wire port tagged is = at (judged_by hops sources found frame wire) refl
  where
    at : (r : Result Way Reason) → judged_by hops sources found frame wire ≡ r → port < length sources
    at (Err reason) e = absurd (cc (sym (ap (λ r. (outcome_of frame r).verdict) e) ∙ is))
    at (Ok way) e =
        let led = led_to hops sources found way (found_led hops sources found frame wire way e) in
        let sent : (outcome_of frame (Ok way)).verdict ≡ Send port tagged = sym (ap (λ r. (outcome_of frame r).verdict) e) ∙ is in
        let same : way.port ≡ port = cc sent in
        subst (λ n. n < length sources) same (has_source hops sources led.0 way led.1)

pub sent_by_a_port : (routes : Members) (ports : Ports) (frame : List ℕ) (wire : ℕ) → (port : ℕ) (tagged : Bool) →
    (forwarded routes ports frame wire).verdict ≡ Send port tagged
    → port < length ports.sources.items
sent_by_a_port routes ports frame wire port tagged is = at (judged routes ports frame wire) refl
  where
    at : (r : Result Way Reason) → judged routes ports frame wire ≡ r → port < length ports.sources.items
    at (Err reason) e =
        absurd (cc (sym (ap (λ r. (outcome_of frame r).verdict) e) ∙ is))
    at (Ok way) e =
        let led = led_to ports.hops.items ports.sources.items (lookup_in routes (destination_of (packet_of frame))) way (judged_sent routes ports frame wire way e).led in
        let sent : (outcome_of frame (Ok way)).verdict ≡ Send port tagged = sym (ap (λ r. (outcome_of frame r).verdict) e) ∙ is in
        let same : way.port ≡ port = cc sent in
        subst (λ n. n < length ports.sources.items) same (has_source ports.hops.items ports.sources.items led.0 way led.1)
