use Rattle.std.proofs.Common.{◌≡◌, ◌++◌, ◌∙◌, ℕ, List, Option, ap, length, map, take}
use Rattle.std.proofs.lemmas.List.{length-map}
use Rattle.std.proofs.lemmas.Simd.{map-map}
use Rattle.lpm.specs.Match.{lookup_in}
use Rattle.lpm.specs.Prefixes.{Members}
use Rattle.live_routes.specs.declared.frame.Frame.{Frame}
use Rattle.live_routes.specs.Frames.{address_of, all_left_by, found_numbers}
use Rattle.live_routes.specs.Ports.{sources_of}
use Rattle.live_routes.proofs.Founds.{all_left_found, numbers_found}
use Rattle.live_routes.proofs.Places.{front}
use Rattle.live_routes.proofs.bursts.forward_all.Goals as goal

-- what the lookups found, of arrays that are as long as needed or longer
found_is : (m : Members) (frames : List Frame) (addresses rest : List ℕ) (hops more : List (Option ℕ)) → addresses ≡ map address_of frames
    → hops ≡ map (lookup_in m) (take (length frames) (addresses ++ rest))
    → take (length frames) (hops ++ more) ≡ map (λ f. lookup_in m (address_of f)) frames
found_is m frames addresses rest hops more written found =
    let n = length frames in
    let long : length addresses ≡ n = ap length written ∙ length-map frames address_of in
    let same : hops ≡ map (λ f. lookup_in m (address_of f)) frames =
    found ∙ ap (map (lookup_in m)) (front n addresses rest long ∙ written) ∙ map-map (lookup_in m) address_of frames in
    front n hops more (ap length same ∙ length-map frames (λ f. lookup_in m (address_of f))) ∙ same

pub returns-clause-verdicts : goal.returns-clause-verdicts
returns-clause-verdicts c =
    let m = c.args.fib.now.members in
    let is = found_is m c.args.frames.now c.write_addresses.new.addresses _ c.lookup_burst.new.hops _ c.write_addresses.ensures c.lookup_burst.ensures in
    let hops = c.hops-hops.ensures in
    let ports = c.ports-ports.ensures in
    c.forward_block.ensures.verdicts ∙ (λ k. found_numbers (hops k) (sources_of (ports k)) (is k) c.args.frames.now)
    ∙ numbers_found c.args.fib.now c.args.frames.now

pub returns-clause-frames : goal.returns-clause-frames
returns-clause-frames c =
    let m = c.args.fib.now.members in
    let is = found_is m c.args.frames.now c.write_addresses.new.addresses _ c.lookup_burst.new.hops _ c.write_addresses.ensures c.lookup_burst.ensures in
    let hops = c.hops-hops.ensures in
    let ports = c.ports-ports.ensures in
    c.forward_block.ensures.frames ∙ (λ k. all_left_by (hops k) (sources_of (ports k)) (is k) c.args.frames.now)
    ∙ all_left_found c.args.fib.now c.args.frames.now
