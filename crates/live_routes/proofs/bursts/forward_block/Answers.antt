use Rattle.std.proofs.Common.{rules, arith, ◌<◌, ◌≤◌, ℕ, List, [], Option, length, get_or, map, subst, sym, ◌∙◌}
use Rattle.std.proofs.lemmas.List.{get_or_default, length-map}
use Rattle.std.specs.List.{zip}
use Rattle.std.proofs.lemmas.List.Elements.{All-get_or}
use Rattle.std.proofs.lemmas.Slice.Zip.{length-zip}
use Rattle.live_routes.specs.declared.frame.Frame.{Frame}
use Rattle.live_routes.specs.Frames.{IsWhole, all_left_by, found_number, found_numbers, left_by}
use Rattle.live_routes.specs.Ports.{sources_of}
use Rattle.live_routes.proofs.Places.{finished, rest_kept, same_place, zipped_more}
use Rattle.live_routes.proofs.bursts.forward_block.Goals as goal

-- a frame that isn't there
abbrev none : Frame
none = record { bytes = record { ref_ptr = (0, 0); ghost_name = 0; now = [] }; wire = 0 }

pub forward_in-requires : goal.forward_in-requires
forward_in-requires c =
    let v = c.loop-i.invariant in
    let here : c.loop-i.i < length c.args.frames.now = omega (arith, v.long, c.loop-i-test.true) in
    record {
      whole =
          subst IsWhole (sym (same_place c.loop-i.frames c.args.frames.now c.loop-i.i none v.rest))
          (All-get_or IsWhole c.args.frames.now c.loop-i.i none here c.requires.whole);
    }

pub loop-i-preserved : goal.loop-i-preserved
loop-i-preserved c =
    let v = c.loop-i.invariant in
    let i = c.loop-i.i in
    let hops = c.args.hops.now in
    let sources = (sources_of c.args.ports.now) in
    let found = c.args.found.now in
    let frames = c.args.frames.now in
    let frame = get_or c.loop-i.frames i none in
    let here : i < length frames = omega (arith, v.long, c.loop-i-test.true) in
    let there : i < length found = omega (arith, here, c.requires.found) in
    let place : i < length c.loop-i.verdicts = omega (arith, here, v.places) in
    let room : i < length c.loop-i.frames = omega (arith, here, v.long) in
    let at = get_or_default frames i frame none here ∙ sym (same_place c.loop-i.frames frames i none v.rest) in
    let hop = c.index-found-i.result in
    record {
      inside = search rules;
      long = search rules;
      places = search rules;
      left =
          zipped_more (λ p. left_by hops sources p.0 p.1) found frames c.loop-i.frames i hop frame c.forward_in.new.frame there here room
          (sym c.index-found-i.is) at v.left c.forward_in.ensures.frame;
      rest = rest_kept c.loop-i.frames frames i c.forward_in.new.frame v.rest;
      told =
          zipped_more (λ p. found_number hops sources p.0 p.1) found frames c.loop-i.verdicts i hop frame c.forward_in.result there here place
          (sym c.index-found-i.is) at v.told c.forward_in.ensures.verdict;
    }

-- as many results as frames
long_zip : {C : Type 0} (f : Option ℕ × Frame → C) (found : List (Option ℕ)) (frames : List Frame) (i : ℕ) → length frames ≤ i
    → length (map f (zip found frames)) ≤ i
long_zip f found frames i all = omega (arith, all, length-map (zip found frames) f, length-zip found frames)

pub returns-clause-verdicts : goal.returns-clause-verdicts
returns-clause-verdicts c =
    let v = c.loop-i.invariant in
    finished c.loop-i.verdicts (found_numbers c.args.hops.now (sources_of c.args.ports.now) c.args.found.now c.args.frames.now) c.loop-i.i
    (omega (arith, v.places, c.loop-i-test.false))
    (long_zip (λ p. found_number c.args.hops.now (sources_of c.args.ports.now) p.0 p.1) c.args.found.now c.args.frames.now c.loop-i.i c.loop-i-test.false) v.told

pub returns-clause-frames : goal.returns-clause-frames
returns-clause-frames c =
    let v = c.loop-i.invariant in
    finished c.loop-i.frames (all_left_by c.args.hops.now (sources_of c.args.ports.now) c.args.found.now c.args.frames.now) c.loop-i.i
    (omega (arith, v.long, c.loop-i-test.false))
    (long_zip (λ p. left_by c.args.hops.now (sources_of c.args.ports.now) p.0 p.1) c.args.found.now c.args.frames.now c.loop-i.i c.loop-i-test.false) v.left
