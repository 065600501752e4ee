use Rattle.std.proofs.Common.{◌≡◌, ◌∙◌, ◌<◌, ◌≤◌, ◌⊎◌, ℕ, List, [], None, Some, ap, arith, inl, inr, length, slice_get, sym, take}
use Rattle.std.specs.Option.{option_map}
use Rattle.std.proofs.lemmas.List.{get_or-take, length-take}
use Rattle.std.proofs.lemmas.Option.{slice_get-get_or, slice_get-map, slice_get_past}
use Rattle.live_routes.specs.Ports.{sources_of}
use Rattle.live_routes.specs.declared.ports.Port.{Port}
use Rattle.live_routes.proofs.ports.source_of.Goals as goal

-- the ports after the 256th, and those that aren't there, have no source
past : (ports : List Port) (n : ℕ) → length (take 256 ports) ≤ n → slice_get (sources_of ports) n ≡ None
past ports n after = slice_get-map (λ p. p.mac) (take 256 ports) n ∙ ap (option_map (λ p. p.mac)) (slice_get_past (take 256 ports) n after)

pub returns-then-at-ge-MAX_PORTS : goal.returns-then-at-ge-MAX_PORTS
returns-then-at-ge-MAX_PORTS c =
    let after : length (take 256 c.args.ports.now) ≤ c.args.number = at c.then-at-ge-MAX_PORTS.either in
    sym (past c.args.ports.now c.args.number after)
  where
    at : (256 ≤ c.args.number) ⊎ ((c.args.number < 256) × (length c.args.ports.now ≤ c.args.number))
        → length (take 256 c.args.ports.now) ≤ c.args.number
    at (inl far) = omega (arith, far, length-take 256 c.args.ports.now)
    at (inr none) = omega (arith, none.1, length-take 256 c.args.ports.now)

pub returns : goal.returns
returns c =
    let ports = c.args.ports.now in
    let n = c.args.number in
    let there : n < length (take 256 ports) = omega (arith, c.if-at-ports.false, c.if-at-ge-MAX_PORTS.false, length-take 256 ports) in
    let d : Port = record { address = 0; mac = []; depth = 0; zero = 0 } in
    sym (slice_get-map (λ p. p.mac) (take 256 ports) n ∙ ap (option_map (λ p. p.mac))
    (slice_get-get_or (take 256 ports) n d there ∙ ap Some (get_or-take 256 ports n d c.if-at-ge-MAX_PORTS.false)))
