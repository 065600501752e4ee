-- Worked numbers of verdicts, and what addresses are told apart
use Rattle.std.proofs.Common.{◌≡◌, ℕ, List, [], ◌∷◌, false, true, refl, inl, arith}
use Rattle.ipv4.specs.declared.verdicts.Reason.TheVariants.{Short, NoRoute}
use Rattle.ipv4.specs.declared.verdicts.Verdict.TheVariants.{Send, Drop}
use Rattle.ipv4.specs.Forwarding.{destination_in}
use Rattle.std.specs.Prelude.{None}
use Rattle.live_routes.specs.Addressed.{IsBroadcast, IsDirectedBroadcast, IsMulticast, IsOwn, IsToGroup, IsToPort, bits_of}
use Rattle.live_routes.specs.declared.ports.Port.{Port}
use Rattle.live_routes.specs.Frames.{HasSmallPort, number_of_verdict, sent_count}

-- a port with and without a tag, the first and the last reason
numbers : (number_of_verdict (Send 7 false) ≡ 7) × (number_of_verdict (Send 255 true) ≡ 0x100ff)
    × (number_of_verdict (Drop Short) ≡ 0x20001) × (number_of_verdict (Drop NoRoute) ≡ 0x20007)
numbers = (refl, refl, refl, refl)

-- the greatest port whose number is told from a tag
greatest : HasSmallPort (Send 65535 true)
greatest = omega arith

too_great : HasSmallPort (Send 65536 false) → ⊥
too_great is = absurd (omega (arith, is))

-- two of these four are sent
counted : sent_count (0 ∷ 0x20001 ∷ 0x100ff ∷ 0x20007 ∷ []) ≡ 2
counted = refl

-- host groups: the first and the last, and the addresses beside them
groups : IsMulticast 0xe0000000 × IsMulticast 0xefffffff
groups = (refl, refl)

below_groups : IsMulticast 0xdfffffff → ⊥
below_groups is = absurd (let z : ◌≡◌ {A = ℕ} 13 14 = is in omega (arith, z))

above_groups : IsMulticast 0xf0000000 → ⊥
above_groups is = absurd (let z : ◌≡◌ {A = ℕ} 15 14 = is in omega (arith, z))

-- a port with this address and prefix
abbrev port : ℕ → ℕ → Port
port address depth = record { address = address; mac = []; depth = depth; zero = 0 }

-- 192.168.7.9/24: its own address, and all hosts of its net
own : IsOwn 0xc0a80709 (port 0xc0a80709 24)
own = (omega arith, refl)

unnumbered : IsOwn 0 (port 0 0) → ⊥
unnumbered is = absurd (omega (arith, is.0))

all_hosts : IsDirectedBroadcast 0xc0a807ff (port 0xc0a80709 24)
all_hosts = (omega arith, omega arith, refl)

net_itself : IsDirectedBroadcast 0xc0a80700 (port 0xc0a80709 24) → ⊥
net_itself is = absurd (let z : ◌≡◌ {A = ℕ} 0xc0a80700 0xc0a807ff = is.2 in omega (arith, z))

-- 172.16.3.1/30 has one, 198.51.100.0/31 and 203.0.113.77/32 have none
smallest_net : IsDirectedBroadcast 0xac100303 (port 0xac100301 30)
smallest_net = (omega arith, omega arith, refl)

two_hosts : IsDirectedBroadcast 0xc6336401 (port 0xc6336400 31) → ⊥
two_hosts is = absurd (omega (arith, is.1))

one_host : IsDirectedBroadcast 0xcb00714d (port 0xcb00714d 32) → ⊥
one_host is = absurd (omega (arith, is.1))

-- all hosts, of any port's net
limited : IsBroadcast [] 0xffffffff
limited = inl refl

-- a frame to ff:ff:ff:ff:ff:ff and one to 02:00:00:00:00:01, with no packet
plain : ℕ → ℕ → List ℕ
plain first last = first ∷ 0 ∷ 0 ∷ 0 ∷ 0 ∷ last ∷ 7 ∷ 7 ∷ 7 ∷ 7 ∷ 7 ∷ 7 ∷ 8 ∷ 0 ∷ []

to_all : IsToGroup (plain 255 255)
unfolding plain
to_all = (omega arith, refl)

to_one : IsToGroup (plain 2 1) → ⊥
unfolding plain
to_one is = absurd (let z : ◌≡◌ {A = ℕ} 0 1 = is.1 in omega (arith, z))

to_port : IsToPort (2 ∷ 0 ∷ 0 ∷ 0 ∷ 0 ∷ 1 ∷ []) (plain 2 1)
unfolding plain
to_port = (omega arith, refl)

no_packet : destination_in (plain 2 1) ≡ None
unfolding destination_in plain
no_packet = refl

-- the bits
bits : bits_of (record { port = true; group = false; own = true; multicast = false; broadcast = true }) ≡ 21
bits = refl

other_bits : bits_of (record { port = false; group = true; own = false; multicast = true; broadcast = false }) ≡ 10
other_bits = refl
