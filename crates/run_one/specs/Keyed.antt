-- A window that has its packets at their own numbers.
use Rattle.std.specs.Prelude.{◌≡◌, ℕ, List, Option, Some}
use Rattle.std.specs.FinMap as map
use Rattle.mbuf.specs.Buffer.{Buffer}
use Rattle.reorder.specs.Waiting.{Waiting, after_next}
use Rattle.stages_laws.specs.declared.run.Run.{Ghosts}
use Rattle.run_one.specs.declared.packet.Judged.{Judged}

abbrev pub IsKeyed : {J : Type 0} {G : Ghosts J} → Waiting (Judged J G) → Type 0
IsKeyed {J} {G} w = (n : ℕ) (x : Judged J G) → map.get w.held n ≡ Some x → x.seq ≡ n

-- the packet whose turn it is was released, if it was there
abbrev pub LetsGo : {J : Type 0} {G : Ghosts J} → Waiting (Judged J G) → Waiting (Judged J G) → Option
    (List Buffer) → Type 0
LetsGo {J} {G} old new result = (x : Judged J G) → map.get old.held old.next ≡ Some x → (result ≡ Some x.chain)
    × (new ≡ after_next old)
