-- What the verdict on a packet is.
use Rattle.std.specs.Prelude.{◌≡◌}
use Rattle.mbuf.specs.Chain.{numbers_of}
use Rattle.pcapio.specs.Record.{packet_in}
use Rattle.stages_laws.specs.Output.{Forwarding, fate}
use Rattle.stages_laws.specs.declared.run.Run.{Ghosts}
use Rattle.run_one.specs.Packets.{fate_with}
use Rattle.run_one.specs.declared.packet.Judged.{Judged}
use Rattle.run_one.specs.declared.packet.Unjudged.{Unjudged}

module _ {J : Type 0} {G : Ghosts J} where
  -- the packet with the same number and in the same buffers, with the verdict on its frame, and as it leaves
  pub record IsVerdictOf (forwarding : Forwarding) (x : Unjudged J G) (y : Judged J G) : Type 0 where
    pub seq : y.seq ≡ x.seq
    pub fate : fate_with y.verdict (packet_in y.seconds y.fraction y.wire y.chain)
        ≡ fate forwarding (packet_in x.seconds x.fraction x.wire x.chain)
    pub numbers : numbers_of y.chain ≡ numbers_of x.chain
