use Rattle.std.proofs.Common.{◌≤◌, length, rules}
use Rattle.pcapio.specs.ReadBuffer.{unread}
use Rattle.pcapio.proofs.Windows.{read_more}
use Rattle.pcapio.proofs.read_buffer.ReadBuffer.fill.Goals as goal

pub loop-at-preserved : goal.loop-at-preserved
loop-at-preserved g c =
    let i = c.loop-at.invariant in
    let bound : c.in_ok-count.count ≤ length c.read.new.out = c.in_ok-count.ensures.bound.0 in
    record {
      within = search rules;
      same = search rules;
      taken = read_more (unread g.R.Read.remaining c.args.self.now c.args.device.now) (unread g.R.Read.remaining c.loop-at.self c.loop-at.device)
          (unread g.R.Read.remaining c.read.new.self c.read.new.device) c.loop-at.out c.read.new.out c.loop-at.at _ c.in_ok-count.count i.within bound i.taken
          c.in_ok-count.ensures.bytes.0;
      well = search rules;
    }
