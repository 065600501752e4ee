use Rattle.std.proofs.Common.{rules, ◌≡◌, true, length, refl, ap, arith}
use Rattle.mbuf.specs.Chain.{bytes_of}
use Rattle.pcapio.specs.Reader.{Takes, TakesBody, pending_of}
use Rattle.pcapio.specs.Record.{packet_of}
use Rattle.pcapio.specs.ReaderState.{head_of}
use Rattle.pcapio.proofs.Runs.{some-so}
use Rattle.run_one.proofs.SoFar.{all_read, read_is, read_one}
use Rattle.run_one.proofs.Taken.{wire_is}
use Rattle.run_one.proofs.records.read_record.Goals as goal

pub returns-in-Ok-false-clause-torn : goal.returns-in-Ok-false-clause-torn
returns-in-Ok-false-clause-torn g c none = (
  all_read g.R.Read.remaining g.J.Run.input g.J.Run.room (length g.J.Run.before) c.args.reader.now c.args.progress.now true c.requires.read (search rules),
  refl,
)

pub invariant_of-packet : goal.invariant_of-packet
invariant_of-packet g c =
    let head = c.args.head in
    let packet = packet_of head (bytes_of c.body.new.chain) in
    let body : TakesBody g.R.Read.remaining c.args.reader.now c.body.new.self (bytes_of c.body.new.chain) = search rules in
    let takes : (length packet.bytes ≡ head.captured) × Takes g.R.Read.remaining c.args.reader.now c.body.new.self packet =
    some-so (pending_of c.args.reader.now) head
    (λ h. (length (bytes_of c.body.new.chain) ≡ h.captured) × Takes g.R.Read.remaining c.args.reader.now c.body.new.self
    (packet_of h (bytes_of c.body.new.chain)))
    (ap head_of c.requires.pending) body in
    record {
      is = read_is g.R.Read.remaining g.J.Run.input g.J.Run.room (length g.J.Run.before) c.args.reader.now c.body.new.self c.args.progress.now packet
          c.requires.read takes.1 (omega (arith, takes.0, c.requires.fits));
      captured = wire_is _ _ _ packet takes.1;
    }

pub returns-clause-read : goal.returns-clause-read
returns-clause-read g c =
    let head = c.args.head in
    let packet = packet_of head (bytes_of c.body.new.chain) in
    let body : TakesBody g.R.Read.remaining c.args.reader.now c.body.new.self (bytes_of c.body.new.chain) = search rules in
    let takes : (length packet.bytes ≡ head.captured) × Takes g.R.Read.remaining c.args.reader.now c.body.new.self packet =
    some-so (pending_of c.args.reader.now) head
    (λ h. (length (bytes_of c.body.new.chain) ≡ h.captured) × Takes g.R.Read.remaining c.args.reader.now c.body.new.self
    (packet_of h (bytes_of c.body.new.chain)))
    (ap head_of c.requires.pending) body in
    read_one g.R.Read.remaining g.J.Run.input g.J.Run.room (length g.J.Run.before) c.args.reader.now c.body.new.self c.args.progress.now _ packet
    c.requires.read c.body.ensures.file.0 takes.1 (omega (arith, takes.0, c.requires.fits)) refl refl
