use Rattle.std.proofs.Common.{◌<◌, ◌≤◌, length, [], ◌∷◌, arith}
use Rattle.std.proofs.KnownBytes.{Keeps-refl}
use Rattle.std.proofs.lemmas.Result.{err_from_is_err_and}
use Rattle.mbuf.specs.Chain.{bytes_of, space_of}
use Rattle.pcapio.specs.WriteBuffer.{waiting}
use Rattle.pcapio.specs.Reader.{rest}
use Rattle.pcapio.specs.Record.{packet_of}
use Rattle.pcapio.proofs.Begins.{begins-more}
use Rattle.pcapio.proofs.Runs.{none_stand, one_stands, pending-takes, put_one, skipped_one, begins_one}
use Rattle.pcapio.proofs.copy.copy_record.Goals as goal

pub returns-in_err-all-clause-begins : goal.returns-in_err-all-clause-begins
returns-in_err-all-clause-begins g c =
    let p = err_from_is_err_and c.from_residual.result c.from_residual.ensures.1 in
    let r = c.args.reader.now in
    let w = c.args.writer.now in
    rw p.1 ([], rest g.R.Read.remaining r, none_stand r.order _, begins-more _ _ [] (waiting w.behind, Keeps-refl _))

pub returns-then-head-space-clause-ok : goal.returns-then-head-space-clause-ok
returns-then-head-space-clause-ok g c all =
    let found = c.in_ok-all.ensures.record all in
    let taken = pending-takes _ c.args.head _ c.requires.pending found.1 in
    let large : space_of c.args.chain.now < length found.0 = omega (arith, taken.0, c.space.ensures, c.if-head-space.true) in
    (packet_of c.args.head found.0, taken.1, skipped_one (space_of c.args.chain.now) _ (packet_of c.args.head found.0) large)

pub returns-in_err-all-2-clause-begins : goal.returns-in_err-all-2-clause-begins
returns-in_err-all-2-clause-begins g c =
    let p = err_from_is_err_and c.from_residual-in_err-all-2.result c.from_residual-in_err-all-2.ensures.1 in
    let r = c.args.reader.now in
    let w = c.args.writer.now in
    rw p.1 ([], rest g.R.Read.remaining r, none_stand r.order _, begins-more _ _ [] (waiting w.behind, Keeps-refl _))

pub returns-in_err-put-clause-begins : goal.returns-in_err-put-clause-begins
returns-in_err-put-clause-begins g c =
    let p = err_from_is_err_and c.from_residual-in_err-put.result c.from_residual-in_err-put.ensures.1 in
    let r = c.args.reader.now in
    let packet = packet_of c.args.head (bytes_of c.body.new.chain) in
    let space = space_of c.args.chain.now in
    let taken = pending-takes _ c.args.head _ c.requires.pending (c.in_ok-all-2.ensures.record c.if-all.true) in
    let small : length (bytes_of c.body.new.chain) ≤ space = omega (arith, taken.0, c.space.ensures, c.if-head-space.false) in
    rw p.1 (
      packet ∷ [],
      rest g.R.Read.remaining c.body.new.self,
      one_stands r.order _ _ packet taken.1,
      begins_one space _ _ packet small c.in_err-put.ensures.begins,
    )

pub returns-in_ok-put-clause-ok : goal.returns-in_ok-put-clause-ok
returns-in_ok-put-clause-ok g c all =
    let packet = packet_of c.args.head (bytes_of c.body.new.chain) in
    let space = space_of c.args.chain.now in
    let taken = pending-takes _ c.args.head _ c.requires.pending (c.in_ok-all-2.ensures.record all) in
    let small : length (bytes_of c.body.new.chain) ≤ space = omega (arith, taken.0, c.space.ensures, c.if-head-space.false) in
    (packet, taken.1, put_one space _ _ packet small c.in_ok-put.ensures.ok)
