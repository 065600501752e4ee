use Rattle.std.proofs.Common.{◌≡◌, ◌∙◌, refl, sym, ap, subst, length, arith}
use Rattle.ipv4.specs.Forwarding.{forwarded}
use Rattle.ipv4.proofs.Ways.{sent_by_a_port}
use Rattle.run_one.specs.Packets.{HasPort}
use Rattle.run_one.specs.Turns.{IsVacant}
use Rattle.run_one.proofs.LentTurn.{lent_wire, lent_read, lent_fate}
use Rattle.run_one.proofs.one.lent.forward_lent.Goals as goal

pub forward_frame-verdict-requires-clause-wire : goal.forward_frame-verdict-requires-clause-wire
forward_frame-verdict-requires-clause-wire g c =
    lent_wire g.R.Read.remaining c.args.reader.now _ c.args.head c.lend-frame.result.now c.requires.pending (c.lend-frame.ensures.record c.lend-frame.result.now refl)

pub forward_frame-requires-clause-is : goal.forward_frame-requires-clause-is
forward_frame-requires-clause-is g c =
    let bytes = c.lend-frame.result.now in
    let rules = c.requires.settings.rules in
    lent_fate g.R.Read.remaining g.J.Run.input g.J.Run.room (length g.J.Run.before) g.J.Run.forwarding c.args.reader.now _ c.args.progress.now c.args.head bytes
    c.forward_frame-verdict.new.frame c.forward_frame-verdict.result c.requires.read c.requires.pending c.requires.fits
    (c.lend-frame.ensures.record bytes refl) (c.forward_frame-verdict.ensures.verdict ∙ ap (λ f. (f bytes c.args.head.wire).verdict) rules)
    (c.forward_frame-verdict.ensures.frame ∙ ap (λ f. (f bytes c.args.head.wire).frame) rules)

pub forward_frame-requires-clause-port : goal.forward_frame-requires-clause-port
forward_frame-requires-clause-port g c =
    let bytes = c.lend-frame.result.now in
    let many : length c.args.settings.now.ports.sources.items ≡ length g.J.Run.before = omega (arith, c.args.settings.now.ports.sources.ok.0, c.requires.settings.ports) in
    subst (HasPort (length g.J.Run.before)) (sym c.forward_frame-verdict.ensures.verdict)
    (subst (λ n. HasPort n (forwarded c.args.settings.now.table.members c.args.settings.now.ports bytes c.args.head.wire).verdict) many
    (sent_by_a_port c.args.settings.now.table.members c.args.settings.now.ports bytes c.args.head.wire))

pub returns-clause-read : goal.returns-clause-read
returns-clause-read g c =
    let bytes = c.lend-frame.result.now in
    let written = c.forward_frame-verdict.new.frame in
    let size : length written ≡ length bytes = omega arith in
    lent_read g.R.Read.remaining g.J.Run.input g.J.Run.room (length g.J.Run.before) c.args.reader.now _ c.args.progress.now _ c.args.head bytes
    c.requires.read c.requires.pending c.requires.fits (c.lend-frame.ensures.record written size) refl

pub returns-clause-vacant : goal.returns-clause-vacant
returns-clause-vacant g c = subst IsVacant (sym c.forward_frame.ensures.window) (λ n high. c.requires.vacant n (omega (arith, high)))
