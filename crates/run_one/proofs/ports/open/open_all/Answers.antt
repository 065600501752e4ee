use Rattle.std.proofs.Common.{rules, ◌≡◌, ◌++◌, [], ◌∷◌, sym, ap, ◌∙◌, subst, slice_get, vec_len, arith, None}
use Rattle.std.specs.Prelude.{reverse}
use Rattle.std.specs.Io.KnownBytes.{Appends}
use Rattle.std.specs.Option.{option_to_list}
use Rattle.pcapio.specs.Counted.{told}
use Rattle.pcapio_laws.specs.Text.{file_header}
use Rattle.pcapio.specs.Writer.{text, fault_of, sink_of}
use Rattle.pcapio.specs.declared.counted.Counted.{Counted}
use Rattle.pcapio.specs.declared.writer.Writer.{Writer}
use Rattle.run_one.specs.Ports.{AreFresh, devices_of}
use Rattle.run_one.proofs.Lists.{each_append, each_alone, each_reverse, map_reverse, handed_on, nothing}
use Rattle.run_one.proofs.ports.open.open_all.Goals as goal

pub loop-device-preserved : goal.loop-device-preserved
loop-device-preserved g c =
    let i = c.loop-device.invariant in
    let P = λ (w : Writer g.row.W.Denot). Appends (told g.W.Write.contents (sink_of w)) (text g.W.Write.contents w) (file_header c.args.resolution) ×
    (fault_of w ≡ None) in
    let writer = c.in-Ok.writer in
    let device = c.in-Some.device in
    let popped : c.loop-device.devices.items ≡ c.pop.new.self.items ++ device ∷ [] =
    c.pop.ensures.items ∙ ap (λ o. c.pop.new.self.items ++ option_to_list o) c.in-Some.is in
    let here : P writer = (
      subst (λ (d : Counted g.row.W.Denot). Appends (told g.W.Write.contents d) (text g.W.Write.contents writer)
          (file_header c.args.resolution)) (sym c.in-Ok.ensures.device) c.in-Ok.ensures.text,
      c.in-Ok.ensures.begins,
    ) in
    record {
      all = ap (λ l. c.pop.new.self.items ++ reverse (devices_of l)) c.push_reserved.ensures.items
          ∙ handed_on sink_of c.loop-device.devices.items c.pop.new.self.items c.args.devices.items device c.loop-device.writers.items writer i.all
          popped c.in-Ok.ensures.device;
      fresh = subst (AreFresh g.W.Write.contents c.args.resolution) (sym c.push_reserved.ensures.items)
          (each_append P c.loop-device.writers.items (writer ∷ []) i.fresh (each_alone P writer here));
      room = search rules;
      back = search rules;
    }

pub invariant_of-result : goal.invariant_of-result
invariant_of-result g c =
    record {
      well = λ well q w got. each_reverse (λ (v : Writer g.row.W.Denot). fault_of v ≡ None) c.loop-device.writers.items
          (λ n v is. (c.loop-device.invariant.fresh n v is).1) q w
          (ap (λ l. slice_get l q) (sym c.reverse.ensures.items) ∙ got);
      port = λ p bad. absurd (cc bad);
    }

pub returns-clause-devices : goal.returns-clause-devices
returns-clause-devices g c =
    let i = c.loop-device.invariant in
    let some : c.pop.result ≡ None = c.in_default.is in
    let count : vec_len c.loop-device.devices ≡ 0 = let m = rw some at c.pop.ensures.cases in m.0 in
    let empty : c.loop-device.devices.items ≡ [] = nothing c.loop-device.devices.items (omega (arith, count, c.loop-device.devices.ok.0)) in
    ap devices_of c.reverse.ensures.items ∙ (sym (map_reverse sink_of c.loop-device.writers.items)
    ∙ (ap (λ l. l ++ reverse (devices_of c.loop-device.writers.items)) (sym empty) ∙ i.all))

pub returns-clause-fresh : goal.returns-clause-fresh
returns-clause-fresh g c q w got =
    let P = λ (w : Writer g.row.W.Denot). Appends (told g.W.Write.contents (sink_of w)) (text g.W.Write.contents w) (file_header c.args.resolution) ×
    (fault_of w ≡ None) in
    each_reverse P c.loop-device.writers.items c.loop-device.invariant.fresh q w (ap (λ l. slice_get l q) (sym c.reverse.ensures.items) ∙ got)
