use Rattle.std.proofs.Common.{ℕ, arith}
use Rattle.std.proofs.lemmas.List.{length-take, length-drop, length-append}
use Rattle.ipv4.proofs.Rewriting.{addresses-copied}
use Rattle.ipv4.proofs.rewrite.address.Goals as goal

pub returns : goal.returns
returns c =
    let e = c.copy_from_slice.ensures.after in
    let f = c.copy_from_slice-2.ensures.after in
    addresses-copied c.args.way.now c.args.front.now c.copy_from_slice.new.self c.copy_from_slice-2.new.self e f
    (omega (arith, c.copy_from_slice.ensures.len, length-take {A = ℕ}))
    (omega (arith, c.copy_from_slice-2.ensures.len, c.copy_from_slice.ensures.len, length-take {A = ℕ}, length-drop {A = ℕ}, length-append {A = ℕ}))
