use Rattle.std.proofs.Common.{◌≤◌, length, rules}
use Rattle.pcapio.specs.ReadBuffer.{items}
use Rattle.pcapio_laws.specs.Capture.{IsRefused}
use Rattle.pcapio.proofs.Headers.{refused-ahead}
use Rattle.pcapio.proofs.reader.Reader.open.Goals as goal

pub returns-in-Err-header_in-clause-cause : goal.returns-in-Err-header_in-clause-cause
returns-in-Err-header_in-clause-cause g c =
    let xs = items c.gather.new.self in
    let whole : 24 ≤ length xs = c.in-Ok-true.ensures.whole (search rules) in
    let refused : IsRefused xs c.in-Err-header_in.fault = rw (← c.as_slice.ensures) c.in-Err-header_in.ensures.err in
    refused-ahead _ _ (items c.in-Ok.ahead) xs c.in-Err-header_in.fault _ c.in-Ok.ensures c.gather.ensures.all whole refused c.in-Err-header_in.ensures.only
