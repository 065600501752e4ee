use Rattle.std.proofs.Common.{[], ◌∷◌, ◌++◌, length-append, append_assoc, map, ap, ◌∙◌, rules, arith}
use Rattle.pcapio.specs.Record.{view}
use Rattle.pcapio.specs.ReaderState.{torn_of}
use Rattle.pcapio.proofs.Runs.{records-more, ended, ended-bad, none-so, some-so, all-begin, explains-all, err-so, failed-later}
use Rattle.pcapio.proofs.collect.collect_records.Goals as goal

pub returns-in_default-clause-part : goal.returns-in_default-clause-part
returns-in_default-clause-part g c =
    let i = c.loop-count.invariant in
    (i.given, c.reserve.ensures.items ∙ i.added, all-begin _ _ _ _ i.stand)

pub returns-in_err-record-clause-part : goal.returns-in_err-record-clause-part
returns-in_err-record-clause-part g c =
    let i = c.loop-count.invariant in
    (i.given, c.reserve.ensures.items ∙ i.added, all-begin _ _ _ _ i.stand)

pub returns-in_err-record-clause-cause : goal.returns-in_err-record-clause-cause
returns-in_err-record-clause-cause g c =
    let i = c.loop-count.invariant in
    err-so c.from_residual.result c.in_err-record.field-0.0 _ c.from_residual.ensures.1
    (explains-all c.in_err-record.field-0.0 _ _ _ _ (c.in_err-record.ensures.cause i.reading)
    (λ bad. ended-bad _ _ _ _ (map view i.given) i.order i.stand bad) (λ failed. failed-later _ _ _ i.no_read_failed failed))

pub returns-in_default-2-clause-all : goal.returns-in_default-2-clause-all
returns-in_default-2-clause-all g c =
    let i = c.loop-count.invariant in
    let end = none-so c.in_ok-record.field-0 _ c.in_default-2.is (c.in_ok-record.ensures.end i.reading) in
    let same = c.torn.ensures ∙ ap torn_of end.1 in
    (i.given, c.reserve.ensures.items ∙ i.added, rw same (ended _ _ _ _ (map view i.given) end.0 i.order i.stand end.2))

pub returns-in_default-2-clause-part : goal.returns-in_default-2-clause-part
returns-in_default-2-clause-part g c =
    let i = c.loop-count.invariant in
    (i.given, c.reserve.ensures.items ∙ i.added, all-begin _ _ _ _ i.stand)

pub loop-count-preserved : goal.loop-count-preserved
loop-count-preserved g c =
    let i = c.loop-count.invariant in
    let r = c.in-Some.record in
    let took = some-so c.in_ok-record.field-0 r _ c.in-Some.is c.in_ok-record.ensures.record in
    record {
      given = i.given ++ r ∷ [];
      many = omega (arith, length-append i.given (r ∷ []), i.many);
      added = c.in-Ok-push.ensures.items ∙ ap (λ l. l ++ r ∷ []) (c.reserve.ensures.items ∙ i.added) ∙ append_assoc _ i.given (r ∷ []);
      stand = records-more _ _ _ _ _ i.given r i.order i.stand took;
      order = c.in_ok-record.ensures.file.0 ∙ i.order;
      reading = search rules;
      no_read_failed = c.in_ok-record.ensures.no_failure ∙ i.no_read_failed;
    }
