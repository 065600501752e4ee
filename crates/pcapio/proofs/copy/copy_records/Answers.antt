use Rattle.std.proofs.Common.{◌≤◌, ◌++◌, ◌-◌, ◌^◌, [], ◌∷◌, length, length-append, ap, ◌∙◌, refl, rules, arith, true}
use Rattle.std.proofs.KnownBytes.{Keeps-refl, Appends-nil}
use Rattle.std.proofs.lemmas.Result.{err_from_is_err_and}
use Rattle.mbuf.specs.Chain.{space_of}
use Rattle.pcapio.specs.WriteBuffer.{waiting}
use Rattle.pcapio.specs.ReaderState.{torn_of}
use Rattle.pcapio.proofs.Begins.{begins_self}
use Rattle.pcapio.proofs.Chains.{same_space}
use Rattle.pcapio.proofs.Runs.{none_stand, kept-stand, more-stand, one_stands, written-on, ended, ended-bad, copied, none-so, begins-all, begins-on, as_many}
use Rattle.pcapio.proofs.Runs.{err-so, stops-head, stops-one, failed-later}
use Rattle.pcapio.proofs.copy.copy_records.Goals as goal

pub loop-count-init : goal.loop-count-init
loop-count-init g c = record {
  packets = [];
  many = refl;
  stand = none_stand _ _;
  written = Appends-nil _;
  order = refl;
  reading = c.requires.reading;
  well = c.requires.no_failure;
  space = refl;
  no_read_failed = refl;
  no_write_failed = refl;
}

pub returns-in_err-head-clause-begins : goal.returns-in_err-head-clause-begins
returns-in_err-head-clause-begins g c =
    let i = c.loop-count.invariant in
    let p = err_from_is_err_and c.from_residual.result c.from_residual.ensures.1 in
    rw p.1 (begins-all (space_of c.args.chain.now) _ _ _ _ _ _ i.packets i.stand i.written (waiting c.loop-count.writer.behind, Keeps-refl _))

pub returns-in_err-head-clause-cause : goal.returns-in_err-head-clause-cause
returns-in_err-head-clause-cause g c =
    let i = c.loop-count.invariant in
    err-so c.from_residual.result c.in_err-head.field-0.0 _ c.from_residual.ensures.1
    (stops-head c.in_err-head.field-0.0 _ _ _ _ _ (c.in_err-head.ensures.cause i.reading)
    (λ bad. ended-bad _ _ _ _ i.packets i.order i.stand bad) (λ failed. failed-later _ _ _ i.no_read_failed failed))

pub returns-in_default-clause-copied : goal.returns-in_default-clause-copied
returns-in_default-clause-copied g c =
    let i = c.loop-count.invariant in
    let end = none-so c.in_ok-head.field-0 _ c.in_default.is (c.in_ok-head.ensures.end i.reading) in
    let same = c.torn.ensures ∙ ap torn_of end.1 in
    copied (space_of c.args.chain.now) _ _ _ _ i.packets c.torn.result (rw same (ended _ _ _ _ i.packets end.0 i.order i.stand end.2)) i.written

pub returns-in_default-clause-part : goal.returns-in_default-clause-part
returns-in_default-clause-part g c =
    let i = c.loop-count.invariant in
    begins-all (space_of c.args.chain.now) _ _ _ _ _ _ i.packets i.stand i.written (begins_self _)

pub returns-then-not-all-clause-part : goal.returns-then-not-all-clause-part
returns-then-not-all-clause-part g c =
    let i = c.loop-count.invariant in
    rw (c.in_ok-all.ensures.kept c.if-not-all.true)
    (begins-all (space_of c.args.chain.now) _ _ _ _ _ _ i.packets i.stand i.written (begins_self _))

pub returns-clause-part : goal.returns-clause-part
returns-clause-part g c =
    let i = c.loop-count.invariant in
    begins-all (space_of c.args.chain.now) _ _ _ _ _ _ i.packets i.stand i.written (begins_self _)

pub returns-in_err-all-clause-begins : goal.returns-in_err-all-clause-begins
returns-in_err-all-clause-begins g c =
    let i = c.loop-count.invariant in
    let p = err_from_is_err_and c.from_residual-in_err-all.result c.from_residual-in_err-all.ensures.1 in
    let told = c.in_err-all.ensures.begins in
    rw p.1 (begins-on (space_of c.args.chain.now) _ _ _ _ _ _ told.1 _ _ _ i.packets told.0 (same_space _ _ i.space)
    (c.in_ok-head.ensures.file.0 ∙ i.order) i.stand c.in_ok-head.ensures.rest i.written told.2 told.3)

pub returns-in_err-all-clause-cause : goal.returns-in_err-all-clause-cause
returns-in_err-all-clause-cause g c =
    let i = c.loop-count.invariant in
    err-so c.from_residual-in_err-all.result c.in_err-all.field-0.0 _ c.from_residual-in_err-all.ensures.1
    (stops-one c.in_err-all.field-0.0 _ _ _ _ _ c.in_err-all.ensures.cause
    (λ failed. failed-later _ _ _ (c.in_ok-head.ensures.no_failure ∙ i.no_read_failed) failed)
    (λ failed. failed-later _ _ _ i.no_write_failed failed))

pub returns-then-not-all-clause-copied : goal.returns-then-not-all-clause-copied
returns-then-not-all-clause-copied g c =
    let i = c.loop-count.invariant in
    let stand = kept-stand _ _ _ _ i.packets i.stand c.in_ok-head.ensures.rest in
    rw (c.in_ok-all.ensures.kept c.if-not-all.true)
    (copied (space_of c.args.chain.now) _ _ _ _ i.packets true
    (ended _ _ _ _ i.packets true (c.in_ok-head.ensures.file.0 ∙ i.order) stand (c.in_ok-all.ensures.torn c.if-not-all.true)) i.written)

pub loop-count-preserved : goal.loop-count-preserved
loop-count-preserved g c =
    let i = c.loop-count.invariant in
    let one = c.in_ok-all.ensures.ok c.if-not-all.false in
    let same = c.in_ok-head.ensures.file.0 ∙ i.order in
    record {
      packets = i.packets ++ one.0 ∷ [];
      many = omega (arith, length-append i.packets (one.0 ∷ []), i.many);
      stand = more-stand _ _ _ _ _ i.packets (one.0 ∷ []) same (kept-stand _ _ _ _ i.packets i.stand c.in_ok-head.ensures.rest) (one_stands _ _ _ one.0 one.1);
      written = written-on (space_of c.args.chain.now) _ _ _ _ i.packets (one.0 ∷ []) (same_space _ _ i.space) i.written one.2;
      order = c.in_ok-all.ensures.file.0 ∙ same;
      reading = search rules;
      well = c.in_ok-all.ensures.goes_on;
      space = c.in_ok-all.ensures.space ∙ i.space;
      no_read_failed = c.in_ok-all.ensures.read ∙ (c.in_ok-head.ensures.no_failure ∙ i.no_read_failed);
      no_write_failed = c.in_ok-all.ensures.written ∙ i.no_write_failed;
    }

pub returns-clause-endless : goal.returns-clause-endless
returns-clause-endless g c =
    let i = c.loop-count.invariant in
    let many : 2 ^ 64 - 1 ≤ length i.packets = omega (arith, i.many, c.loop-count-test.false) in
    as_many _ _ _ i.packets (2 ^ 64 - 1) i.stand many
