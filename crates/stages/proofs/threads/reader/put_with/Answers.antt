use Rattle.std.proofs.Common.{rules, arith}
use Rattle.stages.specs.Custody.{in_items}
use Rattle.stages.proofs.threads.reader.put_with.Goals as goal

pub send-requires : goal.send-requires
send-requires g c = (
  search rules,
  (omega arith, ((λ h same b. omega (arith, c.requires.yours h same b)), λ is. absurd (omega (arith, is)))),
)

pub returns-in_err-send : goal.returns-in_err-send
returns-in_err-send g c = record {
  kept = λ h same b. omega (arith, c.send.ensures.kept (in_items c.args.stock.now) (λ k is n. omega (arith, c.requires.yours k is n)) h same b);
}

pub returns-in_err-free_tested : goal.returns-in_err-free_tested
returns-in_err-free_tested g c = record {
  kept = λ h same b. omega (
    arith,
    c.free_tested.ensures.kept (in_items c.send.new.list)
        (λ k is n. omega (arith, c.send.ensures.kept (in_items c.args.stock.now) (λ m at o. omega (arith, c.requires.yours m at o)) k is n))
        h same b,
  );
}
