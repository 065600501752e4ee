use Rattle.std.proofs.Common.{rules}
use Rattle.std.proofs.lemmas.List.Sorted.{answers_always}
use Rattle.mbuf.specs.declared.entry.Entry.{Entry}
use Rattle.mbuf.proofs.Searching.{absent, found}
use Rattle.mbuf.proofs.entry.place_of.Goals as goal

pub returns-in-Ok : goal.returns-in-Ok
returns-in-Ok c =
    let search_is = c.in-Ok.ensures in
    let by_id = search_is.position (λ (entry : Entry). entry.id) (answers_always _ _ _ (λ f a r g called. search rules)) in
    record { absent = tt; found = found c.args.entries.now c.requires.rising c.args.id c.in-Ok.place search_is.bound by_id }

pub returns-in-Err-clause-absent : goal.returns-in-Err-clause-absent
returns-in-Err-clause-absent c =
    let by_id = c.in-Err.ensures.position (λ (entry : Entry). entry.id) (answers_always _ _ _ (λ f a r g called. search rules)) in
    absent c.args.entries.now c.requires.rising c.args.id c.in-Err.field-0 by_id
