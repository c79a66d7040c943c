use Rattle.std.proofs.Common.{List, Contains, get_or, subst}
use Rattle.std.proofs.lemmas.List.Elements.{All-contains, All-contains_itself}
use Rattle.lit_core.specs.declared.literals.Lit.{Lit}
use Rattle.lit_core.specs.Packing.{Fits}
use Rattle.clause_base.proofs.clause_db.append_once.Goals as goal

pub append-requires-2-clause-fits : goal.append-requires-2-clause-fits
append-requires-2-clause-fits c = λ k d lt.
    let l : Lit = get_or c.as_slice.result.now k d in
    let sorted = subst (λ (ls : List Lit). Contains ls l) c.as_slice.ensures (All-contains_itself c.as_slice.result.now
    k d lt) in
    let given = subst (λ (ls : List Lit). Contains ls l) c.fill.ensures.items
    (c.sort_once.ensures.once.from l sorted) in
    All-contains Fits c.args.lits.now l c.requires.fits given
