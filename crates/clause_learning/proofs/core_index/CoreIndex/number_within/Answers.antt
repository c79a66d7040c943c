use Rattle.std.proofs.Common.{◌≡◌, false, true, sym, ◌∙◌}
use Rattle.clause_learning.proofs.CoreIndexFacts.{empty-contained, none-contained, within-of}
use Rattle.clause_learning.proofs.core_index.CoreIndex.number_within.Goals as goal

pub returns-then-self : goal.returns-then-self
returns-then-self c = empty-contained c.args.self.now.cores.items c.args.lits.now
    (c.requires.indexed.refuted c.if-self.true)

pub returns-in-None : goal.returns-in-None
returns-in-None c = none-contained c.args.self.now c.args.lits.now c.in_ok-set.set (λ yes. let x : false ≡ true =
    sym c.if-self.false ∙ yes in cc) c.requires.indexed c.in_ok-set.ensures c.in-None.ensures.none

pub returns : goal.returns
returns c =
    let w = c.in-Some.ensures.some in
    within-of c.args.self.now.cores.items c.args.lits.now w.0 c.in_ok-set.set c.in-Some.place c.in_ok-set.ensures w.1 w.2
