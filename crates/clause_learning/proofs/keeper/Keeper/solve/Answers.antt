use Rattle.std.proofs.Common.{ap}
use Rattle.clause_learning.specs.declared.keeper.Keeper.{Keeper}
use Rattle.clause_learning.specs.Keeping.{kept_of}
use Rattle.clause_learning.proofs.KeeperFacts.{new-refusal, refutes-within, spends-none}
use Rattle.clause_learning.proofs.keeper.Keeper.solve.Goals as goal

pub keep-requires-clause-new : goal.keep-requires-clause-new
keep-requires-clause-new g c =
    let none = rw c.in-Ok-None.field-0-is at c.in-Ok-None.ensures in
    new-refusal c.args.self.now c.search_widened.new.self c.args.assume.now c.in-Ok.verdict
    c.search_widened.ensures.index
    c.search_widened.ensures.problem c.in-Ok.ensures.verdict none

pub returns-in-Ok-Some-clause-verdict : goal.returns-in-Ok-Some-clause-verdict
returns-in-Ok-Some-clause-verdict g c =
    let found = rw c.in-Ok-Some.field-0-is at c.in-Ok-Some.ensures in
    let a : Keeper = c.args.self.now in
    (found.0, refutes-within a.engine.problem a.index.cores.items c.in-Ok-Some.core c.requires.keeper.refuted found.1)

pub returns-in-Err-clause-spends : goal.returns-in-Err-clause-spends
returns-in-Err-clause-spends g c =
    let a : Keeper = c.args.self.now in
    spends-none (kept_of a) _ c.args.budget.now c.count_search-in-Err.ensures.learnt
    (ap (λ v. v.items) c.count_search-in-Err.ensures.moments) c.requires.budget
