use Rattle.std.proofs.Common.{List, subst}
use Rattle.lit_core.specs.declared.literals.Lit.{Lit}
use Rattle.ground_core.specs.Solving.{Answers}
use Rattle.clause_learning.specs.declared.keeper.Keeper.{Keeper}
use Rattle.clause_learning.proofs.KeeperFacts.{widened-later}
use Rattle.clause_learning.proofs.keeper.Keeper.search_widened.Goals as goal

pub narrow-requires-clause-answers : goal.narrow-requires-clause-answers
narrow-requires-clause-answers g c =
    let a : Keeper = c.args.self.now in
    let lits = c.in-Ok.list.items in
    widened-later a c.search.new.self c.args.assume.now lits c.in-Ok-search.verdict c.in-Ok-search.ensures.live
    c.in-Ok-search.ensures.problem c.in-Ok.ensures.widened
    (subst (λ (ls : List Lit). Answers a.engine.problem ls c.in-Ok-search.verdict) c.as_slice.ensures.value
    c.in-Ok-search.ensures.verdict)
