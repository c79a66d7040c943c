use Rattle.std.proofs.Common.{List, subst}
use Rattle.lit_core.specs.declared.literals.Lit.{Lit}
use Rattle.ground_core.specs.declared.parts.TermBound.{TermBound}
use Rattle.ground_core.specs.declared.solving.Verdict.TheVariants.{Unsat}
use Rattle.ground_core.specs.Solving.{Answers}
use Rattle.clause_learning.specs.Keeping.{AnswersWidened}
use Rattle.clause_learning.specs.LiveBounds.{IsNarrowed}
use Rattle.clause_learning.proofs.LiveFacts.{unsat-narrow}
use Rattle.clause_learning.proofs.keeper.Keeper.narrow.Goals as goal

pub returns-in_ok-narrowed-in-Unsat : goal.returns-in_ok-narrowed-in-Unsat
returns-in_ok-narrowed-in-Unsat c =
    let a = c.args.self.now in
    let assume = c.args.assume.now in
    let given : AnswersWidened a assume (Unsat c.in-Unsat.core) = subst (AnswersWidened a assume) c.in-Unsat.is
    c.requires.answers in
    let h = c.requires.keeper in
    unsat-narrow a.engine.problem a.live.items assume given.1.0 c.in-Unsat.core c.in_ok-narrowed-in-Unsat.field-0
    h.live given.1.2
    (subst (λ (bs : List TermBound). IsNarrowed bs assume c.in-Unsat.core c.in_ok-narrowed-in-Unsat.field-0)
    c.as_slice.ensures.value
    (subst (λ (ls : List Lit). IsNarrowed c.as_slice.result.now assume ls c.in_ok-narrowed-in-Unsat.field-0)
    c.as_slice-in-Unsat.ensures c.in_ok-narrowed-in-Unsat.ensures))
    (subst (λ (ls : List Lit). Answers a.engine.problem ls (Unsat c.in-Unsat.core)) given.1.1 given.2)
