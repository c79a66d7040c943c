use Rattle.consequences.specs.Indexed.{AreHashed}
use Rattle.consequences.proofs.ForcingFacts.{IsSoFar}
use Rattle.consequences.proofs.forcing.decide_each.Given as goal

abbrev pub invariant-loop-lit : goal.invariant-loop-lit
invariant-loop-lit g l =
    IsSoFar l.fn.question.assume.now l.fn.question.ask.now l.fn.question.atoms l.fn.question.seen.now l.lit-index
    l.findings.kept l.findings.found (g.S.Solve.state l.fn.s) (g.S.Solve.state l.s) l.fn.budget l.budget
    × AreHashed l.findings l.fn.question.assume.now × g.S.Solve.goes_on l.fn.s l.s
