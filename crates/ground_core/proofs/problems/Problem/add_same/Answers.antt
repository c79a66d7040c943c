use Rattle.std.proofs.Common.{sym, subst}
use Rattle.ground_core.specs.Problems.{ProblemState, IsLitOf}
use Rattle.ground_core.specs.ProblemFields.{state_of}
use Rattle.ground_core.proofs.Mores.{same-added}
use Rattle.ground_core.proofs.problems.Problem.add_same.Goals as goal

pub returns-in-Ok-clause-adds : goal.returns-in-Ok-clause-adds
returns-in-Ok-clause-adds c =
    let p : ProblemState = state_of c.self.inside in
    let a_in = subst (λ (q : ProblemState). IsLitOf q.vars c.args.a) (sym c.self.view_is) c.requires.first in
    let b_in = subst (λ (q : ProblemState). IsLitOf q.vars c.args.b) (sym c.self.view_is) c.requires.second in
    rw (c.in-Ok.ensures.ok, c.in_ok-out.ensures, ← c.self.view_is)
    (same-added p c.args.a c.args.b c.self.invariant a_in b_in)
