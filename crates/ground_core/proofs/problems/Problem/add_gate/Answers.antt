use Rattle.std.proofs.Common.{sym, subst}
use Rattle.ground_core.specs.Problems.{ProblemState, AreLitsOf}
use Rattle.ground_core.specs.ProblemFields.{state_of}
use Rattle.ground_core.proofs.Mores.{gate-added}
use Rattle.ground_core.proofs.problems.Problem.add_gate.Goals as goal

pub returns-clause-adds : goal.returns-clause-adds
returns-clause-adds c =
    let p : ProblemState = state_of c.self.inside in
    let within = subst (λ (q : ProblemState). AreLitsOf q.vars c.args.parts) (sym c.self.view_is) c.requires in
    rw (c.in_ok-push.ensures.ok, c.in_ok-out.ensures, ← c.self.view_is)
    (gate-added p c.args.all c.args.parts c.self.invariant within)
