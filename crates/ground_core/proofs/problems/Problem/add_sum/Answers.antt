use Rattle.std.proofs.Common.{sym, subst}
use Rattle.ground_core.specs.Problems.{ProblemState, ArePartsOf}
use Rattle.ground_core.specs.ProblemFields.{state_of}
use Rattle.ground_core.proofs.Mores.{sum-added}
use Rattle.ground_core.proofs.problems.Problem.add_sum.Goals as goal

pub returns-clause-adds : goal.returns-clause-adds
returns-clause-adds c =
    let p : ProblemState = state_of c.self.inside in
    let within = subst (λ (q : ProblemState). ArePartsOf q.vars c.args.parts) (sym c.self.view_is) c.requires in
    rw (c.in_ok-push.ensures.ok, c.in_ok-out.ensures, ← c.self.view_is)
    (sum-added p c.args.kind c.args.parts c.args.least c.self.invariant within)
