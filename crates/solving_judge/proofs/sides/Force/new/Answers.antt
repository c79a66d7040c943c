use Rattle.std.proofs.Common.{sym, ap, subst}
use Rattle.ground_core.specs.Problems.{ProblemState}
use Rattle.brute_force.specs.Trials.{TrialState}
use Rattle.solving_judge.specs.Marking.{AreMarks}
use Rattle.solving_judge.proofs.sides.Force.new.Goals as goal

pub invariant_of-result : goal.invariant_of-result
invariant_of-result c = subst (λ (p : ProblemState). AreMarks p c.marks_of-marks.result)
    (sym (ap (λ (s : TrialState). s.problem) c.in_ok-solver.ensures)) c.marks_of-marks.ensures.marks
