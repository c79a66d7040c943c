use Rattle.std.proofs.Common.{sym, ◌∙◌}
use Rattle.solving_judge.proofs.MarkFacts.{alike-marks}
use Rattle.solving_judge.proofs.sides.Kept.new.Goals as goal

pub invariant_of-result : goal.invariant_of-result
invariant_of-result c = alike-marks c.args.problem.now c.in_ok-solver.solver.kept.problem c.marks_of.result
    c.marks_of.ensures.marks c.marks_of.ensures.none c.in_ok-solver.ensures.atoms c.in_ok-solver.ensures.vars
    c.in_ok-solver.ensures.terms (c.in_ok-solver.ensures.retired ∙ sym c.requires.retired)
