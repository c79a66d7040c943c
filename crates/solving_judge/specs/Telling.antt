-- What an outcome tells.
use Rattle.std.specs.Prelude.{◌≡◌, Bool, List, length}
use Rattle.kb_logic.specs.declared.structures.Literal.{Literal}
use Rattle.lit_core.specs.declared.literals.Lit.{Lit}
use Rattle.ground_core.specs.declared.solving.Verdict.TheVariants as verdict
use Rattle.ground_core.specs.Problems.{ProblemState}
use Rattle.ground_core.specs.Solving.{Answers}
use Rattle.solving_judge.specs.declared.asking.Outcome.{Outcome}
use Rattle.solving_judge.specs.declared.asking.Outcome.TheVariants.{Sat, Unsat, Spent, Wrong}
use Rattle.solving_judge.specs.declared.asking.Sides.{Sides}
use Rattle.solving_judge.specs.declared.problems.Spoken.{Spoken}
use Rattle.solving_judge.specs.Sayings.{problem_changed}

-- some values answer the question about the problem that was said; or so many of the literals, in their order, are
-- refuted by the problem of brute force
abbrev pub Tells : ProblemState → ProblemState → List Lit → Outcome → Type 0
Tells said tried assumed Sat = (values : List Bool) × Answers said assumed (verdict.Sat values)
Tells said tried assumed (Unsat count) = (core : List Lit) × (length core ≡ count)
    × Answers tried assumed (verdict.Unsat core)
Tells said tried assumed Spent = Unit {0}
Tells said tried assumed (Wrong why) = Unit {0}

-- what an outcome tells where this was said, whatever the ground atoms are, and these are asked
abbrev pub Told : Spoken → Sides → List Lit → Outcome → Type 0
Told spoken sides assumed outcome = (given : List Literal) → length given ≡ spoken.atoms
    → Tells (problem_changed given spoken.said.items sides.events.items) sides.force assumed outcome
