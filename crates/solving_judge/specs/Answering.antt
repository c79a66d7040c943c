-- What answers a question.
use Rattle.std.specs.Prelude.{List}
use Rattle.lit_core.specs.declared.literals.Lit.{Lit}
use Rattle.lit_core.specs.Literals.{valuation}
use Rattle.ground_core.specs.declared.solving.Verdict.TheVariants.{Sat, Unsat}
use Rattle.ground_core.specs.Problems.{ProblemState}
use Rattle.ground_core.specs.Solving.{Answers}
use Rattle.solving_judge.specs.declared.additions.Found.{Found}
use Rattle.solving_judge.specs.declared.additions.Found.TheVariants.{Values, Core, Nothing}
use Rattle.solving_judge.specs.Sayings.{IsFirstValue}

-- what was found answers the question: values, with what the first term comes to, or a core
abbrev pub IsFound : ProblemState → List Lit → Found → Type 0
IsFound p assumed (Values values value) = Answers p assumed (Sat values) × IsFirstValue p (valuation values) value
IsFound p assumed (Core core) = Answers p assumed (Unsat core)
IsFound p assumed Nothing = Unit {0}
