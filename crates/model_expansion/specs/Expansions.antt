-- Models under assumptions.
use Rattle.std.specs.Prelude.{List}
use Rattle.lit_core.specs.declared.literals.Lit.{Lit}
use Rattle.ground_core.specs.declared.solving.Verdict.{Verdict}
use Rattle.ground_core.specs.declared.solving.Verdict.TheVariants.{Sat, Unsat}
use Rattle.ground_core.specs.Problems.{ProblemState}
use Rattle.ground_core.specs.Solving.{Answers, HasCoreWithin}

-- the verdict is right, and a kept core shows that what is assumed is refuted, where it is
abbrev pub Expands : ProblemState → List Lit → List (List Lit) → Verdict → Type 0
Expands p assumed cores (Sat values) = Answers p assumed (Sat values)
Expands p assumed cores (Unsat core) = Answers p assumed (Unsat core) × HasCoreWithin cores assumed
