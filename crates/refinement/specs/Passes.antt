-- What a theory asks of what is known, and the end of narrowing.
use Rattle.std.specs.Prelude.{[], true}
use Rattle.std.specs.List.{AllByRecursion}
use Rattle.kb_logic.specs.Trees.{TheoryTree}
use Rattle.kb_logic.specs.KnownAtoms.{KnownAtoms}
use Rattle.partial_structures.specs.Consistency.{KnowsMore}
use Rattle.bound_laws.specs.Closures.{Obeys, ObeysDefinition, ObeysFunctions}
use Rattle.quantifier_bounds.specs.Steps.{IsSound}

-- definitions and functions are obeyed
abbrev pub ObeysRest : TheoryTree → KnownAtoms → Type 0
ObeysRest t q = AllByRecursion (ObeysDefinition q) t.definitions × ObeysFunctions q

-- the theory is obeyed
abbrev pub ObeysTheory : TheoryTree → KnownAtoms → Type 0
ObeysTheory t q = AllByRecursion (λ f. Obeys q true f []) t.sentences × ObeysRest t q

-- what obeys the theory was reached, and by what it fixes alone
pub record IsReached (t : TheoryTree) (old new : KnownAtoms) : Type 0 where
  pub more : KnowsMore old new
  pub sound : IsSound old new (ObeysTheory t)
  pub obeys : ObeysTheory t new
