-- Literals that are hashed.
use Rattle.std.specs.Prelude.{◌≡◌, ◌↔◌, List, Any, Contains}
use Rattle.lit_core.specs.declared.literals.Lit.{Lit}
use Rattle.consequences.specs.declared.findings.Findings.{Findings}
use Rattle.consequences.specs.declared.kept.Kept.{Kept}

-- the literals are those of the kept ones
abbrev pub IsIndexed : List Lit → List Kept → Type 0
IsIndexed lits ks = (l : Lit) → Contains lits l ↔ Any (λ k. k.lit ≡ l) ks

-- both lists have the same literals
abbrev pub IsSetOf : List Lit → List Lit → Type 0
IsSetOf lits others = (l : Lit) → Contains lits l ↔ Contains others l

-- the literals that are kept are hashed, and so are those that are assumed
pub record AreHashed (f : Findings) (assume : List Lit) : Type 0 where
  pub kept : IsIndexed f.lits.keys f.kept
  pub assumed : IsSetOf f.assumed.keys assume
