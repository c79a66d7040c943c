-- A clause that follows from clauses one after another, by unit propagation.
use Rattle.std.specs.Prelude.{◌≡◌, List, [], ◌∷◌, ◌++◌, map, All, Contains, ◌⊎◌}
use Rattle.lit_core.specs.declared.literals.Lit.{Lit}
use Rattle.lit_core.specs.Literals.{negated}

-- the literals in force make every literal of the clause false
abbrev pub IsFalseUnder : List Lit → List Lit → Type 0
IsFalseUnder inforce c = All (λ m. Contains inforce (negated m)) c

-- neither the literal nor its negation is in force
abbrev pub IsOpenUnder : List Lit → Lit → Type 0
IsOpenUnder inforce l = (Contains inforce l → ⊥) × (Contains inforce (negated l) → ⊥)

-- the literal is the only one of the clause that the literals in force leave open, and they make the others false
pub record IsUnitUnder (inforce : List Lit) (c : List Lit) (l : Lit) : Type 0 where
  pub member : Contains c l
  pub opened : IsOpenUnder inforce l
  pub others : All (λ m. (m ≡ l) ⊎ Contains inforce (negated m)) c

-- each clause but the last has one open literal, which is then in force, and the last is false
abbrev pub RefutesInOrder : List Lit → List (List Lit) → Type 0
RefutesInOrder inforce [] = ⊥
RefutesInOrder inforce (c ∷ []) = IsFalseUnder inforce c
RefutesInOrder inforce (c ∷ d ∷ cs) = (l : Lit) × IsUnitUnder inforce c l × RefutesInOrder (inforce ++ l ∷ []) (d ∷ cs)

-- with its literals made false, the clauses in this order refute it
abbrev pub FollowsInOrder : List Lit → List (List Lit) → Type 0
FollowsInOrder c clauses = RefutesInOrder (map negated c) clauses
