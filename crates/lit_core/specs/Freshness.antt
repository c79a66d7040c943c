-- Clauses that say something new.
use Rattle.std.specs.Prelude.{◌≡◌, List, [], ◌∷◌, ◌++◌, Contains, ◌⊎◌}
use Rattle.lit_core.specs.declared.literals.Lit.{Lit}
use Rattle.lit_core.specs.Literals.{negated}
use Rattle.lit_core.specs.Refutation.{IsFalseUnder, IsOpenUnder, IsUnitUnder}

-- no literal is in force together with its negation
abbrev pub IsConsistent : List Lit → Type 0
IsConsistent inforce = (l : Lit) → Contains inforce l → Contains inforce (negated l) → ⊥

-- the literals in force make no clause false, and leave none with just one literal open
pub record IsClosedUnder (clauses : List (List Lit)) (inforce : List Lit) : Type 0 where
  pub no_false : (c : List Lit) → Contains clauses c → IsFalseUnder inforce c → ⊥
  pub no_unit : (c : List Lit) (l : Lit) → Contains clauses c → IsUnitUnder inforce c l → ⊥

-- some consistent literals in force make the other literals of the clause false, are closed, and leave this one open
pub record IsFreshAt (clauses : List (List Lit)) (c : List Lit) (l : Lit) : Type 0 where
  pub member : Contains c l
  pub inforce : List Lit
  pub consistent : IsConsistent inforce
  pub others : (k : Lit) → Contains c k → (k ≡ l) ⊎ Contains inforce (negated k)
  pub closed : IsClosedUnder clauses inforce
  pub opened : IsOpenUnder inforce l

-- the clause is fresh against these clauses: some literal of it does not follow from the negations of the others by
-- unit propagation
abbrev pub FreshAgainst : List (List Lit) → List Lit → Type 0
FreshAgainst clauses c = (l : Lit) × IsFreshAt clauses c l

-- from the literals in force, the clauses give these one after another, each the one that a clause leaves open
abbrev pub Derives : List (List Lit) → List Lit → List Lit → Type 0
Derives clauses inforce [] = Unit {0}
Derives clauses inforce (l ∷ ls) = ((c : List Lit) × Contains clauses c × IsUnitUnder inforce c l) × Derives clauses
    (inforce ++ l ∷ []) ls

-- the literals in force are the negations of the clause's literals other than this one
pub record AreOthersNegated (c : List Lit) (l : Lit) (inforce : List Lit) : Type 0 where
  pub from : (m : Lit) → Contains inforce m → (k : Lit) × Contains c k × (k ≡ l → ⊥) × (m ≡ negated k)
  pub all : (k : Lit) → Contains c k → (k ≡ l) ⊎ Contains inforce (negated k)

-- with the other literals of the clause made false, whatever the clauses give, none of them gets false and this literal
-- gets no value
pub record StaysOpenAt (clauses : List (List Lit)) (c : List Lit) (l : Lit) : Type 0 where
  pub member : Contains c l
  pub others : List Lit
  pub negated_others : AreOthersNegated c l others
  pub consistent : IsConsistent others
  pub no_conflict : (given : List Lit) → Derives clauses others given → (d : List Lit) → Contains clauses d
      → IsFalseUnder (others ++ given) d → ⊥
  pub no_value : (given : List Lit) → Derives clauses others given → IsOpenUnder (others ++ given) l
