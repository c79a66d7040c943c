-- The choices, and how often variables were true in answers.
use Rattle.std.specs.Prelude.{◌≡◌, ℕ, ◌+◌, ◌≤◌, ◌<◌, ◌↔◌, ◌⊎◌, Bool, true, false, IsTrue, Option, Some, None, List, []}
use Rattle.std.specs.Prelude.{length, slice_index_or, All, Any, IfSome}
use Rattle.lit_core.specs.declared.literals.Lit.{Lit}
use Rattle.lit_core.specs.declared.literals.Var.{Var}
use Rattle.lit_core.specs.Literals.{valuation}
use Rattle.ground_core.specs.Problems.{ProblemState}
use Rattle.ground_core.specs.Solving.{counted}
use Rattle.search_decisions.specs.declared.phases.Phases.{Phases}

-- in how many answers the variable of this number was true
abbrev pub times_seen : Phases → ℕ → ℕ
times_seen s v = slice_index_or s.seen.items v 0

-- the place of the choice that is noted for the variable, if one is
abbrev pub choice_of : Phases → ℕ → Option ℕ
choice_of s v = slice_index_or s.choices.items v None

-- what was seen, the choices and the number of answers stay
pub record KeepsAll (old new : Phases) : Type 0 where
  pub seen : new.seen.items ≡ old.seen.items
  pub choices : new.choices.items ≡ old.choices.items
  pub answers : new.answers ≡ old.answers

-- what was seen, the number of answers and what was found last stay
pub record KeepsAnswers (old new : Phases) : Type 0 where
  pub seen : new.seen.items ≡ old.seen.items
  pub answers : new.answers ≡ old.answers
  pub found : new.first ≡ old.first

-- at this place, from the known ones on, stands a choice that has the variable: a clause of ground atoms alone, none of
-- them negated
pub record IsChoiceAt (p : ProblemState) (known v place : ℕ) : Type 0 where
  pub later : known ≤ place
  pub stands : place < length p.clauses
  pub atoms : All (λ l. (l.positive ≡ true) × (l.var.0 ≤ length p.atoms)) (slice_index_or p.clauses place [])
  pub has : Any (λ l. l.var.0 ≡ v) (slice_index_or p.clauses place [])

-- places were noted for variables that there is room for: what was noted stays, a new place fits its variable, and no
-- earlier one does
pub record Notes (Fits : ℕ → ℕ → Type 0) (old new : Phases) : Type 0 where
  pub room : length new.choices.items ≡ length old.choices.items
  pub kept : (v k : ℕ) → choice_of old v ≡ Some k → choice_of new v ≡ Some k
  pub fits : (v k : ℕ) → choice_of new v ≡ Some k → (choice_of old v ≡ Some k) ⊎ Fits v k
  pub least : (v k : ℕ) → v < length old.choices.items → Fits v k → (j : ℕ) × (choice_of new v ≡ Some j)
      × ((choice_of old v ≡ Some j) ⊎ (j ≤ k))

-- an answer was counted: of the variables that there is room for, each that is true in it was seen once more, and each
-- other as often
pub record CountsAnswer (old : Phases) (values : List Bool) (new : Phases) : Type 0 where
  pub answers : new.answers ≡ counted (old.answers + 1)
  pub room : length new.seen.items ≡ length old.seen.items
  pub trues : (v : ℕ) → v < length old.seen.items → valuation values v ≡ true
      → times_seen new v ≡ counted (times_seen old v + 1)
  pub others : (v : ℕ) → valuation values v ≡ false → times_seen new v ≡ times_seen old v

-- the variable is one of these, and unassigned
abbrev pub IsOpen : List (Option Bool) → ℕ → Type 0
IsOpen values v = (v < length values) × (slice_index_or values v None ≡ None)

-- the variable stands in the clause, and no open variable of the clause was seen in fewer answers
pub record IsLeastSeen (s : Phases) (values : List (Option Bool)) (c : List Lit) (v : ℕ) : Type 0 where
  pub among : Any (λ l. l.var.0 ≡ v) c
  pub least : All (λ l. IsOpen values l.var.0 → times_seen s v ≤ times_seen s l.var.0) c

-- if something was found last, it is seen least in its clause
abbrev pub IsFirstRight : List (List Lit) → List (Option Bool) → Phases → Type 0
IsFirstRight clauses values s = IfSome s.first (λ f. IsLeastSeen s values (slice_index_or clauses f.clause []) f.var.0)

-- the choice of the variable is a clause that has it
abbrev pub HasChoice : List (List Lit) → Phases → ℕ → Type 0
HasChoice clauses s v = IfSome (choice_of s v) (λ place. Any (λ l. l.var.0 ≡ v) (slice_index_or clauses place []))

-- the answer is whether what was found last, in the clause at this place, is the variable; if not, it is another open
-- one
pub record IsFoundFor (values : List (Option Bool)) (place : ℕ) (v : Var) (salt : ℕ) (result : Bool)
    (s : Phases) : Type 0 where
  pub found : Var
  pub last : s.first ≡ Some (record { clause = place; salt = salt; var = found })
  pub same : IsTrue result ↔ (found ≡ v)
  pub other : (found ≡ v) ⊎ IsOpen values found.0
