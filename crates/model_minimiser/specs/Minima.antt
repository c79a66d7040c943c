-- The least value of a term.
use Rattle.std.specs.Prelude.{◌≡◌, ℕ, ℤ, pos, ◌<◌, ◌+ℤ◌, ◌≤ℤ◌, Bool, false, Option, Some, None, List, [], ◌∷◌, ◌++◌}
use Rattle.std.specs.Prelude.{length, Contains}
use Rattle.kb_logic.specs.declared.elements.ExtInt.{ExtInt}
use Rattle.kb_logic.specs.declared.elements.ExtInt.TheVariants.{NegInf, Num}
use Rattle.kb_logic.specs.declared.syntax.Cmp.TheVariants as cmp
use Rattle.kb_logic.specs.Denotations.{compared}
use Rattle.lit_core.specs.declared.literals.Lit.{Lit}
use Rattle.lit_core.specs.Literals.{valuation}
use Rattle.ground_core.specs.declared.parts.TermBound.{TermBound}
use Rattle.ground_core.specs.Problems.{ProblemState}
use Rattle.ground_core.specs.Meaning.{Satisfies, MakesTrue, RefutesAll, denotation_of_bound}
use Rattle.ground_core.specs.Growing.{HasValue, value_at}
use Rattle.ground_core.specs.Solving.{HasCoreWithin}
use Rattle.model_minimiser.specs.declared.minimum.Found.{Found}
use Rattle.model_minimiser.specs.declared.minimum.Step.{Step}
use Rattle.model_minimiser.specs.declared.minimum.Step.TheVariants.{Lower, Nothing}
use Rattle.model_minimiser.specs.declared.minimum.Minimum.{Minimum}
use Rattle.model_minimiser.specs.Bounds.{IsBelow}

-- the values, one for every variable, satisfy the problem and make the literals true, and the term has this value
pub record IsFound (p : ProblemState) (assumed : List Lit) (term : ℕ) (f : Found) : Type 0 where
  pub covers : p.vars < length f.values
  pub satisfies : Satisfies p (valuation f.values)
  pub assumes : MakesTrue (valuation f.values) assumed
  pub value : HasValue p term (valuation f.values) f.value

-- no valuation that satisfies the problem and makes the literals true gives the term a value below the number
abbrev pub NothingBelow : ProblemState → List Lit → ℕ → ExtInt → Type 0
NothingBelow p assumed term n = (v : ℕ → Bool) → Satisfies p v → MakesTrue v assumed
    → compared cmp.Lt (value_at p term v) (denotation_of_bound n) ≡ false

-- what a search found: nothing, which a kept core shows, or values
abbrev pub Finds : ProblemState → List Lit → ℕ → List (List Lit) → Option Found → Type 0
Finds p assumed term cores None = RefutesAll p assumed × HasCoreWithin cores assumed
Finds p assumed term cores (Some f) = IsFound p assumed term f

-- one of the bounds is this one: under the literal the term is below the number
abbrev pub HasBound : List TermBound → Lit → ℕ → ExtInt → Type 0
HasBound bounds l term n = Contains bounds (record { out = l; term = term; below = n })

-- what a search below a number found: values, or nothing below it, which a kept core with the bound's selector shows
abbrev pub FindsBelow : ProblemState → List Lit → ℕ → ExtInt → List (List Lit) → List TermBound → Step → Type 0
FindsBelow p assumed term n cores bounds (Lower f) = IsFound p assumed term f × IsBelow f.value n
FindsBelow p assumed term n cores bounds (Nothing selector) = NothingBelow p assumed term n × HasCoreWithin cores
    (assumed ++ selector ∷ []) × HasBound bounds selector term n

-- the selector of a bound at the least value comes with every value but minus infinity, and a kept core shows that
-- nothing was left under it
abbrev pub IsShown : List Lit → ℕ → List (List Lit) → List TermBound → ExtInt → Option Lit → Type 0
IsShown assumed term cores bounds n None = n ≡ NegInf
IsShown assumed term cores bounds n (Some l) = (n ≡ NegInf → ⊥) × HasCoreWithin cores (assumed ++ l ∷ [])
    × HasBound bounds l term n

-- the values, one for every variable, satisfy the problem and the literals, the term has the value there, and nowhere a
-- lower one
pub record IsLeast (p : ProblemState) (assumed : List Lit) (term : ℕ) (cores : List (List Lit))
    (bounds : List TermBound) (m : Minimum) : Type 0 where
  pub covers : p.vars < length m.values
  pub satisfies : Satisfies p (valuation m.values)
  pub assumes : MakesTrue (valuation m.values) assumed
  pub attained : HasValue p term (valuation m.values) m.value
  pub lowest : NothingBelow p assumed term m.value
  pub bound : IsShown assumed term cores bounds m.value m.bound

-- nothing where no valuation is left, and the least value elsewhere
abbrev pub FindsLeast : ProblemState → List Lit → ℕ → List (List Lit) → List TermBound → Option Minimum → Type 0
FindsLeast p assumed term cores bounds None = RefutesAll p assumed × HasCoreWithin cores assumed
FindsLeast p assumed term cores bounds (Some m) = IsLeast p assumed term cores bounds m

-- the greatest finite value of the term is at most n above the least
abbrev pub Spans : ProblemState → ℕ → ℕ → Type 0
Spans p term n = (v w : ℕ → Bool) (x y : ℤ) → Satisfies p v → Satisfies p w → HasValue p term v (Num x)
    → HasValue p term w (Num y) → x ≤ℤ (y +ℤ pos n)
