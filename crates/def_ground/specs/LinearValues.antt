-- What weighted literals come to, and what an aggregate grows to with more instances.
use Rattle.std.specs.Prelude.{◌≡◌, ℕ, ℤ, pos, ◌*ℤ◌, List, map, filter, fold, Bool}
use Rattle.kb_logic.specs.declared.elements.Elem.{Elem}
use Rattle.kb_logic.specs.declared.syntax.AggKind.{AggKind}
use Rattle.kb_logic.specs.declared.syntax.AggKind.TheVariants as kind
use Rattle.kb_logic.specs.Denotations.{Denotation, number, added, lesser, greater}
use Rattle.ground_core.specs.Problems.{ProblemState, IsProblem, ArePartsOf}
use Rattle.ground_core.specs.Meaning.{Satisfies, parts_value, shifted}
use Rattle.ground_core.specs.More.{DefinesMore}
use Rattle.def_ground.specs.Answers.{GroundResult}
use Rattle.def_ground.specs.Linear.{Linear}
use Rattle.def_ground.specs.Meanings.{Means}

-- a count is the sum of its parts' weights
abbrev pub kind_of_parts : AggKind → AggKind
kind_of_parts kind.Count = kind.Sum
kind_of_parts kind.Sum = kind.Sum
kind_of_parts kind.Min = kind.Min
kind_of_parts kind.Max = kind.Max

-- the number and the parts that are true, together
abbrev pub linear_value : AggKind → (ℕ → Bool) → Linear → Denotation
linear_value k v st = shifted st.base (parts_value v (kind_of_parts k) st.parts)

-- a minimum or a maximum has no number beside its parts
abbrev pub IsBaseOf : AggKind → ℤ → Type 0
IsBaseOf kind.Count z = Unit {0}
IsBaseOf kind.Sum z = Unit {0}
IsBaseOf kind.Min z = z ≡ pos 0
IsBaseOf kind.Max z = z ≡ pos 0

-- the parts are over the problem's variables
pub record IsLinear (k : AggKind) (st : Linear) : Type 0 where
  pub fine : IsProblem st.problem
  pub within : ArePartsOf st.problem.vars st.parts
  pub plain : IsBaseOf k st.base

-- more variables are defined than in p, and in each valuation that satisfies the problem the parts come to V
pub record Comes (k : AggKind) (p : ProblemState) (st : Linear) (V : (ℕ → Bool) → Denotation) : Type 0 where
  pub linear : IsLinear k st
  pub more : DefinesMore p st.problem
  pub right : (v : ℕ → Bool) → Satisfies st.problem v → linear_value k v st ≡ V v

-- with one instance more of this weight, times a factor
abbrev pub joined_value : AggKind → ℤ → Denotation → ℤ → Denotation
joined_value kind.Count z x w = added x (number z)
joined_value kind.Sum z x w = added x (number (z *ℤ w))
joined_value kind.Min z x w = lesser x (number w)
joined_value kind.Max z x w = greater x (number w)

-- with the weights of the instances that are true
abbrev pub joined_values : AggKind → ℤ → (List Elem → Bool) → (List Elem → ℤ) → Denotation → List (List Elem)
    → Denotation
joined_values k z T W x as' = fold (joined_value k z) x (map W (filter T as'))

-- what an instance comes to is right, whatever came before
abbrev pub IsRightAfter : ProblemState → (ProblemState → GroundResult) → ((ℕ → Bool) → Bool) → Type 0
IsRightAfter p F T = (q : ProblemState) → IsProblem q → DefinesMore p q → Means q (F q).problem (F q).answer T
