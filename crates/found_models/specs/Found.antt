-- The last found models, as values of variables, and which of them make literals true.
use Rattle.std.specs.Prelude.{◌≡◌, ℕ, ◌+◌, ◌-◌, ◌≤◌, Bool, List, [], ◌∷◌, ◌++◌, length, take, drop, filter}
use Rattle.std.specs.List.{list_all}
use Rattle.lit_core.specs.declared.literals.Lit.{Lit}
use Rattle.lit_core.specs.Literals.{literal_value, valuation}

-- up to which variable values are kept, and those of each model, the newest last
pub record FoundState : Type 0 where
  pub last : ℕ
  pub models : List (List Bool)

-- they are no more than 64
abbrev pub AreFew : List (List Bool) → Type 0
AreFew models = length models ≤ 64

-- whether the values make all of the literals true
abbrev pub makes_all : List Lit → List Bool → Bool
makes_all lits values = list_all (literal_value (valuation values)) lits

-- those of the models that make all of the literals true
abbrev pub those_under : List Lit → List (List Bool) → List (List Bool)
those_under lits models = filter (makes_all lits) models

-- it stands at the end of the list
abbrev pub IsLastOf : {A : Type 0} → A → List A → Type 0
IsLastOf {A} x xs = (front : List A) × (xs ≡ front ++ x ∷ [])

-- the last so many
abbrev pub last_of : {A : Type 0} → ℕ → List A → List A
last_of n xs = drop (length xs - n) xs

-- one more, of which the values of the first variables are kept, in place of the oldest where they would be too many
abbrev pub with_newest : FoundState → List Bool → FoundState
with_newest f values = record {
  last = f.last;
  models = last_of 64 (f.models ++ take (f.last + 1) values ∷ []);
}
