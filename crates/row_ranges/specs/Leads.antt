-- What a place among the keys of a table's rows says of the assignments of the variables that are left.
use Rattle.std.specs.Prelude.{◌≡◌, ℕ, ◌+◌, ◌*◌, ◌-◌, ◌<◌, ◌≤◌, ◌^◌, List, [], ◌∷◌, ◌++◌, length, Contains, ⊤}
use Rattle.std.specs.Prelude.{slice_index_or}
use Rattle.std.specs.List.Sorted.{IsNonDecreasing}
use Rattle.kb_logic.specs.declared.elements.Elem.{Elem}
use Rattle.kb_logic.specs.declared.vocabularies.Bound.{Bound}
use Rattle.kb_logic.specs.Structures.{domain_at, choices}

-- each element of a variable moves the key by the variable's step times its place; where the key of the whole
-- assignment is none of the keys, the assignment is left out
abbrev pub Leads : (List Elem → Type 0) → List (List Elem) → List ℕ → ℕ → List ℕ → List Bound → List Elem → Type 0
Leads Out domains keys key steps [] e = (Contains keys key → ⊥) → Out e
Leads Out domains keys key [] (b ∷ bs) e = ⊥
Leads Out domains keys key (s ∷ steps) (b ∷ bs) e =
    (i : ℕ) → i < length (domain_at domains b.ty)
    → Leads Out domains keys (key + i * s) steps bs (e ++ slice_index_or (choices domains (b ∷ [])) i [])

-- how far the variables together may move a key, and 1
abbrev pub reach : List (List Elem) → List ℕ → List Bound → ℕ
reach domains steps [] = 1
reach domains [] (b ∷ bs) = 1
reach domains (s ∷ steps) (b ∷ bs) = (length (domain_at domains b.ty) - 1) * s + reach domains steps bs

-- no variable's step is below what those after it move the key
abbrev pub AreWide : List (List Elem) → List ℕ → List Bound → Type 0
AreWide domains steps [] = ⊤
AreWide domains [] (b ∷ bs) = ⊤
AreWide domains (s ∷ steps) (b ∷ bs) = (0 < s → reach domains steps bs ≤ s) × AreWide domains steps bs

-- the keys rise, and what is added to them fits 64 bits
pub record IsInOrder (domains : List (List Elem)) (keys : List ℕ) (key : ℕ) (steps : List ℕ) (bs : List Bound) : Type 0
  where
    pub rising : IsNonDecreasing keys
    pub wide : AreWide domains steps bs
    pub fits : key + reach domains steps bs ≤ 2 ^ 64

-- the step of the first variable that is left
abbrev pub first_step : List ℕ → ℕ
first_step [] = 0
first_step (s ∷ steps) = s

-- the variables after so many have no step, so that their elements move no key
abbrev pub HaveNoSteps : List ℕ → ℕ → Type 0
HaveNoSteps steps needed = (i : ℕ) → needed ≤ i → i < length steps → slice_index_or steps i 0 ≡ 0

-- none of the keys lies in a range
abbrev pub HasNoKey : List ℕ → ℕ → ℕ → Type 0
HasNoKey keys from width = (j : ℕ) → Contains keys j → from ≤ j → j < from + width → ⊥
