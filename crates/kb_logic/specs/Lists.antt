-- Lists of which some items are left out.
use Rattle.std.specs.Prelude.{◌≡◌, ℕ, zero, suc, List, [], ◌∷◌, ◌++◌, ◌⊎◌}

-- the first list is the second with some of its items left out
abbrev pub IsSublist : {A : Type 0} → List A → List A → Type 0
IsSublist [] ys = Unit {0}
IsSublist (x ∷ xs) [] = ⊥
IsSublist (x ∷ xs) (y ∷ ys) = ((x ≡ y) × IsSublist xs ys) ⊎ IsSublist (x ∷ xs) ys

-- the second list is the first with more items after it
abbrev pub IsPrefix : {A : Type 0} → List A → List A → Type 0
IsPrefix {A} xs ys = (more : List A) × (ys ≡ xs ++ more)

-- the list without the item at this index
abbrev pub without_item : {A : Type 0} → List A → ℕ → List A
without_item [] k = []
without_item (x ∷ xs) zero = xs
without_item (x ∷ xs) (suc k) = x ∷ without_item xs k
