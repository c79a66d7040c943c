-- Lists that are joined.
use Rattle.std.proofs.Common.{◌≡◌, List, [], ◌∷◌, ◌++◌, refl, ap, ◌∙◌}
use Rattle.std.specs.List.{flat_map}

-- nothing from each item is nothing
pub flat_map_nothing : {A B : Type 0} (f : A → List B) → ((x : A) → f x ≡ []) → (xs : List A) → flat_map f xs ≡ []
flat_map_nothing f none [] = refl
flat_map_nothing {B = B} f none (x ∷ xs) = ap (λ (l : List B). l ++ flat_map f xs) (none x) ∙ flat_map_nothing f none xs
