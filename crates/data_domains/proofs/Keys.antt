-- One more key of a table, as what the keys stand for.
use Rattle.std.proofs.Common.{◌≡◌, List, [], ◌∷◌, ◌++◌, map, Bool, true, false, ◌||◌, if◌then◌else◌, refl, sym, ap}
use Rattle.std.proofs.Common.{◌∙◌}
use Rattle.std.specs.List.{list_any}
use Rattle.std.proofs.lemmas.List.{map-append}
use Rattle.indexmap.specs.IndexSet.{insert_key}

pub list_any-map : {X Y : Type 0} (f : X → Y) (p : Y → Bool) (q : X → Bool) → ((x : X) → q x ≡ p (f x)) → (xs : List X)
    → list_any p (map f xs) ≡ list_any q xs
list_any-map f p q h [] = refl
list_any-map f p q h (x ∷ xs) = ap (λ b. b || list_any p (map f xs)) (sym (h x))
    ∙ ap (λ b. q x || b) (list_any-map f p q h xs)

by_presence : {K Y : Type 0} (f : K → Y) (k : K) (ks : List K) (b : Bool) → map f (if b then ks else ks ++ k ∷ [])
    ≡ (if b then map f ks else map f ks ++ f k ∷ [])
by_presence f k ks true = refl
by_presence f k ks false = map-append f ks (k ∷ [])

pub added_key : {K Y : Type 0} (f : K → Y) (eq : K → K → Bool) (test : Y → Y → Bool) (k : K) (ks new : List K)
    → new ≡ insert_key eq ks k → ((d : K) → eq k d ≡ test (f k) (f d))
    → map f new ≡ (if list_any (test (f k)) (map f ks) then map f ks else map f ks ++ f k ∷ [])
added_key f eq test k ks new keys same =
    ap (map f) keys ∙ by_presence f k ks (list_any (eq k) ks)
    ∙ ap (λ b. if b then map f ks else map f ks ++ f k ∷ []) (sym (list_any-map f (test (f k)) (eq k) same ks))
