-- Tuples over types, and lists of lists joined.
use Rattle.std.proofs.Common.{◌≡◌, ℕ, zero, suc, ◌+◌, ◌<◌, List, [], ◌∷◌, ◌++◌, map, length, get_or, take, refl, sym}
use Rattle.std.proofs.Common.{◌∙◌, ap, arith}
use Rattle.std.specs.List.{flat_map}
use Rattle.std.proofs.lemmas.List.{append-nil, map-append, map_push, take_more, nil_from_length}
use Rattle.std.proofs.lemmas.List.Concat.{flat_map-append, flat_map_single}
use Rattle.std.proofs.lemmas.List.Folds.{flat_map-map}
use Rattle.kb_logic.specs.declared.elements.Elem.{Elem}
use Rattle.kb_logic.specs.Structures.{domain_at, tuples_of, tuples_over}

pub flat_map-flat_map : {A B C : Type 0} (f : B → List C) (g : A → List B) (xs : List A) → flat_map f (flat_map g xs)
    ≡ flat_map (λ x. flat_map f (g x)) xs
flat_map-flat_map f g [] = refl
flat_map-flat_map {C = C} f g (x ∷ xs) = flat_map-append f (g x) (flat_map g xs)
    ∙ ap (λ (l : List C). flat_map f (g x) ++ l) (flat_map-flat_map f g xs)

pub flat_map_agree : {A B : Type 0} (f g : A → List B) → ((x : A) → f x ≡ g x) → (xs : List A)
    → flat_map f xs ≡ flat_map g xs
flat_map_agree f g same [] = refl
flat_map_agree {B = B} f g same (x ∷ xs) = ap (λ (l : List B). l ++ flat_map f xs) (same x)
    ∙ ap (λ (l : List B). g x ++ l) (flat_map_agree f g same xs)

pub map-flat_map : {A B C : Type 0} (f : B → C) (g : A → List B) (xs : List A) → map f (flat_map g xs)
    ≡ flat_map (λ x. map f (g x)) xs
map-flat_map f g [] = refl
map-flat_map {C = C} f g (x ∷ xs) = map-append f (g x) (flat_map g xs) ∙ ap (λ (l : List C). map f (g x) ++ l)
    (map-flat_map f g xs)

pub map-map : {A B C : Type 0} (f : B → C) (g : A → B) (xs : List A) → map f (map g xs) ≡ map (λ x. f (g x)) xs
map-map f g [] = refl
map-map {C = C} f g (x ∷ xs) = ap (λ (l : List C). f (g x) ∷ l) (map-map f g xs)

-- nothing from each item is nothing
pub flat_map_nothing : {A B : Type 0} (f : A → List B) → ((x : A) → f x ≡ []) → (xs : List A) → flat_map f xs ≡ []
flat_map_nothing f none [] = refl
flat_map_nothing {B = B} f none (x ∷ xs) = ap (λ (l : List B). l ++ flat_map f xs) (none x) ∙ flat_map_nothing f none xs

-- an empty domain leaves no tuple
pub empty_product : (domains : List (List Elem)) (types : List ℕ) (k : ℕ) → k < length types
    → length (domain_at domains (get_or types k 0)) ≡ 0 → tuples_of domains types ≡ []
empty_product domains [] k inside empty = absurd (omega arith)
empty_product domains (ty ∷ types) zero inside empty =
    ap (λ (d : List Elem). flat_map (λ x. map (λ t. x ∷ t) (tuples_of domains types)) d)
    (nil_from_length (domain_at domains ty) empty)
empty_product domains (ty ∷ types) (suc k) inside empty =
    ap (λ (l : List (List Elem)). flat_map (λ x. map (λ t. x ∷ t) l) (domain_at domains ty))
    (empty_product domains types k (omega arith) empty) ∙ nothing (domain_at domains ty)
  where
    nothing : (d : List Elem) → flat_map (λ x. map (λ t. x ∷ t) []) d ≡ []
    nothing [] = refl
    nothing (x ∷ d) = nothing d

-- the tuples over one domain more
pub tuples_push : (domains : List (List Elem)) (d : List Elem) → tuples_over (domains ++ d ∷ [])
    ≡ flat_map (λ t. map (λ x. t ++ x ∷ []) d) (tuples_over domains)
tuples_push [] d = flat_map_single (λ x. x ∷ []) d ∙ sym (append-nil (map (λ x. x ∷ []) d))
tuples_push (e ∷ domains) d =
    let shorter : List (List Elem) = tuples_over domains in
    let longer : List Elem → List (List Elem) = λ t. map (λ x. t ++ x ∷ []) d in
    let each : (y : Elem) → map (λ t. y ∷ t) (tuples_over (domains ++ d ∷ [])) ≡ flat_map longer
    (map (λ t. y ∷ t) shorter) =
    λ y. ap (λ (l : List (List Elem)). map (λ t. y ∷ t) l) (tuples_push domains d)
    ∙ (map-flat_map (λ t. y ∷ t) longer shorter
    ∙ (flat_map_agree (λ t. map (λ u. y ∷ u) (longer t)) (λ t. longer (y ∷ t))
    (λ t. map-map (λ u. y ∷ u) (λ x. t ++ x ∷ []) d) shorter
    ∙ sym (flat_map-map longer (λ t. y ∷ t) shorter))) in
    flat_map_agree (λ y. map (λ t. y ∷ t) (tuples_over (domains ++ d ∷ [])))
    (λ y. flat_map longer (map (λ t. y ∷ t) shorter)) each e
    ∙ sym (flat_map-flat_map longer (λ y. map (λ t. y ∷ t) shorter) e)

pub tuples_more : (domains : List (List Elem)) (types : List ℕ) (k : ℕ) → k < length types
    → tuples_of domains (take (k + 1) types) ≡ flat_map (λ t. map (λ x. t ++ x ∷ [])
    (domain_at domains (get_or types k 0))) (tuples_of domains (take k types))
tuples_more domains types k inside =
    ap (λ (l : List ℕ). tuples_of domains l) (take_more types k 0 inside)
    ∙ (ap tuples_over (map_push (domain_at domains) (take k types) (get_or types k 0))
    ∙ tuples_push (map (domain_at domains) (take k types)) (domain_at domains (get_or types k 0)))
