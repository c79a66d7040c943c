-- Elements that stand in lists, by comparing them.
use Rattle.std.proofs.Common.{◌≡◌, ℕ, List, [], ◌∷◌, map, Bool, true, false, sym, ap, ◌∙◌, inl, inr}
use Rattle.std.specs.List.{list_any, Contains}
use Rattle.std.specs.Bool.{OnTrue}
use Rattle.std.proofs.lemmas.Bool.{or_cases, or_left, or_right, true≢false}
use Rattle.kb_logic.specs.declared.elements.Elem.{Elem}
use Rattle.kb_logic.specs.Structures.{domain_at, tuples_of}
use Rattle.kb_logic.specs.Denotations.{denotation_of, same_value}
use Rattle.kb_logic.proofs.Has.{Has, has_from, contains_from, has_map, has_flat_map}
use Rattle.partial_structures.proofs.Sames.{same_element, element_itself}

found_has : (x : Elem) (d : List Elem) → list_any (λ y. same_value (denotation_of y) (denotation_of x)) d
    ≡ true → Has d x
found_has x [] h = absurd (true≢false (sym h))
found_has x (y ∷ d) h = elim (or_cases (same_value (denotation_of y) (denotation_of x))
    (list_any (λ z. same_value (denotation_of z) (denotation_of x)) d) h) [
      | inl e ↦ inl (same_element y x e)
      | inr m ↦ inr (found_has x d m)
    ]

has_found : (x : Elem) (d : List Elem) → Has d x → list_any (λ y. same_value (denotation_of y) (denotation_of x)) d
    ≡ true
has_found x [] m = absurd m
has_found x (y ∷ d) (inl e) =
    or_left (same_value (denotation_of y) (denotation_of x)) (list_any
    (λ z. same_value (denotation_of z) (denotation_of x)) d)
    (ap (λ z. same_value (denotation_of z) (denotation_of x)) e ∙ element_itself x)
has_found x (y ∷ d) (inr m) = or_right (same_value (denotation_of y) (denotation_of x))
    (list_any (λ z. same_value (denotation_of z) (denotation_of x)) d) (has_found x d m)

pub stands : (x : Elem) (d : List Elem) → list_any (λ y. same_value (denotation_of y) (denotation_of x)) d ≡ true
    → Contains d x
stands x d h = contains_from d x (found_has x d h)

pub stands_not : (x : Elem) (d : List Elem) → list_any (λ y. same_value (denotation_of y) (denotation_of x)) d ≡ false
    → Contains d x → ⊥
stands_not x d h c = true≢false (sym (has_found x d (has_from d x c)) ∙ h)

pub longer_tuple : (domains : List (List Elem)) (ty : ℕ) (types : List ℕ) (x : Elem) (xs : List Elem)
    → Contains (domain_at domains ty) x → Contains (tuples_of domains types) xs
    → Contains (tuples_of domains (ty ∷ types)) (x ∷ xs)
longer_tuple domains ty types x xs c cs =
    contains_from (tuples_of domains (ty ∷ types)) (x ∷ xs)
    (has_flat_map (λ y. map (λ a. y ∷ a) (tuples_of domains types)) (domain_at domains ty) x (x ∷ xs)
    (has_from (domain_at domains ty) x c)
    (has_map (λ a. x ∷ a) (tuples_of domains types) xs (has_from (tuples_of domains types) xs cs)))

pub on_weaker : (b : Bool) (P Q : Type 0) → (P → Q) → OnTrue b P → OnTrue b Q
on_weaker true P Q f h = f h
on_weaker false P Q f h = h
