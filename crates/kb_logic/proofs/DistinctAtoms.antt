-- Tuples and atoms stand in their lists once.
use Rattle.std.proofs.Common.{◌≡◌, ℕ, ◌+◌, ◌≤◌, List, [], ◌∷◌, map, Option, Some, None, refl, sym, ap, ◌∙◌, arith, inl}
use Rattle.std.proofs.Common.{inr, subst}
use Rattle.std.specs.List.{flat_map, enumerate_from, Contains, AllByRecursion}
use Rattle.kb_logic.specs.declared.elements.Elem.{Elem}
use Rattle.kb_logic.specs.declared.vocabularies.Symbol.{Symbol}
use Rattle.kb_logic.specs.declared.vocabularies.Bound.{Bound}
use Rattle.kb_logic.specs.Structures.{IsDistinct, domain_at, tuples_of}
use Rattle.kb_logic.specs.Models.{GroundAtom}
use Rattle.kb_logic.specs.KnownAtoms.{atoms_with, atoms_over}
use Rattle.kb_logic.proofs.Choices.{assignments_are_distinct, domain_is_distinct}
use Rattle.kb_logic.proofs.Has.{Has, has_from, contains_from, map_has, flat_map_has}
use Rattle.kb_logic.proofs.Members.{distinct-append, distinct-map}

pub mapped : {X K : Type 0} (h : X → K) (xs : List X) (y : X) → Has xs y → Has (map h xs) (h y)
mapped h [] y m = absurd m
mapped h (z ∷ xs) y (inl e) = inl (ap h e)
mapped h (z ∷ xs) y (inr m) = inr (mapped h xs y m)

-- lists whose items have keys that tell from which part they come
pub distinct_parts : {X Y K : Type 0} (f : X → List Y) (key : Y → K) (h : X → K) (xs : List X)
    → ((x : X) (y : Y) → Has (f x) y → key y ≡ h x) → ((x : X) → IsDistinct (f x)) → IsDistinct (map h xs)
    → IsDistinct (flat_map f xs)
distinct_parts f key h [] is each apart = tt
distinct_parts f key h (x ∷ xs) is each apart =
    distinct-append (f x) (flat_map f xs) (each x) (distinct_parts f key h xs is each apart.1)
    (λ z here there.
    let q = flat_map_has f xs z (has_from (flat_map f xs) z there) in
    let same : h q.0 ≡ h x = sym (is q.0 z q.2) ∙ is x z (has_from (f x) z here) in
    apart.0 (subst (Contains (map h xs)) same (contains_from (map h xs) (h q.0) (mapped h xs q.0 q.1))))

pub map-itself : {X : Type 0} (xs : List X) → map (λ x. x) xs ≡ xs
map-itself [] = refl
map-itself (x ∷ xs) = ap (λ ys. x ∷ ys) (map-itself xs)

later_numbers : (n : ℕ) (xs : List Symbol) (k : ℕ) → Has (map (λ (s : ℕ × Symbol). s.0) (enumerate_from n xs)) k → n ≤ k
later_numbers n [] k m = absurd m
later_numbers n (x ∷ xs) k (inl e) = omega (arith, e)
later_numbers n (x ∷ xs) k (inr m) = omega (arith, later_numbers (n + 1) xs k m)

-- the numbers of the symbols are distinct
pub numbers_distinct : (n : ℕ) (xs : List Symbol) → IsDistinct (map (λ (s : ℕ × Symbol). s.0) (enumerate_from n xs))
numbers_distinct n [] = tt
numbers_distinct n (x ∷ xs) = (
  λ c. absurd (omega (
    arith,
    later_numbers (n + 1) xs n (has_from
        (map (λ (s : ℕ × Symbol). s.0) (enumerate_from (n + 1) xs)) n c),
  )),
  numbers_distinct (n + 1) xs,
)

abbrev bound_of : ℕ → Bound
bound_of ty = record { name = []; ty = ty }

bounds_types : (types : List ℕ) → map (λ (b : Bound). b.ty) (map bound_of types) ≡ types
bounds_types [] = refl
bounds_types (ty ∷ types) = ap (λ ts. ty ∷ ts) (bounds_types types)

pub tuples_distinct : (domains : List (List Elem)) (types : List ℕ) → AllByRecursion IsDistinct domains
    → IsDistinct (tuples_of domains types)
tuples_distinct domains types h =
    subst (λ ts. IsDistinct (tuples_of domains ts)) (bounds_types types)
    (assignments_are_distinct (record { domains = domains; relations = []; functions = [] }) (map bound_of types) h)

abbrev plain : ℕ → List Elem → GroundAtom
plain i t = record { symbol = i; args = t; value = None }

abbrev valued : ℕ → List Elem → Elem → GroundAtom
valued i t x = record { symbol = i; args = t; value = Some x }

same_args : (i : ℕ) (t u : List Elem) → plain i t ≡ plain i u → t ≡ u
same_args i t u e = ap (λ (a : GroundAtom). a.args) e

some_is : (x y : Elem) → Some x ≡ Some y → x ≡ y
some_is x y e = cc

same_values : (i : ℕ) (t : List Elem) (x y : Elem) → valued i t x ≡ valued i t y → x ≡ y
same_values i t x y e = some_is x y (ap (λ (a : GroundAtom). a.value) e)

pub with_distinct : (domains : List (List Elem)) (i : ℕ) (ts : List (List Elem)) (ty : Option ℕ)
    → AllByRecursion IsDistinct domains → IsDistinct ts → IsDistinct (atoms_with domains i ts ty)
with_distinct domains i ts None h d = distinct-map (plain i) (same_args i) ts d
with_distinct domains i ts (Some ty) h d =
    distinct_parts (λ t. map (valued i t) (domain_at domains ty)) (λ (a : GroundAtom). a.args) (λ t. t) ts
    (λ t a m. let r = map_has (valued i t) (domain_at domains ty) a m in ap (λ (b : GroundAtom). b.args) (sym r.2))
    (λ t. distinct-map (valued i t) (same_values i t) (domain_at domains ty) (domain_is_distinct domains ty h))
    (subst IsDistinct (sym (map-itself ts)) d)

with_symbol : (domains : List (List Elem)) (i : ℕ) (ts : List (List Elem)) (ty : Option ℕ) (a : GroundAtom)
    → Has (atoms_with domains i ts ty) a → a.symbol ≡ i
with_symbol domains i ts None a m = let r = map_has _ ts a m in ap (λ (b : GroundAtom). b.symbol) (sym r.2)
with_symbol domains i ts (Some ty) a m =
    let r = flat_map_has (λ t. map (λ y. record { symbol = i; args = t; value = Some y })
    (domain_at domains ty)) ts a m in
    let q = map_has _ (domain_at domains ty) a r.2 in
    ap (λ (b : GroundAtom). b.symbol) (sym q.2)

-- no atom is listed twice
pub atoms_distinct : (symbols : List Symbol) (domains : List (List Elem)) → AllByRecursion IsDistinct domains
    → IsDistinct (atoms_over symbols domains)
atoms_distinct symbols domains h =
    distinct_parts (λ (s : ℕ × Symbol). atoms_with domains s.0 (tuples_of domains s.1.args) s.1.value)
    (λ (a : GroundAtom). a.symbol) (λ s. s.0) (enumerate_from 0 symbols)
    (λ s a m. with_symbol domains s.0 (tuples_of domains s.1.args) s.1.value a m)
    (λ s. with_distinct domains s.0 (tuples_of domains s.1.args) s.1.value h (tuples_distinct domains s.1.args h))
    (numbers_distinct 0 symbols)
