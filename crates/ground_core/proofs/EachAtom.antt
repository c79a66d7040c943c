-- Each ground atom stands in their list once.
use Rattle.std.proofs.Common.{◌≡◌, ℕ, zero, suc, ◌+◌, ◌≤◌, true, List, [], ◌∷◌, map, flat_map, Option, Some, None}
use Rattle.std.proofs.Common.{slice_get, refl, sym, ◌∙◌, ap, subst, arith, inl, inr}
use Rattle.std.specs.List.{Contains, enumerate_from, AllByRecursion}
use Rattle.std.proofs.lemmas.List.Elements.{Contains-append_left, Contains-append_right, Contains-append_cases}
use Rattle.kb_logic.specs.declared.elements.Elem.{Elem}
use Rattle.kb_logic.specs.declared.structures.Literal.{Literal}
use Rattle.kb_logic.specs.declared.vocabularies.Bound.{Bound}
use Rattle.kb_logic.specs.declared.vocabularies.Symbol.{Symbol}
use Rattle.kb_logic.specs.Structures.{domain_at, tuples_of, EachWith, IsDistinct}
use Rattle.kb_logic.specs.Models.{HasValueIn}
use Rattle.kb_logic.proofs.Atoms.{numbered_at, tuple_elements}
use Rattle.kb_logic.proofs.Choices.{assignments_are_choices, assignments_are_distinct}
use Rattle.kb_logic.proofs.Members.{first, later, none_in, member_cases, in_map, from_map, distinct-append}
use Rattle.kb_logic.proofs.Members.{distinct-map}
use Rattle.ground_core.specs.Atoms.{atom_of, atoms_at, atoms_of_symbol, ground_atoms, IsGroundAtom}
use Rattle.ground_core.specs.Laws.{EachAtomStandsOnce}

-- members of joined lists
in_flat_map : {A B : Type 0} (f : A → List B) (xs : List A) (x : A) (y : B) → Contains xs x → Contains (f x) y
    → Contains (flat_map f xs) y
in_flat_map f [] x y at by = absurd (none_in x at)
in_flat_map f (w ∷ xs) x y at by = elim (member_cases w x xs at) [
  | inl e ↦ Contains-append_left (f w) (flat_map f xs) y (subst (λ z. Contains (f z) y) (sym e) by)
  | inr rest ↦ Contains-append_right (f w) (flat_map f xs) y (in_flat_map f xs x y rest by)
]

from_flat_map : {A B : Type 0} (f : A → List B) (xs : List A) (y : B) → Contains (flat_map f xs) y
    → (x : A) × Contains xs x × Contains (f x) y
from_flat_map f [] y at = absurd (none_in y at)
from_flat_map f (w ∷ xs) y at = elim (Contains-append_cases (f w) (flat_map f xs) y at) [
  | inl here ↦ (w, first w xs, here)
  | inr rest ↦ let r = from_flat_map f xs y rest in (r.0, later w r.0 xs r.1, r.2)
]

-- lists whose items have keys that tell from which part they come
distinct-parts : {X Y K : Type 0} (f : X → List Y) (key : Y → K) (h : X → K) (xs : List X)
    → ((x : X) (y : Y) → Contains (f x) y → key y ≡ h x) → ((x : X) → IsDistinct (f x)) → IsDistinct (map h xs)
    → IsDistinct (flat_map f xs)
distinct-parts f key h [] is each apart = tt
distinct-parts f key h (x ∷ xs) is each apart =
    distinct-append (f x) (flat_map f xs) (each x) (distinct-parts f key h xs is each apart.1)
    (λ z here there.
    let q = from_flat_map f xs z there in
    let same : h q.0 ≡ h x = sym (is q.0 z q.2) ∙ is x z here in
    apart.0 (subst (Contains (map h xs)) same (in_map h xs q.0 q.1)))

map-itself : {X : Type 0} (xs : List X) → map (λ x. x) xs ≡ xs
map-itself [] = refl
map-itself (x ∷ xs) = ap (λ ys. x ∷ ys) (map-itself xs)

-- the symbols with their numbers
later-numbers : (n : ℕ) (xs : List Symbol) (k : ℕ) → Contains (map (λ (s : ℕ × Symbol). s.0) (enumerate_from n xs)) k
    → n ≤ k
later-numbers n [] k at = absurd (none_in k at)
later-numbers n (x ∷ xs) k at = elim (member_cases n k (map (λ (s : ℕ × Symbol). s.0) (enumerate_from (n + 1) xs)) at) [
  | inl e ↦ omega (arith, e)
  | inr rest ↦ omega (arith, later-numbers (n + 1) xs k rest)
]

numbers-distinct : (n : ℕ) (xs : List Symbol) → IsDistinct (map (λ (s : ℕ × Symbol). s.0) (enumerate_from n xs))
numbers-distinct n [] = tt
numbers-distinct n (x ∷ xs) = (λ at. absurd (omega (arith, later-numbers (n + 1) xs n at)), numbers-distinct (n + 1) xs)

numbered : (xs : List Symbol) (k i : ℕ) (s : Symbol) → slice_get xs i ≡ Some s
    → Contains (enumerate_from k xs) (k + i, s)
numbered [] k i s is = cc
numbered (x ∷ xs) k zero s is =
    let here : x ≡ s = cc in
    let number : k ≡ k + 0 = omega arith in
    subst (λ n. Contains (enumerate_from k (x ∷ xs)) (n, s)) number
    (subst (λ y. Contains ((k, x) ∷ enumerate_from (k + 1) xs) (k, y)) here
    (first (k, x) (enumerate_from (k + 1) xs)))
numbered (x ∷ xs) k (suc i) s is =
    let number : (k + 1) + i ≡ k + suc i = omega arith in
    subst (λ n. Contains (enumerate_from k (x ∷ xs)) (n, s)) number
    (later (k, x) ((k + 1) + i, s) (enumerate_from (k + 1) xs) (numbered xs (k + 1) i s is))

-- tuples are choices of elements of their types
abbrev bound_of : ℕ → Bound
bound_of ty = record { name = []; ty = ty }

bounds-types : (types : List ℕ) → map (λ (b : Bound). b.ty) (map bound_of types) ≡ types
bounds-types [] = refl
bounds-types (ty ∷ types) = ap (λ ts. ty ∷ ts) (bounds-types types)

each-bound : (domains : List (List Elem)) (types : List ℕ) (a : List Elem)
    → EachWith (λ ty x. Contains (domain_at domains ty) x) types a
    → EachWith (λ (b : Bound) x. Contains (domain_at domains b.ty) x) (map bound_of types) a
each-bound domains [] [] h = tt
each-bound domains [] (x ∷ a) h = absurd h
each-bound domains (ty ∷ types) [] h = absurd h
each-bound domains (ty ∷ types) (x ∷ a) h = (h.0, each-bound domains types a h.1)

tuple-of : (domains : List (List Elem)) (types : List ℕ) (a : List Elem)
    → EachWith (λ ty x. Contains (domain_at domains ty) x) types a → Contains (tuples_of domains types) a
tuple-of domains types a h =
    subst (λ ts. Contains (tuples_of domains ts) a) (bounds-types types)
    ((assignments_are_choices (record { domains = domains; relations = []; functions = [] }) (map bound_of types) a).1
    (each-bound domains types a h))

tuples-distinct : (domains : List (List Elem)) (types : List ℕ) → AllByRecursion IsDistinct domains
    → IsDistinct (tuples_of domains types)
tuples-distinct domains types h =
    subst (λ ts. IsDistinct (tuples_of domains ts)) (bounds-types types)
    (assignments_are_distinct (record { domains = domains; relations = []; functions = [] }) (map bound_of types) h)

domain-distinct : (domains : List (List Elem)) (ty : ℕ) → AllByRecursion IsDistinct domains
    → IsDistinct (domain_at domains ty)
domain-distinct [] ty h = tt
domain-distinct (d ∷ domains) zero h = h.0
domain-distinct (d ∷ domains) (suc ty) h = domain-distinct domains ty h.1

-- the atoms with given arguments
some-is : (x y : Elem) → Some x ≡ Some y → x ≡ y
some-is x y e = cc

same-values : (n : ℕ) (args : List Elem) (x y : Elem) → atom_of n args (Some x) ≡ atom_of n args (Some y) → x ≡ y
same-values n args x y e = some-is x y (ap (λ (a : Literal). a.value) e)

at-distinct : (domains : List (List Elem)) (n : ℕ) (value : Option ℕ) (args : List Elem)
    → AllByRecursion IsDistinct domains → IsDistinct (atoms_at domains n value args)
at-distinct domains n None args h = (λ at. none_in (atom_of n args None) at, tt)
at-distinct domains n (Some ty) args h = distinct-map (λ x. atom_of n args (Some x)) (same-values n args)
    (domain_at domains ty) (domain-distinct domains ty h)

-- an atom with these arguments, of this symbol, with a value of its type
abbrev IsAt : List (List Elem) → ℕ → Option ℕ → List Elem → Literal → Type 0
IsAt domains n value args a = (x : Option Elem) × HasValueIn domains value x × (atom_of n args x ≡ a)

is-at : (domains : List (List Elem)) (n : ℕ) (value : Option ℕ) (args : List Elem) (a : Literal)
    → Contains (atoms_at domains n value args) a → IsAt domains n value args a
is-at domains n None args a at = elim (member_cases (atom_of n args None) a [] at)
    [ inl e ↦ (None, tt, e) | inr rest ↦ absurd (none_in a rest) ]
is-at domains n (Some ty) args a at = let r = from_map (λ x. atom_of n args (Some x)) (domain_at domains ty) a at in
    (Some r.0, r.1, r.2)

at-is : (domains : List (List Elem)) (n : ℕ) (value : Option ℕ) (args : List Elem) (x : Option Elem)
    → HasValueIn domains value x → Contains (atoms_at domains n value args) (atom_of n args x)
at-is domains n None args None h = first (atom_of n args None) []
at-is domains n None args (Some x) h = absurd h
at-is domains n (Some ty) args None h = absurd h
at-is domains n (Some ty) args (Some x) h = in_map (λ y. atom_of n args (Some y)) (domain_at domains ty) x h

-- the atoms of a symbol
of-symbol : (domains : List (List Elem)) (n : ℕ) (s : Symbol) (a : Literal) → Contains (atoms_of_symbol domains n s) a
    → (args : List Elem) × Contains (tuples_of domains s.args) args × IsAt domains n s.value args a
of-symbol domains n s a at =
    let r = from_flat_map (atoms_at domains n s.value) (tuples_of domains s.args) a at in
    (r.0, r.1, is-at domains n s.value r.0 a r.2)

symbol-number : (domains : List (List Elem)) (n : ℕ) (s : Symbol) (a : Literal)
    → Contains (atoms_of_symbol domains n s) a → a.symbol ≡ n
symbol-number domains n s a at = let r = of-symbol domains n s a at in ap (λ (b : Literal). b.symbol) (sym r.2.2)

symbol-distinct : (domains : List (List Elem)) (n : ℕ) (s : Symbol) → AllByRecursion IsDistinct domains
    → IsDistinct (atoms_of_symbol domains n s)
symbol-distinct domains n s h =
    distinct-parts (atoms_at domains n s.value) (λ (a : Literal). a.args) (λ args. args) (tuples_of domains s.args)
    (λ args a at. let r = is-at domains n s.value args a at in ap (λ (b : Literal). b.args) (sym r.2))
    (λ args. at-distinct domains n s.value args h)
    (subst IsDistinct (sym (map-itself (tuples_of domains s.args))) (tuples-distinct domains s.args h))

is-ground-atom : (symbols : List Symbol) (domains : List (List Elem)) (a : Literal)
    → Contains (ground_atoms symbols domains) a → IsGroundAtom symbols domains a
is-ground-atom symbols domains a at =
    let r = from_flat_map (λ (s : ℕ × Symbol). atoms_of_symbol domains s.0 s.1) (enumerate_from 0 symbols) a at in
    let q = of-symbol domains r.0.0 r.0.1 a r.2 in
    let p = numbered_at symbols 0 r.0.0 r.0.1 r.1 in
    let number : r.0.0 ≡ p.0 = omega (arith, p.1) in
    subst (IsGroundAtom symbols domains) q.2.2
    (record {
      positive = refl;
      symbol = r.0.1;
      declared = subst (λ k. slice_get symbols k ≡ Some r.0.1) (sym number) p.2;
      args = tuple_elements domains r.0.1.args q.0 q.1;
      value = q.2.1;
    })

atom-is : (a : Literal) → a.positive ≡ true → atom_of a.symbol a.args a.value ≡ a
atom-is a e = ap (λ b. record a { positive = b }) (sym e)

ground-atom-is : (symbols : List Symbol) (domains : List (List Elem)) (a : Literal) → IsGroundAtom symbols domains a
    → Contains (ground_atoms symbols domains) a
ground-atom-is symbols domains a h =
    let number : 0 + a.symbol ≡ a.symbol = omega arith in
    let listed = subst (λ k. Contains (enumerate_from 0 symbols) (k, h.symbol)) number
    (numbered symbols 0 a.symbol h.symbol h.declared) in
    let here = at-is domains a.symbol h.symbol.value a.args a.value h.value in
    let there = in_flat_map (atoms_at domains a.symbol h.symbol.value) (tuples_of domains h.symbol.args) a.args
    (atom_of a.symbol a.args a.value) (tuple-of domains h.symbol.args a.args h.args) here in
    subst (Contains (ground_atoms symbols domains)) (atom-is a h.positive)
    (in_flat_map (λ (s : ℕ × Symbol). atoms_of_symbol domains s.0 s.1) (enumerate_from 0 symbols) (a.symbol, h.symbol)
    (atom_of a.symbol a.args a.value) listed there)

pub each-atom : EachAtomStandsOnce
each-atom symbols domains = (
  λ a. (is-ground-atom symbols domains a, ground-atom-is symbols domains a),
  λ h. distinct-parts (λ (s : ℕ × Symbol). atoms_of_symbol domains s.0 s.1) (λ (a : Literal). a.symbol) (λ s. s.0)
      (enumerate_from 0 symbols)
      (λ s a at. symbol-number domains s.0 s.1 a at)
      (λ s. symbol-distinct domains s.0 s.1 h)
      (numbers-distinct 0 symbols),
)
