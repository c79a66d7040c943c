-- Members of lists.
use Rattle.std.proofs.Common.{◌≡◌, ℕ, zero, suc, ◌<◌, List, [], ◌∷◌, ◌++◌, map, length, get_or, Bool, true, false, cond}
use Rattle.std.proofs.Common.{◌⊎◌, ◌||◌, ◌&&◌, IsTrue, refl, sym, subst, arith, inl, inr}
use Rattle.std.specs.List.{Contains, filter, list_all, list_any, AllByRecursion}
use Rattle.std.proofs.lemmas.Bool.{or_cases}
use Rattle.std.proofs.lemmas.List.Elements.{Contains-append_left, Contains-append_right, Contains-append_cases}
use Rattle.kb_logic.specs.Structures.{IsDistinct}
use Rattle.kb_logic.proofs.Pairs.{pairs}

pub first : {X : Type 0} (x : X) (xs : List X) → Contains (x ∷ xs) x
first x xs = (0, omega arith, refl)

pub later : {X : Type 0} (y x : X) (xs : List X) → Contains xs x → Contains (y ∷ xs) x
later y x xs at = (suc at.0, omega (arith, at.1), at.2)

pub none_in : {X : Type 0} (x : X) → Contains [] x → ⊥
none_in x at = absurd (omega (arith, at.1))

cases_at : {X : Type 0} (y x : X) (xs : List X) (k : ℕ) → k < length (y ∷ xs) → get_or (y ∷ xs) k x ≡ x
    → (y ≡ x) ⊎ Contains xs x
cases_at y x xs zero h at = inl at
cases_at y x xs (suc k) h at = inr (k, omega arith, at)

pub member_cases : {X : Type 0} (y x : X) (xs : List X) → Contains (y ∷ xs) x → (y ≡ x) ⊎ Contains xs x
member_cases y x xs at = cases_at y x xs at.0 at.1 at.2

pub all_in : {X : Type 0} (P : X → Type 0) (xs : List X) → AllByRecursion P xs → (x : X) → Contains xs x → P x
all_in P [] h x at = absurd (none_in x at)
all_in P (y ∷ xs) h x at = elim (member_cases y x xs at) [ inl e ↦ subst P e h.0 | inr more ↦ all_in P xs h.1 x more ]

pub in_all : {X : Type 0} (P : X → Type 0) (xs : List X) → ((x : X) → Contains xs x → P x) → AllByRecursion P xs
in_all P [] h = tt
in_all P (y ∷ xs) h = (h y (first y xs), in_all P xs (λ x at. h x (later y x xs at)))

pub in_map : {X Y : Type 0} (f : X → Y) (xs : List X) (x : X) → Contains xs x → Contains (map f xs) (f x)
in_map f [] x at = absurd (none_in x at)
in_map f (y ∷ xs) x at = elim (member_cases y x xs at) [
  | inl e ↦ subst (λ z. Contains (map f (y ∷ xs)) (f z)) e
      (first (f y) (map f xs))
  | inr more ↦ later (f y) (f x) (map f xs) (in_map f xs x more)
]

pub from_map : {X Y : Type 0} (f : X → Y) (xs : List X) (z : Y) → Contains (map f xs) z
    → (x : X) × Contains xs x × (f x ≡ z)
from_map f [] z at = absurd (none_in z at)
from_map f (y ∷ xs) z at = elim (member_cases (f y) z (map f xs) at) [
  | inl e ↦ (y, first y xs, e)
  | inr more ↦ let r =
      from_map f xs z more in (r.0, later y r.0 xs r.1, r.2)
]

pub in_pairs : {A B C : Type 0} (f : A → B → C) (more : List B) (xs : List A) (x : A) (y : B) → Contains xs x
    → Contains more y → Contains (pairs f more xs) (f x y)
in_pairs f more [] x y at by = absurd (none_in x at)
in_pairs f more (w ∷ xs) x y at by = elim (member_cases w x xs at) [
  | inl e ↦ Contains-append_left (map (f w) more) (pairs f more xs) (f x y)
      (subst (λ z. Contains (map (f w) more) (f z y)) e (in_map (f w) more y by))
  | inr rest ↦ Contains-append_right (map (f w) more) (pairs f more xs) (f x y) (in_pairs f more xs x y rest by)
]

pub from_pairs : {A B C : Type 0} (f : A → B → C) (more : List B) (xs : List A) (z : C) → Contains (pairs f more xs) z
    → (x : A) × (y : B) × Contains xs x × Contains more y × (f x y ≡ z)
from_pairs f more [] z at = absurd (none_in z at)
from_pairs f more (w ∷ xs) z at = elim (Contains-append_cases (map (f w) more) (pairs f more xs) z at) [
  | inl here ↦ let r = from_map (f w) more z here in (w, r.0, first w xs, r.1, r.2)
  | inr rest ↦ let r = from_pairs f more xs z rest in (r.0, r.1, later w r.0 xs r.2, r.3, r.4)
]

in_cond : {X : Type 0} (b : Bool) (y x : X) (xs ys : List X) → (Contains xs x → Contains ys x)
    → Contains (cond b (y ∷ xs) xs) x → Contains (y ∷ ys) x
in_cond true y x xs ys h at = elim (member_cases y x xs at) [
  | inl e ↦ subst (λ z. Contains (y ∷ ys) z) e
      (first y ys)
  | inr more ↦ later y x ys (h more)
]
in_cond false y x xs ys h at = later y x ys (h at)

pub from_filter : {X : Type 0} (test : X → Bool) (xs : List X) (x : X) → Contains (filter test xs) x → Contains xs x
from_filter test [] x at = at
from_filter test (y ∷ xs) x at = in_cond (test y) y x (filter test xs) xs (from_filter test xs x) at

pub distinct-append : {X : Type 0} (xs ys : List X) → IsDistinct xs → IsDistinct ys
    → ((z : X) → Contains xs z → Contains ys z → ⊥) → IsDistinct (xs ++ ys)
distinct-append [] ys h k apart = k
distinct-append (x ∷ xs) ys h k apart = (
  λ at. elim (Contains-append_cases xs ys x at) [ inl here ↦ h.0 here | inr there ↦ apart x (first x xs) there ],
  distinct-append xs ys h.1 k (λ z here there. apart z (later x z xs here) there),
)

pub distinct-map : {X Y : Type 0} (f : X → Y) → ((a b : X) → f a ≡ f b → a ≡ b) → (xs : List X) → IsDistinct xs
    → IsDistinct (map f xs)
distinct-map f one [] h = tt
distinct-map f one (x ∷ xs) h = (
  λ at. let r = from_map f xs (f x) at in h.0 (subst (λ z. Contains xs z) (one r.0 x r.2) r.1),
  distinct-map f one xs h.1,
)

and_first : (a b : Bool) → IsTrue (a && b) → IsTrue a
and_first true b h = refl
and_first false b h = cc

and_second : (a b : Bool) → IsTrue (a && b) → IsTrue b
and_second true b h = h
and_second false b h = cc

and_both : (a b : Bool) → IsTrue a → IsTrue b → IsTrue (a && b)
and_both true b h k = k
and_both false b h k = cc

pub every_one : {X : Type 0} (p : X → Bool) (xs : List X) → IsTrue (list_all p xs) → (x : X) → Contains xs x
    → IsTrue (p x)
every_one p [] h x at = absurd (none_in x at)
every_one p (y ∷ xs) h x at = elim (member_cases y x xs at) [
  | inl e ↦ subst (λ z. IsTrue (p z)) e
      (and_first (p y) (list_all p xs) h)
  | inr more ↦ every_one p xs (and_second (p y) (list_all p xs) h) x more
]

pub one_and_all : {X : Type 0} (p : X → Bool) (xs : List X) → ((x : X) → Contains xs x → IsTrue (p x))
    → IsTrue (list_all p xs)
one_and_all p [] h = refl
one_and_all p (y ∷ xs) h = and_both (p y) (list_all p xs) (h y (first y xs))
    (one_and_all p xs (λ x at. h x (later y x xs at)))

pub some_one : {X : Type 0} (p : X → Bool) (xs : List X) → IsTrue (list_any p xs) → (x : X) × Contains xs x
    × IsTrue (p x)
some_one p [] h = cc
some_one p (y ∷ xs) h = elim (or_cases (p y) (list_any p xs) h) [
  | inl e ↦ (y, first y xs, e)
  | inr more ↦ let r =
      some_one p xs more in (r.0, later y r.0 xs r.1, r.2)
]

or_first : (a b : Bool) → IsTrue a → IsTrue (a || b)
or_first true b h = refl
or_first false b h = cc

or_second : (a b : Bool) → IsTrue b → IsTrue (a || b)
or_second true b h = refl
or_second false b h = h

pub one_is_some : {X : Type 0} (p : X → Bool) (xs : List X) (x : X) → Contains xs x → IsTrue (p x)
    → IsTrue (list_any p xs)
one_is_some p [] x at h = absurd (none_in x at)
one_is_some p (y ∷ xs) x at h = elim (member_cases y x xs at) [
  | inl e ↦ or_first (p y) (list_any p xs) (subst (λ z. IsTrue (p z)) (sym e) h)
  | inr more ↦ or_second (p y) (list_any p xs) (one_is_some p xs x more h)
]
