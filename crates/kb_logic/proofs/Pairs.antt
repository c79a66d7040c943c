-- The list of what f makes of each item of one list with each item of another.
use Rattle.std.proofs.Common.{◌≡◌, ℕ, zero, suc, ◌+◌, ◌*◌, ◌<◌, List, [], ◌∷◌, ◌++◌, map, length, get_or, Bool, cond}
use Rattle.std.proofs.Common.{true, false, ◌||◌, refl, sym, ap, ◌∙◌, arith, length-append}
use Rattle.std.specs.List.{flat_map, list_all, list_any, sum_by, filter, AllByRecursion}
use Rattle.std.proofs.lemmas.List.{map-append, length-map, get_or_append_left, get_or-append-add, get_or-map}
use Rattle.std.proofs.lemmas.List.Elements.{filter-append}
use Rattle.std.proofs.lemmas.List.Folds.{list_all-append, list_all-map, list_any-append, fold-map}
use Rattle.std.proofs.lemmas.List.Sums.{sum_by-append, sum_by-cons}

abbrev pub pairs : {A B C : Type 0} → (A → B → C) → List B → List A → List C
pairs f more xs = flat_map (λ x. map (f x) more) xs

pub length-pairs : {A B C : Type 0} (f : A → B → C) (more : List B) (xs : List A) → length (pairs f more xs)
    ≡ length xs * length more
length-pairs f more [] = omega arith
length-pairs f more (x ∷ xs) = length-append (map (f x) more) (pairs f more xs)
    ∙ rw (length-map more (f x), length-pairs f more xs) (omega arith)

-- the pair of the item at q with the item at r
pub get_or-pairs : {A B C : Type 0} (f : A → B → C) (more : List B) (xs : List A) (q r : ℕ) (x : A) (y : B) (z : C)
    → q < length xs → r < length more
    → get_or (pairs f more xs) (q * length more + r) z ≡ f (get_or xs q x) (get_or more r y)
get_or-pairs f more [] q r x y z h k = absurd (omega arith)
get_or-pairs f more (w ∷ xs) zero r x y z h k =
    let at : 0 * length more + r ≡ r = omega arith in
    rw at (get_or_append_left (map (f w) more) (pairs f more xs) z r (rw length-map k) ∙ get_or-map (f w) more r y z k)
get_or-pairs f more (w ∷ xs) (suc q) r x y z h k =
    let at : suc q * length more + r ≡ length (map (f w) more) + (q * length more + r) = rw length-map (omega arith) in
    rw at (get_or-append-add (map (f w) more) (pairs f more xs) (q * length more + r) z
    ∙ get_or-pairs f more xs q r x y z (omega arith) k)

pub list_all-pairs : {A B C : Type 0} (P : C → Bool) (f : A → B → C) (more : List B) (xs : List A)
    → list_all P (pairs f more xs) ≡ list_all (λ x. list_all (λ y. P (f x y)) more) xs
list_all-pairs P f more [] = refl
list_all-pairs P f more (x ∷ xs) = list_all-append P (map (f x) more) (pairs f more xs)
    ∙ rw (list_all-map P (f x) more, list_all-pairs P f more xs)

list_any-map : {X Y : Type 0} (p : Y → Bool) (h : X → Y) (xs : List X) → list_any p (map h xs)
    ≡ list_any (λ x. p (h x)) xs
list_any-map p h [] = refl
list_any-map p h (x ∷ xs) = ap (λ b. p (h x) || b) (list_any-map p h xs)

pub list_any-pairs : {A B C : Type 0} (P : C → Bool) (f : A → B → C) (more : List B) (xs : List A)
    → list_any P (pairs f more xs) ≡ list_any (λ x. list_any (λ y. P (f x y)) more) xs
list_any-pairs P f more [] = refl
list_any-pairs P f more (x ∷ xs) = list_any-append P (map (f x) more) (pairs f more xs)
    ∙ rw (list_any-map P (f x) more, list_any-pairs P f more xs)

pub sum_by-pairs : {A B C : Type 0} (g : C → ℕ) (f : A → B → C) (more : List B) (xs : List A)
    → sum_by g (pairs f more xs) ≡ sum_by (λ x. sum_by (λ y. g (f x y)) more) xs
sum_by-pairs g f more [] = refl
sum_by-pairs g f more (x ∷ xs) =
    sum_by-append g (map (f x) more) (pairs f more xs)
    ∙ ap (λ n. n + sum_by g (pairs f more xs)) (fold-map (λ n y. n + g y) (f x) 0 more)
    ∙ ap (λ n. sum_by (λ y. g (f x y)) more + n) (sum_by-pairs g f more xs)
    ∙ sym (sum_by-cons (λ w. sum_by (λ y. g (f w y)) more) x xs)

-- the values of V at the items that pass P
abbrev pub kept : {C D : Type 0} → (C → Bool) → (C → D) → List C → List D
kept P V xs = map V (filter P xs)

kept-append : {C D : Type 0} (P : C → Bool) (V : C → D) (xs ys : List C) → kept P V (xs ++ ys)
    ≡ kept P V xs ++ kept P V ys
kept-append P V xs ys = ap (map V) (filter-append P xs ys) ∙ map-append V (filter P xs) (filter P ys)

map-cond : {C D : Type 0} (b : Bool) (V : C → D) (z : C) (zs : List C) → map V (cond b (z ∷ zs) zs)
    ≡ cond b (V z ∷ map V zs) (map V zs)
map-cond true V z zs = refl
map-cond false V z zs = refl

kept-map : {B C D : Type 0} (P : C → Bool) (V : C → D) (h : B → C) (ys : List B) → kept P V (map h ys)
    ≡ kept (λ y. P (h y)) (λ y. V (h y)) ys
kept-map P V h [] = refl
kept-map P V h (y ∷ ys) =
    map-cond (P (h y)) V (h y) (filter P (map h ys)) ∙ ap (λ r. cond (P (h y)) (V (h y) ∷ r) r) (kept-map P V h ys)
    ∙ sym (map-cond (P (h y)) (λ w. V (h w)) y (filter (λ w. P (h w)) ys))

pub kept-pairs : {A B C D : Type 0} (P : C → Bool) (V : C → D) (f : A → B → C) (more : List B) (xs : List A)
    → kept P V (pairs f more xs) ≡ flat_map (λ x. kept (λ y. P (f x y)) (λ y. V (f x y)) more) xs
kept-pairs P V f more [] = refl
kept-pairs P V f more (x ∷ xs) = kept-append P V (map (f x) more) (pairs f more xs)
    ∙ rw (kept-map P V (f x) more, kept-pairs P V f more xs)

all-append : {C : Type 0} (P : C → Type 0) (xs ys : List C) → AllByRecursion P (xs ++ ys) → AllByRecursion P xs
    × AllByRecursion P ys
all-append P [] ys h = (tt, h)
all-append P (x ∷ xs) ys h = let rest = all-append P xs ys h.1 in ((h.0, rest.0), rest.1)

append-all : {C : Type 0} (P : C → Type 0) (xs ys : List C) → AllByRecursion P xs → AllByRecursion P ys
    → AllByRecursion P (xs ++ ys)
append-all P [] ys h k = k
append-all P (x ∷ xs) ys h k = (h.0, append-all P xs ys h.1 k)

all-map : {B C : Type 0} (P : C → Type 0) (h : B → C) (ys : List B) → AllByRecursion P (map h ys)
    → AllByRecursion (λ y. P (h y)) ys
all-map P h [] k = tt
all-map P h (y ∷ ys) k = (k.0, all-map P h ys k.1)

map-all : {B C : Type 0} (P : C → Type 0) (h : B → C) (ys : List B) → AllByRecursion (λ y. P (h y)) ys
    → AllByRecursion P (map h ys)
map-all P h [] k = tt
map-all P h (y ∷ ys) k = (k.0, map-all P h ys k.1)

-- what holds of all pairs holds of those with one item
pub all-pairs : {A B C : Type 0} (P : C → Type 0) (f : A → B → C) (more : List B) (xs : List A) (i : ℕ) (x : A)
    → i < length xs → AllByRecursion P (pairs f more xs)
    → AllByRecursion (λ y. P (f (get_or xs i x) y)) more
all-pairs P f more [] i x h k = absurd (omega arith)
all-pairs P f more (w ∷ xs) zero x h k = all-map P (f w) more ((all-append P (map (f w) more) (pairs f more xs) k).0)
all-pairs P f more (w ∷ xs) (suc i) x h k = all-pairs P f more xs i x (omega arith)
    ((all-append P (map (f w) more) (pairs f more xs) k).1)

pub pairs-all : {A B C : Type 0} (P : C → Type 0) (f : A → B → C) (more : List B) (xs : List A)
    → ((x : A) → AllByRecursion (λ y. P (f x y)) more) → AllByRecursion P (pairs f more xs)
pairs-all P f more [] h = tt
pairs-all P f more (x ∷ xs) h = append-all P (map (f x) more) (pairs f more xs) (map-all P (f x) more (h x))
    (pairs-all P f more xs h)

pub all_at : {C : Type 0} (P : C → Type 0) (xs : List C) (i : ℕ) (x : C) → i < length xs → AllByRecursion P xs
    → P (get_or xs i x)
all_at P [] i x h k = absurd (omega arith)
all_at P (y ∷ ys) zero x h k = k.0
all_at P (y ∷ ys) (suc i) x h k = all_at P ys i x (omega arith) k.1
