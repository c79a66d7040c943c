-- Sums over lists that are made of other lists.
use Rattle.std.proofs.Common.{◌≡◌, ◌≤◌, ℕ, ◌+◌, ◌*◌, List, [], ◌∷◌, map, length, refl, sym, ap, ◌∙◌, arith, inl, inr}
use Rattle.std.specs.List.{flat_map, sum_by, enumerate_from}
use Rattle.std.proofs.lemmas.List.Sums.{sum_by-cons, sum_by-append}
use Rattle.std.proofs.lemmas.List.Folds.{fold-map}
use Rattle.kb_logic.proofs.Has.{Has}

pub sum-map : {X Y : Type 0} (g : Y → ℕ) (f : X → Y) (xs : List X) → sum_by g (map f xs) ≡ sum_by (λ x. g (f x)) xs
sum-map g f xs = fold-map (λ n y. n + g y) f 0 xs

pub sum-flat : {X Y : Type 0} (g : Y → ℕ) (f : X → List Y) (xs : List X)
    → sum_by g (flat_map f xs) ≡ sum_by (λ x. sum_by g (f x)) xs
sum-flat g f [] = refl
sum-flat g f (x ∷ xs) =
    sum_by-append g (f x) (flat_map f xs) ∙ ap (λ n. sum_by g (f x) + n) (sum-flat g f xs)
    ∙ sym (sum_by-cons (λ y. sum_by g (f y)) x xs)

pub sum-same : {X : Type 0} (g h : X → ℕ) (xs : List X) → ((x : X) → Has xs x → g x ≡ h x)
    → sum_by g xs ≡ sum_by h xs
sum-same g h [] e = refl
sum-same g h (x ∷ xs) e =
    sum_by-cons g x xs ∙ ap (λ n. n + sum_by g xs) (e x (inl refl))
    ∙ ap (λ n. h x + n) (sum-same g h xs (λ y at. e y (inr at))) ∙ sym (sum_by-cons h x xs)

-- the sum of two numbers for each item
pub both : {X : Type 0} (a b : X → ℕ) (xs : List X) → sum_by (λ x. a x + b x) xs ≡ sum_by a xs + sum_by b xs
both a b [] = refl
both a b (x ∷ xs) =
    let rest = both a b xs in
    let sum = sum_by-cons (λ y. a y + b y) x xs in
    let first = sum_by-cons a x xs in
    let second = sum_by-cons b x xs in
    omega (arith, rest, sum, first, second)

-- of which each is 0
pub nothing : {X : Type 0} (g : X → ℕ) (xs : List X) (m : ℕ) → ((x : X) → g x ≡ 0) → sum_by g xs ≤ m
nothing g [] m z = omega arith
nothing g (x ∷ xs) m z =
    let rest = nothing g xs 0 z in
    let here = z x in
    let sum = sum_by-cons g x xs in
    omega (arith, rest, here, sum)

-- over the items of a list with their numbers
pub sum-numbered : {X : Type 0} (f : ℕ × X → ℕ) (g : X → ℕ) → ((n : ℕ) (x : X) → f (n, x) ≡ g x) → (n : ℕ)
    (xs : List X) → sum_by f (enumerate_from n xs) ≡ sum_by g xs
sum-numbered f g is n [] = refl
sum-numbered f g is n (x ∷ xs) =
    let left = sum_by-cons f (n, x) (enumerate_from (n + 1) xs) in
    let right = sum_by-cons g x xs in
    let here = is n x in
    let rest = sum-numbered f g is (n + 1) xs in
    omega (arith, left, right, here, rest)

-- of which each is at most one number more than another one
pub at_most : {X : Type 0} (own : ℕ) (g h : X → ℕ) (xs : List X) → ((x : X) → g x ≤ own + h x)
    → sum_by g xs ≤ length xs * own + sum_by h xs
at_most own g h [] e = omega arith
at_most own g h (x ∷ xs) e =
    let rest = at_most own g h xs e in
    let here = e x in
    let sum = sum_by-cons g x xs in
    let other = sum_by-cons h x xs in
    let more : (length xs + 1) * own ≡ length xs * own + own = omega arith in
    omega (arith, rest, here, sum, other, more)
