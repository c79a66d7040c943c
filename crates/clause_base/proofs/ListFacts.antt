-- Lemmas on lists that std lacks.
use Rattle.std.proofs.Common.{◌≡◌, ℕ, suc, zero, ◌<◌, ◌≤◌, ◌+◌, Bool, true, false, cond, Some, List, [], ◌∷◌, ◌++◌}
use Rattle.std.proofs.Common.{length, get_or, map, set, take, drop, refl, sym, ap, ◌∙◌, ◌⊎◌, inl, inr, ⊎_elim, arith}
use Rattle.std.proofs.Common.{slice_get, count_by}
use Rattle.std.proofs.lemmas.Option.{slice_get_within, get_or_from_slice_get, same_Some}
use Rattle.std.proofs.lemmas.List.Sums.{sum_by-set, sum_by_push, sum_by-cons, sum_by-le-sum_by, count_by-le-length}

-- an element of a list is there after a push
pub slice_get-push_old : {X : Type 0} (xs : List X) (y : X) (k : ℕ) (x : X) → slice_get xs k ≡ Some x
    → slice_get (xs ++ y ∷ []) k ≡ Some x
slice_get-push_old [] y k x h = absurd (cc)
slice_get-push_old (z ∷ xs) y zero x h = h
slice_get-push_old (z ∷ xs) y (suc k) x h = slice_get-push_old xs y k x h

pub slice_get-push_new : {X : Type 0} (xs : List X) (y : X) → slice_get (xs ++ y ∷ []) (length xs) ≡ Some y
slice_get-push_new [] y = refl
slice_get-push_new (z ∷ xs) y = slice_get-push_new xs y

-- an element of a list, as the list is mapped
pub slice_get-mapped : {X Y : Type 0} (f : X → Y) (xs : List X) (k : ℕ) (x : X) → slice_get xs k ≡ Some x
    → slice_get (map f xs) k ≡ Some (f x)
slice_get-mapped f [] k x h = absurd (cc)
slice_get-mapped f (y ∷ xs) zero x h = ap Some (ap f (same_Some y x h))
slice_get-mapped f (y ∷ xs) (suc k) x h = slice_get-mapped f xs k x h

-- an element of a list is there before more
pub slice_get-append_left : {X : Type 0} (xs ys : List X) (k : ℕ) (x : X) → slice_get xs k ≡ Some x
    → slice_get (xs ++ ys) k ≡ Some x
slice_get-append_left [] ys k x h = absurd (cc)
slice_get-append_left (z ∷ xs) ys zero x h = h
slice_get-append_left (z ∷ xs) ys (suc k) x h = slice_get-append_left xs ys k x h

-- an element after a push is one of before, or the new one
pub slice_get-push_cases : {X : Type 0} (xs : List X) (y : X) (k : ℕ) (x : X) → slice_get (xs ++ y ∷ []) k ≡ Some x
    → (slice_get xs k ≡ Some x) ⊎ ((k ≡ length xs) × (x ≡ y))
slice_get-push_cases [] y zero x h = inr (refl, sym (same_Some y x h))
slice_get-push_cases [] y (suc k) x h = absurd (cc)
slice_get-push_cases (z ∷ xs) y zero x h = inl h
slice_get-push_cases (z ∷ xs) y (suc k) x h = ⊎_elim (λ e. inl e) (λ e. inr (ap suc e.0, e.1))
    (slice_get-push_cases xs y k x h)

-- fewer pass than there are, where one does not
pub count_by-lt-length : {X : Type 0} (p : X → Bool) (xs : List X) (i : ℕ) (x : X) → slice_get xs i ≡ Some x
    → p x ≡ false → count_by p xs < length xs
count_by-lt-length p [] i x h e = absurd (cc)
count_by-lt-length p (y ∷ xs) zero x h e =
    let same : p y ≡ false = ap p (same_Some y x h) ∙ e in
    let step : count_by p (y ∷ xs) ≡ cond (p y) 1 0 + count_by p xs = sum_by-cons (λ x. cond (p x) 1 0) y xs in
    let le : count_by p xs ≤ length xs = count_by-le-length p xs in
    rw (step, same) (omega arith)
count_by-lt-length p (y ∷ xs) (suc i) x h e =
    let step : count_by p (y ∷ xs) ≡ cond (p y) 1 0 + count_by p xs = sum_by-cons (λ x. cond (p x) 1 0) y xs in
    let le : count_by p xs < length xs = count_by-lt-length p xs i x h e in
    rw step (elim (p y) as (λ b. cond b 1 0 + count_by p xs < suc (length xs))
    [ true ↦ omega arith | false ↦ omega arith ])

-- the count after one more starts to pass
pub count_by-set_yes : {X : Type 0} (p : X → Bool) (xs : List X) (i : ℕ) (x y : X) → slice_get xs i ≡ Some x
    → p x ≡ false → p y ≡ true → count_by p (set xs i y) ≡ count_by p xs + 1
count_by-set_yes p xs i x y h ex ey =
    let within : i < length xs = slice_get_within xs i x h in
    let e = sum_by-set (λ x. cond (p x) 1 0) xs i y x within in
    let g : get_or xs i x ≡ x = get_or_from_slice_get xs i x x h in
    let e2 : count_by p (set xs i y) + cond (p x) 1 0 ≡ count_by p xs + cond (p y) 1 0 = rw g at e in
    let e3 : count_by p (set xs i y) + 0 ≡ count_by p xs + 1 = rw (ex, ey) at e2 in
    omega arith

pub count_by-set_no : {X : Type 0} (p : X → Bool) (xs : List X) (i : ℕ) (x y : X) → slice_get xs i ≡ Some x → p x ≡ true
    → p y ≡ false → count_by p (set xs i y) + 1 ≡ count_by p xs
count_by-set_no p xs i x y h ex ey =
    let within : i < length xs = slice_get_within xs i x h in
    let e = sum_by-set (λ x. cond (p x) 1 0) xs i y x within in
    let g : get_or xs i x ≡ x = get_or_from_slice_get xs i x x h in
    let e2 : count_by p (set xs i y) + cond (p x) 1 0 ≡ count_by p xs + cond (p y) 1 0 = rw g at e in
    let e3 : count_by p (set xs i y) + 1 ≡ count_by p xs + 0 = rw (ex, ey) at e2 in
    omega arith

pub count_by-push : {X : Type 0} (p : X → Bool) (xs : List X) (y : X) → count_by p (xs ++ y ∷ [])
    ≡ count_by p xs + cond (p y) 1 0
count_by-push p xs y = sum_by_push (λ x. cond (p x) 1 0) xs y

-- a weaker test passes at least as often
pub count_by-le : {X : Type 0} (p q : X → Bool) (xs : List X) → ((x : X) → p x ≡ true → q x ≡ true)
    → count_by p xs ≤ count_by q xs
count_by-le p q xs h = sum_by-le-sum_by (λ x. cond (p x) 1 0) (λ x. cond (q x) 1 0) xs (λ x. weaker (p x) (q x) (h x))
  where
    weaker : (a b : Bool) → (a ≡ true → b ≡ true) → cond a 1 0 ≤ cond b 1 0
    weaker true b k = rw (k refl) (omega arith)
    weaker false b k = omega arith

-- an element after a write
pub slice_get-set_same : {X : Type 0} (xs : List X) (i : ℕ) (y : X) → i < length xs → slice_get (set xs i y) i ≡ Some y
slice_get-set_same [] i y h = absurd (omega arith)
slice_get-set_same (x ∷ xs) zero y h = refl
slice_get-set_same (x ∷ xs) (suc i) y h = slice_get-set_same xs i y (omega arith)

pub slice_get-set_other : {X : Type 0} (xs : List X) (i k : ℕ) (y : X) → (k ≡ i → ⊥) → slice_get (set xs i y) k
    ≡ slice_get xs k
slice_get-set_other [] i k y h = refl
slice_get-set_other (x ∷ xs) zero zero y h = absurd (h refl)
slice_get-set_other (x ∷ xs) zero (suc k) y h = refl
slice_get-set_other (x ∷ xs) (suc i) zero y h = refl
slice_get-set_other (x ∷ xs) (suc i) (suc k) y h = slice_get-set_other xs i k y (λ e. h (ap suc e))

-- a list that is a prefix of another, one element shorter
pub take-front : {X : Type 0} (all xs : List X) (x : X) → xs ++ x ∷ [] ≡ take (length (xs ++ x ∷ [])) all
    → (xs ≡ take (length xs) all) × (slice_get all (length xs) ≡ Some x)
take-front [] [] x h = absurd (let e = ap length h in omega arith)
take-front [] (y ∷ xs) x h = absurd (let e = ap length h in omega arith)
take-front (a ∷ all) [] x h = (refl, ap (λ ys. slice_get ys 0) (sym h))
take-front (a ∷ all) (y ∷ xs) x h =
    let r = take-front all xs x (ap (λ ys. drop 1 ys) h) in
    let e : Some y ≡ Some a = ap (λ ys. slice_get ys 0) h in
    (rw (← r.0, same_Some y a e) refl, r.1)

-- a list with an element has a last one
pub last-of : {X : Type 0} (xs : List X) (k : ℕ) (x : X) → slice_get xs k ≡ Some x
    → (i : ℕ) × (y : X) × (slice_get xs i ≡ Some y) × (i + 1 ≡ length xs)
last-of [] k x e = absurd (cc)
last-of (y ∷ []) k x e = (0, y, refl, refl)
last-of (y ∷ z ∷ xs) k x e = let r = last-of (z ∷ xs) 0 z refl in (suc r.0, r.1, r.2, omega (arith, r.3))

-- an element of a prefix
pub slice_get-take : {X : Type 0} (n : ℕ) (xs : List X) (k : ℕ) (x : X) → slice_get (take n xs) k ≡ Some x
    → (slice_get xs k ≡ Some x) × (k < n)
slice_get-take zero xs k x h = absurd (cc)
slice_get-take (suc n) [] k x h = absurd (cc)
slice_get-take (suc n) (y ∷ xs) zero x h = (h, omega arith)
slice_get-take (suc n) (y ∷ xs) (suc k) x h = let r = slice_get-take n xs k x h in (r.0, omega (arith, r.1))

pub slice_get-take-below : {X : Type 0} (n : ℕ) (xs : List X) (k : ℕ) → k < n → slice_get (take n xs) k ≡ slice_get xs k
slice_get-take-below zero xs k h = absurd (omega arith)
slice_get-take-below (suc n) [] k h = refl
slice_get-take-below (suc n) (y ∷ xs) zero h = refl
slice_get-take-below (suc n) (y ∷ xs) (suc k) h = slice_get-take-below n xs k (omega arith)

-- what a write leaves that is not what was written was there before
pub slice_get-set_cases : {X : Type 0} (xs : List X) (i : ℕ) (y : X) (k : ℕ) (x : X) → slice_get (set xs i y) k ≡ Some x
    → (y ≡ x → ⊥) → slice_get xs k ≡ Some x
slice_get-set_cases [] i y k x h ne = h
slice_get-set_cases (z ∷ xs) zero y zero x h ne = absurd (ne (same_Some y x h))
slice_get-set_cases (z ∷ xs) zero y (suc k) x h ne = h
slice_get-set_cases (z ∷ xs) (suc i) y zero x h ne = h
slice_get-set_cases (z ∷ xs) (suc i) y (suc k) x h ne = slice_get-set_cases xs i y k x h ne

-- a list of no elements
pub nil-from_length : {X : Type 0} (xs : List X) → length xs ≡ 0 → xs ≡ []
nil-from_length [] h = refl
nil-from_length (x ∷ xs) h = absurd (omega arith)
