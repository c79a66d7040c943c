-- What is left of a list from an item on.
use Rattle.std.proofs.Common.{◌≡◌, ◌<◌, ◌+◌, ℕ, zero, suc, List, [], ◌∷◌, None, Some, drop, get_or}
use Rattle.std.proofs.Common.{length, map, refl, ap, ◌∙◌, add-one, drop-cons, arith, slice_get}

pub front : {X : Type 0} (xs : List X) (i : ℕ) (x : X) → i < length xs → x ≡ get_or xs i x
    → drop i xs ≡ x ∷ drop (i + 1) xs
front xs i x lt is = rw (add-one i, drop-cons xs i x, ← is) refl

pub drop_some : {X : Type 0} (xs : List X) (i : ℕ) (x : X) → slice_get xs i ≡ Some x → drop i xs ≡ x ∷ drop (i + 1) xs
drop_some [] i x h = let n : None ≡ Some x = h in absurd (cc)
drop_some (y ∷ ys) zero x h = let e : y ≡ x = cc in ap (λ z. z ∷ ys) e
drop_some (y ∷ ys) (suc i) x h = drop_some ys i x h ∙ ap (λ zs. x ∷ zs) (next ys i y)
  where
    next : {X : Type 0} (ys : List X) (i : ℕ) (y : X) → drop (i + 1) ys ≡ drop (suc i + 1) (y ∷ ys)
    next ys i y = let e : suc (i + 1) ≡ suc i + 1 = omega arith in ap (λ n. drop n (y ∷ ys)) e

pub drop_none : {X : Type 0} (xs : List X) (i : ℕ) → slice_get xs i ≡ None → drop i xs ≡ []
drop_none [] zero h = refl
drop_none [] (suc i) h = refl
drop_none (y ∷ ys) zero h = let n : Some y ≡ None = h in absurd (cc)
drop_none (y ∷ ys) (suc i) h = drop_none ys i h

pub drop-map : {X Y : Type 0} (f : X → Y) (xs : List X) (i : ℕ) → drop i (map f xs) ≡ map f (drop i xs)
drop-map f xs zero = refl
drop-map f [] (suc i) = refl
drop-map f (x ∷ xs) (suc i) = drop-map f xs i
