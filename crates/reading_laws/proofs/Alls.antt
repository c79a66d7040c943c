-- What is true of each item of a list.
use Rattle.std.proofs.Common.{◌≡◌, ℕ, zero, suc, List, [], ◌∷◌, ◌++◌, map, Some, slice_get, subst}
use Rattle.std.specs.List.{AllByRecursion}
use Rattle.std.proofs.lemmas.Option.{same_Some, none-some}

module _ {X : Type 0} (P : X → Type 0) where
  pub all_left : (xs ys : List X) → AllByRecursion P (xs ++ ys) → AllByRecursion P xs
  all_left [] ys h = tt
  all_left (x ∷ xs) ys h = (h.0, all_left xs ys h.1)

  pub all_right : (xs ys : List X) → AllByRecursion P (xs ++ ys) → AllByRecursion P ys
  all_right [] ys h = h
  all_right (x ∷ xs) ys h = all_right xs ys h.1

  pub all_append : (xs ys : List X) → AllByRecursion P xs → AllByRecursion P ys → AllByRecursion P (xs ++ ys)
  all_append [] ys h k = k
  all_append (x ∷ xs) ys h k = (h.0, all_append xs ys h.1 k)

  pub all_at : (xs : List X) (i : ℕ) (x : X) → slice_get xs i ≡ Some x → AllByRecursion P xs → P x
  all_at [] i x e h = absurd (none-some x e)
  all_at (y ∷ ys) zero x e h = subst P (same_Some y x e) h.0
  all_at (y ∷ ys) (suc i) x e h = all_at ys i x e h.1

  pub each_of : (Q : X → Type 0) → ((x : X) → Q x → P x) → (xs : List X) → AllByRecursion Q xs → AllByRecursion P xs
  each_of Q f [] h = tt
  each_of Q f (x ∷ xs) h = (f x h.0, each_of Q f xs h.1)

module _ {X Y : Type 0} (P : Y → Type 0) (f : X → Y) where
  pub all_mapped : (xs : List X) → AllByRecursion (λ x. P (f x)) xs → AllByRecursion P (map f xs)
  all_mapped [] h = tt
  all_mapped (x ∷ xs) h = (h.0, all_mapped xs h.1)
