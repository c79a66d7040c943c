-- Membership, item by item.
use Rattle.std.proofs.Common.{◌≡◌, ℕ, suc, zero, ◌+◌, ◌<◌, List, [], ◌∷◌, ◌++◌, map, length, Bool, true, false, ◌||◌}
use Rattle.std.proofs.Common.{Some, cond, refl, sym, ap, ◌∙◌, arith, slice_get, ◌⊎◌, inl, inr, filter, subst, get_or}
use Rattle.std.specs.List.{list_any, flat_map, enumerate_from, Contains}
use Rattle.std.proofs.lemmas.Bool.{cases_Bool, true≢false, false_from_ne_true}

abbrev pub Has : {X : Type 0} → List X → X → Type 0
Has [] x = ⊥
Has (y ∷ ys) x = (y ≡ x) ⊎ Has ys x

pub has_at : {X : Type 0} (xs : List X) (x : X) (k : ℕ) → k < length xs → get_or xs k x ≡ x → Has xs x
has_at [] x k lt e = absurd (omega arith)
has_at (y ∷ ys) x zero lt e = inl e
has_at (y ∷ ys) x (suc k) lt e = inr (has_at ys x k (omega arith) e)

pub has_from : {X : Type 0} (xs : List X) (x : X) → Contains xs x → Has xs x
has_from xs x c = has_at xs x c.0 c.1 c.2

pub contains_from : {X : Type 0} (xs : List X) (x : X) → Has xs x → Contains xs x
contains_from [] x m = absurd m
contains_from (y ∷ ys) x (inl e) = (0, omega arith, e)
contains_from (y ∷ ys) x (inr m) = let c = contains_from ys x m in (suc c.0, omega (arith, c.1), c.2)

pub has_get : {X : Type 0} (xs : List X) (k : ℕ) (x : X) → slice_get xs k ≡ Some x → Has xs x
has_get [] k x h = absurd (cc)
has_get (y ∷ ys) zero x h = inl (cc)
has_get (y ∷ ys) (suc k) x h = inr (has_get ys k x h)

pub has_left : {X : Type 0} (xs ys : List X) (x : X) → Has xs x → Has (xs ++ ys) x
has_left [] ys x h = absurd h
has_left (z ∷ xs) ys x (inl e) = inl e
has_left (z ∷ xs) ys x (inr m) = inr (has_left xs ys x m)

pub has_right : {X : Type 0} (xs ys : List X) (x : X) → Has ys x → Has (xs ++ ys) x
has_right [] ys x h = h
has_right (z ∷ xs) ys x h = inr (has_right xs ys x h)

pub has_either : {X : Type 0} (xs ys : List X) (x : X) → Has (xs ++ ys) x → Has xs x ⊎ Has ys x
has_either [] ys x h = inr h
has_either (z ∷ xs) ys x (inl e) = inl (inl e)
has_either (z ∷ xs) ys x (inr m) = elim (has_either xs ys x m) [ inl a ↦ inl (inr a) | inr b ↦ inr b ]

pub has_map : {X Y : Type 0} (f : X → Y) (xs : List X) (x : X) → Has xs x → Has (map f xs) (f x)
has_map f [] x h = absurd h
has_map f (z ∷ xs) x (inl e) = inl (ap f e)
has_map f (z ∷ xs) x (inr m) = inr (has_map f xs x m)

pub map_has : {X Y : Type 0} (f : X → Y) (xs : List X) (y : Y) → Has (map f xs) y → (x : X) × Has xs x × (f x ≡ y)
map_has f [] y h = absurd h
map_has f (z ∷ xs) y (inl e) = (z, inl refl, e)
map_has f (z ∷ xs) y (inr m) = let r = map_has f xs y m in (r.0, inr r.1, r.2)

pub has_flat_map : {X Y : Type 0} (f : X → List Y) (xs : List X) (x : X) (y : Y) → Has xs x → Has (f x) y
    → Has (flat_map f xs) y
has_flat_map f [] x y h m = absurd h
has_flat_map f (z ∷ xs) x y (inl e) m = has_left (f z) (flat_map f xs) y (subst (λ w. Has (f w) y) (sym e) m)
has_flat_map f (z ∷ xs) x y (inr h) m = has_right (f z) (flat_map f xs) y (has_flat_map f xs x y h m)

pub flat_map_has : {X Y : Type 0} (f : X → List Y) (xs : List X) (y : Y) → Has (flat_map f xs) y → (x : X) × Has xs x
    × Has (f x) y
flat_map_has f [] y h = absurd h
flat_map_has f (z ∷ xs) y h = elim (has_either (f z) (flat_map f xs) y h) [
  | inl m ↦ (z, inl refl, m)
  | inr m ↦ let r = flat_map_has f xs y m in (r.0, inr r.1, r.2)
]

pub has_enumerated : {X : Type 0} (n k : ℕ) (xs : List X) (x : X) → slice_get xs k ≡ Some x
    → Has (enumerate_from n xs) (n + k, x)
has_enumerated n k [] x h = absurd (cc)
has_enumerated n zero (y ∷ xs) x h = inl (let at : y ≡ x = cc in let is : n ≡ n + 0 = omega arith in cc)
has_enumerated n (suc k) (y ∷ xs) x h =
    let same : (n + 1) + k ≡ n + suc k = omega arith in
    inr (subst (λ m. Has (enumerate_from (n + 1) xs) (m, x)) same (has_enumerated (n + 1) k xs x h))

pub enumerated_has : {X : Type 0} (n : ℕ) (xs : List X) (m : ℕ) (x : X) → Has (enumerate_from n xs) (m, x)
    → (k : ℕ) × (m ≡ n + k) × (slice_get xs k ≡ Some x)
enumerated_has n [] m x h = absurd h
enumerated_has n (y ∷ xs) m x (inl e) =
    let at : y ≡ x = ap (λ p. p.1) e in
    let is : n ≡ m = ap (λ p. p.0) e in
    (0, omega (arith, is), ap Some at)
enumerated_has n (y ∷ xs) m x (inr h) = let r = enumerated_has (n + 1) xs m x h in (suc r.0, omega (arith, r.1), r.2)

-- tests that agree on the items keep the same items
pub filter-same : {X : Type 0} (p q : X → Bool) (xs : List X) → ((x : X) → Has xs x → p x ≡ q x)
    → filter p xs ≡ filter q xs
filter-same p q [] h = refl
filter-same p q (x ∷ xs) h =
    ap (λ b. cond b (x ∷ filter p xs) (filter p xs)) (h x (inl refl)) ∙ ap (λ l. cond (q x) (x ∷ l) l)
    (filter-same p q xs (λ y m. h y (inr m)))

pub filter-none : {X : Type 0} (p : X → Bool) (xs : List X) → ((x : X) → p x ≡ false) → filter p xs ≡ []
filter-none p [] h = refl
filter-none p (x ∷ xs) h = ap (λ b. cond b (x ∷ filter p xs) (filter p xs)) (h x) ∙ filter-none p xs h

module _ {X : Type 0} (same P : X → Bool) (a : X) (only : (x : X) → same x ≡ true → x ≡ a)
    (itself : same a ≡ true) where
  kept_first : (x : X) (xs : List X) (b : Bool) → P x ≡ b → P a ≡ true → x ≡ a
      → list_any same (cond b (x ∷ filter P xs) (filter P xs)) ≡ true
  kept_first x xs true h p e = ap (λ y. same y || list_any same (filter P xs)) e
      ∙ ap (λ b. b || list_any same (filter P xs)) itself
  kept_first x xs false h p e = absurd (true≢false (sym p ∙ ap P (sym e) ∙ h))

  kept_later : (x : X) (xs : List X) (b c : Bool) → same x ≡ c → list_any same (filter P xs) ≡ true
      → list_any same (cond b (x ∷ filter P xs) (filter P xs)) ≡ true
  kept_later x xs false c e h = h
  kept_later x xs true true e h = ap (λ b. b || list_any same (filter P xs)) e
  kept_later x xs true false e h = ap (λ b. b || list_any same (filter P xs)) e ∙ h

  kept : (xs : List X) → P a ≡ true → Has xs a → list_any same (filter P xs) ≡ true
  kept [] p h = absurd h
  kept (x ∷ xs) p (inl e) = kept_first x xs (P x) refl p e
  kept (x ∷ xs) p (inr m) = kept_later x xs (P x) (same x) refl (kept xs p m)

  not_same : (x : X) → P x ≡ true → P a ≡ false → same x ≡ false
  not_same x p q = false_from_ne_true (same x) (λ s. true≢false (sym p ∙ ap P (only x s) ∙ q))

  dropped_first : (x : X) (xs : List X) (b : Bool) → P x ≡ b → P a ≡ false → list_any same (filter P xs) ≡ false
      → list_any same (cond b (x ∷ filter P xs) (filter P xs)) ≡ false
  dropped_first x xs true h q rest = ap (λ b. b || list_any same (filter P xs)) (not_same x h q) ∙ rest
  dropped_first x xs false h q rest = rest

  dropped : (xs : List X) → P a ≡ false → list_any same (filter P xs) ≡ false
  dropped [] q = refl
  dropped (x ∷ xs) q = dropped_first x xs (P x) refl q (dropped xs q)

  -- an item is among those that pass exactly where it passes
  pub any_kept : (xs : List X) → Has xs a → list_any same (filter P xs) ≡ P a
  any_kept xs m = elim (cases_Bool (P a)) [ inl p ↦ kept xs p m ∙ sym p | inr q ↦ dropped xs q ∙ sym q ]
