-- Items of lists that are put together.
use Rattle.std.proofs.Common.{◌≡◌, Bool, true, false, ◌||◌, List, [], ◌∷◌, map, filter, cond, Option, None, Some, refl}
use Rattle.std.proofs.Common.{sym, ap, subst, ◌∙◌, arith, ◌⊎◌, inl, inr, Contains}
use Rattle.std.specs.List.{list_any, list_all, flat_map, filter_map, cons_option}
use Rattle.std.proofs.lemmas.Bool.{true≢false, or_cases, and_parts}
use Rattle.std.proofs.lemmas.List.Elements.{Contains-append_left, Contains-append_right, Contains-append_cases}
use Rattle.std.proofs.lemmas.List.Elements.{Contains-push, Contains-push_cases}

or_true : (b : Bool) → (b || true) ≡ true
or_true true = refl
or_true false = refl

module _ {X : Type 0} where
  pub here : (x : X) (xs : List X) → Contains (x ∷ xs) x
  here x xs = Contains-append_left (x ∷ []) xs x (Contains-push [] x)

  pub there : (y x : X) (xs : List X) → Contains xs x → Contains (y ∷ xs) x
  there y x xs c = Contains-append_right (y ∷ []) xs x c

  pub nowhere : (x : X) → Contains [] x → ⊥
  nowhere x c = let l = c.1 in omega arith

  pub first_or_later : (y x : X) (xs : List X) → Contains (y ∷ xs) x → (y ≡ x) ⊎ Contains xs x
  first_or_later y x xs c = elim (Contains-append_cases (y ∷ []) xs x c) [
    | inl h ↦ elim (Contains-push_cases [] y x h) [
      | inl n ↦ absurd (nowhere x n)
      | inr e ↦ inl e
    ]
    | inr h ↦ inr h
  ]

  pub some_item : (test : X → Bool) (xs : List X) → list_any test xs ≡ true → (x : X) × Contains xs x × (test x ≡ true)
  some_item test [] h = absurd (true≢false (sym h))
  some_item test (x ∷ xs) h = elim (or_cases (test x) (list_any test xs) h) [
    | inl e ↦ (x, here x xs, e)
    | inr e ↦ let rest = some_item test xs e in (rest.0, there x rest.0 xs rest.1, rest.2)
  ]

  pub item_some : (test : X → Bool) (xs : List X) (x : X) → Contains xs x → test x ≡ true → list_any test xs ≡ true
  item_some test [] x c h = absurd (nowhere x c)
  item_some test (y ∷ ys) x c h = elim (first_or_later y x ys c) [
    | inl e ↦ ap (λ b. b || list_any test ys) (ap test e ∙ h)
    | inr e ↦ ap (λ b. test y || b) (item_some test ys x e h) ∙ or_true (test y)
  ]

  pub item_all : (test : X → Bool) (xs : List X) (x : X) → list_all test xs ≡ true → Contains xs x → test x ≡ true
  item_all test [] x h c = absurd (nowhere x c)
  item_all test (y ∷ ys) x h c =
      let parts = and_parts (test y) (list_all test ys) h in
      elim (first_or_later y x ys c) [
        | inl e ↦ ap test (sym e) ∙ parts.0
        | inr e ↦ item_all test ys x parts.1 e
      ]

  pub passed : (test : X → Bool) (xs : List X) (x : X) → Contains (filter test xs) x → Contains xs x × (test x ≡ true)
  passed test [] x c = absurd (nowhere x c)
  passed test (y ∷ ys) x c = by (test y) refl c (passed test ys x)
    where
      by : (b : Bool) → test y ≡ b → Contains (cond b (y ∷ filter test ys) (filter test ys)) x
          → (Contains (filter test ys) x → Contains ys x × (test x ≡ true)) → Contains (y ∷ ys) x × (test x ≡ true)
      by true e d go = elim (first_or_later y x (filter test ys) d) [
        | inl s ↦ (subst (λ z. Contains (y ∷ ys) z) s (here y ys), ap test (sym s) ∙ e)
        | inr s ↦ (there y x ys (go s).0, (go s).1)
      ]
      by false e d go = let rest = go d in (there y x ys rest.0, rest.1)

module _ {X Y : Type 0} where
  pub in_some : (F : X → List Y) (xs : List X) (y : Y) → Contains (flat_map F xs) y → (x : X) × Contains xs x
      × Contains (F x) y
  in_some F [] y c = absurd (nowhere y c)
  in_some F (x ∷ xs) y c = elim (Contains-append_cases (F x) (flat_map F xs) y c) [
    | inl h ↦ (x, here x xs, h)
    | inr h ↦ let rest = in_some F xs y h in (rest.0, there x rest.0 xs rest.1, rest.2)
  ]

  pub some_in : (F : X → List Y) (xs : List X) (x : X) (y : Y) → Contains xs x → Contains (F x) y
      → Contains (flat_map F xs) y
  some_in F [] x y c d = absurd (nowhere x c)
  some_in F (z ∷ zs) x y c d = elim (first_or_later z x zs c) [
    | inl e ↦ Contains-append_left (F z) (flat_map F zs) y (subst (λ w. Contains (F w) y) (sym e) d)
    | inr e ↦ Contains-append_right (F z) (flat_map F zs) y (some_in F zs x y e d)
  ]

  pub image_in : (f : X → Y) (xs : List X) (x : X) → Contains xs x → Contains (map f xs) (f x)
  image_in f [] x c = absurd (nowhere x c)
  image_in f (z ∷ zs) x c = elim (first_or_later z x zs c) [
    | inl e ↦ subst (λ w. Contains (map f (z ∷ zs)) (f w)) e (here (f z) (map f zs))
    | inr e ↦ there (f z) (f x) (map f zs) (image_in f zs x e)
  ]

  pub of_image : (f : X → Y) (xs : List X) (y : Y) → Contains (map f xs) y → (x : X) × Contains xs x × (f x ≡ y)
  of_image f [] y c = absurd (nowhere y c)
  of_image f (z ∷ zs) y c = elim (first_or_later (f z) y (map f zs) c) [
    | inl e ↦ (z, here z zs, e)
    | inr e ↦ let rest = of_image f zs y e in (rest.0, there z rest.0 zs rest.1, rest.2)
  ]

  pub of_options : (h : X → Option Y) (xs : List X) (y : Y) → Contains (filter_map h xs) y → (x : X) × Contains xs x
      × (h x ≡ Some y)
  of_options h [] y c = absurd (nowhere y c)
  of_options h (x ∷ xs) y c = by (h x) refl c (of_options h xs y)
    where
      by : (o : Option Y) → h x ≡ o → Contains (cons_option o (filter_map h xs)) y
          → (Contains (filter_map h xs) y → (z : X) × Contains xs z × (h z ≡ Some y)) → (z : X) × Contains (x ∷ xs) z
          × (h z ≡ Some y)
      by None e d go = let rest = go d in (rest.0, there x rest.0 xs rest.1, rest.2)
      by (Some w) e d go = elim (first_or_later w y (filter_map h xs) d) [
        | inl s ↦ (x, here x xs, e ∙ ap Some s)
        | inr s ↦ let rest = go s in (rest.0, there x rest.0 xs rest.1, rest.2)
      ]
