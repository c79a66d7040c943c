-- Lists that go together, and items of lists.
use Rattle.std.proofs.Common.{◌≡◌, ℕ, suc, Bool, true, false, ◌||◌, ◌+◌, List, [], ◌∷◌, ◌++◌, length, map, filter, cond}
use Rattle.std.proofs.Common.{Option, None, Some, refl, sym, ap, subst, ◌∙◌, inl, inr}
use Rattle.std.specs.List.{AllByRecursion, filter_map, cons_option, list_any, enumerate_from}
use Rattle.std.proofs.lemmas.Bool.{true≢false, or_cases}
use Rattle.kb_logic.specs.Structures.{EachWith, IsDistinct}
use Rattle.kb_logic.proofs.Has.{Has, has_left, has_right, has_from, contains_from}

pub each_forth : {X Y : Type 0} (R : X → Y → Type 0) (xs : List X) (ys : List Y) → EachWith R xs ys → (x : X) → Has xs x
    → (y : Y) × Has ys y × R x y
each_forth R [] ys h x m = absurd m
each_forth R (z ∷ xs) [] h x m = absurd h
each_forth R (z ∷ xs) (w ∷ ys) h x (inl e) = (w, inl refl, subst (λ u. R u w) e h.0)
each_forth R (z ∷ xs) (w ∷ ys) h x (inr m) = let r = each_forth R xs ys h.1 x m in (r.0, inr r.1, r.2)

pub each_back : {X Y : Type 0} (R : X → Y → Type 0) (xs : List X) (ys : List Y) → EachWith R xs ys → (y : Y) → Has ys y
    → (x : X) × Has xs x × R x y
each_back R xs [] h y m = absurd m
each_back R [] (w ∷ ys) h y m = absurd h
each_back R (z ∷ xs) (w ∷ ys) h y (inl e) = (z, inl refl, subst (λ u. R z u) e h.0)
each_back R (z ∷ xs) (w ∷ ys) h y (inr m) = let r = each_back R xs ys h.1 y m in (r.0, inr r.1, r.2)

pub each_length : {X Y : Type 0} (R : X → Y → Type 0) (xs : List X) (ys : List Y) → EachWith R xs ys
    → length ys ≡ length xs
each_length R [] [] h = refl
each_length R [] (w ∷ ys) h = absurd h
each_length R (z ∷ xs) [] h = absurd h
each_length R (z ∷ xs) (w ∷ ys) h = ap suc (each_length R xs ys h.1)

pub each_map : {X Y Z : Type 0} (R : X → Y → Type 0) (S : X → Z → Type 0) (f : Y → Z) → (xs : List X) (ys : List Y)
    → ((x : X) (y : Y) → Has xs x → R x y → S x (f y)) → EachWith R xs ys → EachWith S xs (map f ys)
each_map R S f [] [] go h = tt
each_map R S f [] (y ∷ ys) go h = absurd h
each_map R S f (x ∷ xs) [] go h = absurd h
each_map R S f (x ∷ xs) (y ∷ ys) go h = (go x y (inl refl) h.0, each_map R S f xs ys (λ z w m. go z w (inr m)) h.1)

pub all_has : {X : Type 0} (P : X → Type 0) (xs : List X) → AllByRecursion P xs → (x : X) → Has xs x → P x
all_has P [] h x m = absurd m
all_has P (z ∷ xs) h x (inl e) = subst P e h.0
all_has P (z ∷ xs) h x (inr m) = all_has P xs h.1 x m

pub has_all : {X : Type 0} (P : X → Type 0) (xs : List X) → ((x : X) → Has xs x → P x) → AllByRecursion P xs
has_all P [] go = tt
has_all P (x ∷ xs) go = (go x (inl refl), has_all P xs (λ y m. go y (inr m)))

pub filter_all : {X : Type 0} (test : X → Bool) (xs : List X) → ((x : X) → Has xs x → test x ≡ true)
    → filter test xs ≡ xs
filter_all test [] go = refl
filter_all test (x ∷ xs) go = ap (λ b. cond b (x ∷ filter test xs) (filter test xs)) (go x (inl refl))
    ∙ ap (λ l. x ∷ l) (filter_all test xs (λ y m. go y (inr m)))

pub filter_empty : {X : Type 0} (test : X → Bool) (xs : List X) → ((x : X) → Has xs x → test x ≡ false)
    → filter test xs ≡ []
filter_empty test [] go = refl
filter_empty test (x ∷ xs) go = ap (λ b. cond b (x ∷ filter test xs) (filter test xs)) (go x (inl refl))
    ∙ filter_empty test xs (λ y m. go y (inr m))

pub has_kept : {X : Type 0} (test : X → Bool) (xs : List X) (x : X) → Has xs x → test x ≡ true → Has (filter test xs) x
has_kept test [] x m e = absurd m
has_kept test (z ∷ xs) x (inl s) e = subst (λ b. Has (cond b (z ∷ filter test xs) (filter test xs)) x)
    (sym (ap test s ∙ e)) (inl s)
has_kept test (z ∷ xs) x (inr m) e = by (test z) (has_kept test xs x m e)
  where
    by : (b : Bool) → Has (filter test xs) x → Has (cond b (z ∷ filter test xs) (filter test xs)) x
    by true n = inr n
    by false n = n

pub kept_has : {X : Type 0} (test : X → Bool) (xs : List X) (x : X) → Has (filter test xs) x
    → Has xs x × (test x ≡ true)
kept_has test [] x m = absurd m
kept_has test (z ∷ xs) x m = by (test z) refl m (λ n. kept_has test xs x n)
  where
    by : (b : Bool) → test z ≡ b → Has (cond b (z ∷ filter test xs) (filter test xs)) x
        → (Has (filter test xs) x → Has xs x × (test x ≡ true)) → Has (z ∷ xs) x × (test x ≡ true)
    by true e (inl s) go = (inl s, ap test (sym s) ∙ e)
    by true e (inr n) go = let r = go n in (inr r.0, r.1)
    by false e n go = let r = go n in (inr r.0, r.1)

pub option_kept : {X Y : Type 0} (h : X → Option Y) (xs : List X) (x : X) (y : Y) → Has xs x → h x ≡ Some y
    → Has (filter_map h xs) y
option_kept h [] x y m e = absurd m
option_kept h (z ∷ xs) x y (inl s) e =
    subst (λ o. Has (cons_option o (filter_map h xs)) y) (sym (ap h s ∙ e)) (inl refl)
option_kept {Y = Y} h (z ∷ xs) x y (inr m) e = by (h z) (option_kept h xs x y m e)
  where
    by : (o : Option Y) → Has (filter_map h xs) y → Has (cons_option o (filter_map h xs)) y
    by None n = n
    by (Some w) n = inr n

pub kept_option : {X Y : Type 0} (h : X → Option Y) (xs : List X) (y : Y) → Has (filter_map h xs) y
    → (x : X) × Has xs x × (h x ≡ Some y)
kept_option h [] y m = absurd m
kept_option {X = X} {Y = Y} h (z ∷ xs) y m = by (h z) refl m (λ n. kept_option h xs y n)
  where
    by : (o : Option Y) → h z ≡ o → Has (cons_option o (filter_map h xs)) y
        → (Has (filter_map h xs) y → (x : X) × Has xs x × (h x ≡ Some y)) → (x : X) × Has (z ∷ xs) x × (h x ≡ Some y)
    by None e n go = let r = go n in (r.0, inr r.1, r.2)
    by (Some w) e (inl s) go = (z, inl refl, e ∙ ap Some s)
    by (Some w) e (inr n) go = let r = go n in (r.0, inr r.1, r.2)

pub any_has : {X : Type 0} (test : X → Bool) (xs : List X) → list_any test xs ≡ true
    → (x : X) × Has xs x × (test x ≡ true)
any_has test [] h = absurd (true≢false (sym h))
any_has test (x ∷ xs) h = elim (or_cases (test x) (list_any test xs) h) [
  | inl e ↦ (x, inl refl, e)
  | inr e ↦ let r = any_has test xs e in (r.0, inr r.1, r.2)
]

or_true : (b : Bool) → (b || true) ≡ true
or_true true = refl
or_true false = refl

pub has_any : {X : Type 0} (test : X → Bool) (xs : List X) (x : X) → Has xs x → test x ≡ true → list_any test xs ≡ true
has_any test [] x m e = absurd m
has_any test (z ∷ xs) x (inl s) e = rw (ap test s ∙ e) refl
has_any test (z ∷ xs) x (inr m) e = rw (has_any test xs x m e) (or_true (test z))

pub any_none : {X : Type 0} (test : X → Bool) (xs : List X) → ((x : X) → Has xs x → test x ≡ false)
    → list_any test xs ≡ false
any_none test [] go = refl
any_none test (x ∷ xs) go = rw (go x (inl refl), any_none test xs (λ y m. go y (inr m))) refl

-- ---- lists without repetition

pub distinct_left : {X : Type 0} (xs ys : List X) → IsDistinct (xs ++ ys) → IsDistinct xs
distinct_left [] ys h = tt
distinct_left (x ∷ xs) ys h =
    (λ c. h.0 (contains_from (xs ++ ys) x (has_left xs ys x (has_from xs x c))), distinct_left xs ys h.1)

pub distinct_right : {X : Type 0} (xs ys : List X) → IsDistinct (xs ++ ys) → IsDistinct ys
distinct_right [] ys h = h
distinct_right (x ∷ xs) ys h = distinct_right xs ys h.1

pub distinct_apart : {X : Type 0} (xs ys : List X) → IsDistinct (xs ++ ys) → (x : X) → Has xs x → Has ys x → ⊥
distinct_apart [] ys h x m n = absurd m
distinct_apart (z ∷ xs) ys h x (inl e) n =
    h.0 (contains_from (xs ++ ys) z (subst (λ w. Has (xs ++ ys) w) (sym e) (has_right xs ys x n)))
distinct_apart (z ∷ xs) ys h x (inr m) n = distinct_apart xs ys h.1 x m n

pub numbered_item : {X : Type 0} (n : ℕ) (xs : List X) (t : ℕ × X) → Has (enumerate_from n xs) t → Has xs t.1
numbered_item n [] t m = absurd m
numbered_item n (x ∷ xs) t (inl e) = inl (ap (λ p. p.1) e)
numbered_item n (x ∷ xs) t (inr m) = inr (numbered_item (n + 1) xs t m)

-- each item goes with each that comes after it
abbrev pub AllPairs : {X : Type 0} → (X → X → Type 0) → List X → Type 0
AllPairs R [] = Unit {0}
AllPairs R (x ∷ xs) = ((y : _) → Has xs y → R x y) × AllPairs R xs

-- exactly one item passes a test
pub filter_one : {X : Type 0} (test : X → Bool) (xs : List X) → AllPairs (λ x y. test x ≡ true → test y ≡ true → ⊥) xs
    → (x : X) → Has xs x → test x ≡ true → filter test xs ≡ x ∷ []
filter_one test [] pairs x m e = absurd m
filter_one test (z ∷ xs) pairs x (inl s) e =
    ap (λ b. cond b (z ∷ filter test xs) (filter test xs)) (ap test s ∙ e)
    ∙ ap (λ l. z ∷ l) (filter_empty test xs (λ y m. none y m (test y) refl)) ∙ ap (λ w. w ∷ []) s
  where
    none : (y : _) → Has xs y → (b : Bool) → test y ≡ b → test y ≡ false
    none y m true f = absurd (pairs.0 y m (ap test s ∙ e) f)
    none y m false f = f
filter_one {X = X} test (z ∷ xs) pairs x (inr m) e = by (test z) refl (filter_one test xs pairs.1 x m e)
  where
    by : (b : Bool) → test z ≡ b → filter test xs ≡ x ∷ []
        → cond (test z) (z ∷ filter test xs) (filter test xs) ≡ x ∷ []
    by true f rest = absurd (pairs.0 x m f e)
    by false f rest = ap (λ b. cond b (z ∷ filter test xs) (filter test xs)) f ∙ rest
