-- The place of the first item that passes a test.
use Rattle.std.proofs.Common.{◌≡◌, ℕ, suc, List, [], ◌∷◌, ◌++◌, map, length, Bool, true, false, Option, None, Some}
use Rattle.std.proofs.Common.{if◌then◌else◌, refl, sym, ap, ◌∙◌, arith, position, slice_get}
use Rattle.std.proofs.Common.{zero, subst}
use Rattle.std.specs.Option.{option_map}
use Rattle.std.specs.List.{AllByRecursion, IsDistinct}
use Rattle.std.proofs.lemmas.Bool.{false_from_ne_true, true≢false}
use Rattle.std.proofs.lemmas.Bool.Decides.{nat_tests}
use Rattle.std.proofs.lemmas.Grind.{common_steps}
use Rattle.row_tries.specs.Words.{place}

-- the items tell a test of what f makes of them
pub place-map : {X Y : Type 0} (f : X → Y) (p : Y → Bool) (q : X → Bool) → ((x : X) → p (f x) ≡ q x) → (xs : List X)
    → place p (map f xs) ≡ place q xs
place-map f p q h [] = refl
place-map f p q h (x ∷ xs) = ap (λ b. if b then Some 0 else option_map (λ n. suc n) (place p (map f xs))) (h x)
    ∙ ap (λ o. if q x then Some 0 else option_map (λ n. suc n) o) (place-map f p q h xs)

place_by : {X : Type 0} (p : X → Bool) (x : X) (xs : List X) (b : Bool) → p x ≡ b → position p xs ≡ place p xs
    → position p (x ∷ xs) ≡ if b then Some 0 else option_map (λ n. suc n) (place p xs)
place_by p x xs true e same = grind (arith, nat_tests, common_steps)
place_by p x xs false e same = rw (← same) (grind (arith, nat_tests, common_steps))

position-place : {X : Type 0} (p : X → Bool) (xs : List X) → position p xs ≡ place p xs
position-place p [] = refl
position-place p (x ∷ xs) = place_by p x xs (p x) refl (position-place p xs)

-- what a table finds is the place
pub found_place : {X Y : Type 0} (f : X → Y) (p : Y → Bool) (q : X → Bool) (xs : List X) (r : Option ℕ)
    → r ≡ position p (map f xs) → ((x : X) → p (f x) ≡ q x) → r ≡ place q xs
found_place f p q xs r e h = e ∙ position-place p (map f xs) ∙ place-map f p q h xs

-- what a table of lists finds is the place among the lists
pub found_word : {K : Type 0} (f : K → List ℕ) (p : K → Bool) (t : List ℕ → Bool) (ks : List K) (r : Option ℕ)
    → r ≡ position p ks → ((k : K) → p k ≡ t (f k)) → r ≡ place t (map f ks)
found_word f p t ks r e h = e ∙ position-place p ks ∙ sym (place-map f t p (λ k. sym (h k)) ks)

-- what is found: an item that passes
pub record IsFound {X : Type 0} (test : X → Bool) (xs : List X) (n : ℕ) : Type 0 where
  pub item : X
  pub at : slice_get xs n ≡ Some item
  pub passes : test item ≡ true

found_later : {X : Type 0} (test : X → Bool) (x : X) (xs : List X) (o : Option ℕ) (n : ℕ) → option_map (λ m. suc m) o
    ≡ Some n → ((m : ℕ) → o ≡ Some m → IsFound test xs m) → IsFound test (x ∷ xs) n
found_later test x xs None n h go = absurd (cc)
found_later test x xs (Some m) n h go =
    let there = go m refl in
    let is : suc m ≡ n = cc in
    rw (← is) (record { item = there.item; at = there.at; passes = there.passes })

found_first : {X : Type 0} (test : X → Bool) (x : X) (xs : List X) (b : Bool) (n : ℕ) → test x ≡ b
    → (if b then Some 0 else option_map (λ m. suc m) (place test xs)) ≡ Some n
    → ((m : ℕ) → place test xs ≡ Some m → IsFound test xs m) → IsFound test (x ∷ xs) n
found_first test x xs true n e h go =
    let is : 0 ≡ n = cc in
    rw (← is) (record { item = x; at = refl; passes = e })
found_first test x xs false n e h go = found_later test x xs (place test xs) n h go

pub found : {X : Type 0} (test : X → Bool) (xs : List X) (n : ℕ) → place test xs ≡ Some n → IsFound test xs n
found test [] n h = absurd (cc)
found test (x ∷ xs) n h = found_first test x xs (test x) n refl h (found test xs)

-- the first of two
abbrev pub first_of_both : Option ℕ → Option ℕ → Option ℕ
first_of_both None o = o
first_of_both (Some n) o = Some n

pushed_later : (o : Option ℕ) (b : Bool) (n : ℕ) → option_map (λ m. suc m)
    (first_of_both o (if b then Some n else None)) ≡ first_of_both (option_map (λ m. suc m) o) (if b then
    Some (suc n) else None)
pushed_later None true n = refl
pushed_later None false n = refl
pushed_later (Some m) b n = refl

pushed_first : (b : Bool) (o new : Option ℕ) (t : Bool) (n : ℕ) → new ≡ first_of_both o (if t then Some n else None)
    → (if b then Some 0 else option_map (λ m. suc m) new) ≡ first_of_both (if b then Some 0 else
    option_map (λ m. suc m) o) (if t then Some (suc n) else None)
pushed_first true o new t n h = refl
pushed_first false o new t n h = ap (option_map (λ m. suc m)) h ∙ pushed_later o t n

pushed_alone : (b : Bool) → (if b then Some 0 else None) ≡ first_of_both None (if b then Some 0 else None)
pushed_alone b = refl

only_one : (b : Bool) → (if b then Some 0 else option_map (λ m. suc m) None) ≡ (if b then Some 0 else None)
only_one true = refl
only_one false = refl

-- the place after a push: where it was, or else the pushed item's if it passes
pub place-push : {X : Type 0} (test : X → Bool) (xs : List X) (y : X) → place test (xs ++ y ∷ []) ≡ first_of_both
    (place test xs) (if test y then Some (length xs) else None)
place-push test [] y = only_one (test y)
place-push test (x ∷ xs) y = pushed_first (test x) (place test xs) (place test (xs ++ y ∷ [])) (test y) (length xs)
    (place-push test xs y)

pub stays : {X : Type 0} (test : X → Bool) (xs : List X) (y : X) (n : ℕ) → place test xs ≡ Some n
    → place test (xs ++ y ∷ []) ≡ Some n
stays test xs y n h = place-push test xs y ∙ ap (λ o. first_of_both o (if test y then Some (length xs) else None)) h

pub new_place : {X : Type 0} (test : X → Bool) (xs : List X) (y : X) → place test xs ≡ None → place test (xs ++ y ∷ [])
    ≡ (if test y then Some (length xs) else None)
new_place test xs y h = place-push test xs y ∙ ap (λ o. first_of_both o (if test y then Some (length xs) else None)) h

-- what holds of each item holds of the one at a place
each_at : {X : Type 0} (P : X → Type 0) (xs : List X) (n : ℕ) (x : X) → AllByRecursion P xs → slice_get xs n ≡ Some x
    → P x
each_at P [] n x all at = absurd (cc)
each_at P (y ∷ ys) zero x all at = let is : y ≡ x = cc in subst P is all.0
each_at P (y ∷ ys) (suc n) x all at = each_at P ys n x all.1 at

-- where no two items are equal, and those that pass are, one that passes is the first that does
pub own_place : {X : Type 0} (eq : X → X → Bool) (test : X → Bool)
    → ((x y : X) → test x ≡ true → test y ≡ true → eq x y ≡ true) → (xs : List X) (n : ℕ) (x : X) → IsDistinct eq xs
    → slice_get xs n ≡ Some x → test x ≡ true → place test xs ≡ Some n
unfolding IsDistinct
own_place eq test same [] n x distinct at passes = absurd (cc)
own_place eq test same (y ∷ ys) zero x distinct at passes =
    let is : y ≡ x = cc in
    ap (λ b. if b then Some 0 else option_map (λ n. suc n) (place test ys)) (ap test is ∙ passes)
own_place eq test same (y ∷ ys) (suc n) x distinct at passes =
    let apart = each_at (λ z. eq y z ≡ false) ys n x distinct.0 at in
    let other : test y ≡ false = false_from_ne_true (test y) (λ t. true≢false (sym (same y x t passes) ∙ apart)) in
    ap (λ b. if b then Some 0 else option_map (λ m. suc m) (place test ys)) other
    ∙ ap (option_map (λ m. suc m)) (own_place eq test same ys n x distinct.1 at passes)
