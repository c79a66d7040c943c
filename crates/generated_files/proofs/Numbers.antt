-- Numbers in a row, those of them that pass a test, and texts that are joined.
use Rattle.std.proofs.Common.{◌≡◌, refl, ap, sym, ◌∙◌, ℕ, suc, ◌+◌, ◌-◌, ◌<◌, List, [], ◌∷◌, ◌++◌, map, flat_map}
use Rattle.std.proofs.Common.{arith, append_assoc, Bool, true, false}
use Rattle.std.specs.List.{filter, join_by, range_with_len}

-- before the end, the next number is the first of those to come
pub first_next : (c n : ℕ) → c < n → range_with_len c (n - c) ≡ c ∷ range_with_len (c + 1) (n - (c + 1))
first_next c n below =
    let more : n - c ≡ suc (n - (c + 1)) = omega (arith, below) in
    ap (range_with_len c) more

-- a number that is taken passes from those to come to those found
pub one_more : (found : List ℕ) (c n : ℕ) → c < n
    → (found ++ c ∷ []) ++ range_with_len (c + 1) (n - (c + 1)) ≡ found ++ range_with_len c (n - c)
one_more found c n below =
    append_assoc found (c ∷ []) (range_with_len (c + 1) (n - (c + 1)))
    ∙ ap (λ (l : List ℕ). found ++ l) (sym (first_next c n below))

filter_first : (test : ℕ → Bool) (c : ℕ) (rest : List ℕ) → test c ≡ true → filter test (c ∷ rest) ≡ c ∷ filter test rest
filter_first test c rest passes = rw passes refl

filter_rest : (test : ℕ → Bool) (c : ℕ) (rest : List ℕ) → test c ≡ false → filter test (c ∷ rest) ≡ filter test rest
filter_rest test c rest fails = rw fails refl

-- so it is where only those that pass a test are taken
pub one_taken : (test : ℕ → Bool) (found : List ℕ) (c n : ℕ) → c < n → test c ≡ true
    → (found ++ c ∷ []) ++ filter test (range_with_len (c + 1) (n - (c + 1)))
    ≡ found ++ filter test (range_with_len c (n - c))
one_taken test found c n below passes =
    append_assoc found (c ∷ []) (filter test (range_with_len (c + 1) (n - (c + 1))))
    ∙ ap (λ (l : List ℕ). found ++ l)
    (sym (ap (filter test) (first_next c n below) ∙ filter_first test c _ passes))

-- and one that fails it is passed over
pub one_passed : (test : ℕ → Bool) (found : List ℕ) (c n : ℕ) → c < n → test c ≡ false
    → found ++ filter test (range_with_len (c + 1) (n - (c + 1))) ≡ found ++ filter test (range_with_len c (n - c))
one_passed test found c n below fails =
    ap (λ (l : List ℕ). found ++ l)
    (sym (ap (filter test) (first_next c n below) ∙ filter_rest test c _ fails))

flat_of_map : {X Y : Type 0} (f : X → Y) (g : Y → List ℕ) (xs : List X)
    → flat_map g (map f xs) ≡ flat_map (λ x. g (f x)) xs
flat_of_map f g [] = refl
flat_of_map f g (x ∷ xs) = ap (λ (l : List ℕ). g (f x) ++ l) (flat_of_map f g xs)

joined_texts : {X : Type 0} (f : X → List ℕ) (separator : List ℕ) (xs : List X)
    → join_by (λ (t : List ℕ). t) separator (map f xs) ≡ join_by f separator xs
joined_texts f separator [] = refl
joined_texts f separator (x ∷ xs) = ap (λ (l : List ℕ). f x ++ l) (flat_of_map f (λ t. separator ++ t) xs)

-- equal texts are joined to equal ones
pub same_joined : {X Y : Type 0} (f : X → List ℕ) (g : Y → List ℕ) (separator : List ℕ) (xs : List X) (ys : List Y)
    → map f xs ≡ map g ys → join_by f separator xs ≡ join_by g separator ys
same_joined f g separator xs ys same =
    sym (joined_texts f separator xs) ∙ ap (join_by (λ (t : List ℕ). t) separator) same
    ∙ joined_texts g separator ys
