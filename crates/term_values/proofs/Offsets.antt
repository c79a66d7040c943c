-- Items of lists that are joined of parts, by their indices.
use Rattle.std.proofs.Common.{◌≡◌, ℕ, zero, suc, ◌+◌, ◌*◌, ◌<◌, ◌≤◌, List, [], ◌∷◌, ◌++◌, length, take, ◌⊎◌, inl, inr}
use Rattle.std.proofs.Common.{Some, slice_get, refl, sym, ap, ◌∙◌, arith}
use Rattle.std.specs.List.{flat_map, enumerate_from, sum_by}
use Rattle.std.proofs.lemmas.List.Sums.{sum_by-cons}

slice-left : {X : Type 0} (xs ys : List X) (k : ℕ) → k < length xs → slice_get (xs ++ ys) k ≡ slice_get xs k
slice-left [] ys k h = absurd (omega (arith, h))
slice-left (x ∷ xs) ys zero h = refl
slice-left (x ∷ xs) ys (suc k) h = slice-left xs ys k (omega (arith, h))

slice-right : {X : Type 0} (xs ys : List X) (k i : ℕ) → k ≡ length xs + i → slice_get (xs ++ ys) k ≡ slice_get ys i
slice-right [] ys k i e = ap (slice_get ys) (let z : k ≡ i = omega (arith, e) in z)
slice-right (x ∷ xs) ys zero i e = absurd (omega (arith, e))
slice-right (x ∷ xs) ys (suc k) i e = slice-right xs ys k i (omega (arith, e))

slice-either : {X : Type 0} (xs ys : List X) (k : ℕ) (z : X) → slice_get (xs ++ ys) k ≡ Some z
    → (slice_get xs k ≡ Some z) ⊎ ((i : ℕ) × (k ≡ length xs + i) × (slice_get ys i ≡ Some z))
slice-either [] ys k z h = inr (k, omega arith, h)
slice-either (x ∷ xs) ys zero z h = inl h
slice-either (x ∷ xs) ys (suc k) z h = elim (slice-either xs ys k z h) [
  | inl a ↦ inl a
  | inr b ↦ inr (b.0, (let at = b.1 in omega (arith, at)), b.2)
]

pub some-same : {X : Type 0} (x y : X) → Some x ≡ Some y → x ≡ y
some-same x y h = cc

-- how many items stand before the part with this index
abbrev pub offset : {X : Type 0} → (X → ℕ) → List X → ℕ → ℕ
offset f [] i = 0
offset f (x ∷ xs) zero = 0
offset f (x ∷ xs) (suc i) = f x + offset f xs i

pub offset-sum : {X : Type 0} (f : X → ℕ) (xs : List X) (i : ℕ) → offset f xs i ≡ sum_by f (take i xs)
offset-sum f [] zero = refl
offset-sum f [] (suc i) = refl
offset-sum f (x ∷ xs) zero = refl
offset-sum f (x ∷ xs) (suc i) = ap (λ n. f x + n) (offset-sum f xs i) ∙ sym (sum_by-cons f x (take i xs))

pub offset-even : {X : Type 0} (f : X → ℕ) (n : ℕ) → ((x : X) → f x ≡ n) → (xs : List X) (i : ℕ) → i ≤ length xs
    → offset f xs i ≡ i * n
offset-even f n is [] i h =
    let z : i ≡ 0 = omega (arith, h) in let none : 0 ≡ 0 * n = omega arith in none ∙ ap (λ k. k * n) (sym z)
offset-even f n is (x ∷ xs) zero h = omega arith
offset-even f n is (x ∷ xs) (suc i) h =
    let here = is x in
    let rest = offset-even f n is xs i (omega (arith, h)) in
    omega (arith, here, rest)

-- item j of part i
pub part-at : {X Y : Type 0} (f : X → List Y) (xs : List X) (i j k : ℕ) (x : X) → slice_get xs i ≡ Some x
    → j < length (f x)
    → k ≡ offset (λ y. length (f y)) xs i + j → slice_get (flat_map f xs) k ≡ slice_get (f x) j
part-at f [] i j k x at h e = cc
part-at f (y ∷ xs) zero j k x at h e =
    let same : y ≡ x = some-same y x at in
    let index : k ≡ j = omega (arith, e) in
    let size : length (f y) ≡ length (f x) = ap (λ z. length (f z)) same in
    slice-left (f y) (flat_map f xs) k (omega (arith, h, index, size)) ∙ ap (λ z. slice_get (f z) k) same
    ∙ ap (slice_get (f x)) index
part-at f (y ∷ xs) (suc i) j k x at h e =
    let m = offset (λ z. length (f z)) xs i + j in
    slice-right (f y) (flat_map f xs) k m (omega (arith, e)) ∙ part-at f xs i j m x at h refl

-- where an item stands
pub part-of : {X Y : Type 0} (f : X → List Y) (xs : List X) (k : ℕ) (z : Y) → slice_get (flat_map f xs) k ≡ Some z
    → (i : ℕ) × (x : X) × (j : ℕ) × (slice_get xs i ≡ Some x) × (slice_get (f x) j ≡ Some z)
    × (k ≡ offset (λ y. length (f y)) xs i + j)
part-of f [] k z h = cc
part-of f (y ∷ xs) k z h = elim (slice-either (f y) (flat_map f xs) k z h) [
  | inl a ↦ (0, y, k, refl, a, omega arith)
  | inr b ↦ let r = part-of f xs b.0 z b.2 in let one = b.1 in let two = r.5 in
      (suc r.0, r.1, r.2, r.3, r.4, omega (arith, one, two))
]

pub numbered-item : {X : Type 0} (xs : List X) (n i : ℕ) (x : X) → slice_get xs i ≡ Some x
    → slice_get (enumerate_from n xs) i ≡ Some (n + i, x)
numbered-item [] n i x h = cc
numbered-item (y ∷ xs) n zero x h =
    let same : y ≡ x = some-same y x h in
    let number : n ≡ n + 0 = omega arith in
    ap (λ z. Some (n, z)) same ∙ ap (λ m. Some (m, x)) number
numbered-item (y ∷ xs) n (suc i) x h =
    let number : (n + 1) + i ≡ n + suc i = omega arith in
    numbered-item xs (n + 1) i x h ∙ ap (λ m. Some (m, x)) number

pub item-numbered : {X : Type 0} (xs : List X) (n i : ℕ) (p : ℕ × X) → slice_get (enumerate_from n xs) i ≡ Some p
    → (p.0 ≡ n + i) × (slice_get xs i ≡ Some p.1)
item-numbered [] n i p h = cc
item-numbered (y ∷ xs) n zero p h =
    let same : (n, y) ≡ p = some-same (n, y) p h in
    let number : n ≡ p.0 = ap (λ q. q.0) same in
    (omega (arith, number), ap (λ q. Some q.1) same)
item-numbered (y ∷ xs) n (suc i) p h =
    let r = item-numbered xs (n + 1) i p h in let number = r.0 in (omega (arith, number), r.1)

pub offset-numbered : {X : Type 0} (f : ℕ × X → ℕ) (g : X → ℕ) → ((s : ℕ × X) → f s ≡ g s.1)
    → (n : ℕ) (xs : List X) (i : ℕ) → offset f (enumerate_from n xs) i ≡ offset g xs i
offset-numbered f g is n [] i = refl
offset-numbered f g is n (x ∷ xs) zero = refl
offset-numbered f g is n (x ∷ xs) (suc i) =
    let here = is (n, x) in let rest = offset-numbered f g is (n + 1) xs i in omega (arith, here, rest)
