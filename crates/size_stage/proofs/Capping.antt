-- Sums and products of numbers that stop at the greatest of 64 bits.
use Rattle.std.proofs.Common.{◌≡◌, ◌≤◌, ◌<◌, ℕ, zero, suc, ◌+◌, ◌*◌, refl, sym, ap, ◌∙◌, arith, inl, inr}
use Rattle.std.proofs.lemmas.Bool.{cases_lt}
use Rattle.std.proofs.Math.Nat.{mul_assoc, mul-le-mul_left, mul-one, mul_comm}
use Rattle.stage_definitions.specs.SizesStage.{capped}

-- both stop at the same number
abbrev pub Same : ℕ → ℕ → Type 0
Same a b = capped a ≡ capped b

pub again : (n : ℕ) → Same (capped n) n
again n = omega arith

pub plus_same : (a b c d : ℕ) → Same a b → Same c d → Same (a + c) (b + d)
plus_same a b c d h k = omega arith

past : (a : ℕ) → 18446744073709551615 < a → capped a ≡ 18446744073709551615
past a h = omega arith

within : (a : ℕ) → a ≤ 18446744073709551615 → capped a ≡ a
within a h = omega arith

large : (a : ℕ) → 18446744073709551615 ≤ a → capped a ≡ 18446744073709551615
large a h = omega arith

times_one : (a b c : ℕ) → b ≤ c → a * b ≤ a * c
times_one a b c h = mul-le-mul_left a h

-- one more factor of a number past the limit
large_product : (a b : ℕ) → 18446744073709551615 ≤ a → 18446744073709551615 ≤ a * suc b
large_product a b h =
    let one : a * 1 ≤ a * suc b = mul-le-mul_left a (omega arith) in
    let same : a * 1 ≡ a = mul-one a in
    omega arith

-- a factor that stops changes no product that stops
pub first_factor : (a b : ℕ) → Same (capped a * b) (a * b)
first_factor a zero = let left : capped a * 0 ≡ 0 = none (capped a) in let right : a * 0 ≡ 0 = none a in
    ap capped (left ∙ sym right)
  where
    none : (n : ℕ) → n * 0 ≡ 0
    none n = omega arith
first_factor a (suc b) = elim (cases_lt 18446744073709551615 a) [
  | inl h ↦
      let stop = past a h in
      let most : 18446744073709551615 ≤ capped a = omega arith in
      let above : 18446744073709551615 ≤ a = omega arith in
      large (capped a * suc b) (large_product (capped a) b most) ∙ sym (large (a * suc b) (large_product a b above))
  | inr h ↦ ap (λ n. capped (n * suc b)) (within a h)
]

second_factor : (a b : ℕ) → Same (a * capped b) (a * b)
second_factor a b = ap capped (mul_comm a (capped b)) ∙ first_factor b a ∙ ap capped (mul_comm b a)

pub times_same : (a b c d : ℕ) → Same a b → Same c d → Same (a * c) (b * d)
times_same a b c d h k =
    sym (first_factor a c) ∙ ap (λ n. capped (n * c)) h ∙ first_factor b c
    ∙ sym (second_factor b c) ∙ ap (λ n. capped (b * n)) k ∙ second_factor b d

-- ---- steps of loops

-- one more factor: what is left of a product
pub factor_next : (count new x a rest all : ℕ) → new ≡ capped (count * x) → x ≡ capped a → Same (count * (a * rest)) all
    → Same (new * rest) all
factor_next count new x a rest all is at h =
    ap (λ n. capped (n * rest)) (is ∙ ap (λ n. capped (count * n)) at)
    ∙ first_factor (count * capped a) rest
    ∙ ap capped (mul_assoc count (capped a) rest)
    ∙ times_same count count (capped a * rest) (a * rest) refl (first_factor a rest)
    ∙ h

pub exact_factor : (count new x a rest all : ℕ) → new ≡ capped (count * x) → x ≡ a → Same (count * (a * rest)) all
    → Same (new * rest) all
exact_factor count new x a rest all is at h =
    ap (λ n. capped (n * rest)) (is ∙ ap (λ n. capped (count * n)) at) ∙ first_factor (count * a) rest
    ∙ ap capped (mul_assoc count a rest) ∙ h

-- one more part: what is left of a sum
pub part_next : (count new x a rest all : ℕ) → new ≡ capped (count + x) → x ≡ capped a → Same (count + (a + rest)) all
    → Same (new + rest) all
part_next count new x a rest all is at h = omega arith

pub last_factor : (count all : ℕ) → count ≡ capped count → Same (count * 1) all → count ≡ capped all
last_factor count all is h = is ∙ sym (ap capped (mul-one count)) ∙ h

pub last_part : (count all : ℕ) → count ≡ capped count → Same (count + 0) all → count ≡ capped all
last_part count all is h = omega arith

pub stays : (new n : ℕ) → new ≡ capped n → new ≡ capped new
stays new n is = omega arith

pub first_product : (a : ℕ) → Same (1 * a) a
first_product a = ap capped (mul_comm 1 a ∙ mul-one a)

-- ---- parts of formulas

-- counted under the assignments of a binder, where these stop too
pub under_binder : (count : ℕ → ℕ) → ((m : ℕ) → Same (count (capped m)) (count m)) → (n l a inner r : ℕ) → a ≡ capped l
    → inner ≡ capped (n * a) → r ≡ capped (count inner) → r ≡ capped (count (n * l))
under_binder count fair n l a inner r is at h =
    let same : Same (n * a) (n * l) = ap (λ x. capped (n * x)) is ∙ second_factor n l in
    h ∙ ap (λ x. capped (count x)) (at ∙ same) ∙ fair (n * l)

pub one_more : (n x r o : ℕ) → x ≡ capped o → r ≡ capped (n + x) → r ≡ capped (n + o)
one_more n x r o is h = omega arith

pub three_parts : (a b c p q x y z r : ℕ) → x ≡ capped a → y ≡ capped b → z ≡ capped c → p ≡ capped (x + y)
    → q ≡ capped (p + z) → q ≡ capped (a + b + c)
three_parts a b c p q x y z r hx hy hz hp hq = omega arith

pub compared : (n a b x y p own : ℕ) → x ≡ capped a → y ≡ capped b → p ≡ capped (x * y) → own ≡ capped (n * p)
    → own ≡ capped (n * (a * b))
compared n a b x y p own hx hy hp h =
    h ∙ ap (λ m. capped (n * m)) hp ∙ second_factor n (x * y)
    ∙ times_same n n (x * y) (a * b) refl (ap (λ m. capped (m * y)) hx ∙ first_factor a y ∙ ap (λ m. capped (a * m)) hy
    ∙ second_factor a b)

pub weighted : (inner n l a w x own : ℕ) → a ≡ capped l → inner ≡ capped (n * a) → x ≡ capped w
    → own ≡ capped (inner * x) → own ≡ capped (n * l * w)
weighted inner n l a w x own ha hi hx h =
    let same : Same inner (n * l) = ap capped hi ∙ again (n * a) ∙ ap (λ m. capped (n * m)) ha ∙ second_factor n l in
    h ∙ times_same inner (n * l) x w same (ap capped hx ∙ again w)
