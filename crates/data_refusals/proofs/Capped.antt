-- Products of numbers that stop at the greatest of 64 bits.
use Rattle.std.proofs.Common.{◌≡◌, ◌≤◌, ◌<◌, ℕ, zero, suc, ◌*◌, sym, ap, ◌∙◌, arith, inl, inr}
use Rattle.std.proofs.lemmas.Bool.{cases_lt}
use Rattle.std.proofs.Math.Nat.{mul-le-mul_left, mul-one, mul_comm}
use Rattle.stage_definitions.specs.SizesStage.{capped}

past : (a : ℕ) → 18446744073709551615 < a → capped a ≡ 18446744073709551615
past a h = omega arith

within : (a : ℕ) → a ≤ 18446744073709551615 → capped a ≡ a
within a h = omega arith

large : (a : ℕ) → 18446744073709551615 ≤ a → capped a ≡ 18446744073709551615
large a h = omega arith

large_product : (a b : ℕ) → 18446744073709551615 ≤ a → 18446744073709551615 ≤ a * suc b
large_product a b h =
    let one : a * 1 ≤ a * suc b = mul-le-mul_left a (omega arith) in
    let same : a * 1 ≡ a = mul-one a in
    omega arith

first_factor : (a b : ℕ) → capped (capped a * b) ≡ capped (a * b)
first_factor a zero = let left : capped a * 0 ≡ 0 = none (capped a) in let right : a * 0 ≡ 0 = none a in
    ap capped (left ∙ sym right)
  where
    none : (n : ℕ) → n * 0 ≡ 0
    none n = omega arith
first_factor a (suc b) = elim (cases_lt 18446744073709551615 a) [
  | inl h ↦
      let stop = past a h in
      let most : 18446744073709551615 ≤ capped a = omega arith in
      let above : 18446744073709551615 ≤ a = omega arith in
      large (capped a * suc b) (large_product (capped a) b most) ∙ sym (large (a * suc b) (large_product a b above))
  | inr h ↦ ap (λ n. capped (n * suc b)) (within a h)
]

pub times_both : (a b : ℕ) → capped (capped a * capped b) ≡ capped (a * b)
times_both a b = first_factor a (capped b) ∙ ap capped (mul_comm a (capped b)) ∙ first_factor b a
    ∙ ap capped (mul_comm b a)
