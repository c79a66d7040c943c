-- Counts that stop at the largest number.
use Rattle.kb_logic.specs.Denotations.{Denotation, compared, number, plus_infinity}
use Rattle.kb_logic.specs.Values.{count_up_to}
use Rattle.std.proofs.Common.{◌≡◌, ℕ, ◌+◌, ◌-◌, ◌^◌, ◌<◌, ◌≤◌, min, ℤ, pos, negsuc, Bool, false, not, FitsSigned, w64}
use Rattle.std.proofs.Common.{refl, sym, ap, ◌∙◌, arith, int_lt, inl, inr, to_z, of_z, true, ◌||◌}
use Rattle.std.specs.Ordering.{int_eq}
use Rattle.std.proofs.lemmas.Bool.{cases_lt}
use Rattle.std.proofs.lemmas.Bool.Decides.{nat_tests}
use Rattle.std.proofs.lemmas.Int.{ints, to_z-of_z}
use Rattle.kb_logic.specs.declared.syntax.Cmp.{Cmp}
use Rattle.kb_logic.specs.declared.syntax.Cmp.TheVariants.{Eq, Ne, Lt, Gt, Le, Ge}

pub saturated : (r t n s a M : ℕ) → r ≡ min (t + n) M → t ≡ min M s → n ≡ min M a → r ≡ min M (s + a)
saturated r t n s a M e f g = omega arith

not_same : (n : ℕ) (z : ℤ) → FitsSigned w64 z → 2 ^ 63 ≤ n → int_eq (pos n) z ≡ false
not_same n (pos m) fits h = grind (arith, ints, nat_tests)
not_same n (negsuc m) fits h = refl

not_below : (n : ℕ) (z : ℤ) → FitsSigned w64 z → 2 ^ 63 ≤ n → int_lt (pos n) z ≡ false
not_below n z fits h = grind (arith, ints, nat_tests)

is_below : (n : ℕ) (z : ℤ) → FitsSigned w64 z → 2 ^ 63 ≤ n → int_lt z (pos n) ≡ true
is_below n z fits h = grind (arith, ints, nat_tests)

far : (c : Cmp) (n : ℕ) (z : ℤ) → FitsSigned w64 z → 2 ^ 63 ≤ n → compared c plus_infinity (number z) ≡ compared c
    (number (pos n)) (number z)
far Eq n z fits h = sym (not_same n z fits h)
far Ne n z fits h = sym (ap not (not_same n z fits h))
far Lt n z fits h = sym (not_below n z fits h)
far Gt n z fits h = sym (is_below n z fits h)
far Le n z fits h = sym (ap (λ b. b || int_eq (pos n) z) (not_below n z fits h) ∙ not_same n z fits h)
far Ge n z fits h = sym (ap (λ b. b || int_eq (pos n) z) (is_below n z fits h))

near : (n : ℕ) → n < 2 ^ 63 → count_up_to n ≡ number (pos n)
near n h = grind (arith, nat_tests)

past : (n : ℕ) → 2 ^ 63 ≤ n → count_up_to n ≡ plus_infinity
past n h = grind (arith, nat_tests)

-- such a count compares with an i64 as the count itself
pub compared_up_to : (c : Cmp) (n : ℕ) (z : ℤ) → FitsSigned w64 z → compared c (count_up_to (min (2 ^ 64 - 1) n))
    (number z) ≡ compared c (number (pos n)) (number z)
compared_up_to c n z fits = elim (cases_lt n (2 ^ 63)) [
  | inl h ↦ let same : min (2 ^ 64 - 1) n ≡ n = omega arith in ap (λ v. compared c v (number z))
      (ap count_up_to same ∙ near n h)
  | inr h ↦ let above : 2 ^ 63 ≤ min (2 ^ 64 - 1) n = omega arith in ap (λ v. compared c v (number z)) (past _ above)
      ∙ far c n z fits h
]

pub number_is : (r : Bool) (c : Cmp) (v : Denotation) (count n : ℕ) (z : ℤ)
    → r ≡ compared c v (number (to_z w64 (of_z w64 z))) → v ≡ count_up_to count → count ≡ min (2 ^ 64 - 1) n
    → FitsSigned w64 z
    → r ≡ compared c (number (pos n)) (number z)
number_is r c v count n z e f g fits = e ∙ simp to_z-of_z (rw (f, g) (compared_up_to c n z fits))
