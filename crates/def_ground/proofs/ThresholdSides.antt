-- Comparisons turned round, and brought to one side.
use Rattle.std.proofs.Common.{◌≡◌, ℤ, ◌+ℤ◌, ◌-ℤ◌, int_lt, int_eq, Bool, true, false, not, ◌||◌, refl}
use Rattle.std.proofs.Common.{ap, ◌∙◌, arith}
use Rattle.std.proofs.lemmas.Bool.Decides.{nat_tests}
use Rattle.std.proofs.lemmas.Int.{ints}
use Rattle.kb_logic.specs.declared.syntax.Cmp.{Cmp}
use Rattle.kb_logic.specs.declared.syntax.Cmp.TheVariants as cmp
use Rattle.kb_logic.specs.Denotations.{Denotation, number, named, minus_infinity, plus_infinity, undefined, compared}
use Rattle.kb_logic.specs.Denotations.{same_value}
use Rattle.def_ground.specs.Thresholds.{flipped}

-- ---- turned round

same-either-way : (a b : ℤ) (s t : Bool) → int_eq a b ≡ s → int_eq b a ≡ t → s ≡ t
same-either-way a b true true e f = refl
same-either-way a b true false e f = absurd (wrong e f)
  where
    wrong : int_eq a b ≡ true → int_eq b a ≡ false → ⊥
    wrong e f = grind (arith, ints, nat_tests)
same-either-way a b false true e f = absurd (wrong e f)
  where
    wrong : int_eq a b ≡ false → int_eq b a ≡ true → ⊥
    wrong e f = grind (arith, ints, nat_tests)
same-either-way a b false false e f = refl

number-either-way : (x : Denotation) (d : ℤ) → same_value x (number d) ≡ same_value (number d) x
number-either-way (number z) d = same-either-way z d (int_eq z d) (int_eq d z) refl refl
number-either-way (named n) d = refl
number-either-way minus_infinity d = refl
number-either-way plus_infinity d = refl
number-either-way undefined d = refl

-- the comparison with its sides exchanged
pub flipped-compared : (c : Cmp) (x : Denotation) (d : ℤ) → compared (flipped c) x (number d) ≡ compared c (number d) x
flipped-compared cmp.Eq x d = number-either-way x d
flipped-compared cmp.Ne x d = ap not (number-either-way x d)
flipped-compared cmp.Lt x d = refl
flipped-compared cmp.Gt x d = refl
flipped-compared cmp.Le x d = ap (λ t. compared cmp.Lt (number d) x || t) (number-either-way x d)
flipped-compared cmp.Ge x d = ap (λ t. compared cmp.Gt (number d) x || t) (number-either-way x d)

-- ---- brought to one side

less-shifted : (l r a b : ℤ) (s t : Bool) → int_lt (l +ℤ a) (r +ℤ b) ≡ s → int_lt (l -ℤ r) (b -ℤ a) ≡ t → s ≡ t
less-shifted l r a b true true e f = refl
less-shifted l r a b true false e f = absurd (wrong e f)
  where
    wrong : int_lt (l +ℤ a) (r +ℤ b) ≡ true → int_lt (l -ℤ r) (b -ℤ a) ≡ false → ⊥
    wrong e f = grind (arith, ints, nat_tests)
less-shifted l r a b false true e f = absurd (wrong e f)
  where
    wrong : int_lt (l +ℤ a) (r +ℤ b) ≡ false → int_lt (l -ℤ r) (b -ℤ a) ≡ true → ⊥
    wrong e f = grind (arith, ints, nat_tests)
less-shifted l r a b false false e f = refl

greater-shifted : (l r a b : ℤ) (s t : Bool) → int_lt (r +ℤ b) (l +ℤ a) ≡ s → int_lt (b -ℤ a) (l -ℤ r) ≡ t → s ≡ t
greater-shifted l r a b true true e f = refl
greater-shifted l r a b true false e f = absurd (wrong e f)
  where
    wrong : int_lt (r +ℤ b) (l +ℤ a) ≡ true → int_lt (b -ℤ a) (l -ℤ r) ≡ false → ⊥
    wrong e f = grind (arith, ints, nat_tests)
greater-shifted l r a b false true e f = absurd (wrong e f)
  where
    wrong : int_lt (r +ℤ b) (l +ℤ a) ≡ false → int_lt (b -ℤ a) (l -ℤ r) ≡ true → ⊥
    wrong e f = grind (arith, ints, nat_tests)
greater-shifted l r a b false false e f = refl

same-shifted : (l r a b : ℤ) (s t : Bool) → int_eq (l +ℤ a) (r +ℤ b) ≡ s → int_eq (l -ℤ r) (b -ℤ a) ≡ t → s ≡ t
same-shifted l r a b true true e f = refl
same-shifted l r a b true false e f = absurd (wrong e f)
  where
    wrong : int_eq (l +ℤ a) (r +ℤ b) ≡ true → int_eq (l -ℤ r) (b -ℤ a) ≡ false → ⊥
    wrong e f = grind (arith, ints, nat_tests)
same-shifted l r a b false true e f = absurd (wrong e f)
  where
    wrong : int_eq (l +ℤ a) (r +ℤ b) ≡ false → int_eq (l -ℤ r) (b -ℤ a) ≡ true → ⊥
    wrong e f = grind (arith, ints, nat_tests)
same-shifted l r a b false false e f = refl

-- what the aggregates come to stays on the left, what the rest comes to goes to the right
pub sides-compared : (c : Cmp) (l r a b : ℤ)
    → compared c (number (l +ℤ a)) (number (r +ℤ b)) ≡ compared c (number (l -ℤ r)) (number (b -ℤ a))
sides-compared c l r a b =
    by c (less-shifted l r a b (int_lt (l +ℤ a) (r +ℤ b)) (int_lt (l -ℤ r) (b -ℤ a)) refl refl)
    (greater-shifted l r a b (int_lt (r +ℤ b) (l +ℤ a)) (int_lt (b -ℤ a) (l -ℤ r)) refl refl)
    (same-shifted l r a b (int_eq (l +ℤ a) (r +ℤ b)) (int_eq (l -ℤ r) (b -ℤ a)) refl refl)
  where
    by : (c : Cmp) → int_lt (l +ℤ a) (r +ℤ b) ≡ int_lt (l -ℤ r) (b -ℤ a)
        → int_lt (r +ℤ b) (l +ℤ a) ≡ int_lt (b -ℤ a) (l -ℤ r) → int_eq (l +ℤ a) (r +ℤ b) ≡ int_eq (l -ℤ r) (b -ℤ a)
        → compared c (number (l +ℤ a)) (number (r +ℤ b)) ≡ compared c (number (l -ℤ r)) (number (b -ℤ a))
    by cmp.Eq e f g = g
    by cmp.Ne e f g = ap not g
    by cmp.Lt e f g = e
    by cmp.Gt e f g = f
    by cmp.Le e f g = ap (λ t. t || int_eq (l +ℤ a) (r +ℤ b)) e ∙ ap (λ t. int_lt (l -ℤ r) (b -ℤ a) || t) g
    by cmp.Ge e f g = ap (λ t. t || int_eq (l +ℤ a) (r +ℤ b)) f ∙ ap (λ t. int_lt (b -ℤ a) (l -ℤ r) || t) g
