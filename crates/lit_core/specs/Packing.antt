-- Literals as numbers of 32 bits.
use Rattle.std.specs.Prelude.{◌≡◌, ◌≢◌, ℕ, ◌<◌, ◌+◌, ◌*◌, ◌/◌, ◌%◌, ◌^◌, Bool, true, false, cond, eqb}
use Rattle.std.proofs.Common.{refl, sym, ◌∙◌, arith}
use Rattle.std.proofs.lemmas.Bool.{eqb-true, eq-eqb}
use Rattle.lit_core.specs.declared.literals.Lit.{Lit}

-- the number of the literal has 32 bits
abbrev pub Fits : Lit → Type 0
Fits l = l.var.0 < 2 ^ 31

-- the number of a literal: twice that of its variable, and one more where it is positive
abbrev pub number_of : Lit → ℕ
number_of l = 2 * l.var.0 + cond l.positive 1 0

-- the literal with this number
abbrev pub unpacked : ℕ → Lit
unpacked n = record { var = record { 0 = n / 2 }; positive = eqb (n % 2) 1 }

-- a number is that of its literal
pub number_of-unpacked : (n : ℕ) → number_of (unpacked n) ≡ n
number_of-unpacked n = by_sign (eqb (n % 2) 1) refl
  where
    by_sign : (b : Bool) → eqb (n % 2) 1 ≡ b → 2 * (n / 2) + cond b 1 0 ≡ n
    by_sign true e = let odd : n % 2 ≡ 1 = eqb-true (n % 2) 1 e in omega (arith, odd)
    by_sign false e =
        let even : n % 2 ≢ 1 = λ odd. (let z : true ≡ false = sym (eq-eqb (n % 2) 1 odd) ∙ e in cc) in
        omega (arith, even)
