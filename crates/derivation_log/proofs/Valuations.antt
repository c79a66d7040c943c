-- Valuations with another value of one variable.
use Rattle.std.proofs.Common.{◌≡◌, ℕ, ◌+◌, Bool, if◌then◌else◌, eqb, eq-eqb, refl, sym, ap, arith}
use Rattle.std.proofs.lemmas.Bool.{ne_eqb}
use Rattle.ground_core.specs.More.{Agree}

abbrev pub with_value : ℕ → Bool → (ℕ → Bool) → ℕ → Bool
with_value n b v k = if eqb k n then b else v k

pub with_value-old : (n : ℕ) (b : Bool) (v : ℕ → Bool) → Agree n v (with_value (n + 1) b v)
with_value-old n b v =
    λ k low high. sym (ap (λ (c : Bool). if c then b else v k) (ne_eqb k (n + 1) (λ e. omega (arith, e, high))))

pub with_value-new : (n : ℕ) (b : Bool) (v : ℕ → Bool) → with_value n b v n ≡ b
with_value-new n b v = ap (λ (c : Bool). if c then b else v n) (eq-eqb n n refl)
