-- Texts of two lengths are two texts.
use Rattle.std.proofs.Common.{◌≡◌, ℕ, List, length, Bool, true, false, bytes_eq, refl, ap}
use Rattle.std.proofs.lemmas.Slice.Eq.{bytes_eq-Decides}

pub other_length : (a b : List ℕ) → (length a ≡ length b → ⊥) → false ≡ bytes_eq a b
other_length a b other =
    let step : (x : Bool) → bytes_eq a b ≡ x → false ≡ x = λ x.
    elim x as (λ x. bytes_eq a b ≡ x → false ≡ x) [
      | true ↦ λ e. absurd (other (ap length ((bytes_eq-Decides a b).0 e)))
      | false ↦ λ e. refl
    ] in step (bytes_eq a b) refl
