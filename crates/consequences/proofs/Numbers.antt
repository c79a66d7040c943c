-- Distinct numbers among others.
use Rattle.std.proofs.Common.{◌≡◌, ℕ, ◌≤◌, Bool, true, false, List, [], ◌∷◌, ◌++◌, Contains, length, eqb, eq-eqb, rules}
use Rattle.std.proofs.Common.{refl}
use Rattle.std.specs.Cmp.{IsEquivalence}
use Rattle.std.specs.List.{list_any, IsDistinct}
use Rattle.std.proofs.lemmas.Bool.{eqb-true}
use Rattle.std.proofs.lemmas.Map.Keys.{IsDistinct-push}
use Rattle.std.proofs.lemmas.Map.Made.{length-le_from_is_member}
use Rattle.std.proofs.lemmas.Map.Views.{list_any-from_Contains, Contains-from_any}

eqb-laws : IsEquivalence eqb
eqb-laws = record {
  refl = λ x. eq-eqb x x refl;
  symm = λ x y. search rules;
  congr = λ x y z e. search rules;
}

pub distinct-nil : IsDistinct eqb []
unfolding IsDistinct
distinct-nil = tt

pub distinct-more : (ns : List ℕ) (n : ℕ) → IsDistinct eqb ns → (Contains ns n → ⊥) → IsDistinct eqb (ns ++ n ∷ [])
distinct-more ns n once not = IsDistinct-push eqb-laws ns n once (absent (list_any (eqb n) ns) refl)
  where
    absent : (b : Bool) → list_any (eqb n) ns ≡ b → list_any (eqb n) ns ≡ false
    absent true e = absurd (not (Contains-from_any eqb-true n ns e))
    absent false e = e

-- distinct numbers are no more than those they are among
pub no-more : (ns vs : List ℕ) → IsDistinct eqb ns → ((n : ℕ) → Contains ns n → Contains vs n) → length ns ≤ length vs
no-more ns vs once among = length-le_from_is_member eqb-laws ns vs once (λ q e. list_any-from_Contains eqb-laws q vs
    (among q (Contains-from_any eqb-true q ns e)))
