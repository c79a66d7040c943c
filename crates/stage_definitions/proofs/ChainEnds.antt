-- The walk up from a type, to the end of its chain.
use Rattle.std.proofs.Common.{◌≡◌, ℕ, zero, suc, List, Option, None, Some, unwrap_or, slice_get, refl}
use Rattle.std.proofs.Common.{ap}
use Rattle.stage_definitions.specs.Kinship.{climbed, climbed_on}

abbrev goes : List (Option ℕ) → ℕ → Option ℕ
goes parents t = unwrap_or (slice_get parents t) None

pub stays : (m : ℕ) (parents : List (Option ℕ)) (t : ℕ) → goes parents t ≡ None → climbed m parents t ≡ t
stays zero parents t h = refl
stays (suc m) parents t h = by (slice_get parents t) h
  where
    by : (o : Option (Option ℕ)) → unwrap_or o None ≡ None → climbed_on o t (climbed m parents) ≡ t
    by None e = refl
    by (Some None) e = refl
    by (Some (Some p)) e = let n : Some p ≡ None = e in absurd (cc)

pub goes_up : (m : ℕ) (parents : List (Option ℕ)) (t p : ℕ) → goes parents t ≡ Some p → climbed (suc m) parents t
    ≡ climbed m parents p
goes_up m parents t p h = by (slice_get parents t) h
  where
    by : (o : Option (Option ℕ)) → unwrap_or o None ≡ Some p → climbed_on o t (climbed m parents) ≡ climbed m parents p
    by None e = let n : None ≡ Some p = e in absurd (cc)
    by (Some None) e = let n : None ≡ Some p = e in absurd (cc)
    by (Some (Some q)) e = let same : q ≡ p = cc in ap (climbed m parents) same
