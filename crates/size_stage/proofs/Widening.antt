-- The range of integers that are met one by one.
use Rattle.std.proofs.Common.{◌≡◌, ℤ, Option, None, Some, refl, arith}
use Rattle.std.specs.Int.{int_min, int_max}
use Rattle.std.proofs.lemmas.Int.{ints, clamps}
use Rattle.kb_logic.specs.Bounds.{Interval, hull}

-- the range of both
abbrev pub both : Option Interval → Option Interval → Option Interval
both None o = o
both (Some i) None = Some i
both (Some i) (Some j) = Some (record { low = int_min i.low j.low; high = int_max i.high j.high })

abbrev ends : ℤ → ℤ → Option Interval
ends low high = Some (record { low = low; high = high })

least : (a b c : ℤ) → int_min (int_min a b) c ≡ int_min b (int_min a c)
least a b c = omega (arith, ints, clamps)

most : (a b c : ℤ) → int_max (int_max a b) c ≡ int_max b (int_max a c)
most a b c = omega (arith, ints, clamps)

turned_min : (a b : ℤ) → int_min a b ≡ int_min b a
turned_min a b = omega (arith, ints, clamps)

turned_max : (a b : ℤ) → int_max a b ≡ int_max b a
turned_max a b = omega (arith, ints, clamps)

-- one more integer
pub one_more : (z : ℤ) (o rest : Option Interval) → both (Some (hull z o)) rest ≡ both o (Some (hull z rest))
one_more z None None = refl
one_more z None (Some j) = refl
one_more z (Some i) None = rw (turned_min z i.low, turned_max z i.high) refl
one_more z (Some i) (Some j) = rw (least z i.low j.low, most z i.high j.high) refl

pub nothing_more : (o : Option Interval) → both o None ≡ o
nothing_more None = refl
nothing_more (Some i) = refl
