-- Sums and products of integers in intervals.
use Rattle.std.proofs.Common.{ℕ, suc, ◌*◌, ◌≤◌, ℤ, pos, negsuc, ◌*ℤ◌, ◌≤ℤ◌, arith}
use Rattle.std.specs.Int.{int_min, int_max}
use Rattle.std.proofs.lemmas.Int.{ints, clamps}
use Rattle.std.proofs.lemmas.Nat.{mul-le}
use Rattle.std.proofs.Math.IntN.{*ℤ_comm}
use Rattle.kb_logic.specs.Bounds.{Interval, interval_product, IsWithin}

left_pos : (k : ℕ) (l y : ℤ) → l ≤ℤ y → (pos k *ℤ l) ≤ℤ (pos k *ℤ y)
left_pos k (pos a) (pos b) h = let step : k * a ≤ k * b = mul-le k a k b (omega arith) (omega (arith, ints, h)) in
    omega (arith, ints)
left_pos k (negsuc a) (pos b) h = omega (arith, ints)
left_pos k (negsuc a) (negsuc b) h = let step : k * suc b ≤ k * suc a = mul-le k (suc b) k (suc a) (omega arith)
    (omega (arith, ints, h)) in omega (arith, ints)
left_pos k (pos a) (negsuc b) h = absurd (omega (arith, ints, h))

left_neg : (k : ℕ) (l y : ℤ) → l ≤ℤ y → (negsuc k *ℤ y) ≤ℤ (negsuc k *ℤ l)
left_neg k (pos a) (pos b) h = let step : suc k * a ≤ suc k * b = mul-le (suc k) a (suc k) b (omega arith)
    (omega (arith, ints, h)) in omega (arith, ints)
left_neg k (negsuc a) (pos b) h = omega (arith, ints)
left_neg k (negsuc a) (negsuc b) h = let step : suc k * suc b ≤ suc k * suc a = mul-le (suc k) (suc b) (suc k) (suc a)
    (omega arith) (omega (arith, ints, h)) in omega (arith, ints)
left_neg k (pos a) (negsuc b) h = absurd (omega (arith, ints, h))

-- a product lies between those with the ends of its second factor
pub record Between (x y z : ℤ) : Type 0 where
  pub low : int_min x y ≤ℤ z
  pub high : z ≤ℤ int_max x y

between : (z l y h : ℤ) → l ≤ℤ y → y ≤ℤ h → Between (z *ℤ l) (z *ℤ h) (z *ℤ y)
between (pos k) l y h a b = let low = left_pos k l y a in let high = left_pos k y h b in
    record { low = omega (arith, ints, clamps, low); high = omega (arith, ints, clamps, high) }
between (negsuc k) l y h a b = let low = left_neg k y h b in let high = left_neg k l y a in
    record { low = omega (arith, ints, clamps, low); high = omega (arith, ints, clamps, high) }

turned : (z l y h : ℤ) → Between (z *ℤ l) (z *ℤ h) (z *ℤ y) → Between (l *ℤ z) (h *ℤ z) (y *ℤ z)
turned z l y h b = rw (*ℤ_comm l z, *ℤ_comm h z, *ℤ_comm y z) b

pub product_within : (a b : Interval) (x y : ℤ) → IsWithin a x → IsWithin b y → IsWithin (interval_product a b) (x *ℤ y)
product_within a b x y h k =
    let outer = turned y a.low x a.high (between y a.low x a.high h.low h.high) in
    let lows = between a.low b.low y b.high k.low k.high in
    let highs = between a.high b.low y b.high k.low k.high in
    record {
      low = omega (arith, ints, clamps, outer.low, lows.low, highs.low);
      high =
          omega (arith, ints, clamps, outer.high, lows.high, highs.high);
    }
