-- Constraints whose bound may have more than 64 bits.
use Rattle.std.specs.Prelude.{◌^◌, pos, neg_ℤ, ◌≤ℤ◌, List}
use Rattle.kb_logic.specs.declared.elements.ExtInt.{ExtInt}
use Rattle.kb_logic.specs.declared.elements.ExtInt.TheVariants.{NegInf, Num, PosInf}
use Rattle.ground_core.specs.declared.parts.Part.{Part}
use Rattle.ground_core.specs.declared.parts.AggCon.{AggCon}
use Rattle.aggregate_propagators.specs.declared.thresholds.Amount.{Amount}
use Rattle.aggregate_propagators.specs.declared.thresholds.Amount.TheVariants as amount
use Rattle.aggregate_propagators.specs.declared.thresholds.Threshold.{Threshold}

-- the number, or infinity
abbrev pub amount_of : Amount → ExtInt
amount_of amount.NegInf = NegInf
amount_of (amount.Num z) = Num z
amount_of amount.PosInf = PosInf

-- no further from 0 than a number of 64 bits less another one
abbrev pub IsNear : ExtInt → Type 0
IsNear NegInf = Unit {0}
IsNear (Num z) = (neg_ℤ (pos (2 ^ 64)) ≤ℤ z) × (z ≤ℤ pos (2 ^ 64))
IsNear PosInf = Unit {0}

-- the constraint on these parts
abbrev pub constraint_of : Threshold → List Part → AggCon
constraint_of t ps = record { out = t.out; kind = t.kind; parts = ps; least = amount_of t.least }
