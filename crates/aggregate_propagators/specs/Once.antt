-- Parts whose variables each stand once.
use Rattle.std.specs.Prelude.{ℕ, nat_lt, Bool, true, false, if◌then◌else◌, Option, Some, None}
use Rattle.std.specs.Prelude.{List, [], ◌∷◌}
use Rattle.std.specs.Prelude.{ℤ, ◌+ℤ◌, ◌-ℤ◌}
use Rattle.kb_logic.specs.declared.elements.ExtInt.{ExtInt}
use Rattle.kb_logic.specs.declared.syntax.AggKind.{AggKind}
use Rattle.ground_core.specs.declared.parts.Part.{Part}
use Rattle.ground_core.specs.Intervals.{known_of}
use Rattle.aggregate_propagators.specs.Reasons.{in_end}
use Rattle.aggregate_propagators.specs.Totals.{gain, gain_if, total}

-- the variable comes after the last one, if any
abbrev pub follows : Option ℕ → ℕ → Bool
follows None n = true
follows (Some last) n = nat_lt last n

-- the parts' variables rise
abbrev pub rises : Option ℕ → List Part → Bool
rises last [] = true
rises last (p ∷ ps) = if follows last p.lit.var.0 then rises (Some p.lit.var.0) ps else false

-- the total at one end of the interval
abbrev pub end_total : (ℕ → Option Bool) → Bool → AggKind → ExtInt → List Part → ℤ
end_total a high k least ps = total (λ (p : Part). in_end high k p.weight (known_of a p.lit)) k least ps

-- a total once an unassigned part of this weight has the value
abbrev pub moved : Bool → AggKind → ExtInt → ℤ → Option Bool → ℤ → ℤ
moved high k least w value sum = (sum +ℤ gain_if (in_end high k w value) (gain k least w)) -ℤ gain_if
    (in_end high k w None) (gain k least w)
