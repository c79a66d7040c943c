-- One look at a constraint: an end of its interval, and the parts whose values move it.
use Rattle.std.specs.Prelude.{◌≡◌, ℕ, ℤ, pos, neg_ℤ, ◌-ℤ◌, ◌≤ℤ◌, ◌^◌, int_lt, int_le, Bool, if◌then◌else◌, Option, Some}
use Rattle.std.specs.Prelude.{List, [], ◌∷◌}
use Rattle.kb_logic.specs.declared.elements.ExtInt.{ExtInt}
use Rattle.kb_logic.specs.declared.syntax.AggKind.{AggKind}
use Rattle.lit_core.specs.declared.literals.Lit.{Lit}
use Rattle.ground_core.specs.declared.parts.Part.{Part}
use Rattle.ground_core.specs.Intervals.{known_of}
use Rattle.aggregate_propagators.specs.declared.single.End.{End}
use Rattle.aggregate_propagators.specs.declared.movers.Mover.{Mover}
use Rattle.aggregate_propagators.specs.Reasons.{denied}
use Rattle.aggregate_propagators.specs.Once.{end_total}
use Rattle.aggregate_propagators.specs.Spared.{forgotten}
use Rattle.aggregate_propagators.specs.Thresholds.{amount_of}

-- the result has a value, and this is what the parts gain at the end that it asks for
pub record IsEndOf (a : ℕ → Option Bool) (ps : List Part) (e : End) : Type 0 where
  pub out : known_of a e.of.out ≡ Some e.high
  pub sum : e.sum ≡ end_total a e.high e.of.kind (amount_of e.of.least) ps
  pub low : neg_ℤ (pos (2 ^ 126)) ≤ℤ e.sum
  pub top : e.sum ≤ℤ pos (2 ^ 126)

-- how far the end moves where the part's value is forgotten, and the literal that is false
abbrev pub mover : (ℕ → Option Bool) → Bool → AggKind → ExtInt → Part → Mover
mover a high k least p = record {
  by = forgotten high k least p.weight (known_of a p.lit);
  lit = denied (known_of a p.lit) p.lit;
}

-- those of the parts that move the end
abbrev pub movers : (ℕ → Option Bool) → Bool → AggKind → ExtInt → List Part → List Mover
movers a high k least [] = []
movers a high k least (p ∷ ps) =
    if int_lt (pos 0) (forgotten high k least p.weight (known_of a p.lit)) then mover a high k least p
    ∷ movers a high k least ps else movers a high k least ps

-- the literals of those that the spare has no room for
abbrev pub needed : ℤ → List Mover → List Lit
needed spare [] = []
needed spare (m ∷ ms) = if int_le m.by spare then needed (spare -ℤ m.by) ms else m.lit ∷ needed spare ms

-- what is left of the spare after them
abbrev pub spare_after : ℤ → List Mover → ℤ
spare_after spare [] = spare
spare_after spare (m ∷ ms) = if int_le m.by spare then spare_after (spare -ℤ m.by) ms else spare_after spare ms
