use Rattle.std.proofs.Common.{◌≡◌, ℕ, drop, fold}
use Rattle.std.specs.Prelude.{zip}
use Rattle.stage_definitions.specs.SizesStage.{capped, size_noted, uses_of_symbols}
use Rattle.size_stage.proofs.notes.note_symbols.Given as goal

abbrev pub invariant-loop-i : goal.invariant-loop-i
invariant-loop-i l =
    (before : ℕ) × (l.before ≡ capped before)
    × (fold size_noted l.earliest.first (uses_of_symbols l.domains before
    (zip (drop l.i l.places) (drop l.i l.symbols))) ≡ fold size_noted l.fn.earliest.first
    (uses_of_symbols l.domains 0 (zip l.places l.symbols)))
