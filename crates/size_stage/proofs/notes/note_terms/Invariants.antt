use Rattle.std.proofs.Common.{◌≡◌, drop, fold}
use Rattle.std.specs.Prelude.{zip}
use Rattle.size_stage.specs.Notes.{wide_noted}
use Rattle.size_stage.proofs.notes.note_terms.Given as goal

abbrev pub invariant-loop-i : goal.invariant-loop-i
invariant-loop-i l = fold wide_noted l.earliest.first (zip (drop l.i l.places) (drop l.i l.wide))
    ≡ fold wide_noted l.fn.earliest.first (zip l.places l.wide)
