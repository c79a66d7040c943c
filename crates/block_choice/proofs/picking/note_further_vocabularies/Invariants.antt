use Rattle.std.proofs.Common.{◌≡◌, drop, fold, map}
use Rattle.stage_definitions.specs.BlocksStage.{block_noted, one_of_each}
use Rattle.stage_definitions.specs.FileView.{vocabulary_in}
use Rattle.block_choice.proofs.picking.note_further_vocabularies.Given as goal

abbrev pub invariant-loop-i : goal.invariant-loop-i
invariant-loop-i l =
    fold block_noted l.earliest.first (one_of_each l.i (map (λ v. v.place)
    (map vocabulary_in (drop l.i l.vocabularies))))
    ≡ fold block_noted l.initial.earliest.first (one_of_each 0 (map (λ v. v.place) (map vocabulary_in l.vocabularies)))
