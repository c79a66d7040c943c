use Rattle.std.proofs.Common.{◌≡◌, ◌*◌, length, drop}
use Rattle.kb_logic.specs.Structures.{tuples_of}
use Rattle.stage_definitions.specs.SizesStage.{capped}
use Rattle.size_stage.proofs.Capping.{Same}
use Rattle.size_stage.proofs.weights.tuples.Given as goal

abbrev pub invariant-loop-ty : goal.invariant-loop-ty
invariant-loop-ty l = Same (l.count * length (tuples_of l.domains (drop l.ty-index l.types)))
    (length (tuples_of l.domains l.types)) × (l.count ≡ capped l.count)
