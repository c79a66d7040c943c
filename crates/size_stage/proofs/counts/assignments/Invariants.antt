use Rattle.std.proofs.Common.{◌≡◌, length, ◌*◌, drop}
use Rattle.kb_logic.specs.Structures.{choices}
use Rattle.stage_definitions.specs.SizesStage.{capped}
use Rattle.size_stage.proofs.Capping.{Same}
use Rattle.size_stage.proofs.counts.assignments.Given as goal

abbrev pub invariant-loop-bound : goal.invariant-loop-bound
invariant-loop-bound l =
    Same (l.count * length (choices l.domains (drop l.bound-index l.bounds))) (length (choices l.domains l.bounds))
    × (l.count ≡ capped l.count)
