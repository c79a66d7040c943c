use Rattle.std.proofs.Common.{◌≡◌, ◌+◌, ◌*◌, length, drop}
use Rattle.std.specs.Prelude.{sum_by}
use Rattle.kb_logic.specs.Structures.{tuples_of}
use Rattle.kb_logic.specs.Weights.{value_count}
use Rattle.stage_definitions.specs.SizesStage.{capped}
use Rattle.size_stage.proofs.Capping.{Same}
use Rattle.size_stage.proofs.weights.atoms.Given as goal

abbrev pub invariant-loop-symbol : goal.invariant-loop-symbol
invariant-loop-symbol l =
    Same (l.count + sum_by (λ s. length (tuples_of l.domains s.args) * value_count l.domains s.value)
    (drop l.symbol-index l.vocab.symbols)) (sum_by (λ s. length (tuples_of l.domains s.args) * value_count l.domains
    s.value) l.vocab.symbols)
    × (l.count ≡ capped l.count)
