use Rattle.std.proofs.Common.{◌≡◌, ◌+◌, ℕ, drop}
use Rattle.std.specs.List.{sum_by, enumerate_from}
use Rattle.kb_logic.specs.declared.vocabularies.Symbol.{Symbol}
use Rattle.quantifier_bounds.specs.Steps.{unknown_atoms}
use Rattle.stage_definitions.specs.SizesStage.{capped}
use Rattle.size_stage.proofs.Capping.{Same}
use Rattle.open_sizes.specs.Atoms.{open_in_symbol}
use Rattle.open_sizes.proofs.atoms.listed.Given as goal

abbrev pub invariant-loop-symbol : goal.invariant-loop-symbol
invariant-loop-symbol l =
    Same (l.count + sum_by (λ (p : ℕ × Symbol). open_in_symbol l.known p.0 p.1) (drop l.symbol (enumerate_from 0
    l.known.symbols))) (unknown_atoms l.known)
    × (l.count ≡ capped l.count)
