use Rattle.std.proofs.Common.{◌≡◌, ◌+◌, ℕ, drop}
use Rattle.std.specs.List.{sum_by, enumerate_from}
use Rattle.kb_logic.specs.declared.vocabularies.Symbol.{Symbol}
use Rattle.partial_structures.specs.Known.{known_in}
use Rattle.stage_definitions.specs.SizesStage.{capped}
use Rattle.quantifier_bounds.specs.Steps.{unknown_atoms}
use Rattle.size_stage.proofs.Capping.{Same}
use Rattle.open_sizes.specs.Atoms.{open_in_symbol}
use Rattle.open_sizes.proofs.atoms.unknown_in.Given as goal

abbrev pub invariant-loop-at : goal.invariant-loop-at
invariant-loop-at l =
    Same (l.count + sum_by (λ (p : ℕ × Symbol). open_in_symbol (known_in l.s) p.0 p.1) (drop l.at (enumerate_from 0
    l.s.symbols.now))) (unknown_atoms (known_in l.s))
    × (l.count ≡ capped l.count)
