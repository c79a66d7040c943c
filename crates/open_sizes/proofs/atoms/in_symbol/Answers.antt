use Rattle.std.proofs.Common.{ℕ, List, [], ap, ◌∙◌}
use Rattle.partial_structures.specs.Known.{known_in}
use Rattle.stage_definitions.specs.SizesStage.{capped}
use Rattle.open_sizes.specs.Atoms.{open_in_tuples}
use Rattle.open_sizes.proofs.atoms.in_symbol.Goals as goal

pub returns : goal.returns
returns c =
    c.tuples.ensures [] c.start.ensures
    ∙ ap (λ (ts : List ℕ). capped (open_in_tuples (known_in c.args.s) c.args.symbol c.args.declared.now.value ts []))
    c.as_slice.ensures
