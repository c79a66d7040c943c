use Rattle.std.proofs.Common.{◌≡◌, ◌+◌, List, drop, Some}
use Rattle.std.specs.List.{sum_by}
use Rattle.kb_logic.specs.declared.elements.Elem.{Elem}
use Rattle.kb_logic.specs.Denotations.{Denotation, denotation_of}
use Rattle.partial_structures.specs.Applications.{value_certain}
use Rattle.partial_structures.specs.Known.{known_in, place_view, spot_of}
use Rattle.stage_definitions.specs.SizesStage.{capped}
use Rattle.size_stage.proofs.Capping.{Same}
use Rattle.open_sizes.specs.Atoms.{open_in_values}
use Rattle.open_sizes.specs.OpenWeights.{where_open}
use Rattle.open_sizes.proofs.atoms.values.Given as goal

abbrev pub invariant-loop-elem : goal.invariant-loop-elem
invariant-loop-elem l =
    ((vs : List Denotation) → place_view l.place ≡ spot_of l.s l.symbol vs
    → Same (l.count + sum_by (λ (x : Elem). where_open (value_certain (known_in l.s) l.symbol (Some vs)
    (Some (denotation_of x))) 1) (drop l.elem-index l.elem-items)) (open_in_values (known_in l.s) l.symbol
    (Some l.ty) vs))
    × (l.count ≡ capped l.count)
