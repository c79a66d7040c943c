use Rattle.std.proofs.Common.{◌≡◌, ◌+◌, List, [], ◌∷◌, ◌++◌, drop, length}
use Rattle.std.specs.List.{sum_by}
use Rattle.kb_logic.specs.declared.elements.Elem.{Elem}
use Rattle.kb_logic.specs.Denotations.{Denotation, denotation_of}
use Rattle.partial_structures.specs.Known.{known_in, place_view, spot_of}
use Rattle.stage_definitions.specs.SizesStage.{capped}
use Rattle.size_stage.proofs.Capping.{Same}
use Rattle.open_sizes.specs.Atoms.{open_in_tuples}
use Rattle.open_sizes.proofs.atoms.+tuples.Given as goal

abbrev pub invariant-loop-elem : goal.invariant-loop-elem
invariant-loop-elem l =
    ((vs : List Denotation) → place_view l.place ≡ spot_of l.s l.symbol vs
    → Same (l.count + sum_by (λ (x : Elem). open_in_tuples (known_in l.s) l.symbol l.value l.others
    (vs ++ denotation_of x ∷ [])) (drop l.elem-index l.elem-items)) (open_in_tuples (known_in l.s) l.symbol l.value
    l.types vs))
    × (l.count ≡ capped l.count)

abbrev pub decreases-tuples : goal.decreases-tuples
decreases-tuples l = length l.types.now
