use Rattle.std.proofs.Common.{◌≡◌, ◌++◌, List, length, map}
use Rattle.std.specs.Option.{option_map}
use Rattle.kb_logic.specs.declared.elements.Elem.{Elem}
use Rattle.row_tries.specs.Lent.{lent_view}
use Rattle.stage_definitions.specs.DataFacts.{single_elements}
use Rattle.structure_entries.specs.EntryViews.{items_of}
use Rattle.data_filling.proofs.rows.set_args.Given as goal

abbrev pub invariant-loop-item : goal.invariant-loop-item
invariant-loop-item l =
    option_map (λ (xs : List Elem). map lent_view l.args.items ++ xs) (single_elements (items_of l.rest))
    ≡ single_elements (items_of l.items)

abbrev pub decreases-loop-item : goal.decreases-loop-item
decreases-loop-item l = length (items_of l.rest)
