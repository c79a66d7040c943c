use Rattle.std.proofs.Common.{◌≡◌, ◌++◌, List, ℕ, drop, map}
use Rattle.kb_logic.specs.declared.elements.Elem.TheVariants.{Named}
use Rattle.stage_definitions.specs.Elements.{one}
use Rattle.stage_definitions.specs.DataDomains.{made_cells}
use Rattle.structure_entries.specs.EntryViews.{cell_view}
use Rattle.data_domains.proofs.cells.add_made.Given as goal

abbrev pub invariant-loop-name : goal.invariant-loop-name
invariant-loop-name l = map cell_view l.cells.items ++ map (λ (n : List ℕ). one (Named n))
    (drop l.name-index l.decl.made)
    ≡ map cell_view l.fn.cells.items ++ made_cells l.decl
