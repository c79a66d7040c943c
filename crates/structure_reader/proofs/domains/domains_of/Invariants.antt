use Rattle.std.proofs.Common.{◌≡◌, ◌++◌, drop, map}
use Rattle.stage_definitions.specs.Elements as set
use Rattle.structure_entries.specs.EntryViews.{cell_view}
use Rattle.data_domains.specs.declared.types.TypeData.{TypeData}
use Rattle.structure_reader.proofs.domains.domains_of.Given as goal

abbrev pub invariant-loop-data : goal.invariant-loop-data
invariant-loop-data l =
    l.domains ++ map (λ (x : TypeData). set.listed (map cell_view x.cells.items)) (drop l.data-index l.types)
    ≡ map (λ (x : TypeData). set.listed (map cell_view x.cells.items)) l.types
