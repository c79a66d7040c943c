use Rattle.std.proofs.Common.{◌∙◌, map}
use Rattle.stage_definitions.specs.Elements as set
use Rattle.structure_entries.specs.EntryViews.{cell_view}
use Rattle.data_domains.specs.declared.types.TypeData.{TypeData}
use Rattle.structure_reader.proofs.NextDomain.{all_domains, at_end}
use Rattle.structure_reader.proofs.domains.domains_of.Goals as goal

pub returns : goal.returns
returns c = λ decls es h.
    at_end (λ (x : TypeData). set.listed (map cell_view x.cells.items)) c.loop-data.domains c.args.types.now
    c.loop-data.data-index c.loop-data-test.false c.loop-data.invariant
    ∙ all_domains decls es c.args.types.now h
