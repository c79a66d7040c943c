use Rattle.grammar.specs.BlockView.{structure_view}
use Rattle.type_derivation.specs.TypedViews.{typed_view}
use Rattle.base_reader.proofs.Stages.{is_opened}
use Rattle.base_reader.proofs.reading.opened.Goals as goal

pub new-requires-in-Ok-read_known : goal.new-requires-in-Ok-read_known
new-requires-in-Ok-read_known c =
    let is = c.requires.typed in
    let formed = (c.derived_is_well_formed.ensures is.0 is.1.0 (typed_view c.args.kb) is.1.1 is.1.2).few_symbols in
    is_opened c.args.kb c.args.theory (structure_view c.args.structure.now) c.in-Ok-read_known.known
    c.in-Ok-read_known.narrowing c.in-Ok.name c.requires.theory formed c.in-Ok-read_known.ensures.ok
