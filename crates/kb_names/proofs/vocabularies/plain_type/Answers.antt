use Rattle.std.proofs.Common.{◌≡◌, ◌+◌, length}
use Rattle.std.specs.Option.{option_map}
use Rattle.stage_definitions.specs.FileView.{isa_name}
use Rattle.stage_definitions.specs.NamesStage.{name_noted}
use Rattle.stage_definitions.specs.Uses.{counted, parent_uses}
use Rattle.grammar.specs.View.{name_view}
use Rattle.formula_names.specs.Meanings.{names_in}
use Rattle.formula_names.proofs.ChainEnds.{always_on_ok}
use Rattle.formula_names.proofs.PerDeclaration.{type_noted}
use Rattle.kb_names.proofs.vocabularies.plain_type.Goals as goal

pub returns-clause-noted : goal.returns-clause-noted
returns-clause-noted c =
    let first : c.note_next.new.earliest.first ≡ name_noted (names_in c.args.table.now) c.args.earliest.now.first
    (counted 256 (length c.args.types.now + 1) (name_view c.args.raw.now.name)) =
    rw c.len.ensures at (c.note_next.ensures (names_in c.args.table.now)) in
    always_on_ok c.push.result _
    (type_noted (name_noted (names_in c.args.table.now)) c.args.earliest.now.first c.note_next.new.earliest.first
    c.parent_named-parent.new.earliest.first
    (counted 256 (length c.args.types.now + 1) (name_view c.args.raw.now.name))
    (parent_uses (option_map isa_name c.args.raw.now.isa)) first c.parent_named-parent.ensures.noted)
