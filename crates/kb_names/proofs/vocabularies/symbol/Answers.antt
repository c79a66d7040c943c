use Rattle.std.proofs.Common.{◌≡◌, ◌+◌, length, map}
use Rattle.std.specs.Option.{option_map}
use Rattle.stage_definitions.specs.FileView.{argument_names, result_name}
use Rattle.stage_definitions.specs.NamesStage.{name_noted}
use Rattle.stage_definitions.specs.Uses.{counted, position, position_uses}
use Rattle.grammar.specs.View.{name_view}
use Rattle.formula_names.specs.Meanings.{names_in}
use Rattle.formula_names.proofs.ChainEnds.{always_on_ok}
use Rattle.formula_names.proofs.PerDeclaration.{symbol_noted}
use Rattle.kb_names.proofs.vocabularies.symbol.Goals as goal

pub returns-clause-noted : goal.returns-clause-noted
returns-clause-noted c =
    let first : c.note_next.new.earliest.first ≡ name_noted (names_in c.args.table.now) c.args.earliest.now.first
    (counted 1024 (length c.args.symbols.now + 1) (name_view c.args.raw.now.name)) =
    rw c.len.ensures at (c.note_next.ensures (names_in c.args.table.now)) in
    let second : c.note_count.new.earliest.first ≡ name_noted (names_in c.args.table.now) c.note_next.new.earliest.first
    (counted 8 (length (argument_names c.args.raw.now.arguments)) (name_view c.args.raw.now.name)) =
    rw c.argument_count.ensures at (c.note_count.ensures (names_in c.args.table.now)) in
    always_on_ok c.push.result _
    (symbol_noted (name_noted (names_in c.args.table.now)) c.args.earliest.now.first c.note_next.new.earliest.first
    c.note_count.new.earliest.first c.positions.new.earliest.first c.value_position-value.new.earliest.first
    (counted 1024 (length c.args.symbols.now + 1) (name_view c.args.raw.now.name))
    (counted 8 (length (argument_names c.args.raw.now.arguments)) (name_view c.args.raw.now.name))
    (map position (argument_names c.args.raw.now.arguments)) (position_uses
    (option_map result_name c.args.raw.now.result))
    first second c.in_ok-args.ensures.noted c.value_position-value.ensures.noted)
