use Rattle.stage_definitions.specs.FileView.{declaration_in}
use Rattle.stage_definitions.specs.NamesStage.{name_noted}
use Rattle.stage_definitions.specs.Numbering.{types_in, symbols_in}
use Rattle.formula_names.specs.Meanings.{names_in}
use Rattle.formula_names.proofs.PerDeclaration.{types_in-next, symbols_in-next, next_added, more_types, more_symbols}
use Rattle.formula_names.proofs.PerDeclaration.{next_noted}
use Rattle.kb_names.proofs.vocabularies.types_and_symbols.Goals as goal

pub loop-raw-preserved : goal.loop-raw-preserved
loop-raw-preserved c = record {
  types = next_added (types_in (names_in c.args.table.now)) c.loop-raw.raw-index c.args.declarations.now
      c.raw-item.result _ _ _ c.loop-raw-test.true c.raw-item.is
      (types_in-next (names_in c.args.table.now)) c.in_ok-add_declaration.ensures.types c.loop-raw.invariant.types;
  symbols = next_added (symbols_in (names_in c.args.table.now)) c.loop-raw.raw-index c.args.declarations.now
      c.raw-item.result _ _ _ c.loop-raw-test.true c.raw-item.is
      (symbols_in-next (names_in c.args.table.now)) c.in_ok-add_declaration.ensures.symbols
      c.loop-raw.invariant.symbols;
  noted = next_noted (name_noted (names_in c.args.table.now)) c.loop-raw.earliest.first _ _ _ _ _ _ c.loop-raw.raw-index
      c.args.declarations.now c.raw-item.result c.loop-raw-test.true c.raw-item.is
      (more_types (names_in c.args.table.now) (declaration_in c.raw-item.result) _ _
      c.in_ok-add_declaration.ensures.types)
      (more_symbols (names_in c.args.table.now) (declaration_in c.raw-item.result) _ _
      c.in_ok-add_declaration.ensures.symbols)
      c.in_ok-add_declaration.ensures.noted c.loop-raw.invariant.noted;
}
