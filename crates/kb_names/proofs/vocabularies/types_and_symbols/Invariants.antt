use Rattle.std.proofs.Common.{◌≡◌, ◌++◌, drop, fold, length, map}
use Rattle.stage_definitions.specs.FileView.{declaration_in}
use Rattle.stage_definitions.specs.NamesStage.{name_noted}
use Rattle.stage_definitions.specs.Numbering.{types_in, symbols_in}
use Rattle.stage_definitions.specs.Uses.{uses_in_declarations}
use Rattle.formula_names.specs.Meanings.{names_in}
use Rattle.kb_names.proofs.vocabularies.types_and_symbols.Given as goal

abbrev pub invariant-loop-raw : goal.invariant-loop-raw
invariant-loop-raw l = record {
  types : l.declared.types ++ types_in (names_in l.table) (map declaration_in (drop l.raw-index l.declarations))
      ≡ types_in (names_in l.table) (map declaration_in l.declarations);
  symbols : l.declared.symbols ++ symbols_in (names_in l.table) (map declaration_in (drop l.raw-index l.declarations))
      ≡ symbols_in (names_in l.table) (map declaration_in l.declarations);
  noted : fold (name_noted (names_in l.table)) l.earliest.first (uses_in_declarations (length l.declared.types)
      (length l.declared.symbols) (map declaration_in (drop l.raw-index l.declarations)))
      ≡ fold (name_noted (names_in l.table)) l.initial.earliest.first
      (uses_in_declarations 0 0 (map declaration_in l.declarations));
}
