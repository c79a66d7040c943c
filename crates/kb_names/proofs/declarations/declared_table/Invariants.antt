use Rattle.std.proofs.Common.{◌≡◌, ◌≤◌, drop, fold, map}
use Rattle.stage_definitions.specs.FileView.{declaration_in}
use Rattle.stage_definitions.specs.Names.{Names, declared_names, names_of, number_types, with_names}
use Rattle.stage_definitions.specs.NamesStage.{name_noted}
use Rattle.stage_definitions.specs.Uses.{declared_uses}
use Rattle.formula_names.specs.Meanings.{names_in}
use Rattle.kb_names.proofs.declarations.declared_table.Given as goal

abbrev pub invariant-loop-raw : goal.invariant-loop-raw
invariant-loop-raw l = record {
  few_types : l.types ≤ l.raw-index;
  few_symbols : l.symbols ≤ l.raw-index;
  names : with_names (names_in l.table) (declared_names l.types l.symbols
      (map declaration_in (drop l.raw-index l.declarations)))
      ≡ names_of (map declaration_in l.declarations);
  noted : (names : Names) → fold (name_noted names) l.earliest.first
      (declared_uses (names_in l.table) (declared_names l.types l.symbols
      (map declaration_in (drop l.raw-index l.declarations))))
      ≡ fold (name_noted names) l.initial.earliest.first (declared_uses number_types
      (declared_names 0 0 (map declaration_in l.declarations)));
}
