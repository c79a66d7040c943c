use Rattle.std.proofs.Common.{◌≡◌, ◌+◌, drop, fold, map}
use Rattle.stage_definitions.specs.FileView.{element_name}
use Rattle.stage_definitions.specs.Names.{Names, made_names, with_names}
use Rattle.stage_definitions.specs.NamesStage.{name_noted}
use Rattle.stage_definitions.specs.Uses.{declared_uses}
use Rattle.formula_names.specs.Meanings.{names_in}
use Rattle.kb_names.proofs.declarations.declare_more.Given as goal

abbrev pub invariant-loop-i : goal.invariant-loop-i
invariant-loop-i l = record {
  names : with_names (names_in l.table) (made_names l.ty (l.i + 1) (map element_name (drop l.i l.more)))
      ≡ with_names (names_in l.initial.table) (made_names l.ty 1 (map element_name l.more));
  noted : (names : Names) → fold (name_noted names) l.earliest.first
      (declared_uses (names_in l.table) (made_names l.ty (l.i + 1) (map element_name (drop l.i l.more))))
      ≡ fold (name_noted names) l.initial.earliest.first (declared_uses (names_in l.initial.table)
      (made_names l.ty 1 (map element_name l.more)));
}
