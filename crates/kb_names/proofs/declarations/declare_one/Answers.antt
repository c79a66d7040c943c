use Rattle.std.proofs.Common.{map}
use Rattle.stage_definitions.specs.FileView.{element_name}
use Rattle.stage_definitions.specs.NamesStage.{name_noted}
use Rattle.grammar.specs.View.{name_view}
use Rattle.formula_names.specs.Meanings.{names_in}
use Rattle.formula_names.proofs.ChainEnds.{on_ok_map}
use Rattle.formula_names.proofs.Declared.{constructed_noted}
use Rattle.kb_names.proofs.declarations.declare_one.Goals as goal

pub returns-in-Type-clause-noted : goal.returns-in-Type-clause-noted
returns-in-Type-clause-noted c = rw c.in-Type.is c.declare_name.ensures.noted

pub returns-in-Symbol-clause-noted : goal.returns-in-Symbol-clause-noted
returns-in-Symbol-clause-noted c = rw c.in-Symbol.is c.declare_name-in-Symbol.ensures.noted

pub returns-in_ok-declare_name-in-Constructed-2-clause-noted
    : goal.returns-in_ok-declare_name-in-Constructed-2-clause-noted
returns-in_ok-declare_name-in-Constructed-2-clause-noted c =
    rw c.in-Constructed.is
    (on_ok_map c.declare_more.result _ _ c.declare_more.ensures.noted
    (λ noted names. constructed_noted (name_noted names) c.args.earliest.now.first
    c.declare_name-in-Constructed.new.earliest.first c.declare_name-in-Constructed-2.new.earliest.first
    c.declare_more.new.earliest.first
    c.args.types c.args.symbols (names_in c.args.table.now) (names_in c.declare_name-in-Constructed.new.table)
    (names_in c.declare_name-in-Constructed-2.new.table)
    (name_view c.in-Constructed.raw.name) (name_view c.in-Constructed.raw.first)
    (map element_name c.in-Constructed.raw.more)
    (c.in_ok-declare_name-in-Constructed.ensures.noted names) c.in_ok-declare_name-in-Constructed.ensures.names
    (c.in_ok-declare_name-in-Constructed-2.ensures.noted names) c.in_ok-declare_name-in-Constructed-2.ensures.names
    (rw (← c.as_slice.ensures) (noted names))))
