use Rattle.std.proofs.Common.{arith}
use Rattle.formula_names.specs.Meanings.{names_in}
use Rattle.stage_definitions.specs.NamesStage.{name_noted}
use Rattle.formula_names.proofs.Declared.{next_declared, next_declared_noted}
use Rattle.kb_names.proofs.declarations.declared_table.Goals as goal

pub loop-raw-preserved : goal.loop-raw-preserved
loop-raw-preserved c = record {
  few_types = omega (arith, c.type_count_of-types.ensures.small);
  few_symbols = omega (arith, c.symbol_count_of-symbols.ensures.small);
  names = rw (c.type_count_of-types.ensures.count, c.symbol_count_of-symbols.ensures.count)
      (next_declared c.loop-raw.types c.loop-raw.symbols c.loop-raw.raw-index (names_in c.loop-raw.table) _ _
      c.args.declarations.now c.raw-item.result c.loop-raw-test.true c.raw-item.is
      c.in_ok-declare_one.ensures.names c.loop-raw.invariant.names);
  noted = λ names. rw (c.type_count_of-types.ensures.count, c.symbol_count_of-symbols.ensures.count)
      (next_declared_noted (name_noted names) c.loop-raw.earliest.first _ _ c.loop-raw.types c.loop-raw.symbols
      c.loop-raw.raw-index (names_in c.loop-raw.table) _ c.args.declarations.now c.raw-item.result
      c.loop-raw-test.true c.raw-item.is
      c.in_ok-declare_one.ensures.names (c.in_ok-declare_one.ensures.noted names) (c.loop-raw.invariant.noted names));
}
