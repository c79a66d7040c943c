use Rattle.formula_names.specs.Meanings.{names_in}
use Rattle.stage_definitions.specs.NamesStage.{name_noted}
use Rattle.formula_names.proofs.Declared.{next_made, next_made_noted}
use Rattle.kb_names.proofs.declarations.declare_more.Goals as goal

pub loop-i-preserved : goal.loop-i-preserved
loop-i-preserved c = record {
  names = next_made c.args.ty c.loop-i.i (names_in c.loop-i.table) _ _ c.args.more.now c.index-more-i.result
      c.loop-i-test.true c.index-more-i.is
      c.in_ok-declare_name.ensures.names c.loop-i.invariant.names;
  noted = λ names. next_made_noted (name_noted names) c.loop-i.earliest.first _ _ c.args.ty c.loop-i.i
      (names_in c.loop-i.table) _ c.args.more.now c.index-more-i.result c.loop-i-test.true c.index-more-i.is
      c.in_ok-declare_name.ensures.names (c.in_ok-declare_name.ensures.noted names) (c.loop-i.invariant.noted names);
}
