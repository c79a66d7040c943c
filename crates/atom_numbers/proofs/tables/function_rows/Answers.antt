use Rattle.lit_core.specs.Literals.{valuation}
use Rattle.atom_numbers.proofs.TableFacts.{one-function-row}
use Rattle.atom_numbers.proofs.tables.function_rows.Goals as goal

pub loop-tuple-preserved : goal.loop-tuple-preserved
loop-tuple-preserved c =
    one-function-row (valuation c.args.values.now) c.args.first c.loop-tuple.var c.loop-tuple.tuple-index
    c.args.domain.now c.args.tuples.now c.tuple-item.result c.loop-tuple.rows.items c.push_valued.new.rows.items
    c.loop-tuple-test.true c.tuple-item.is c.loop-tuple.invariant.0 c.loop-tuple.invariant.1
    c.in_ok-push_valued.ensures
