use Rattle.lit_core.specs.Literals.{valuation}
use Rattle.atom_numbers.proofs.PlaceFacts.{function-fits}
use Rattle.atom_numbers.proofs.TableFacts.{function-passed, function-added}
use Rattle.atom_numbers.proofs.tables.functions.Goals as goal

pub loop-number-preserved-in_default : goal.loop-number-preserved-in_default
loop-number-preserved-in_default c =
    function-passed c.args.domains.now c.args.symbols.now (valuation c.args.values.now) c.loop-number.number
    c.index-symbols-number.result c.loop-number-test.true c.index-symbols-number.is c.loop-number.tables.items
    c.in_default.is c.loop-number.invariant

pub function-requires : goal.function-requires
function-requires c =
    function-fits c.args.domains.now c.args.symbols.now c.args.firsts.now c.requires c.loop-number.number
    c.index-symbols-number.result c.loop-number-test.true c.index-symbols-number.is c.in-Some.ty c.in-Some.is

pub loop-number-preserved : goal.loop-number-preserved
loop-number-preserved c =
    function-added c.args.domains.now c.args.symbols.now (valuation c.args.values.now) c.loop-number.number
    c.index-symbols-number.result c.loop-number-test.true c.index-symbols-number.is c.loop-number.tables.items
    c.push.new.self.items c.args.firsts.now c.requires
    c.in-Some.ty c.in-Some.is c.table_of.result c.in_ok-rows.rows c.table_of.ensures c.in_ok-rows.ensures
    c.in_ok-push.ensures.items c.loop-number.invariant
