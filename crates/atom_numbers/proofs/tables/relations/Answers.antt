use Rattle.std.proofs.Common.{sym, ◌∙◌}
use Rattle.lit_core.specs.Literals.{valuation}
use Rattle.atom_numbers.proofs.PlaceFacts.{relation-fits}
use Rattle.atom_numbers.proofs.TableFacts.{relation-passed, relation-added, is-none}
use Rattle.atom_numbers.proofs.tables.relations.Goals as goal

pub loop-number-preserved-then-is_some : goal.loop-number-preserved-then-is_some
loop-number-preserved-then-is_some c =
    relation-passed c.args.domains.now c.args.symbols.now (valuation c.args.values.now) c.loop-number.number
    c.index-symbols-number.result c.loop-number-test.true c.index-symbols-number.is c.loop-number.tables.items
    (sym c.is_some.ensures ∙ c.if-is_some.true) c.loop-number.invariant

pub relation-requires : goal.relation-requires
relation-requires c =
    relation-fits c.args.domains.now c.args.symbols.now c.args.firsts.now c.requires c.loop-number.number
    c.index-symbols-number.result c.loop-number-test.true c.index-symbols-number.is
    (is-none c.index-symbols-number.result.value (sym c.is_some.ensures ∙ c.if-is_some.false))

pub loop-number-preserved : goal.loop-number-preserved
loop-number-preserved c =
    relation-added c.args.domains.now c.args.symbols.now (valuation c.args.values.now) c.loop-number.number
    c.index-symbols-number.result c.loop-number-test.true c.index-symbols-number.is c.loop-number.tables.items
    c.push.new.self.items c.args.firsts.now c.requires
    (is-none c.index-symbols-number.result.value (sym c.is_some.ensures ∙ c.if-is_some.false)) c.table_of.result
    c.in_ok-rows.rows c.table_of.ensures c.in_ok-rows.ensures c.in_ok-push.ensures.items c.loop-number.invariant
