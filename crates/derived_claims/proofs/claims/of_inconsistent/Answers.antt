use Rattle.std.proofs.Common.{rules}
use Rattle.derived_claims.proofs.Stating.{inconsistent-stated, inconsistent-step}
use Rattle.derived_claims.proofs.claims.of_inconsistent.Goals as goal

pub put-requires : goal.put-requires
put-requires c =
    inconsistent-step c.args.checker.now c.derive.new.checker c.args.lits.now c.in_ok-list_of.field-0
    c.in_ok-clause.clause c.new-text.result.items c.derive.new.text.items c.in_ok-clause.ensures.derives
    c.requires.atoms c.in_ok-clause.ensures.cites c.in_ok-list_of.ensures

pub returns : goal.returns
returns c =
    inconsistent-stated c.args.checker.now c.derive.new.checker c.args.lits.now c.in_ok-list_of.field-0
    c.in_ok-clause.clause c.new-text.result.items c.derive.new.text.items c.in_ok-clause.ensures.derives
    c.requires.atoms c.in_ok-clause.ensures.cites c.in_ok-list_of.ensures c.put.new.checker c.put.new.text.items
    c.new-text.ensures.items (search rules) c.in_ok-put.ensures.adds c.in_ok-put.ensures.text
