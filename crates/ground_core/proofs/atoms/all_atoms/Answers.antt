use Rattle.std.proofs.Common.{◌∙◌}
use Rattle.ground_core.proofs.AtomFacts.{one-symbol}
use Rattle.ground_core.proofs.atoms.all_atoms.Goals as goal

pub loop-number-preserved : goal.loop-number-preserved
loop-number-preserved c =
    one-symbol c.args.symbols.now c.args.domains.now c.loop-number.number c.index-symbols-number.result
    c.loop-number.atoms.items c.push_symbol.new.atoms.items c.loop-number-test.true
    c.index-symbols-number.is c.in_ok-push_symbol.ensures
    ∙ c.loop-number.invariant
