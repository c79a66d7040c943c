use Rattle.std.proofs.Common.{◌-◌, length, sym}
use Rattle.forced_literals.proofs.SearchFacts.{var-below}
use Rattle.forced_literals.proofs.searching.last_var.Goals as goal

pub returns-in-Some : goal.returns-in-Some
returns-in-Some c = λ n are.
    var-below n c.args.lits.now (length c.args.lits.now - 1) c.in-Some.lit.now (sym c.in-Some.ensures.value) are
