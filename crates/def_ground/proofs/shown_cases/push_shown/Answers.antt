use Rattle.ground_core.specs.Problems.{AreLitsOf}
use Rattle.def_ground.proofs.ShownCases.{shown-clause-in}
use Rattle.def_ground.proofs.shown_cases.push_shown.Goals as goal

pub add_clause-requires : goal.add_clause-requires
add_clause-requires c =
    let n = c.args.problem.now.vars in
    let side : AreLitsOf n c.as_slice.result.now = rw c.as_slice.ensures (rw c.in-Some.is at c.requires.side) in
    rw c.in_ok-clause-in-Some.ensures
    (shown-clause-in n c.args.lits.now c.args.guards.now c.as_slice.result.now c.args.other.now c.requires.lits
    c.requires.guards side c.requires.other)
