use Rattle.std.proofs.Common.{subst, sym, ◌∙◌}
use Rattle.ground_core.specs.Problems.{AreLitsOf}
use Rattle.theory_laws.proofs.Completing.{lits-within}
use Rattle.definition_walk.proofs.atoms.complete.Goals as goal

pub add_clause_of-requires : goal.add_clause_of-requires
add_clause_of-requires c =
    subst (AreLitsOf c.args.problem.now.vars) (sym (c.as_slice.ensures.value ∙ c.in_ok-settled.ensures.1))
    (lits-within c.args.problem.now.vars c.args.bodies.now c.requires.bodies)

pub push_none-requires : goal.push_none-requires
push_none-requires c =
    subst (AreLitsOf c.args.problem.now.vars)
    (sym (c.as_slice-else-settled-2.ensures.value ∙ c.in_ok-settled.ensures.1))
    (lits-within c.args.problem.now.vars c.args.bodies.now c.requires.bodies)

pub push_join-requires-clause-second : goal.push_join-requires-clause-second
push_join-requires-clause-second c =
    subst (AreLitsOf c.args.problem.now.vars)
    (sym (c.as_slice-else-settled-3.ensures.value ∙ c.in_ok-settled.ensures.1))
    (lits-within c.args.problem.now.vars c.args.bodies.now c.requires.bodies)
