use Rattle.std.proofs.Common.{map}
use Rattle.std.specs.List.{AllByRecursion}
use Rattle.kb_logic.specs.Trees.{terms_of}
use Rattle.kb_logic.specs.Views.{term_view}
use Rattle.plain_evaluation.specs.Environments.{env_view}
use Rattle.def_ground.specs.Forms.{atom_case}
use Rattle.def_ground.specs.Meanings.{IsCaseOf}
use Rattle.def_ground.proofs.CaseSteps.{answer-in, signed-in}
use Rattle.ground_walk.proofs.LeafSteps.{atom-cases-in}
use Rattle.ground_walk.proofs.leaves.push_atom.Goals as goal

pub push_cases-requires-clause-cases : goal.push_cases-requires-clause-cases
push_cases-requires-clause-cases c =
    rw (c.as_slice.ensures.value, c.in_ok-cases-in-None.ensures, c.in_ok-rows.ensures)
    (atom-cases-in c.args.scope.base.now c.args.symbol (terms_of (map term_view c.args.args.now)) (env_view c.args.scope.env.now)
    c.args.problem.now c.requires.given c.requires.room c.requires.fits.0)

pub push_answer-requires-clause-answer : goal.push_answer-requires-clause-answer
push_answer-requires-clause-answer c =
    let b = c.args.scope.base.now in
    let p = c.args.problem.now in
    let cs = map (atom_case b c.args.symbol) c.in_ok-rows.rows in
    let within : AllByRecursion (IsCaseOf p.vars) cs =
    rw c.in_ok-rows.ensures
    (atom-cases-in b c.args.symbol (terms_of (map term_view c.args.args.now))
    (env_view c.args.scope.env.now) p c.requires.given
    c.requires.room c.requires.fits.0) in
    rw c.signed.ensures (signed-in p.vars c.args.sign c.in-Some.answer
    (answer-in p.vars cs c.in-Some.answer within c.in-Some.ensures))
