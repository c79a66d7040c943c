use Rattle.std.proofs.Common.{map, sym, ap, subst}
use Rattle.std.specs.List.{AllByRecursion}
use Rattle.plain_evaluation.specs.Environments.{env_view}
use Rattle.kb_logic.specs.Trees.{terms_of}
use Rattle.kb_logic.specs.Views.{term_view}
use Rattle.def_ground.specs.Answers.{GroundResult, Grows}
use Rattle.def_ground.specs.Forms.{atom_case}
use Rattle.def_ground.specs.Meanings.{IsCaseOf}
use Rattle.def_ground.proofs.CaseSteps.{cases-grow}
use Rattle.ground_walk.proofs.LeafSteps.{atom-cases-in, without-made}
use Rattle.ground_walk.proofs.leaves.atom.Goals as goal

pub answer_of_cases-requires : goal.answer_of_cases-requires
answer_of_cases-requires c =
    rw (c.as_slice.ensures.value, c.in_ok-cases-in-None.ensures, c.in_ok-rows.ensures)
    (atom-cases-in c.args.scope.base.now c.args.symbol (terms_of (map term_view c.args.args.now)) (env_view c.args.scope.env.now)
    c.args.problem.now c.requires.given c.requires.room c.requires.fits.0)

pub returns-in-Some-clause-made : goal.returns-in-Some-clause-made
returns-in-Some-clause-made c =
    let b = c.args.scope.base.now in
    let p = c.args.problem.now in
    let cs = map (atom_case b c.args.symbol) c.in_ok-rows.rows in
    let is = without-made cs c.in-Some.answer p c.in-Some.ensures in
    rw (← c.in_ok-rows.ensures)
    (sym (ap (λ (g : GroundResult). g.answer) is), sym (ap (λ (g : GroundResult). g.problem) is))

pub returns-in-Some-clause-grows : goal.returns-in-Some-clause-grows
returns-in-Some-clause-grows c =
    let b = c.args.scope.base.now in
    let p = c.args.problem.now in
    let cs = map (atom_case b c.args.symbol) c.in_ok-rows.rows in
    let within : AllByRecursion (IsCaseOf p.vars) cs =
    rw c.in_ok-rows.ensures
    (atom-cases-in b c.args.symbol (terms_of (map term_view c.args.args.now))
    (env_view c.args.scope.env.now) p c.requires.given
    c.requires.room c.requires.fits.0) in
    subst (λ (g : GroundResult). Grows p g.problem g.answer) (without-made cs c.in-Some.answer p c.in-Some.ensures)
    (cases-grow p cs within)
