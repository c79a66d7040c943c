use Rattle.std.proofs.Common.{◌≡◌, [], map, ap, sym, subst}
use Rattle.std.specs.List.{AllByRecursion}
use Rattle.std.proofs.lemmas.Result.{IfOk-weaker}
use Rattle.kb_logic.specs.Bases.{Base}
use Rattle.kb_logic.specs.Trees.{TheoryTree}
use Rattle.kb_logic.specs.Views.{theory_view}
use Rattle.stage_definitions.specs.FileBases.{base_of_file, named_term}
use Rattle.type_derivation.specs.TypedViews.{named_term_view, typed_view}
use Rattle.def_ground.specs.Groundings.{ground_base, theory_problem}
use Rattle.ground_walk.specs.Groundable.{IsGroundable}
use Rattle.definition_walk.specs.Steps.{CanBeGround}
use Rattle.grounder.proofs.Theories.{problem-value, theory-groundable, rules-groundable, terms-askable}
use Rattle.grounder.proofs.problems.problem_over.Goals as goal

pub problem-requires-clause-fits : goal.problem-requires-clause-fits
problem-requires-clause-fits c =
    let base : Base = base_of_file (typed_view c.args.kb.now) c.args.theory c.args.known.now in
    subst (λ (t : TheoryTree). AllByRecursion (λ f. IsGroundable (ground_base base) f []) t.sentences)
    (sym c.theory_of.ensures) (theory-groundable base c.requires.typed c.requires.bounded)

pub problem-requires-clause-rules : goal.problem-requires-clause-rules
problem-requires-clause-rules c =
    let base : Base = base_of_file (typed_view c.args.kb.now) c.args.theory c.args.known.now in
    subst (λ (t : TheoryTree). AllByRecursion (λ d. AllByRecursion (CanBeGround (ground_base base)) d.rules)
    t.definitions) (sym c.theory_of.ensures) (rules-groundable base c.requires.typed c.requires.bounded)

pub problem-requires-clause-asked : goal.problem-requires-clause-asked
problem-requires-clause-asked c =
    let base : Base = base_of_file (typed_view c.args.kb.now) c.args.theory c.args.known.now in
    rw c.as_slice-terms.ensures (terms-askable base c.requires.typed c.requires.asked)

pub returns : goal.returns
returns c =
    let base : Base = base_of_file (typed_view c.args.kb.now) c.args.theory c.args.known.now in
    let ts = map named_term (map named_term_view c.as_slice-terms.result.now) in
    let alike : ts ≡ base.terms = ap (λ us. map named_term (map named_term_view us)) c.as_slice-terms.ensures in
    IfOk-weaker c.problem.result _ (λ p. p ≡ theory_problem base)
    (problem-value base (theory_view c.theory_of.result.now) ts c.theory_of.ensures alike) c.problem.ensures
