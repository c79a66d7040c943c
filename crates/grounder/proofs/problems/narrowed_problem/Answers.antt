use Rattle.std.proofs.Common.{◌≡◌, [], map, IfOk, sym, ap, subst, ◌∙◌}
use Rattle.std.proofs.lemmas.Result.{IfOk-weaker}
use Rattle.kb_logic.specs.Bases.{Base}
use Rattle.stage_definitions.specs.FileBases.{base_of_file, named_term}
use Rattle.type_derivation.specs.TypedViews.{named_term_view, typed_view}
use Rattle.ground_core.specs.Growth.{with_clause}
use Rattle.def_ground.specs.AskedTerms.{with_all_asked}
use Rattle.def_ground.specs.Groundings.{ground_base, theory_problem}
use Rattle.def_ground.specs.Problems.{start_problem}
use Rattle.narrowed_bases.specs.Narrowings.{grounded_base, without_models, zero_term}
use Rattle.narrowed_bases.specs.declared.narrowings.Narrowing.{Narrowing}
use Rattle.grounder.proofs.problems.narrowed_problem.Goals as goal

pub returns-in-Plain : goal.returns-in-Plain
returns-in-Plain c =
    let base : Base = base_of_file (typed_view c.args.kb.now) c.args.theory c.args.known.now in
    subst (λ (n : Narrowing). IfOk c.problem_over.result (λ p. p ≡ theory_problem (grounded_base base n)))
    (sym c.in-Plain.is) c.problem_over.ensures

pub returns-in-Narrowed : goal.returns-in-Narrowed
returns-in-Narrowed c =
    let base : Base = base_of_file (typed_view c.args.kb.now) c.args.theory c.args.known.now in
    subst (λ (n : Narrowing). IfOk c.problem_over-in-Narrowed.result
    (λ p. p ≡ theory_problem (grounded_base base n))) (sym c.in-Narrowed.is) c.problem_over-in-Narrowed.ensures

pub returns-in-Contradiction : goal.returns-in-Contradiction
returns-in-Contradiction c =
    let base : Base = base_of_file (typed_view c.args.kb.now) c.args.theory c.args.known.now in
    let b = ground_base base in
    subst (λ (n : Narrowing). IfOk c.refuted.result (λ p. p ≡ theory_problem (grounded_base base n)))
    (sym c.in-Contradiction.is)
    (IfOk-weaker c.refuted.result _ (λ p. p ≡ theory_problem (without_models base))
    (λ p made. made ∙ ap (λ ts. with_all_asked b (map zero_term (map named_term (map named_term_view ts)))
    (with_clause (start_problem b) [])) c.as_slice.ensures) c.refuted.ensures)
