use Rattle.std.proofs.Common.{◌≡◌, [], length, map, fold, refl, subst, sym, ap, ◌∙◌}
use Rattle.std.proofs.lemmas.Result.{on_ok_weaker}
use Rattle.kb_logic.specs.declared.vocabularies.Vocabulary.{Vocabulary}
use Rattle.kb_logic.specs.Views.{rule_view, definition_view}
use Rattle.kb_logic.specs.Trees.{DefinitionTree}
use Rattle.ground_core.specs.Problems.{ProblemState}
use Rattle.term_values.specs.GroundBases.{GroundBase}
use Rattle.def_ground.specs.Definitions.{Instances, rule_instances, all_instances, complete_atom, defined_vars}
use Rattle.definition_walk.specs.Lists.{lists_of}
use Rattle.definition_walk.specs.Marks.{HaveMarks}
use Rattle.definition_walk.specs.Steps.{Stands}
use Rattle.definition_walk.specs.WalkLaws.{ranges}
use Rattle.definition_walk.proofs.BodyFacts.{empty-within}
use Rattle.definition_walk.proofs.MarkFacts.{rules_defined, span-lists}
use Rattle.definition_walk.proofs.Ranges.{defined-are-ranges}
use Rattle.definition_walk.proofs.definitions.push_definition.Goals as goal

pub push_rules-requires-clause-lists : goal.push_rules-requires-clause-lists
push_rules-requires-clause-lists c =
    let b = c.args.base.now in
    let size : length c.in_ok-marks.marks.items ≡ length b.vocabulary.symbols = c.in_ok-marks.ensures.0
    ∙ c.len.ensures ∙ ap (λ (v : Vocabulary). length v.symbols) c.vocabulary.ensures in
    span-lists b c.args.definition.now.rules c.as_slice-rules.result.now c.in_ok-marks.marks.items
    c.as_slice.result.now c.span_of-span.result
    (record { first = c.span_of-span.result.first; lists = c.in_ok-empty_lists.field-0 })
    c.as_slice-rules.ensures c.in_ok-marks.ensures.1 c.as_slice.ensures.value size c.span_of-span.ensures refl
    (c.in_ok-empty_lists.ensures.0 ∙ c.saturating_sub.ensures)

pub complete_marked-requires-clause-bodies : goal.complete_marked-requires-clause-bodies
complete_marked-requires-clause-bodies c =
    c.in_ok-push_rules.ensures.grows.within
    (empty-within c.args.problem.now.vars (lists_of c.in_ok-empty_lists.field-0) c.in_ok-empty_lists.ensures.1)

-- Over any instances: those of the definition would be computed here, with all that grounding is.
finished : (b : GroundBase) (d : DefinitionTree) (all : Instances) (mid new : ProblemState) → mid ≡ all.problem
    → new ≡ fold (complete_atom b all.bodies) mid (ranges b d 1 0 b.vocabulary.symbols)
    → new ≡ fold (complete_atom b all.bodies) all.problem (defined_vars b d)
finished b d all mid new same made =
    made ∙ ap (λ q. fold (complete_atom b all.bodies) q (ranges b d 1 0 b.vocabulary.symbols)) same
    ∙ ap (fold (complete_atom b all.bodies) all.problem) (sym (defined-are-ranges b d))

pub returns-clause-made : goal.returns-clause-made
returns-clause-made c =
    let b = c.args.base.now in
    let d = definition_view c.args.definition.now in
    let p = c.args.problem.now in
    let start : Instances = record { bodies = []; problem = p } in
    let all = all_instances b d p in
    let kept = c.push_rules.new.bodies in
    let stands : Stands all kept c.push_rules.new.problem =
    subst (λ rs. Stands (fold (rule_instances b) start (map rule_view rs)) kept c.push_rules.new.problem)
    c.as_slice-rules.ensures
    (c.in_ok-push_rules.ensures.made start
    (record { bodies = c.in_ok-empty_lists.ensures.1 c.span_of-span.result.first; problem = refl })) in
    let marked : HaveMarks d c.as_slice-2.result.now =
    subst (HaveMarks d) (sym c.as_slice-2.ensures.value)
    (subst (λ rs. HaveMarks (rules_defined rs) c.in_ok-marks.marks.items) c.as_slice-rules.ensures
    c.in_ok-marks.ensures.1) in
    on_ok_weaker c.complete_marked.result (λ made. finished b d all c.push_rules.new.problem
    c.complete_marked.new.problem stands.problem (made d all.bodies marked stands.bodies))
    c.complete_marked.ensures.made
