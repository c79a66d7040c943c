use Rattle.std.proofs.Common.{◌≡◌, ◌+◌, List, [], fold, refl, sym, ap, ◌∙◌, subst}
use Rattle.std.specs.List.{sum_by}
use Rattle.kb_logic.specs.declared.elements.Elem.{Elem}
use Rattle.kb_logic.specs.Structures.{choices}
use Rattle.kb_logic.specs.Trees.{universal, existential}
use Rattle.kb_logic.specs.Views.{formula_view}
use Rattle.kb_logic.proofs.Shapes.{formula_view-All, formula_view-Any}
use Rattle.partial_structures.specs.declared.truths.Truth.{Truth}
use Rattle.partial_structures.specs.declared.truths.Truth.TheVariants as truth
use Rattle.certain_truth.specs.Certainty.{certain_truth}
use Rattle.certain_truth.specs.Evaluation.{joined}
use Rattle.certain_truth.specs.KnownArithmetic.{CertaintyFits}
use Rattle.certain_truth.proofs.Connected.{fold_both, fold_either}
use Rattle.open_sizes.specs.declared.connectives.Joining.TheVariants.{Conjunction, Disjunction}
use Rattle.open_sizes.specs.OpenWeights.{open_occurrences}
use Rattle.open_sizes.specs.Weighings.{is_all, IsWeighed}
use Rattle.open_sizes.proofs.Walks.{stopped_sum}
use Rattle.open_sizes.proofs.Weighing.{is_weighed, open_goes_on}
use Rattle.open_sizes.proofs.outermost.+sentence.Goals as goal

pub outer_instances-requires-clause-fits : goal.outer_instances-requires-clause-fits
outer_instances-requires-clause-fits t c =
    let v = c.args.setting.vocabulary.now in
    let k = c.args.setting.known.now in
    let g = formula_view c.args.of.now in
    let bs = c.deref-in-All.result.now in
    let f = formula_view c.deref-in-All-2.result.now in
    let same : g ≡ universal bs f =
    rw (c.in-All.is, formula_view-All, c.deref-in-All.ensures.value, c.deref-in-All-2.ensures) refl in
    let fits : CertaintyFits k (universal bs f) [] = subst (λ x. CertaintyFits k x []) same c.requires in
    fits

pub returns-in-All : goal.returns-in-All
returns-in-All t c =
    let v = c.args.setting.vocabulary.now in
    let k = c.args.setting.known.now in
    let g = formula_view c.args.of.now in
    let bs = c.deref-in-All.result.now in
    let f = formula_view c.deref-in-All-2.result.now in
    let same : g ≡ universal bs f =
    rw (c.in-All.is, formula_view-All, c.deref-in-All.ensures.value, c.deref-in-All-2.ensures) refl in
    let cs = choices k.domains bs in
    let all = c.outer_instances.result in
    let P = λ (a : List Elem). certain_truth k f a in
    let H = λ (a : List Elem). open_occurrences v k f a in
    subst (λ x. IsWeighed v k x [] c.settled.result) (sym same)
    (is_weighed v k (universal bs f) [] (1 + sum_by H cs) all.truth all.count c.settled.result refl
    (c.outer_instances.ensures.truth
    ∙ (ap (λ u. fold (λ (s : Truth) (a : List Elem). joined (is_all Conjunction) s (P a)) u cs)
    c.none_yet-before.ensures.truth ∙ fold_both P cs truth.Yes))
    (λ unknown. c.outer_instances.ensures.count (open_goes_on Conjunction all.truth unknown)
    ∙ stopped_sum H cs c.none_yet-before.result.count 1 c.none_yet-before.ensures.count)
    c.settled.ensures.truth c.settled.ensures.count)

pub outer_instances-requires-in-Any-clause-fits : goal.outer_instances-requires-in-Any-clause-fits
outer_instances-requires-in-Any-clause-fits t c =
    let v = c.args.setting.vocabulary.now in
    let k = c.args.setting.known.now in
    let g = formula_view c.args.of.now in
    let bs = c.deref-in-Any.result.now in
    let f = formula_view c.deref-in-Any-2.result.now in
    let same : g ≡ existential bs f =
    rw (c.in-Any.is, formula_view-Any, c.deref-in-Any.ensures.value, c.deref-in-Any-2.ensures) refl in
    let fits : CertaintyFits k (existential bs f) [] = subst (λ x. CertaintyFits k x []) same c.requires in
    fits

pub returns-in-Any : goal.returns-in-Any
returns-in-Any t c =
    let v = c.args.setting.vocabulary.now in
    let k = c.args.setting.known.now in
    let g = formula_view c.args.of.now in
    let bs = c.deref-in-Any.result.now in
    let f = formula_view c.deref-in-Any-2.result.now in
    let same : g ≡ existential bs f =
    rw (c.in-Any.is, formula_view-Any, c.deref-in-Any.ensures.value, c.deref-in-Any-2.ensures) refl in
    let cs = choices k.domains bs in
    let all = c.outer_instances-in-Any.result in
    let P = λ (a : List Elem). certain_truth k f a in
    let H = λ (a : List Elem). open_occurrences v k f a in
    subst (λ x. IsWeighed v k x [] c.settled-in-Any.result) (sym same)
    (is_weighed v k (existential bs f) [] (1 + sum_by H cs) all.truth all.count c.settled-in-Any.result refl
    (c.outer_instances-in-Any.ensures.truth
    ∙ (ap (λ u. fold (λ (s : Truth) (a : List Elem). joined (is_all Disjunction) s (P a)) u cs)
    c.none_yet-before-in-Any.ensures.truth ∙ fold_either P cs truth.No))
    (λ unknown. c.outer_instances-in-Any.ensures.count (open_goes_on Disjunction all.truth unknown)
    ∙ stopped_sum H cs c.none_yet-before-in-Any.result.count 1 c.none_yet-before-in-Any.ensures.count)
    c.settled-in-Any.ensures.truth c.settled-in-Any.ensures.count)
