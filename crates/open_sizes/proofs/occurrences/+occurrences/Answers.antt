use Rattle.std.proofs.Common.{◌≡◌, ◌<◌, ◌≤◌, ◌+◌, ◌*◌, ℕ, true, false, List, [], ◌++◌, drop, fold, length, get_or, refl}
use Rattle.std.proofs.Common.{if◌then◌else◌}
use Rattle.std.proofs.Common.{sym, ap, ◌∙◌, arith, subst, is_some, rules}
use Rattle.std.specs.List.{sum_by}
use Rattle.kb_logic.specs.declared.vocabularies.Bound.{Bound}
use Rattle.kb_logic.specs.declared.syntax.Term.{Term}
use Rattle.kb_logic.specs.declared.elements.Elem.{Elem}
use Rattle.kb_logic.specs.Structures.{choices}
use Rattle.kb_logic.specs.Trees.{aggregate, comparison, universal, existential, equivalence, implication, numbered}
use Rattle.kb_logic.specs.Views.{formula_view, term_view}
use Rattle.kb_logic.specs.Weights.{application_count}
use Rattle.kb_logic.proofs.Shapes.{formula_view-All, formula_view-Any}
use Rattle.kb_logic.proofs.ViewsOf.{formula_view-Number, term_view-Agg}
use Rattle.plain_evaluation.specs.Environments.{env_view}
use Rattle.plain_evaluation.proofs.Folds.{after_front, fold_by_front, each_after, inner_fold, fold_next, fold_done}
use Rattle.plain_evaluation.proofs.Folds.{fold_stays}
use Rattle.partial_structures.specs.declared.truths.Truth.{Truth}
use Rattle.partial_structures.specs.declared.truths.Truth.TheVariants as truth
use Rattle.stage_definitions.specs.SizesStage.{capped}
use Rattle.certain_truth.specs.Certainty.{certain_truth, known_value}
use Rattle.certain_truth.specs.Evaluation.{joined}
use Rattle.certain_truth.specs.KnownArithmetic.{CertaintyFits, ValueFits}
use Rattle.certain_truth.proofs.Connected.{fold_both, fold_either}
use Rattle.quantifier_bounds.specs.Steps.{is_unknown}
use Rattle.size_stage.proofs.Capping.{three_parts}
use Rattle.size_stage.proofs.Steps.{formula_view-Compare}
use Rattle.known_guards.proofs.FormulaViews.{formula_view-Implies}
use Rattle.open_sizes.specs.declared.connectives.Joining.TheVariants.{Conjunction, Disjunction}
use Rattle.open_sizes.specs.declared.weighed.Weighed.{Weighed}
use Rattle.open_sizes.specs.OpenWeights.{open_occurrences, open_in_term}
use Rattle.open_sizes.specs.Weighings.{is_all, is_over, IsWeighed}
use Rattle.open_sizes.proofs.Walks.{stopped_sum, product, open_aggregate}
use Rattle.open_sizes.proofs.Weighing.{formula_view-Iff, is_open_weighed, is_weighed, is_where_weighed, open_goes_on}
use Rattle.open_sizes.proofs.Weighing.{over_stays}
use Rattle.open_sizes.proofs.occurrences.+occurrences.Goals as goal

pub formula-returns-else-not-is_open : goal.formula-returns-else-not-is_open
formula-returns-else-not-is_open t c =
    let v = c.args.setting.vocabulary.now in
    let k = c.args.setting.known.now in
    let e = env_view c.args.env.now in
    let g = formula_view c.args.of.now in
    let a = term_view c.in-Compare.left in
    let b = term_view c.in-Compare.right in
    let f = comparison c.in-Compare.field-0 a b in
    let w : Weighed = record { truth = c.certain_in-truth.result; count = c.plus-sides.result } in
    let same : g ≡ f = rw (c.in-Compare.is, formula_view-Compare) refl in
    let unknown : is_unknown c.certain_in-truth.result ≡ true = search rules in
    let both = product (application_count v k.domains a) (application_count v k.domains b) c.applications.result
    c.applications-in-Compare.result c.times-own.result c.applications.ensures c.applications-in-Compare.ensures
    c.times-own.ensures in
    let own = application_count v k.domains a * application_count v k.domains b in
    subst (λ x. IsWeighed v k x e w) (sym same)
    (is_open_weighed v k f e (own + open_in_term v k a e + open_in_term v k b e) c.certain_in-truth.result
    c.plus-sides.result w refl (c.certain_in-truth.ensures ∙ ap (λ x. certain_truth k x e) same) unknown
    (three_parts own (open_in_term v k a e) (open_in_term v k b e) c.plus.result c.plus-sides.result
    c.times-own.result c.term.result c.term-in-Compare.result 0 both c.term.ensures c.term-in-Compare.ensures
    c.plus.ensures c.plus-sides.ensures) refl refl)

pub formula-returns-else-is_false : goal.formula-returns-else-is_false
formula-returns-else-is_false t c =
    let v = c.args.setting.vocabulary.now in
    let k = c.args.setting.known.now in
    let e = env_view c.args.env.now in
    let g = formula_view c.args.of.now in
    let l = formula_view c.deref-in-Implies.result.now in
    let r = formula_view c.deref-in-Implies-2.result.now in
    let same : g ≡ implication l r =
    rw (c.in-Implies.is, formula_view-Implies, c.deref-in-Implies.ensures, c.deref-in-Implies-2.ensures) refl in
    subst (λ x. IsWeighed v k x e c.implied.result) (sym same)
    (c.implied.ensures v k l r e c.formula-first.ensures c.formula-in-Implies.ensures)

pub formula-returns-in-Iff : goal.formula-returns-in-Iff
formula-returns-in-Iff t c =
    let v = c.args.setting.vocabulary.now in
    let k = c.args.setting.known.now in
    let e = env_view c.args.env.now in
    let g = formula_view c.args.of.now in
    let l = formula_view c.deref-in-Iff.result.now in
    let r = formula_view c.deref-in-Iff-2.result.now in
    let same : g ≡ equivalence l r =
    rw (c.in-Iff.is, formula_view-Iff, c.deref-in-Iff.ensures, c.deref-in-Iff-2.ensures) refl in
    subst (λ x. IsWeighed v k x e c.equated.result) (sym same)
    (c.equated.ensures v k l r e c.formula-first-in-Iff.ensures c.formula-in-Iff.ensures)

pub formula-returns-in-All : goal.formula-returns-in-All
formula-returns-in-All t c =
    let v = c.args.setting.vocabulary.now in
    let k = c.args.setting.known.now in
    let e = env_view c.args.env.now in
    let g = formula_view c.args.of.now in
    let bs = c.deref-in-All.result.now in
    let f = formula_view c.deref-in-All-2.result.now in
    let cs = choices k.domains bs in
    let all = c.instances.result in
    let P = λ (a : List Elem). certain_truth k f (e ++ a) in
    let H = λ (a : List Elem). open_occurrences v k f (e ++ a) in
    let same : g ≡ universal bs f =
    rw (c.in-All.is, formula_view-All, c.deref-in-All.ensures.value, c.deref-in-All-2.ensures) refl in
    subst (λ x. IsWeighed v k x e c.settled-in-All.result) (sym same)
    (is_weighed v k (universal bs f) e (1 + sum_by H cs) all.truth all.count c.settled-in-All.result refl
    (c.instances.ensures.truth
    ∙ (ap (λ u. fold (λ (s : Truth) (a : List Elem). joined (is_all Conjunction) s (P a)) u cs)
    c.none_yet-before.ensures.truth ∙ fold_both P cs truth.Yes))
    (λ unknown. c.instances.ensures.count (open_goes_on Conjunction all.truth unknown)
    ∙ stopped_sum H cs c.none_yet-before.result.count 1 c.none_yet-before.ensures.count)
    c.settled-in-All.ensures.truth c.settled-in-All.ensures.count)

pub formula-returns-in-Any : goal.formula-returns-in-Any
formula-returns-in-Any t c =
    let v = c.args.setting.vocabulary.now in
    let k = c.args.setting.known.now in
    let e = env_view c.args.env.now in
    let g = formula_view c.args.of.now in
    let bs = c.deref-in-Any.result.now in
    let f = formula_view c.deref-in-Any-2.result.now in
    let cs = choices k.domains bs in
    let all = c.instances-in-Any.result in
    let P = λ (a : List Elem). certain_truth k f (e ++ a) in
    let H = λ (a : List Elem). open_occurrences v k f (e ++ a) in
    let same : g ≡ existential bs f =
    rw (c.in-Any.is, formula_view-Any, c.deref-in-Any.ensures.value, c.deref-in-Any-2.ensures) refl in
    subst (λ x. IsWeighed v k x e c.settled-in-Any.result) (sym same)
    (is_weighed v k (existential bs f) e (1 + sum_by H cs) all.truth all.count c.settled-in-Any.result refl
    (c.instances-in-Any.ensures.truth
    ∙ (ap (λ u. fold (λ (s : Truth) (a : List Elem). joined (is_all Disjunction) s (P a)) u cs)
    c.none_yet-before-in-Any.ensures.truth ∙ fold_either P cs truth.No))
    (λ unknown. c.instances-in-Any.ensures.count (open_goes_on Disjunction all.truth unknown)
    ∙ stopped_sum H cs c.none_yet-before-in-Any.result.count 1 c.none_yet-before-in-Any.ensures.count)
    c.settled-in-Any.ensures.truth c.settled-in-Any.ensures.count)

pub formula-returns-in-Number : goal.formula-returns-in-Number
formula-returns-in-Number t c =
    let v = c.args.setting.vocabulary.now in
    let k = c.args.setting.known.now in
    let e = env_view c.args.env.now in
    let g = formula_view c.args.of.now in
    let bs = c.deref-in-Number.result.now in
    let f = formula_view c.deref-in-Number-2.result.now in
    let h = numbered c.in-Number.field-0 c.in-Number.field-1 bs f in
    let same : g ≡ h =
    rw (c.in-Number.is, formula_view-Number, c.deref-in-Number.ensures.value, c.deref-in-Number-2.ensures) refl in
    subst (λ x. IsWeighed v k x e c.numbered.result) (sym same)
    (is_where_weighed v k h e (1 + sum_by (λ a. open_occurrences v k f (e ++ a)) (choices k.domains bs))
    c.certain_in-in-Number.result c.numbered.result refl
    (c.certain_in-in-Number.ensures ∙ ap (λ x. certain_truth k x e) same) c.numbered.ensures.truth
    c.numbered.ensures.count)

pub numbered-returns-clause-count : goal.numbered-returns-clause-count
numbered-returns-clause-count t c =
    let v = c.args.setting.vocabulary.now in
    let k = c.args.setting.known.now in
    let e = env_view c.args.env.now in
    let cs = choices k.domains c.args.bounds.now in
    let H = λ (a : List Elem). open_occurrences v k (formula_view c.args.of.now) (e ++ a) in
    let unknown : is_unknown c.args.truth ≡ true = search rules in
    c.instances-all.ensures.count refl
    ∙ (stopped_sum H cs c.none_yet-before.result.count 1 c.none_yet-before.ensures.count
    ∙ ap capped (sym (ap (λ b. if b then 1 + sum_by H cs else 0) unknown)))

pub instances-returns-then-is_over-clause-truth : goal.instances-returns-then-is_over-clause-truth
instances-returns-then-is_over-clause-truth t c =
    let v = c.args.setting.vocabulary.now in
    let k = c.args.setting.known.now in
    let e = env_view c.args.env.now in
    let f = formula_view c.args.of.now in
    let these = c.split_in.result.0.bounds.now in
    let others = c.split_in.result.1.now in
    let all = choices k.domains these in
    let rest = choices k.domains others in
    let i = c.loop-number.number in
    let slice : c.as_slice.result.now ≡ k.domains = c.as_slice.ensures ∙ c.domains.ensures.domains in
    let count : c.split_in.result.0.count ≡ length all =
    c.split_in.ensures.count ∙ ap (λ d. length (choices d these)) slice in
    let G = λ (s : Truth) (a : List Elem). joined (is_all c.args.joining) s (certain_truth k f a) in
    let F = λ (s : Truth) (a : List Elem). G s (e ++ a) in
    let u = c.loop-number.so_far.truth in
    let over : is_over c.args.joining u ≡ true = sym c.is_over.ensures ∙ c.if-is_over.true in
    sym (fold_by_front k.domains c.args.bounds.now these others c.split_in.ensures.parts F c.args.before.truth
    ∙ (sym c.loop-number.invariant.0
    ∙ fold_stays (after_front F rest) (drop i all) u
    (λ a. fold_stays (λ s b. F s (a ++ b)) rest u
    (λ b. over_stays c.args.joining u (certain_truth k f (e ++ (a ++ b))) over))))

pub instances-instances-so_far-requires : goal.instances-instances-so_far-requires
instances-instances-so_far-requires t c =
    let v = c.args.setting.vocabulary.now in
    let k = c.args.setting.known.now in
    let e = env_view c.args.env.now in
    let f = formula_view c.args.of.now in
    let these = c.split_in.result.0.bounds.now in
    let others = c.split_in.result.1.now in
    let all = choices k.domains these in
    let rest = choices k.domains others in
    let i = c.loop-number.number in
    let slice : c.as_slice.result.now ≡ k.domains = c.as_slice.ensures ∙ c.domains.ensures.domains in
    let count : c.split_in.result.0.count ≡ length all =
    c.split_in.ensures.count ∙ ap (λ d. length (choices d these)) slice in
    let inner = env_view c.extend-inner.result in
    let within : i < length all = subst (λ n. i < n) count c.loop-number-test.true in
    let is : inner ≡ e ++ get_or all i [] =
    c.extend-inner.ensures ∙ ap (λ d. e ++ get_or (choices d these) i []) (c.split_in.ensures.domains ∙ slice) in (
      omega (arith, c.split_in.ensures.fewer),
      (
        each_after k.domains c.args.bounds.now these others c.split_in.ensures.parts (CertaintyFits k f) e inner i
            within is c.requires.fits,
        c.loop-number.invariant.2,
      ),
    )

pub instances-loop-number-preserved : goal.instances-loop-number-preserved
instances-loop-number-preserved t c =
    let v = c.args.setting.vocabulary.now in
    let k = c.args.setting.known.now in
    let e = env_view c.args.env.now in
    let f = formula_view c.args.of.now in
    let these = c.split_in.result.0.bounds.now in
    let others = c.split_in.result.1.now in
    let all = choices k.domains these in
    let rest = choices k.domains others in
    let i = c.loop-number.number in
    let slice : c.as_slice.result.now ≡ k.domains = c.as_slice.ensures ∙ c.domains.ensures.domains in
    let count : c.split_in.result.0.count ≡ length all =
    c.split_in.ensures.count ∙ ap (λ d. length (choices d these)) slice in
    let inner = env_view c.extend-inner.result in
    let within : i < length all = subst (λ n. i < n) count c.loop-number-test.true in
    let is : inner ≡ e ++ get_or all i [] =
    c.extend-inner.ensures ∙ ap (λ d. e ++ get_or (choices d these) i []) (c.split_in.ensures.domains ∙ slice) in
    let G = λ (s : Truth) (a : List Elem). joined (is_all c.args.joining) s (certain_truth k f a) in
    let F = λ (s : Truth) (a : List Elem). G s (e ++ a) in
    let M = λ (n : ℕ) (a : List Elem). capped (n + open_occurrences v k f a) in
    let N = λ (n : ℕ) (a : List Elem). M n (e ++ a) in
    let before = c.loop-number.so_far in
    let after = c.instances-so_far.result in
    let on : is_over c.args.joining before.truth ≡ false = sym c.is_over.ensures ∙ c.if-is_over.false in (
      fold_next (after_front F rest) all i before.truth after.truth within
          (c.instances-so_far.ensures.truth ∙ inner_fold G rest e inner (get_or all i []) before.truth is)
          ∙ c.loop-number.invariant.0,
      λ goes.
          fold_next (after_front N rest) all i before.count after.count within
          (c.instances-so_far.ensures.count goes ∙ inner_fold M rest e inner (get_or all i []) before.count is)
          ∙ c.loop-number.invariant.1 on,
      c.instances-so_far.ensures.small,
    )

pub instances-returns-clause-truth : goal.instances-returns-clause-truth
instances-returns-clause-truth t c =
    let v = c.args.setting.vocabulary.now in
    let k = c.args.setting.known.now in
    let e = env_view c.args.env.now in
    let f = formula_view c.args.of.now in
    let these = c.split_in.result.0.bounds.now in
    let others = c.split_in.result.1.now in
    let all = choices k.domains these in
    let rest = choices k.domains others in
    let i = c.loop-number.number in
    let slice : c.as_slice.result.now ≡ k.domains = c.as_slice.ensures ∙ c.domains.ensures.domains in
    let count : c.split_in.result.0.count ≡ length all =
    c.split_in.ensures.count ∙ ap (λ d. length (choices d these)) slice in
    let past : length all ≤ i = subst (λ n. n ≤ i) count c.loop-number-test.false in
    let G = λ (s : Truth) (a : List Elem). joined (is_all c.args.joining) s (certain_truth k f a) in
    let F = λ (s : Truth) (a : List Elem). G s (e ++ a) in
    sym (fold_by_front k.domains c.args.bounds.now these others c.split_in.ensures.parts F c.args.before.truth
    ∙ (sym c.loop-number.invariant.0 ∙ fold_done (after_front F rest) all i c.loop-number.so_far.truth past))

pub instances-returns-clause-count : goal.instances-returns-clause-count
instances-returns-clause-count t c =
    let v = c.args.setting.vocabulary.now in
    let k = c.args.setting.known.now in
    let e = env_view c.args.env.now in
    let f = formula_view c.args.of.now in
    let these = c.split_in.result.0.bounds.now in
    let others = c.split_in.result.1.now in
    let all = choices k.domains these in
    let rest = choices k.domains others in
    let i = c.loop-number.number in
    let slice : c.as_slice.result.now ≡ k.domains = c.as_slice.ensures ∙ c.domains.ensures.domains in
    let count : c.split_in.result.0.count ≡ length all =
    c.split_in.ensures.count ∙ ap (λ d. length (choices d these)) slice in
    let past : length all ≤ i = subst (λ n. n ≤ i) count c.loop-number-test.false in
    let M = λ (n : ℕ) (a : List Elem). capped (n + open_occurrences v k f a) in
    let N = λ (n : ℕ) (a : List Elem). M n (e ++ a) in
    λ goes. sym (fold_by_front k.domains c.args.bounds.now these others c.split_in.ensures.parts N c.args.before.count
    ∙ (sym (c.loop-number.invariant.1 goes) ∙ fold_done (after_front N rest) all i c.loop-number.so_far.count past))

pub gathered-gathered-count-requires : goal.gathered-gathered-count-requires
gathered-gathered-count-requires t c =
    let k = c.args.setting.known.now in
    let e = env_view c.args.env.now in
    let these = c.split_in.result.0.bounds.now in
    let others = c.split_in.result.1.now in
    let all = choices k.domains these in
    let i = c.loop-number.number in
    let slice : c.as_slice.result.now ≡ k.domains = c.as_slice.ensures ∙ c.domains.ensures.domains in
    let count : c.split_in.result.0.count ≡ length all =
    c.split_in.ensures.count ∙ ap (λ d. length (choices d these)) slice in
    let inner = env_view c.extend-inner.result in
    let within : i < length all = subst (λ n. i < n) count c.loop-number-test.true in
    let is : inner ≡ e ++ get_or all i [] =
    c.extend-inner.ensures ∙ ap (λ d. e ++ get_or (choices d these) i []) (c.split_in.ensures.domains ∙ slice) in (
      omega (arith, c.split_in.ensures.fewer),
      each_after k.domains c.args.bounds.now these others c.split_in.ensures.parts
          (λ a. CertaintyFits k (formula_view c.args.condition.now) a × ValueFits k (term_view c.args.weight.now) a)
          e inner i within is c.requires,
    )

pub gathered-loop-number-preserved : goal.gathered-loop-number-preserved
gathered-loop-number-preserved t c =
    let v = c.args.setting.vocabulary.now in
    let k = c.args.setting.known.now in
    let e = env_view c.args.env.now in
    let these = c.split_in.result.0.bounds.now in
    let others = c.split_in.result.1.now in
    let all = choices k.domains these in
    let rest = choices k.domains others in
    let i = c.loop-number.number in
    let slice : c.as_slice.result.now ≡ k.domains = c.as_slice.ensures ∙ c.domains.ensures.domains in
    let count : c.split_in.result.0.count ≡ length all =
    c.split_in.ensures.count ∙ ap (λ d. length (choices d these)) slice in
    let inner = env_view c.extend-inner.result in
    let within : i < length all = subst (λ n. i < n) count c.loop-number-test.true in
    let is : inner ≡ e ++ get_or all i [] =
    c.extend-inner.ensures ∙ ap (λ d. e ++ get_or (choices d these) i []) (c.split_in.ensures.domains ∙ slice) in
    let G = λ (n : ℕ) (a : List Elem). capped (n + (open_occurrences v k (formula_view c.args.condition.now) a
    + open_in_term v k (term_view c.args.weight.now) a)) in
    let F = λ (n : ℕ) (a : List Elem). G n (e ++ a) in
    fold_next (after_front F rest) all i c.loop-number.count c.gathered-count.result within
    (c.gathered-count.ensures ∙ inner_fold G rest e inner (get_or all i []) c.loop-number.count is)
    ∙ c.loop-number.invariant

pub gathered-returns : goal.gathered-returns
gathered-returns t c =
    let v = c.args.setting.vocabulary.now in
    let k = c.args.setting.known.now in
    let e = env_view c.args.env.now in
    let these = c.split_in.result.0.bounds.now in
    let others = c.split_in.result.1.now in
    let all = choices k.domains these in
    let rest = choices k.domains others in
    let i = c.loop-number.number in
    let slice : c.as_slice.result.now ≡ k.domains = c.as_slice.ensures ∙ c.domains.ensures.domains in
    let count : c.split_in.result.0.count ≡ length all =
    c.split_in.ensures.count ∙ ap (λ d. length (choices d these)) slice in
    let past : length all ≤ i = subst (λ n. n ≤ i) count c.loop-number-test.false in
    let G = λ (n : ℕ) (a : List Elem). capped (n + (open_occurrences v k (formula_view c.args.condition.now) a
    + open_in_term v k (term_view c.args.weight.now) a)) in
    let F = λ (n : ℕ) (a : List Elem). G n (e ++ a) in
    sym (fold_by_front k.domains c.args.bounds.now these others c.split_in.ensures.parts F c.args.before
    ∙ sym c.loop-number.invariant ∙ fold_done (after_front F rest) all i c.loop-number.count past)

pub term-returns-else-is_known : goal.term-returns-else-is_known
term-returns-else-is_known t c =
    let v = c.args.setting.vocabulary.now in
    let k = c.args.setting.known.now in
    let e = env_view c.args.env.now in
    let g = term_view c.args.of.now in
    let bs = c.deref-in-Agg-3.result.now in
    let f = formula_view c.deref-in-Agg-4.result.now in
    let w = term_view c.deref-in-Agg-5.result.now in
    let hidden : is_some (known_value k g e) ≡ false = sym c.is_known.ensures ∙ c.if-is_known.false in
    let same : g ≡ aggregate c.in-Agg.field-0 bs f w =
    rw (
      c.in-Agg.is,
      term_view-Agg,
      c.deref-in-Agg-3.ensures.value,
      c.deref-in-Agg-4.ensures,
      c.deref-in-Agg-5.ensures,
    ) refl in
    let there : c.choices_of.result ≡ capped (length (choices k.domains bs)) =
    c.choices_of.ensures ∙ ap (λ (xs : List Bound). capped (length (choices k.domains xs)))
    (c.deref-in-Agg.ensures.value ∙ sym c.deref-in-Agg-3.ensures.value) in
    let applied : c.applications.result ≡ capped (application_count v k.domains w) =
    c.applications.ensures ∙ ap (λ (x : Term). capped (application_count v k.domains (term_view x)))
    (c.deref-in-Agg-2.ensures ∙ sym c.deref-in-Agg-5.ensures) in
    let own = product (length (choices k.domains bs)) (application_count v k.domains w) c.choices_of.result
    c.applications.result c.times-own.result there applied c.times-own.ensures in
    c.gathered.ensures
    ∙ stopped_sum (λ a. open_occurrences v k f (e ++ a) + open_in_term v k w (e ++ a)) (choices k.domains bs)
    c.times-own.result (length (choices k.domains bs) * application_count v k.domains w) own
    ∙ sym (ap capped (open_aggregate v k g e hidden c.in-Agg.field-0 bs f w same))
