use Rattle.kb_logic.specs.Arithmetic.{ArithmeticFits, FoldFits, TermFits, combined}
use Rattle.kb_logic.specs.Denotations.{as_number}
use Rattle.plain_evaluation.specs.Environments.{env_view}
use Rattle.kb_logic.specs.Values.{total_view}
use Rattle.kb_logic.specs.Meaning.{truth_of, value_of}
use Rattle.kb_logic.specs.Trees.{aggregate}
use Rattle.kb_logic.specs.Views.{formula_view, term_view}
use Rattle.kb_logic.specs.declared.syntax.Term.{Agg, size-Term}
use Rattle.kb_logic.specs.declared.syntax.Formula.{size-Formula, the_lemmas}
use Rattle.kb_logic.specs.declared.elements.Elem.{Elem}
use Rattle.std.proofs.Common.{◌∙◌, arith, rules, subst, FitsSigned, w64, drop, ◌+◌, ◌-◌, ◌^◌, min, ◌≡◌, ◌++◌, ◌&&◌}
use Rattle.std.proofs.Common.{◌||◌, true, false, ap, sym, refl, List, [], length, get_or, ◌<◌, ◌≤◌}
use Rattle.std.proofs.lemmas.Int.{ints}
use Rattle.plain_evaluation.proofs.Sums.{sum_next, fit_next}
use Rattle.std.specs.List.{list_all, list_any, sum_by, flat_map, fold}
use Rattle.std.proofs.lemmas.List.{at_drop_more, at_drop_all, take_all, drop_all}
use Rattle.std.proofs.lemmas.List.Sums.{sum_by_more}
use Rattle.plain_evaluation.proofs.Loops.{all_after, any_after, count_after, values_after, all_by_front, any_by_front}
use Rattle.plain_evaluation.proofs.Loops.{count_by_front, values_by_front, each_inside, inner_all, inner_any}
use Rattle.plain_evaluation.proofs.Loops.{inner_count, inner_values, fold_next, fits_next, fits_part}
use Rattle.plain_evaluation.proofs.Counts.{saturated, number_is}
use Rattle.kb_logic.proofs.ViewsOf.{formula_view-Number, term_view-Agg, size-Agg}
use Rattle.kb_logic.specs.Meaning.{values_where, assignments}
use Rattle.kb_logic.proofs.Aggregates.{aggregate_is_fold}
use Rattle.plain_evaluation.proofs.evaluation.+eval.Goals as goal

pub sum-loop-part-preserved : goal.sum-loop-part-preserved
sum-loop-part-preserved t c =
    let w = c.args.m.now in
    let e = env_view c.args.env.now in
    let parts = c.args.parts.now in
    let i = c.loop-part.part-index in (
      sum_next w e parts i c.part-item.result _ c.in-Num.n c.signed-total.result _ c.loop-part-test.true c.part-item.is
          c.in-Num.ensures (search rules) c.signed-total.ensures.value (omega (arith, ints)) ∙ c.loop-part.invariant.0,
      fit_next w e parts i c.part-item.result c.loop-part-test.true c.part-item.is c.loop-part.invariant.1,
      omega (arith, ints),
      omega (arith, ints),
    )

pub is_true-returns-in-Number : goal.is_true-returns-in-Number
is_true-returns-in-Number t c =
    let fits : FitsSigned w64 c.in-Number.n = search rules in
    rw (c.in-Number.is, formula_view-Number, ← c.deref-in-Number.ensures.value, ← c.deref-in-Number-2.ensures)
    (number_is _ c.in-Number.cmp _ _ _ c.in-Number.n c.compare-in-Number.ensures c.count_value.ensures
    c.count-count.ensures fits)

pub term_value-aggregate-requires : goal.term_value-aggregate-requires
term_value-aggregate-requires t c =
    let w = c.args.m.now in
    let e = env_view c.args.env.now in
    let fits : TermFits w (term_view (Agg c.in-Agg.kind c.in-Agg.bounds c.in-Agg.formula c.in-Agg.weight)) e =
    rw c.in-Agg.is at c.requires in
    let opened : TermFits w (aggregate c.in-Agg.kind c.in-Agg.bounds.items (formula_view c.in-Agg.formula.value)
    (term_view c.in-Agg.weight.value)) e =
    rw (term_view-Agg c.in-Agg.kind c.in-Agg.bounds c.in-Agg.formula c.in-Agg.weight) at fits in (
      omega (
        arith,
        size-Agg c.in-Agg.kind c.in-Agg.bounds c.in-Agg.formula c.in-Agg.weight,
        ap size-Term c.in-Agg.is,
        ap size-Formula c.deref-in-Agg-2.ensures,
        ap size-Term c.deref-in-Agg-3.ensures,
      ),
      rw (c.deref-in-Agg.ensures.value, c.deref-in-Agg-2.ensures, c.deref-in-Agg-3.ensures, c.start.ensures) opened,
    )

pub term_value-returns-in-Agg : goal.term_value-returns-in-Agg
term_value-returns-in-Agg t c =
    let m = c.args.m.now in
    let e = env_view c.args.env.now in
    let k = c.in-Agg.kind in
    let vs = values_where (λ (a : List Elem). truth_of m (formula_view c.deref-in-Agg-2.result.now) (e ++ a))
    (λ (a : List Elem). as_number (value_of m (term_view c.deref-in-Agg-3.result.now) (e ++ a)))
    (assignments m c.deref-in-Agg.result.now) in
    rw (
      c.in-Agg.is,
      term_view-Agg,
      ← c.deref-in-Agg.ensures.value,
      ← c.deref-in-Agg-2.ensures,
      ← c.deref-in-Agg-3.ensures,
    )
    (c.total_value.ensures ∙ c.aggregate.ensures ∙ ap (λ s. fold (combined k) s vs) c.start.ensures
    ∙ sym (aggregate_is_fold k vs))

pub is_every-is_every-requires : goal.is_every-is_every-requires
is_every-is_every-requires t c =
    let m = c.args.m.now in
    let e = env_view c.args.env.now in
    let these = c.split.result.0.bounds.now in
    let others = c.split.result.1.now in
    let all = assignments m these in
    let i = c.loop-number.number in
    let inner = env_view c.extend.result in
    let within : i < length all = rw (← c.split.ensures.count) c.loop-number-test.true in
    let is : inner ≡ e ++ get_or all i [] = rw c.split.ensures.domains at c.extend.ensures in (
      omega (arith, c.split.ensures.fewer),
      each_inside m c.args.bounds.now these others c.split.ensures.parts
          (ArithmeticFits m (formula_view c.args.formula.now)) e inner i within is c.requires,
    )

pub is_every-returns-then-not-is_every : goal.is_every-returns-then-not-is_every
is_every-returns-then-not-is_every t c =
    let m = c.args.m.now in
    let e = env_view c.args.env.now in
    let these = c.split.result.0.bounds.now in
    let others = c.split.result.1.now in
    let all = assignments m these in
    let i = c.loop-number.number in
    let inner = env_view c.extend.result in
    let within : i < length all = rw (← c.split.ensures.count) c.loop-number-test.true in
    let is : inner ≡ e ++ get_or all i [] = rw c.split.ensures.domains at c.extend.ensures in
    let T = λ (a : List Elem). truth_of m (formula_view c.args.formula.now) a in
    let P = λ (a : List Elem). T (e ++ a) in
    let A = all_after m others P in
    let here : A (get_or all i []) ≡ false = sym (c.if-not-is_every.ensures
    ∙ inner_all m others T e inner (get_or all i []) is) in
    sym (all_by_front m c.args.bounds.now these others c.split.ensures.parts P ∙ sym c.loop-number.invariant
    ∙ at_drop_more (list_all A) all i [] within ∙ ap (λ b. b && list_all A (drop (i + 1) all)) here)

pub is_every-loop-number-preserved : goal.is_every-loop-number-preserved
is_every-loop-number-preserved t c =
    let m = c.args.m.now in
    let e = env_view c.args.env.now in
    let these = c.split.result.0.bounds.now in
    let others = c.split.result.1.now in
    let all = assignments m these in
    let i = c.loop-number.number in
    let inner = env_view c.extend.result in
    let within : i < length all = rw (← c.split.ensures.count) c.loop-number-test.true in
    let is : inner ≡ e ++ get_or all i [] = rw c.split.ensures.domains at c.extend.ensures in
    let T = λ (a : List Elem). truth_of m (formula_view c.args.formula.now) a in
    let P = λ (a : List Elem). T (e ++ a) in
    let A = all_after m others P in
    let here : A (get_or all i []) ≡ true = sym (c.if-not-is_every.ensures
    ∙ inner_all m others T e inner (get_or all i []) is) in
    sym (at_drop_more (list_all A) all i [] within ∙ ap (λ b. b && list_all A (drop (i + 1) all)) here)
    ∙ c.loop-number.invariant

pub is_every-returns : goal.is_every-returns
is_every-returns t c =
    let m = c.args.m.now in
    let e = env_view c.args.env.now in
    let these = c.split.result.0.bounds.now in
    let others = c.split.result.1.now in
    let all = assignments m these in
    let i = c.loop-number.number in
    let past : length all ≤ i = rw (← c.split.ensures.count) c.loop-number-test.false in
    let T = λ (a : List Elem). truth_of m (formula_view c.args.formula.now) a in
    let P = λ (a : List Elem). T (e ++ a) in
    let A = all_after m others P in
    sym (all_by_front m c.args.bounds.now these others c.split.ensures.parts P ∙ sym c.loop-number.invariant
    ∙ at_drop_all (list_all A) all i past)

pub is_any-is_any-requires : goal.is_any-is_any-requires
is_any-is_any-requires t c =
    let m = c.args.m.now in
    let e = env_view c.args.env.now in
    let these = c.split.result.0.bounds.now in
    let others = c.split.result.1.now in
    let all = assignments m these in
    let i = c.loop-number.number in
    let inner = env_view c.extend.result in
    let within : i < length all = rw (← c.split.ensures.count) c.loop-number-test.true in
    let is : inner ≡ e ++ get_or all i [] = rw c.split.ensures.domains at c.extend.ensures in (
      omega (arith, c.split.ensures.fewer),
      each_inside m c.args.bounds.now these others c.split.ensures.parts
          (ArithmeticFits m (formula_view c.args.formula.now)) e inner i within is c.requires,
    )

pub is_any-returns-then-is_any : goal.is_any-returns-then-is_any
is_any-returns-then-is_any t c =
    let m = c.args.m.now in
    let e = env_view c.args.env.now in
    let these = c.split.result.0.bounds.now in
    let others = c.split.result.1.now in
    let all = assignments m these in
    let i = c.loop-number.number in
    let inner = env_view c.extend.result in
    let within : i < length all = rw (← c.split.ensures.count) c.loop-number-test.true in
    let is : inner ≡ e ++ get_or all i [] = rw c.split.ensures.domains at c.extend.ensures in
    let T = λ (a : List Elem). truth_of m (formula_view c.args.formula.now) a in
    let P = λ (a : List Elem). T (e ++ a) in
    let A = any_after m others P in
    let here : A (get_or all i []) ≡ true = sym (c.if-is_any.ensures
    ∙ inner_any m others T e inner (get_or all i []) is) in
    sym (any_by_front m c.args.bounds.now these others c.split.ensures.parts P ∙ sym c.loop-number.invariant
    ∙ at_drop_more (list_any A) all i [] within ∙ ap (λ b. b || list_any A (drop (i + 1) all)) here)

pub is_any-loop-number-preserved : goal.is_any-loop-number-preserved
is_any-loop-number-preserved t c =
    let m = c.args.m.now in
    let e = env_view c.args.env.now in
    let these = c.split.result.0.bounds.now in
    let others = c.split.result.1.now in
    let all = assignments m these in
    let i = c.loop-number.number in
    let inner = env_view c.extend.result in
    let within : i < length all = rw (← c.split.ensures.count) c.loop-number-test.true in
    let is : inner ≡ e ++ get_or all i [] = rw c.split.ensures.domains at c.extend.ensures in
    let T = λ (a : List Elem). truth_of m (formula_view c.args.formula.now) a in
    let P = λ (a : List Elem). T (e ++ a) in
    let A = any_after m others P in
    let here : A (get_or all i []) ≡ false = sym (c.if-is_any.ensures
    ∙ inner_any m others T e inner (get_or all i []) is) in
    sym (at_drop_more (list_any A) all i [] within ∙ ap (λ b. b || list_any A (drop (i + 1) all)) here)
    ∙ c.loop-number.invariant

pub is_any-returns : goal.is_any-returns
is_any-returns t c =
    let m = c.args.m.now in
    let e = env_view c.args.env.now in
    let these = c.split.result.0.bounds.now in
    let others = c.split.result.1.now in
    let all = assignments m these in
    let i = c.loop-number.number in
    let past : length all ≤ i = rw (← c.split.ensures.count) c.loop-number-test.false in
    let T = λ (a : List Elem). truth_of m (formula_view c.args.formula.now) a in
    let P = λ (a : List Elem). T (e ++ a) in
    let A = any_after m others P in
    sym (any_by_front m c.args.bounds.now these others c.split.ensures.parts P ∙ sym c.loop-number.invariant
    ∙ at_drop_all (list_any A) all i past)

pub count-count-part-requires : goal.count-count-part-requires
count-count-part-requires t c =
    let m = c.args.m.now in
    let e = env_view c.args.env.now in
    let these = c.split.result.0.bounds.now in
    let others = c.split.result.1.now in
    let all = assignments m these in
    let i = c.loop-number.number in
    let inner = env_view c.extend.result in
    let within : i < length all = rw (← c.split.ensures.count) c.loop-number-test.true in
    let is : inner ≡ e ++ get_or all i [] = rw c.split.ensures.domains at c.extend.ensures in (
      omega (arith, c.split.ensures.fewer),
      each_inside m c.args.bounds.now these others c.split.ensures.parts
          (ArithmeticFits m (formula_view c.args.formula.now)) e inner i within is c.requires,
    )

pub count-loop-number-preserved : goal.count-loop-number-preserved
count-loop-number-preserved t c =
    let m = c.args.m.now in
    let e = env_view c.args.env.now in
    let these = c.split.result.0.bounds.now in
    let others = c.split.result.1.now in
    let all = assignments m these in
    let i = c.loop-number.number in
    let inner = env_view c.extend.result in
    let within : i < length all = rw (← c.split.ensures.count) c.loop-number-test.true in
    let is : inner ≡ e ++ get_or all i [] = rw c.split.ensures.domains at c.extend.ensures in
    let T = λ (a : List Elem). truth_of m (formula_view c.args.formula.now) a in
    let P = λ (a : List Elem). T (e ++ a) in
    let A = count_after m others P in
    let here : c.count-part.result ≡ min (2 ^ 64 - 1) (A (get_or all i [])) = c.count-part.ensures
    ∙ ap (min (2 ^ 64 - 1)) (inner_count m others T e inner (get_or all i []) is) in
    rw (sum_by_more A all i [] within) (saturated _ _ _ _ _ _ c.saturating_add-total.ensures
    c.loop-number.invariant here)

pub count-returns : goal.count-returns
count-returns t c =
    let m = c.args.m.now in
    let e = env_view c.args.env.now in
    let these = c.split.result.0.bounds.now in
    let others = c.split.result.1.now in
    let all = assignments m these in
    let i = c.loop-number.number in
    let past : length all ≤ i = rw (← c.split.ensures.count) c.loop-number-test.false in
    let T = λ (a : List Elem). truth_of m (formula_view c.args.formula.now) a in
    let P = λ (a : List Elem). T (e ++ a) in
    c.loop-number.invariant
    ∙ ap (min (2 ^ 64 - 1)) (ap (sum_by (count_after m others P)) (take_all i all past)
    ∙ sym (count_by_front m c.args.bounds.now these others c.split.ensures.parts P))

pub aggregate-aggregate-total-requires : goal.aggregate-aggregate-total-requires
aggregate-aggregate-total-requires t c =
    let m = c.args.m.now in
    let e = env_view c.args.env.now in
    let these = c.split.result.0.bounds.now in
    let others = c.split.result.1.now in
    let all = assignments m these in
    let i = c.loop-number.number in
    let inner = env_view c.extend-inner.result in
    let within : i < length all = rw (← c.split.ensures.count) c.loop-number-test.true in
    let is : inner ≡ e ++ get_or all i [] = rw c.split.ensures.domains at c.extend-inner.ensures in
    let T = λ (a : List Elem). truth_of m (formula_view c.args.formula.now) a in
    let P = λ (a : List Elem). T (e ++ a) in
    let W = λ (a : List Elem). as_number (value_of m (term_view c.args.weight.now) a) in
    let V = values_after m others P (λ (a : List Elem). W (e ++ a)) in
    let more = at_drop_more (flat_map V) all i [] within in
    let inside = inner_values m others T e inner (get_or all i []) is W in (
      omega (arith, c.split.ensures.fewer),
      (
        each_inside m c.args.bounds.now these others c.split.ensures.parts
            (λ a. ArithmeticFits m (formula_view c.args.formula.now) a × TermFits m (term_view c.args.weight.now) a) e
            inner i within is c.requires.each,
        subst (FoldFits c.args.kind (total_view c.loop-number.total)) (sym inside)
            (fits_part c.args.kind (total_view c.loop-number.total) (V (get_or all i []))
            (flat_map V (drop (i + 1) all)) _ more c.loop-number.invariant.1),
      ),
    )

pub aggregate-loop-number-init : goal.aggregate-loop-number-init
aggregate-loop-number-init t c =
    let m = c.args.m.now in
    let e = env_view c.args.env.now in
    let these = c.split.result.0.bounds.now in
    let others = c.split.result.1.now in
    let all = assignments m these in
    let T = λ (a : List Elem). truth_of m (formula_view c.args.formula.now) a in
    let P = λ (a : List Elem). T (e ++ a) in
    let W = λ (a : List Elem). as_number (value_of m (term_view c.args.weight.now) (e ++ a)) in
    (refl, rw (values_by_front m c.args.bounds.now these others c.split.ensures.parts P W) at c.requires.sums)

pub aggregate-loop-number-preserved : goal.aggregate-loop-number-preserved
aggregate-loop-number-preserved t c =
    let m = c.args.m.now in
    let e = env_view c.args.env.now in
    let these = c.split.result.0.bounds.now in
    let others = c.split.result.1.now in
    let all = assignments m these in
    let i = c.loop-number.number in
    let inner = env_view c.extend-inner.result in
    let within : i < length all = rw (← c.split.ensures.count) c.loop-number-test.true in
    let is : inner ≡ e ++ get_or all i [] = rw c.split.ensures.domains at c.extend-inner.ensures in
    let T = λ (a : List Elem). truth_of m (formula_view c.args.formula.now) a in
    let P = λ (a : List Elem). T (e ++ a) in
    let W = λ (a : List Elem). as_number (value_of m (term_view c.args.weight.now) a) in
    let V = values_after m others P (λ (a : List Elem). W (e ++ a)) in
    let k = c.args.kind in
    let more = at_drop_more (flat_map V) all i [] within in
    let inside = inner_values m others T e inner (get_or all i []) is W in
    let after : total_view c.aggregate-total.result ≡ fold (combined k) (total_view c.loop-number.total)
    (V (get_or all i [])) =
    c.aggregate-total.ensures ∙ ap (fold (combined k) (total_view c.loop-number.total)) inside in (
      fold_next k _ _ (V (get_or all i [])) (flat_map V (drop (i + 1) all)) _ more after ∙ c.loop-number.invariant.0,
      fits_next k _ _ (V (get_or all i [])) (flat_map V (drop (i + 1) all)) _ more after c.loop-number.invariant.1,
    )

pub aggregate-returns : goal.aggregate-returns
aggregate-returns t c =
    let m = c.args.m.now in
    let e = env_view c.args.env.now in
    let these = c.split.result.0.bounds.now in
    let others = c.split.result.1.now in
    let all = assignments m these in
    let i = c.loop-number.number in
    let past : length all ≤ i = rw (← c.split.ensures.count) c.loop-number-test.false in
    let T = λ (a : List Elem). truth_of m (formula_view c.args.formula.now) a in
    let P = λ (a : List Elem). T (e ++ a) in
    let W = λ (a : List Elem). as_number (value_of m (term_view c.args.weight.now) a) in
    let V = values_after m others P (λ (a : List Elem). W (e ++ a)) in
    let k = c.args.kind in
    ap (λ d. fold (combined k) (total_view c.loop-number.total) (flat_map V d)) (sym (drop_all i all past))
    ∙ c.loop-number.invariant.0
    ∙ ap (fold (combined k) (total_view c.args.before)) (sym (values_by_front m c.args.bounds.now these others
    c.split.ensures.parts P (λ (a : List Elem). W (e ++ a))))

pub is_true-is_in-requires : goal.is_true-is_in-requires
is_true-is_in-requires t c = search (rules, the_lemmas)

pub is_true-is_true-requires : goal.is_true-is_true-requires
is_true-is_true-requires t c = search (rules, the_lemmas)

pub is_true-is_true-requires-else-not-is_true : goal.is_true-is_true-requires-else-not-is_true
is_true-is_true-requires-else-not-is_true t c = search (rules, the_lemmas)

pub is_true-is_true-requires-in-Iff : goal.is_true-is_true-requires-in-Iff
is_true-is_true-requires-in-Iff t c = search (rules, the_lemmas)

pub is_true-is_true-requires-in-Iff-2 : goal.is_true-is_true-requires-in-Iff-2
is_true-is_true-requires-in-Iff-2 t c = search (rules, the_lemmas)

pub is_true-is_true-requires-in-Not : goal.is_true-is_true-requires-in-Not
is_true-is_true-requires-in-Not t c = search (rules, the_lemmas)

pub is_true-returns-else-not-is_true : goal.is_true-returns-else-not-is_true
is_true-returns-else-not-is_true t c = search (rules, the_lemmas)

pub is_true-returns-in-All : goal.is_true-returns-in-All
is_true-returns-in-All t c = search (rules, the_lemmas)
