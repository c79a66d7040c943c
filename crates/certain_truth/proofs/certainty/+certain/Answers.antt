use Rattle.plain_evaluation.specs.Environments.{env_view}
use Rattle.kb_logic.specs.Denotations.{Denotation, as_number}
use Rattle.kb_logic.specs.Structures.{choices}
use Rattle.kb_logic.specs.Trees.{aggregate}
use Rattle.kb_logic.specs.Views.{formula_view, term_view}
use Rattle.kb_logic.specs.declared.elements.Elem.{Elem}
use Rattle.kb_logic.specs.declared.syntax.Term.{Agg, size-Term}
use Rattle.kb_logic.specs.declared.syntax.Formula.{size-Formula}
use Rattle.kb_logic.proofs.ViewsOf.{formula_view-Number, term_view-Agg, size-Agg}
use Rattle.std.proofs.Common.{ℕ, not, ◌∙◌, arith, rules, subst, FitsSigned, w64, drop, fold, ◌≡◌, ◌++◌, true, ap, sym}
use Rattle.std.proofs.Common.{refl, List, [], Option, Some, None, length, get_or, ◌<◌, ◌≤◌}
use Rattle.std.specs.Option.{option_map}
use Rattle.certain_truth.specs.Certainty.{known_value, certain_truth}
use Rattle.certain_truth.specs.KnownArithmetic.{gathered, GatheredFits, ValueFits, CertaintyFits}
use Rattle.certain_truth.specs.Evaluation.{joined, settles, tallied, total_of}
use Rattle.partial_structures.specs.Known.{known_in}
use Rattle.partial_structures.specs.declared.truths.Truth.{Truth}
use Rattle.partial_structures.specs.declared.truths.Truth.TheVariants.{Yes, No}
use Rattle.certain_truth.proofs.Connected.{settled_stays, fold_both, fold_either, fold_aggregate, number_certain}
use Rattle.certain_truth.proofs.Connected.{number_uncertain}
use Rattle.plain_evaluation.proofs.Folds.{after_front, by_front, fold_by_front, each_after, inner_fold, fold_next}
use Rattle.plain_evaluation.proofs.Folds.{fold_done, fold_stays, none_is}
use Rattle.certain_truth.proofs.Gathered.{gathered_front, gathered_inside}
use Rattle.kb_logic.proofs.Shapes.{formula_view-All, formula_view-Any}
use Rattle.certain_truth.proofs.certainty.+certain.Goals as goal

pub quantified-quantified-so_far-requires : goal.quantified-quantified-so_far-requires
quantified-quantified-so_far-requires t c =
    let k = known_in c.args.s in
    let domains = c.args.s.domains.now in
    let e = env_view c.args.env.now in
    let these = c.split_in.result.0.bounds.now in
    let others = c.split_in.result.1.now in
    let all = choices domains these in
    let rest = choices domains others in
    let i = c.loop-number.number in
    let inner = env_view c.extend.result in
    let within : i < length all = rw (← c.split_in.ensures.count) c.loop-number-test.true in
    let is : inner ≡ e ++ get_or all i [] = rw c.split_in.ensures.domains at c.extend.ensures in (
      omega (arith, c.split_in.ensures.fewer),
      each_after domains c.args.bounds.now these others c.split_in.ensures.parts
          (CertaintyFits k (formula_view c.args.formula.now)) e inner i within is c.requires,
    )

pub quantified-loop-number-preserved : goal.quantified-loop-number-preserved
quantified-loop-number-preserved t c =
    let k = known_in c.args.s in
    let domains = c.args.s.domains.now in
    let e = env_view c.args.env.now in
    let these = c.split_in.result.0.bounds.now in
    let others = c.split_in.result.1.now in
    let all = choices domains these in
    let rest = choices domains others in
    let i = c.loop-number.number in
    let inner = env_view c.extend.result in
    let within : i < length all = rw (← c.split_in.ensures.count) c.loop-number-test.true in
    let is : inner ≡ e ++ get_or all i [] = rw c.split_in.ensures.domains at c.extend.ensures in
    let G = λ (t : Truth) (a : List Elem). joined c.args.all t (certain_truth k (formula_view c.args.formula.now) a) in
    let F = λ (t : Truth) (a : List Elem). G t (e ++ a) in
    fold_next (after_front F rest) all i c.loop-number.so_far c.quantified-so_far.result within
    (c.quantified-so_far.ensures ∙ inner_fold G rest e inner (get_or all i []) c.loop-number.so_far is)
    ∙ c.loop-number.invariant

pub quantified-returns : goal.quantified-returns
quantified-returns t c =
    let k = known_in c.args.s in
    let domains = c.args.s.domains.now in
    let e = env_view c.args.env.now in
    let these = c.split_in.result.0.bounds.now in
    let others = c.split_in.result.1.now in
    let all = choices domains these in
    let rest = choices domains others in
    let i = c.loop-number.number in
    let past : length all ≤ i = rw (← c.split_in.ensures.count) c.loop-number-test.false in
    let G = λ (t : Truth) (a : List Elem). joined c.args.all t (certain_truth k (formula_view c.args.formula.now) a) in
    let F = λ (t : Truth) (a : List Elem). G t (e ++ a) in
    sym (fold_by_front domains c.args.bounds.now these others c.split_in.ensures.parts F c.args.before
    ∙ sym c.loop-number.invariant ∙ fold_done (after_front F rest) all i c.loop-number.so_far past)

pub quantified-returns-then-is_final : goal.quantified-returns-then-is_final
quantified-returns-then-is_final t c =
    let k = known_in c.args.s in
    let domains = c.args.s.domains.now in
    let e = env_view c.args.env.now in
    let these = c.split_in.result.0.bounds.now in
    let others = c.split_in.result.1.now in
    let all = choices domains these in
    let rest = choices domains others in
    let i = c.loop-number.number in
    let G = λ (t : Truth) (a : List Elem). joined c.args.all t (certain_truth k (formula_view c.args.formula.now) a) in
    let F = λ (t : Truth) (a : List Elem). G t (e ++ a) in
    let settled : settles c.args.all c.loop-number.so_far ≡ true = sym c.is_final.ensures ∙ c.if-is_final.true in
    sym (fold_by_front domains c.args.bounds.now these others c.split_in.ensures.parts F c.args.before
    ∙ sym c.loop-number.invariant
    ∙ fold_stays (after_front F rest) (drop i all) c.loop-number.so_far
    (λ a. fold_stays (λ u b. F u (a ++ b)) rest c.loop-number.so_far (λ b. settled_stays c.args.all c.loop-number.so_far
    (certain_truth k (formula_view c.args.formula.now) (e ++ (a ++ b))) settled)))

pub count-count-total-requires : goal.count-count-total-requires
count-count-total-requires t c =
    let k = known_in c.args.s in
    let domains = c.args.s.domains.now in
    let e = env_view c.args.env.now in
    let these = c.split_in.result.0.bounds.now in
    let others = c.split_in.result.1.now in
    let all = choices domains these in
    let rest = choices domains others in
    let i = c.loop-number.number in
    let inner = env_view c.extend.result in
    let within : i < length all = rw (← c.split_in.ensures.count) c.loop-number-test.true in
    let is : inner ≡ e ++ get_or all i [] = rw c.split_in.ensures.domains at c.extend.ensures in (
      omega (arith, c.split_in.ensures.fewer),
      each_after domains c.args.bounds.now these others c.split_in.ensures.parts
          (CertaintyFits k (formula_view c.args.formula.now)) e inner i within is c.requires,
    )

pub count-loop-number-preserved : goal.count-loop-number-preserved
count-loop-number-preserved t c =
    let k = known_in c.args.s in
    let domains = c.args.s.domains.now in
    let e = env_view c.args.env.now in
    let these = c.split_in.result.0.bounds.now in
    let others = c.split_in.result.1.now in
    let all = choices domains these in
    let rest = choices domains others in
    let i = c.loop-number.number in
    let inner = env_view c.extend.result in
    let within : i < length all = rw (← c.split_in.ensures.count) c.loop-number-test.true in
    let is : inner ≡ e ++ get_or all i [] = rw c.split_in.ensures.domains at c.extend.ensures in
    let G = λ (t : Option ℕ) (a : List Elem). tallied t (certain_truth k (formula_view c.args.formula.now) a) in
    let F = λ (t : Option ℕ) (a : List Elem). G t (e ++ a) in
    fold_next (after_front F rest) all i c.loop-number.total c.count-total.result within (c.count-total.ensures
    ∙ inner_fold G rest e inner (get_or all i []) c.loop-number.total is) ∙ c.loop-number.invariant

pub count-returns : goal.count-returns
count-returns t c =
    let k = known_in c.args.s in
    let domains = c.args.s.domains.now in
    let e = env_view c.args.env.now in
    let these = c.split_in.result.0.bounds.now in
    let others = c.split_in.result.1.now in
    let all = choices domains these in
    let rest = choices domains others in
    let i = c.loop-number.number in
    let past : length all ≤ i = rw (← c.split_in.ensures.count) c.loop-number-test.false in
    let G = λ (t : Option ℕ) (a : List Elem). tallied t (certain_truth k (formula_view c.args.formula.now) a) in
    let F = λ (t : Option ℕ) (a : List Elem). G t (e ++ a) in
    sym (fold_by_front domains c.args.bounds.now these others c.split_in.ensures.parts F c.args.before
    ∙ sym c.loop-number.invariant ∙ fold_done (after_front F rest) all i c.loop-number.total past)

pub count-returns-then-is_none : goal.count-returns-then-is_none
count-returns-then-is_none t c =
    let k = known_in c.args.s in
    let domains = c.args.s.domains.now in
    let e = env_view c.args.env.now in
    let these = c.split_in.result.0.bounds.now in
    let others = c.split_in.result.1.now in
    let all = choices domains these in
    let rest = choices domains others in
    let i = c.loop-number.number in
    let G = λ (t : Option ℕ) (a : List Elem). tallied t (certain_truth k (formula_view c.args.formula.now) a) in
    let F = λ (t : Option ℕ) (a : List Elem). G t (e ++ a) in
    let none : c.loop-number.total ≡ None = none_is c.loop-number.total (c.is_none.ensures
    ∙ ap not c.if-is_none.true) in
    sym (fold_by_front domains c.args.bounds.now these others c.split_in.ensures.parts F c.args.before
    ∙ sym c.loop-number.invariant
    ∙ ap (λ u. fold (after_front F rest) u (drop i all)) none
    ∙ fold_stays (after_front F rest) (drop i all) None (λ a. fold_stays (λ u b. F u (a ++ b)) rest None (λ b. refl)))

pub aggregate-aggregate-total-requires : goal.aggregate-aggregate-total-requires
aggregate-aggregate-total-requires t c =
    let k = known_in c.args.s in
    let domains = c.args.s.domains.now in
    let e = env_view c.args.env.now in
    let these = c.split_in.result.0.bounds.now in
    let others = c.split_in.result.1.now in
    let all = choices domains these in
    let rest = choices domains others in
    let i = c.loop-number.number in
    let inner = env_view c.extend-inner.result in
    let within : i < length all = rw (← c.split_in.ensures.count) c.loop-number-test.true in
    let is : inner ≡ e ++ get_or all i [] = rw c.split_in.ensures.domains at c.extend-inner.ensures in
    let T = λ (a : List Elem). certain_truth k (formula_view c.args.formula.now) a in
    let W = λ (a : List Elem). option_map as_number (known_value k (term_view c.args.weight.now) a) in
    let G = λ (d : Option Denotation) (a : List Elem). gathered c.args.kind d (T a) (W a) in
    let F = λ (d : Option Denotation) (a : List Elem). G d (e ++ a) in
    let front = gathered_front c.args.kind (λ a. T (e ++ a)) (λ a. W (e ++ a)) rest all i (total_of c.loop-number.total)
    within c.loop-number.invariant.1 in (
      omega (arith, c.split_in.ensures.fewer),
      (
        each_after domains c.args.bounds.now these others c.split_in.ensures.parts
            (λ a. CertaintyFits k (formula_view c.args.formula.now) a × ValueFits k (term_view c.args.weight.now) a) e
            inner i within is c.requires.each,
        gathered_inside c.args.kind T W rest e inner (get_or all i []) (total_of c.loop-number.total) is front.0,
      ),
    )

pub aggregate-loop-number-init : goal.aggregate-loop-number-init
aggregate-loop-number-init t c =
    let k = known_in c.args.s in
    let domains = c.args.s.domains.now in
    let e = env_view c.args.env.now in
    let these = c.split_in.result.0.bounds.now in
    let others = c.split_in.result.1.now in
    let all = choices domains these in
    let rest = choices domains others in
    let T = λ (a : List Elem). certain_truth k (formula_view c.args.formula.now) a in
    let W = λ (a : List Elem). option_map as_number (known_value k (term_view c.args.weight.now) a) in
    let G = λ (d : Option Denotation) (a : List Elem). gathered c.args.kind d (T a) (W a) in
    let F = λ (d : Option Denotation) (a : List Elem). G d (e ++ a) in (
      refl,
      subst (GatheredFits c.args.kind (λ a. T (e ++ a)) (λ a. W (e ++ a)) (total_of c.args.before))
          (by_front domains c.args.bounds.now these others c.split_in.ensures.parts) c.requires.sums,
    )

pub aggregate-loop-number-preserved : goal.aggregate-loop-number-preserved
aggregate-loop-number-preserved t c =
    let k = known_in c.args.s in
    let domains = c.args.s.domains.now in
    let e = env_view c.args.env.now in
    let these = c.split_in.result.0.bounds.now in
    let others = c.split_in.result.1.now in
    let all = choices domains these in
    let rest = choices domains others in
    let i = c.loop-number.number in
    let inner = env_view c.extend-inner.result in
    let within : i < length all = rw (← c.split_in.ensures.count) c.loop-number-test.true in
    let is : inner ≡ e ++ get_or all i [] = rw c.split_in.ensures.domains at c.extend-inner.ensures in
    let T = λ (a : List Elem). certain_truth k (formula_view c.args.formula.now) a in
    let W = λ (a : List Elem). option_map as_number (known_value k (term_view c.args.weight.now) a) in
    let G = λ (d : Option Denotation) (a : List Elem). gathered c.args.kind d (T a) (W a) in
    let F = λ (d : Option Denotation) (a : List Elem). G d (e ++ a) in
    let front = gathered_front c.args.kind (λ a. T (e ++ a)) (λ a. W (e ++ a)) rest all i (total_of c.loop-number.total)
    within c.loop-number.invariant.1 in
    let here : total_of c.aggregate-total.result ≡ after_front F rest (total_of c.loop-number.total) (get_or all i []) =
    c.aggregate-total.ensures ∙ inner_fold G rest e inner (get_or all i []) (total_of c.loop-number.total) is in (
      fold_next (after_front F rest) all i (total_of c.loop-number.total) (total_of c.aggregate-total.result) within
          here ∙ c.loop-number.invariant.0,
      rw here front.1,
    )

pub aggregate-returns : goal.aggregate-returns
aggregate-returns t c =
    let k = known_in c.args.s in
    let domains = c.args.s.domains.now in
    let e = env_view c.args.env.now in
    let these = c.split_in.result.0.bounds.now in
    let others = c.split_in.result.1.now in
    let all = choices domains these in
    let rest = choices domains others in
    let i = c.loop-number.number in
    let past : length all ≤ i = rw (← c.split_in.ensures.count) c.loop-number-test.false in
    let T = λ (a : List Elem). certain_truth k (formula_view c.args.formula.now) a in
    let W = λ (a : List Elem). option_map as_number (known_value k (term_view c.args.weight.now) a) in
    let G = λ (d : Option Denotation) (a : List Elem). gathered c.args.kind d (T a) (W a) in
    let F = λ (d : Option Denotation) (a : List Elem). G d (e ++ a) in
    sym (fold_by_front domains c.args.bounds.now these others c.split_in.ensures.parts F (total_of c.args.before)
    ∙ sym c.loop-number.invariant.0 ∙ fold_done (after_front F rest) all i (total_of c.loop-number.total) past)

pub aggregate-returns-then-is_none : goal.aggregate-returns-then-is_none
aggregate-returns-then-is_none t c =
    let k = known_in c.args.s in
    let domains = c.args.s.domains.now in
    let e = env_view c.args.env.now in
    let these = c.split_in.result.0.bounds.now in
    let others = c.split_in.result.1.now in
    let all = choices domains these in
    let rest = choices domains others in
    let i = c.loop-number.number in
    let T = λ (a : List Elem). certain_truth k (formula_view c.args.formula.now) a in
    let W = λ (a : List Elem). option_map as_number (known_value k (term_view c.args.weight.now) a) in
    let G = λ (d : Option Denotation) (a : List Elem). gathered c.args.kind d (T a) (W a) in
    let F = λ (d : Option Denotation) (a : List Elem). G d (e ++ a) in
    let none : total_of c.loop-number.total ≡ None = ap total_of
    (none_is c.loop-number.total (c.is_none.ensures ∙ ap not c.if-is_none.true)) in
    sym (fold_by_front domains c.args.bounds.now these others c.split_in.ensures.parts F (total_of c.args.before)
    ∙ sym c.loop-number.invariant.0
    ∙ ap (λ u. fold (after_front F rest) u (drop i all)) none
    ∙ fold_stays (after_front F rest) (drop i all) None (λ a. fold_stays (λ u b. F u (a ++ b)) rest None (λ b. refl)))

pub known-aggregate-requires : goal.known-aggregate-requires
known-aggregate-requires t c =
    let k = known_in c.args.s in
    let e = env_view c.args.env.now in
    let fits : ValueFits k (term_view (Agg c.in-Agg.kind c.in-Agg.bounds c.in-Agg.formula c.in-Agg.weight)) e =
    rw c.in-Agg.is at c.requires in
    let opened : ValueFits k (aggregate c.in-Agg.kind c.in-Agg.bounds.items (formula_view c.in-Agg.formula.value)
    (term_view c.in-Agg.weight.value)) e =
    rw (term_view-Agg c.in-Agg.kind c.in-Agg.bounds c.in-Agg.formula c.in-Agg.weight) at fits in (
      omega (
        arith,
        size-Agg c.in-Agg.kind c.in-Agg.bounds c.in-Agg.formula c.in-Agg.weight,
        ap size-Term c.in-Agg.is,
        ap size-Formula c.deref-in-Agg-2.ensures,
        ap size-Term c.deref-in-Agg-3.ensures,
      ),
      rw (c.deref-in-Agg.ensures.value, c.deref-in-Agg-2.ensures, c.deref-in-Agg-3.ensures, c.start.ensures) opened,
    )

pub known-returns-in-None-aggregate : goal.known-returns-in-None-aggregate
known-returns-in-None-aggregate t c =
    let k = known_in c.args.s in
    let e = env_view c.args.env.now in
    let P = λ (a : List Elem). certain_truth k (formula_view c.deref-in-Agg-2.result.now) (e ++ a) in
    let V = λ (a : List Elem). option_map as_number (known_value k (term_view c.deref-in-Agg-3.result.now) (e ++ a)) in
    let cs = choices c.args.s.domains.now c.deref-in-Agg.result.now in
    rw (
      c.in-Agg.is,
      term_view-Agg,
      ← c.deref-in-Agg.ensures.value,
      ← c.deref-in-Agg-2.ensures,
      ← c.deref-in-Agg-3.ensures,
    )
    (ap total_of (sym c.in-None-aggregate.is) ∙ c.aggregate.ensures
    ∙ ap (λ d. fold (λ u a. gathered c.in-Agg.kind u (P a) (V a)) (Some d) cs) c.start.ensures
    ∙ fold_aggregate P c.in-Agg.kind V cs)

pub known-returns-in-Some-aggregate : goal.known-returns-in-Some-aggregate
known-returns-in-Some-aggregate t c =
    let k = known_in c.args.s in
    let e = env_view c.args.env.now in
    let P = λ (a : List Elem). certain_truth k (formula_view c.deref-in-Agg-2.result.now) (e ++ a) in
    let V = λ (a : List Elem). option_map as_number (known_value k (term_view c.deref-in-Agg-3.result.now) (e ++ a)) in
    let cs = choices c.args.s.domains.now c.deref-in-Agg.result.now in
    rw (
      c.in-Agg.is,
      term_view-Agg,
      ← c.deref-in-Agg.ensures.value,
      ← c.deref-in-Agg-2.ensures,
      ← c.deref-in-Agg-3.ensures,
    )
    (ap Some c.total_value.ensures ∙ ap total_of (sym c.in-Some-aggregate.is) ∙ c.aggregate.ensures
    ∙ ap (λ d. fold (λ u a. gathered c.in-Agg.kind u (P a) (V a)) (Some d) cs) c.start.ensures
    ∙ fold_aggregate P c.in-Agg.kind V cs)

pub certain-returns-in-All : goal.certain-returns-in-All
certain-returns-in-All t c =
    rw (c.in-All.is, formula_view-All, ← c.deref-in-All.ensures.value, ← c.deref-in-All-2.ensures)
    (c.quantified.ensures
    ∙ fold_both (λ (a : List Elem). certain_truth (known_in c.args.s) (formula_view c.deref-in-All-2.result.now)
    (env_view c.args.env.now ++ a)) (choices c.args.s.domains.now c.deref-in-All.result.now) Yes)

pub certain-returns-in-Any : goal.certain-returns-in-Any
certain-returns-in-Any t c =
    rw (c.in-Any.is, formula_view-Any, ← c.deref-in-Any.ensures.value, ← c.deref-in-Any-2.ensures)
    (c.quantified-in-Any.ensures
    ∙ fold_either (λ (a : List Elem). certain_truth (known_in c.args.s) (formula_view c.deref-in-Any-2.result.now)
    (env_view c.args.env.now ++ a)) (choices c.args.s.domains.now c.deref-in-Any.result.now) No)

pub certain-returns-in-None-count : goal.certain-returns-in-None-count
certain-returns-in-None-count t c =
    let P = λ (a : List Elem). certain_truth (known_in c.args.s) (formula_view c.deref-in-Number-2.result.now)
    (env_view c.args.env.now ++ a) in
    let cs = choices c.args.s.domains.now c.deref-in-Number.result.now in
    rw (c.in-Number.is, formula_view-Number, ← c.deref-in-Number.ensures.value, ← c.deref-in-Number-2.ensures)
    (number_uncertain c.in-Number.cmp c.in-Number.n P cs (sym c.in-None-count.is ∙ c.count.ensures))

pub certain-returns-in-Some-count : goal.certain-returns-in-Some-count
certain-returns-in-Some-count t c =
    let fits : FitsSigned w64 c.in-Number.n = search rules in
    let P = λ (a : List Elem). certain_truth (known_in c.args.s) (formula_view c.deref-in-Number-2.result.now)
    (env_view c.args.env.now ++ a) in
    let cs = choices c.args.s.domains.now c.deref-in-Number.result.now in
    rw (c.in-Number.is, formula_view-Number, ← c.deref-in-Number.ensures.value, ← c.deref-in-Number-2.ensures)
    (number_certain _ _ c.in-Number.cmp _ c.in-Some-count.count c.in-Number.n P cs c.truth_of.ensures c.compare.ensures
    c.count_value.ensures (sym c.in-Some-count.is ∙ c.count.ensures) fits)
