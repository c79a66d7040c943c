use Rattle.kb_logic.specs.Arithmetic.{AllFit, FoldFits, ProductFits, SummandsFit, TermsFit, combined}
use Rattle.kb_logic.specs.Denotations.{as_number}
use Rattle.plain_evaluation.specs.Environments.{env_view}
use Rattle.kb_logic.specs.Values.{total_view}
use Rattle.kb_logic.specs.Meaning.{assignments, all_true, any_true, applied, behind, has_row, product_from, sum_of}
use Rattle.kb_logic.specs.Meaning.{truth_of, value_of, values_of}
use Rattle.kb_logic.specs.Trees.{formulas_of, summands_of, terms_of}
use Rattle.kb_logic.specs.Views.{formula_view, signed_view, term_view}
use Rattle.std.proofs.Common.{◌≡◌, ◌+◌, ◌*◌, ◌^◌, ◌-◌, min, max, map, drop, take, length, ◌++◌, pos, neg_ℤ, ◌+ℤ◌, ◌≤ℤ◌}
use Rattle.std.specs.List.{list_all, list_any, sum_by, flat_map, fold}
use Rattle.std.specs.Option.{option_map}
use Rattle.kb_logic.specs.declared.syntax.Term.{size-Term}
use Rattle.plain_evaluation.proofs.Loops.{all_after, any_after, count_after, values_after}
use Rattle.plain_evaluation.proofs.evaluation.+eval.Given as goal

abbrev pub invariant-strip-loop-arg : goal.invariant-strip-loop-arg
invariant-strip-loop-arg l =
    let left = terms_of (map term_view (drop l.arg-index l.args)) in
    (behind l.rest (values_of l.m left (env_view l.env)) ≡ behind l.row (values_of l.m (terms_of (map term_view l.args))
    (env_view l.env)))
    × TermsFit l.m left (env_view l.env)

abbrev pub invariant-application-loop-row : goal.invariant-application-loop-row
invariant-application-loop-row l =
    let vs = values_of l.m (terms_of (map term_view l.args)) (env_view l.env) in
    applied (drop l.row-index l.rows) vs ≡ applied l.rows vs

abbrev pub invariant-sum-loop-part : goal.invariant-sum-loop-part
invariant-sum-loop-part l =
    let left = summands_of (map signed_view (drop l.part-index l.parts)) in
    (option_map (λ z. l.total +ℤ z) (sum_of l.m left (env_view l.env)) ≡ sum_of l.m
    (summands_of (map signed_view l.parts)) (env_view l.env))
    × SummandsFit l.m left (env_view l.env)
    × (neg_ℤ (pos (2 ^ 63 * l.part-index)) ≤ℤ l.total)
    × (l.total ≤ℤ pos (2 ^ 63 * l.part-index))

abbrev pub invariant-is_true-loop-part : goal.invariant-is_true-loop-part
invariant-is_true-loop-part l =
    let left = formulas_of (map formula_view (drop l.part-index l.part-items)) in
    (all_true l.m left (env_view l.env) ≡ all_true l.m (formulas_of (map formula_view l.part-items)) (env_view l.env))
    × AllFit l.m left (env_view l.env)

abbrev pub invariant-is_every-loop-number : goal.invariant-is_every-loop-number
invariant-is_every-loop-number l =
    let P = all_after l.m l.others (λ a. truth_of l.m (formula_view l.formula) (env_view l.env ++ a)) in
    list_all P (drop l.number (assignments l.m l.block.bounds.now)) ≡ list_all P (assignments l.m l.block.bounds.now)

abbrev pub invariant-count-loop-number : goal.invariant-count-loop-number
invariant-count-loop-number l =
    let P = count_after l.m l.others (λ a. truth_of l.m (formula_view l.formula) (env_view l.env ++ a)) in
    l.total ≡ min (2 ^ 64 - 1) (sum_by P (take l.number (assignments l.m l.block.bounds.now)))

abbrev pub decreases-is_true : goal.decreases-is_true
decreases-is_true l = 2 ^ 65 * goal.size-is_true l

abbrev pub decreases-is_every : goal.decreases-is_every
decreases-is_every l = 2 ^ 65 * goal.size-is_every l + length l.bounds.now + 1

abbrev pub decreases-count : goal.decreases-count
decreases-count l = 2 ^ 65 * goal.size-count l + length l.bounds.now + 1

abbrev pub invariant-is_in-loop-row : goal.invariant-is_in-loop-row
invariant-is_in-loop-row l =
    let vs = values_of l.m (terms_of (map term_view l.args)) (env_view l.env) in
    has_row (drop l.row-index l.rows) vs ≡ has_row l.rows vs

abbrev pub invariant-aggregate-loop-number : goal.invariant-aggregate-loop-number
invariant-aggregate-loop-number l =
    let V = values_after l.m l.others (λ a. truth_of l.m (formula_view l.formula) (env_view l.env ++ a))
    (λ a. as_number (value_of l.m (term_view l.weight) (env_view l.env ++ a))) in
    let all = assignments l.m l.block.bounds.now in
    (fold (combined l.kind) (total_view l.total) (flat_map V (drop l.number all)) ≡ fold (combined l.kind)
    (total_view l.fn.before) (flat_map V all))
    × FoldFits l.kind (total_view l.total) (flat_map V (drop l.number all))

abbrev pub decreases-aggregate : goal.decreases-aggregate
decreases-aggregate l = 2 ^ 65 * max (goal.size-aggregate l) (size-Term l.weight.now) + length l.bounds.now + 1

abbrev pub decreases-term_value : goal.decreases-term_value
decreases-term_value l = 2 ^ 65 * goal.size-term_value l

abbrev pub decreases-sum : goal.decreases-sum
decreases-sum l = 2 ^ 65 * goal.size-sum l

abbrev pub decreases-strip : goal.decreases-strip
decreases-strip l = 2 ^ 65 * goal.size-strip l + 1

abbrev pub decreases-application : goal.decreases-application
decreases-application l = 2 ^ 65 * goal.size-application l + 2

abbrev pub decreases-is_in : goal.decreases-is_in
decreases-is_in l = 2 ^ 65 * goal.size-is_in l + 2

abbrev pub invariant-is_any-loop-number : goal.invariant-is_any-loop-number
invariant-is_any-loop-number l =
    let P = any_after l.m l.others (λ a. truth_of l.m (formula_view l.formula) (env_view l.env ++ a)) in
    list_any P (drop l.number (assignments l.m l.block.bounds.now)) ≡ list_any P (assignments l.m l.block.bounds.now)

abbrev pub decreases-is_any : goal.decreases-is_any
decreases-is_any l = 2 ^ 65 * goal.size-is_any l + length l.bounds.now + 1

abbrev pub decreases-product : goal.decreases-product
decreases-product l = 2 ^ 65 * goal.size-product l + 1

abbrev pub invariant-is_true-or : goal.invariant-is_true-or
invariant-is_true-or l =
    let left = formulas_of (map formula_view (drop l.disjunct-index l.disjunct-items)) in
    (any_true l.m left (env_view l.env) ≡ any_true l.m (formulas_of (map formula_view l.disjunct-items))
    (env_view l.env))
    × AllFit l.m left (env_view l.env)

abbrev pub invariant-product-loop-factor : goal.invariant-product-loop-factor
invariant-product-loop-factor l =
    let left = values_of l.m (terms_of (map term_view (drop l.factor-index l.factors))) (env_view l.env) in
    (product_from l.total left ≡ product_from (pos 1) (values_of l.m (terms_of (map term_view l.factors))
    (env_view l.env)))
    × ProductFits l.total left
    × TermsFit l.m (terms_of (map term_view (drop l.factor-index l.factors))) (env_view l.env)
