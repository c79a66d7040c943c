use Rattle.kb_logic.specs.declared.elements.Elem.{Elem}
use Rattle.plain_evaluation.specs.Environments.{env_view}
use Rattle.kb_logic.specs.Meaning.{product_from}
use Rattle.kb_logic.specs.Arithmetic.{ProductFits}
use Rattle.kb_logic.specs.Denotations.{as_number}
use Rattle.kb_logic.specs.Structures.{choices}
use Rattle.kb_logic.specs.Trees.{formulas_of, summands_of, terms_of}
use Rattle.kb_logic.specs.Views.{formula_view, signed_view, term_view}
use Rattle.kb_logic.specs.declared.syntax.Term.{size-Term}
use Rattle.kb_logic.proofs.Assignments.{joined as in_front}
use Rattle.kb_logic.proofs.Pairs.{pairs}
use Rattle.std.proofs.Common.{List, ◌≡◌, ◌+◌, ◌*◌, ◌^◌, max, map, drop, fold, length, ◌++◌, pos, neg_ℤ, ◌≤ℤ◌, IfSome}
use Rattle.std.specs.Option.{option_map}
use Rattle.certain_truth.specs.Certainty.{known_value, known_values, known_sum, certain_truth}
use Rattle.certain_truth.specs.KnownArithmetic.{gathered, GatheredFits, OperandsFit, ValuesFit, PartsFit, known_front}
use Rattle.certain_truth.specs.Evaluation.{joined, tallied, total_of, parts_of, sum_with, product_with}
use Rattle.partial_structures.specs.Known.{known_in, place_view, stepped, spot_of}
use Rattle.plain_evaluation.proofs.Folds.{after_front}
use Rattle.certain_truth.proofs.certainty.+certain.Given as goal

abbrev pub invariant-sum-loop-i : goal.invariant-sum-loop-i
invariant-sum-loop-i l =
    let left = summands_of (map signed_view (drop l.i l.parts)) in
    (option_map (sum_with l.total) (known_sum (known_in l.s) left (env_view l.env)) ≡ known_sum (known_in l.s)
    (summands_of (map signed_view l.parts)) (env_view l.env))
    × OperandsFit (known_in l.s) left (env_view l.env)
    × IfSome l.total (λ z. neg_ℤ (pos (2 ^ 63 * l.i)) ≤ℤ z)
    × IfSome l.total (λ z. z ≤ℤ pos (2 ^ 63 * l.i))

abbrev pub invariant-product-loop-factor : goal.invariant-product-loop-factor
invariant-product-loop-factor l =
    let left = terms_of (map term_view (drop l.factor-index l.factors)) in
    (option_map (product_with l.total) (known_values (known_in l.s) left (env_view l.env)) ≡ option_map
    (product_from (pos 1)) (known_values (known_in l.s) (terms_of (map term_view l.factors)) (env_view l.env)))
    × IfSome l.total (λ z. ProductFits z (known_front (known_in l.s) left (env_view l.env)))
    × ValuesFit (known_in l.s) left (env_view l.env)

abbrev pub invariant-place-loop-arg : goal.invariant-place-loop-arg
invariant-place-loop-arg l =
    let left = terms_of (map term_view (drop l.arg-index l.args)) in
    (option_map (fold (stepped l.s) (place_view l.place)) (known_values (known_in l.s) left (env_view l.env))
    ≡ option_map (spot_of l.s l.symbol) (known_values (known_in l.s) (terms_of (map term_view l.args))
    (env_view l.env)))
    × ValuesFit (known_in l.s) left (env_view l.env)

abbrev pub invariant-parts-loop-formula : goal.invariant-parts-loop-formula
invariant-parts-loop-formula l =
    let left = formulas_of (map formula_view (drop l.formula-index l.formulas)) in
    (joined l.all l.so_far (parts_of l.all (known_in l.s) left (env_view l.env)) ≡ parts_of l.all (known_in l.s)
    (formulas_of (map formula_view l.formulas)) (env_view l.env))
    × PartsFit (known_in l.s) left (env_view l.env)

abbrev pub invariant-quantified-loop-number : goal.invariant-quantified-loop-number
invariant-quantified-loop-number l =
    let F = after_front (λ t a. joined l.all t (certain_truth (known_in l.s) (formula_view l.formula)
    (env_view l.env ++ a))) (choices l.s.domains.now l.others) in
    let cs = choices l.s.domains.now l.block.bounds.now in
    fold F l.so_far (drop l.number cs) ≡ fold F l.fn.before cs

abbrev pub invariant-count-loop-number : goal.invariant-count-loop-number
invariant-count-loop-number l =
    let F = after_front (λ n a. tallied n (certain_truth (known_in l.s) (formula_view l.formula) (env_view l.env ++ a)))
    (choices l.s.domains.now l.others) in
    let cs = choices l.s.domains.now l.block.bounds.now in
    fold F l.total (drop l.number cs) ≡ fold F l.fn.before cs

abbrev pub invariant-aggregate-loop-number : goal.invariant-aggregate-loop-number
invariant-aggregate-loop-number l =
    let P = λ (a : List Elem). certain_truth (known_in l.s) (formula_view l.formula) (env_view l.env ++ a) in
    let V = λ (a : List Elem). option_map as_number (known_value (known_in l.s) (term_view l.weight)
    (env_view l.env ++ a)) in
    let F = after_front (λ d a. gathered l.kind d (P a) (V a)) (choices l.s.domains.now l.others) in
    let cs = choices l.s.domains.now l.block.bounds.now in
    (fold F (total_of l.total) (drop l.number cs) ≡ fold F (total_of l.fn.before) cs)
    × GatheredFits l.kind P V (total_of l.total) (pairs in_front (choices l.s.domains.now l.others) (drop l.number cs))

abbrev pub decreases-known : goal.decreases-known
decreases-known l = 2 ^ 65 * goal.size-known l

abbrev pub decreases-sum : goal.decreases-sum
decreases-sum l = 2 ^ 65 * goal.size-sum l

abbrev pub decreases-product : goal.decreases-product
decreases-product l = 2 ^ 65 * goal.size-product l + 1

abbrev pub decreases-place : goal.decreases-place
decreases-place l = 2 ^ 65 * goal.size-place l + 1

abbrev pub decreases-side : goal.decreases-side
decreases-side l = 2 ^ 65 * goal.size-side l + 2

abbrev pub decreases-certain : goal.decreases-certain
decreases-certain l = 2 ^ 65 * goal.size-certain l

abbrev pub decreases-parts : goal.decreases-parts
decreases-parts l = 2 ^ 65 * goal.size-parts l + 1

abbrev pub decreases-quantified : goal.decreases-quantified
decreases-quantified l = 2 ^ 65 * goal.size-quantified l + length l.bounds.now + 1

abbrev pub decreases-count : goal.decreases-count
decreases-count l = 2 ^ 65 * goal.size-count l + length l.bounds.now + 1

abbrev pub decreases-aggregate : goal.decreases-aggregate
decreases-aggregate l = 2 ^ 65 * max (goal.size-aggregate l) (size-Term l.weight.now) + length l.bounds.now + 1
