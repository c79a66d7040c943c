use Rattle.std.proofs.Common.{◌≡◌, ◌+◌, ◌*◌, ◌^◌, ℕ, false, List, ◌++◌, max, map, drop, fold, length}
use Rattle.kb_logic.specs.declared.elements.Elem.{Elem}
use Rattle.kb_logic.specs.declared.syntax.Term.{size-Term}
use Rattle.kb_logic.specs.Structures.{choices}
use Rattle.kb_logic.specs.Trees.{formulas_of, summands_of, terms_of}
use Rattle.kb_logic.specs.Views.{formula_view, signed_view, term_view}
use Rattle.plain_evaluation.specs.Environments.{env_view}
use Rattle.plain_evaluation.proofs.Folds.{after_front}
use Rattle.stage_definitions.specs.SizesStage.{capped}
use Rattle.partial_structures.specs.declared.truths.Truth.{Truth}
use Rattle.certain_truth.specs.Certainty.{certain_truth}
use Rattle.certain_truth.specs.Evaluation.{joined, parts_of}
use Rattle.certain_truth.specs.KnownArithmetic.{OperandsFit, PartsFit, ValuesFit}
use Rattle.size_stage.proofs.Capping.{Same}
use Rattle.open_sizes.specs.OpenWeights.{open_in_parts, open_in_summands, open_in_term, open_in_terms}
use Rattle.open_sizes.specs.OpenWeights.{open_occurrences}
use Rattle.open_sizes.specs.Weighings.{is_all, is_over}
use Rattle.open_sizes.proofs.occurrences.+occurrences.Given as goal

abbrev pub invariant-formulas-loop-one : goal.invariant-formulas-loop-one
invariant-formulas-loop-one l =
    let v = l.setting.vocabulary.now in
    let k = l.setting.known.now in
    let e = env_view l.env in
    let left = formulas_of (map formula_view (drop l.one-index l.all)) in
    let whole = formulas_of (map formula_view l.all) in
    (joined (is_all l.joining) l.so_far.truth (parts_of (is_all l.joining) k left e)
    ≡ parts_of (is_all l.joining) k whole e)
    × (is_over l.joining l.so_far.truth ≡ false
    → Same (l.so_far.count + open_in_parts v k left e) (1 + open_in_parts v k whole e))
    × (l.so_far.count ≡ capped l.so_far.count) × PartsFit k left e

abbrev pub invariant-terms-loop-one : goal.invariant-terms-loop-one
invariant-terms-loop-one l =
    let v = l.setting.vocabulary.now in
    let k = l.setting.known.now in
    let left = terms_of (map term_view (drop l.one-index l.all)) in
    Same (l.count + open_in_terms v k left (env_view l.env))
    (open_in_terms v k (terms_of (map term_view l.all)) (env_view l.env))
    × (l.count ≡ capped l.count) × ValuesFit k left (env_view l.env)

abbrev pub invariant-summands-loop-part : goal.invariant-summands-loop-part
invariant-summands-loop-part l =
    let v = l.setting.vocabulary.now in
    let k = l.setting.known.now in
    let left = summands_of (map signed_view (drop l.part-index l.parts)) in
    Same (l.count + open_in_summands v k left (env_view l.env))
    (open_in_summands v k (summands_of (map signed_view l.parts)) (env_view l.env))
    × (l.count ≡ capped l.count) × OperandsFit k left (env_view l.env)

abbrev pub invariant-instances-loop-number : goal.invariant-instances-loop-number
invariant-instances-loop-number l =
    let v = l.setting.vocabulary.now in
    let k = l.setting.known.now in
    let rest = choices k.domains l.others in
    let cs = choices k.domains l.block.bounds.now in
    let T = after_front (λ (t : Truth) (a : List Elem). joined (is_all l.joining) t
    (certain_truth k (formula_view l.of) (env_view l.env ++ a))) rest in
    let N = after_front (λ (n : ℕ) (a : List Elem). capped (n + open_occurrences v k (formula_view l.of)
    (env_view l.env ++ a))) rest in
    (fold T l.so_far.truth (drop l.number cs) ≡ fold T l.fn.before.truth cs)
    × (is_over l.joining l.so_far.truth ≡ false
    → fold N l.so_far.count (drop l.number cs) ≡ fold N l.fn.before.count cs)
    × (l.so_far.count ≡ capped l.so_far.count)

abbrev pub invariant-gathered-loop-number : goal.invariant-gathered-loop-number
invariant-gathered-loop-number l =
    let v = l.setting.vocabulary.now in
    let k = l.setting.known.now in
    let F = after_front (λ (n : ℕ) (a : List Elem). capped (n + (open_occurrences v k (formula_view l.condition)
    (env_view l.env ++ a) + open_in_term v k (term_view l.weight) (env_view l.env ++ a)))) (choices k.domains
    l.others) in
    let cs = choices k.domains l.block.bounds.now in
    fold F l.count (drop l.number cs) ≡ fold F l.fn.before cs

abbrev pub decreases-term : goal.decreases-term
decreases-term l = 2 ^ 65 * goal.size-term l

abbrev pub decreases-terms : goal.decreases-terms
decreases-terms l = 2 ^ 65 * goal.size-terms l + 1

abbrev pub decreases-summands : goal.decreases-summands
decreases-summands l = 2 ^ 65 * goal.size-summands l + 1

abbrev pub decreases-gathered : goal.decreases-gathered
decreases-gathered l = 2 ^ 65 * max (goal.size-gathered l) (size-Term l.weight.now) + length l.bounds.now + 1

abbrev pub decreases-formula : goal.decreases-formula
decreases-formula l = 2 ^ 65 * goal.size-formula l

abbrev pub decreases-atom : goal.decreases-atom
decreases-atom l = 2 ^ 65 * goal.size-atom l + 2

abbrev pub decreases-formulas : goal.decreases-formulas
decreases-formulas l = 2 ^ 65 * goal.size-formulas l + 1

abbrev pub decreases-instances : goal.decreases-instances
decreases-instances l = 2 ^ 65 * goal.size-instances l + length l.bounds.now + 1

abbrev pub decreases-numbered : goal.decreases-numbered
decreases-numbered l = 2 ^ 65 * goal.size-numbered l + length l.bounds.now + 2
