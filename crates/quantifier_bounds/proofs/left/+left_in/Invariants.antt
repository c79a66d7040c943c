use Rattle.std.proofs.Common.{◌≡◌, drop, fold, ◌++◌, length}
use Rattle.kb_logic.specs.Structures.{choices}
use Rattle.kb_logic.specs.Views.{formula_view}
use Rattle.plain_evaluation.specs.Environments.{env_view}
use Rattle.plain_evaluation.proofs.Folds.{after_front}
use Rattle.certain_truth.specs.Certainty.{certain_truth}
use Rattle.bound_laws.specs.Closures.{opposes}
use Rattle.quantifier_bounds.specs.Walks.{left_with}
use Rattle.quantifier_bounds.proofs.left.+left_in.Given as goal

-- the instances that are left to look at
abbrev pub invariant-loop-number : goal.invariant-loop-number
invariant-loop-number l =
    let F = after_front (λ u a. left_with u (opposes l.v (certain_truth l.known (formula_view l.formula)
    (env_view l.env ++ a)))) (choices l.known.domains l.others) in
    let cs = choices l.known.domains l.block.bounds.now in
    fold F l.left (drop l.number cs) ≡ fold F l.fn.before cs

abbrev pub decreases-left_in : goal.decreases-left_in
decreases-left_in l = length l.bounds.now
