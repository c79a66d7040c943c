use Rattle.std.proofs.Common.{◌≡◌, drop, fold, ◌++◌, length}
use Rattle.kb_logic.specs.Structures.{choices}
use Rattle.kb_logic.specs.Views.{formula_view}
use Rattle.plain_evaluation.specs.Environments.{env_view}
use Rattle.plain_evaluation.proofs.Folds.{after_front}
use Rattle.quantifier_bounds.specs.Open.{with_open}
use Rattle.quantifier_bounds.proofs.instances.+push_instances.Given as goal

-- the instances that are left to look at
abbrev pub invariant-loop-number : goal.invariant-loop-number
invariant-loop-number l =
    let k = l.question.known.now in
    let F = after_front (λ rows a. with_open k (formula_view l.question.formula.now) l.question.first rows
    (env_view l.env ++ a)) (choices k.domains l.others) in
    let cs = choices k.domains l.block.bounds.now in
    fold F l.out.items (drop l.number cs) ≡ fold F l.fn.out.items cs

abbrev pub decreases-push_instances : goal.decreases-push_instances
decreases-push_instances l = length l.bounds.now
