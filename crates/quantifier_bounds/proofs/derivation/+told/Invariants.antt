use Rattle.std.proofs.Common.{◌≡◌, ◌+◌, ◌*◌, drop, fold, length}
use Rattle.kb_logic.specs.Structures.{choices}
use Rattle.kb_logic.specs.Views.{rule_view}
use Rattle.partial_structures.specs.KnownAtoms.{atom_of}
use Rattle.plain_evaluation.specs.Environments.{env_view}
use Rattle.plain_evaluation.proofs.Folds.{after_front}
use Rattle.quantifier_bounds.proofs.Fixed.{Says}
use Rattle.quantifier_bounds.proofs.derivation.+told.Given as goal

-- the instances that are left to look at
abbrev pub invariant-each_told-loop-number : goal.invariant-each_told-loop-number
invariant-each_told-loop-number l =
    let F = after_front (Says l.known (rule_view l.asked.rule.now) (atom_of l.asked.atom.now) (env_view l.env))
    (choices l.known.domains l.others) in
    let cs = choices l.known.domains l.block.bounds.now in
    fold F l.told (drop l.number cs) ≡ fold F l.fn.before cs

abbrev pub decreases-each_told : goal.decreases-each_told
decreases-each_told l = 2 * length l.bounds.now

abbrev pub decreases-instances : goal.decreases-instances
decreases-instances l = 2 * length l.bounds.now + 1
