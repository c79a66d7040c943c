use Rattle.std.proofs.Common.{◌≡◌, length, take}
use Rattle.kb_logic.specs.Structures.{choices}
use Rattle.plain_evaluation.proofs.environments.countable.Given as goal

abbrev pub invariant-loop-len : goal.invariant-loop-len
invariant-loop-len l = (l.count ≡ length (choices l.domains (take l.len l.bounds))) × (l.len ≡ 0 → l.count ≡ 1)
