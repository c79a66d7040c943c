use Rattle.std.proofs.Common.{◌≡◌, take}
use Rattle.claimed_replies.proofs.ClaimLemmas.{AreForcedTexts}
use Rattle.claimed_replies.proofs.claims.of_forced.Given as goal

abbrev pub invariant-loop-literal : goal.invariant-loop-literal
invariant-loop-literal g l = record {
  lits : l.lits.items ≡ l.initial.lits.items;
  so_far : AreForcedTexts l.task.numbers l.initial.lits.items (take l.literal-index l.literals) l.bytes.items;
}
