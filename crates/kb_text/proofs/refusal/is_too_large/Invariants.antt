use Rattle.std.proofs.Common.{◌≡◌, ◌≤◌, take}
use Rattle.kb_text.specs.Tokens.{decimal}
use Rattle.kb_text.proofs.refusal.is_too_large.Given as goal

abbrev pub invariant-loop-b : goal.invariant-loop-b
invariant-loop-b l = record { value : l.n ≡ decimal (take l.b-index l.digits); small : l.n ≤ 10000000000000000009 }
