use Rattle.std.proofs.Common.{◌≡◌, take}
use Rattle.kb_text.specs.Tokens.{decimal}
use Rattle.token_reader.proofs.items.number.Given as goal

abbrev pub invariant-loop-b : goal.invariant-loop-b
invariant-loop-b l = l.n ≡ decimal (take l.b-index l.digits)
