use Rattle.std.proofs.Common.{◌≡◌, take}
use Rattle.kb_text.specs.Tokens.{decimal}
use Rattle.consult_text.proofs.digits.digits_value.Given as goal

abbrev pub invariant-loop-digit : goal.invariant-loop-digit
invariant-loop-digit l = l.value ≡ decimal (take l.digit-index l.digits)
