use Rattle.std.proofs.Common.{◌≡◌, ◌≤◌, take}
use Rattle.kb_text.specs.Tokens.{decimal}
use Rattle.consult_text.proofs.digits.number_up_to.Given as goal

abbrev pub invariant-loop-digit : goal.invariant-loop-digit
invariant-loop-digit l =
    record { value : l.value ≡ decimal (take l.digit-index l.digits); most : l.value ≤ l.limit }
