use Rattle.std.proofs.Common.{take}
use Rattle.kb_logic.specs.Structures.{EachWith}
use Rattle.atom_numbers.specs.Numbers.{HasNumber}
use Rattle.verified_claims.proofs.saying.choices_of.Given as goal

abbrev pub invariant-loop-lit : goal.invariant-loop-lit
invariant-loop-lit l = EachWith (HasNumber l.numbers) l.choices (take l.lit-index l.lits)
