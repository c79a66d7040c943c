use Rattle.std.proofs.Common.{All, take}
use Rattle.kb_logic.specs.Structures.{EachWith}
use Rattle.atom_numbers.specs.Numbers.{HasNumber}
use Rattle.derivation_log.specs.Texts.{IsLiteral}
use Rattle.derived_claims.proofs.literals.lits_of.Given as goal

abbrev pub invariant-loop-choice : goal.invariant-loop-choice
invariant-loop-choice l = record {
  each : EachWith (HasNumber l.numbers) (take l.choice-index l.choices) l.lits.items;
  written : All IsLiteral l.lits.items;
}
