use Rattle.std.proofs.Common.{◌≡◌, ◌≤◌, ◌*◌, length, drop}
use Rattle.kb_logic.specs.Structures.{tuples_of}
use Rattle.term_values.specs.VariableTables.{capped}
use Rattle.term_values.proofs.counts.count_tuples.Given as goal

abbrev pub invariant-loop-ty : goal.invariant-loop-ty
invariant-loop-ty l = record {
  same : capped (l.count * length (tuples_of l.domains (drop l.ty-index l.types)))
      ≡ capped (length (tuples_of l.domains l.types));
  fits : l.count ≤ 18446744073709551615;
}
