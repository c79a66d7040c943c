use Rattle.std.proofs.Common.{◌≡◌, ◌+◌, take, sum_by}
use Rattle.term_values.specs.GroundBases.{atoms_in}
use Rattle.term_values.specs.VariableTables.{first_vars}
use Rattle.term_values.proofs.counts.all_first_vars.Given as goal

abbrev pub invariant-loop-symbol : goal.invariant-loop-symbol
invariant-loop-symbol l = record {
  vars : l.vars.items ≡ first_vars l.domains l.symbols l.symbol-index;
  next : l.next ≡ 1 + sum_by (atoms_in l.domains) (take l.symbol-index l.symbols);
}
