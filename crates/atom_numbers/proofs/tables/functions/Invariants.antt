use Rattle.std.proofs.Common.{◌≡◌}
use Rattle.lit_core.specs.Literals.{valuation}
use Rattle.atom_numbers.specs.Tables.{function_tables}
use Rattle.atom_numbers.proofs.tables.functions.Given as goal

abbrev pub invariant-loop-number : goal.invariant-loop-number
invariant-loop-number l = l.tables.items ≡ function_tables l.domains l.symbols (valuation l.values) l.number
