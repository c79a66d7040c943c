use Rattle.std.proofs.Common.{◌≡◌, take}
use Rattle.lit_core.specs.Literals.{valuation}
use Rattle.kb_logic.specs.Structures.{tuples_of}
use Rattle.atom_numbers.specs.Tables.{true_rows}
use Rattle.atom_numbers.proofs.tables.predicate_rows.Given as goal

abbrev pub invariant-loop-place : goal.invariant-loop-place
invariant-loop-place l = l.rows.items ≡ true_rows (valuation l.values) l.first (take l.place (tuples_of l.domains
    l.types))
