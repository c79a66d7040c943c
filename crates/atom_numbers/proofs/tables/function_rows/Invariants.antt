use Rattle.std.proofs.Common.{◌≡◌, ◌+◌, ◌*◌, take, length}
use Rattle.lit_core.specs.Literals.{valuation}
use Rattle.atom_numbers.specs.Tables.{valued_rows}
use Rattle.atom_numbers.proofs.tables.function_rows.Given as goal

abbrev pub invariant-loop-tuple : goal.invariant-loop-tuple
invariant-loop-tuple l = (l.rows.items ≡ valued_rows (valuation l.values) l.first l.domain
    (take l.tuple-index l.tuples)) × (l.var ≡ l.first + l.tuple-index * length l.domain)
