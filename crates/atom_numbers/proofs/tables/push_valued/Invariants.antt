use Rattle.std.proofs.Common.{◌≡◌, ◌++◌, ◌∷◌, [], map, take}
use Rattle.lit_core.specs.Literals.{valuation}
use Rattle.term_values.specs.GroundBases.{true_values}
use Rattle.atom_numbers.proofs.tables.push_valued.Given as goal

abbrev pub invariant-loop-k : goal.invariant-loop-k
invariant-loop-k l = l.rows.items ≡ l.fn.rows.items ++ map (λ x. l.front ++ x ∷ [])
    (true_values (valuation l.values) l.first (take l.k l.domain))
