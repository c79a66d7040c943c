use Rattle.std.proofs.Common.{◌≡◌, ◌≤◌, filter, length, map, not, take}
use Rattle.grammar.specs.View.{product_tail_view}
use Rattle.stage_definitions.specs.Standings.{is_signed_integer}
use Rattle.formula_names.proofs.standings.others.Given as goal

abbrev pub invariant-loop-tail : goal.invariant-loop-tail
invariant-loop-tail l = (l.count ≤ l.tail-index) × (l.count ≡ length (filter (λ x. not (is_signed_integer x.1))
    (map product_tail_view (take l.tail-index l.factors))))
