use Rattle.std.proofs.Common.{◌≡◌, ◌++◌, ◌||◌, true, false, not, drop}
use Rattle.std.specs.Prelude.{filter}
use Rattle.std.specs.List.{list_any}
use Rattle.tightened_entries.specs.LastBounds.{is_over, is_over_with}
use Rattle.tightened_entries.proofs.literals.sift.Given as goal

-- what the rest gives after that is what all give
abbrev pub invariant-loop-lit : goal.invariant-loop-lit
invariant-loop-lit l = record {
  list : l.list ++ filter (λ x. not (is_over l.fn.selectors.list.items x)) (drop l.lit-index l.lits)
      ≡ l.initial.list ++ filter (λ x. not (is_over l.fn.selectors.list.items x)) l.lits;
  positive : (l.signs.positive || list_any (is_over_with l.fn.selectors.list.items true) (drop l.lit-index l.lits))
      ≡ list_any (is_over_with l.fn.selectors.list.items true) l.lits;
  negative : (l.signs.negative || list_any (is_over_with l.fn.selectors.list.items false) (drop l.lit-index l.lits))
      ≡ list_any (is_over_with l.fn.selectors.list.items false) l.lits;
}
