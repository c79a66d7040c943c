use Rattle.std.proofs.Common.{◌≡◌, ◌+◌, drop}
use Rattle.std.specs.Option.{option_map}
use Rattle.kb_logic.specs.Values.{value_view}
use Rattle.term_values.specs.DomainIndexes.{elem_index}
use Rattle.row_ranges.proofs.arguments.place_in.Given as goal

-- the value is none of those that were looked at
abbrev pub invariant-loop-place : goal.invariant-loop-place
invariant-loop-place l =
    elem_index l.domain (value_view l.value) ≡ option_map (λ k. l.place + k) (elem_index (drop l.place l.domain)
    (value_view l.value))
