use Rattle.std.proofs.Common.{◌≡◌, map, drop}
use Rattle.kb_logic.specs.Trees.{terms_of, summands_of}
use Rattle.kb_logic.specs.Views.{signed_view, term_view}
use Rattle.def_ground.specs.Counting.{have_aggregates, sum_has_aggregate}
use Rattle.ground_walk.proofs.counting.+aggregates.Given as goal

-- the terms so far have none
abbrev pub invariant-have_aggregates-loop-term : goal.invariant-have_aggregates-loop-term
invariant-have_aggregates-loop-term l =
    have_aggregates (terms_of (map term_view (drop l.term-index l.terms)))
    ≡ have_aggregates (terms_of (map term_view l.terms))

-- the operands so far have none
abbrev pub invariant-sum_has_aggregate-loop-part : goal.invariant-sum_has_aggregate-loop-part
invariant-sum_has_aggregate-loop-part l =
    sum_has_aggregate (summands_of (map signed_view (drop l.part-index l.parts)))
    ≡ sum_has_aggregate (summands_of (map signed_view l.parts))
