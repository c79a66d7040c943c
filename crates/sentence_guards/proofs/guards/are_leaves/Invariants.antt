use Rattle.std.proofs.Common.{◌≡◌, map, drop}
use Rattle.kb_logic.specs.Trees.{terms_of}
use Rattle.kb_logic.specs.Views.{term_view}
use Rattle.sentence_guards.specs.Guards.{are_leaves}
use Rattle.sentence_guards.proofs.guards.are_leaves.Given as goal

abbrev pub invariant-loop-term : goal.invariant-loop-term
invariant-loop-term l =
    are_leaves (terms_of (map term_view l.terms)) ≡ are_leaves (terms_of (map term_view (drop l.term-index l.terms)))
