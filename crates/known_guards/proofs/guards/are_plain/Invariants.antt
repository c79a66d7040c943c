use Rattle.std.proofs.Common.{map, drop}
use Rattle.kb_logic.specs.Trees.{terms_of}
use Rattle.kb_logic.specs.Views.{term_view}
use Rattle.known_guards.specs.Guards.{ArePlain}
use Rattle.known_guards.proofs.guards.are_plain.Given as goal

-- where those that are left are plain, all are
abbrev pub invariant-loop-term : goal.invariant-loop-term
invariant-loop-term l =
    ArePlain (terms_of (map term_view (drop l.term-index l.terms))) → ArePlain (terms_of (map term_view l.terms))
