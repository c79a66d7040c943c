use Rattle.std.proofs.Common.{◌≡◌, map, take}
use Rattle.stage_definitions.specs.FileViews as named_view
use Rattle.type_derivation.proofs.files.first_words.Given as goal

abbrev pub invariant-loop-theory : goal.invariant-loop-theory
invariant-loop-theory l = l.places.items ≡ map (λ t. t.place)
    (map named_view.theory_view (take l.theory-index l.theories))
