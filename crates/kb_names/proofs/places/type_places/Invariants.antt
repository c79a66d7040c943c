use Rattle.std.proofs.Common.{◌≡◌, ◌++◌, drop, map}
use Rattle.stage_definitions.specs.FileView.{declaration_in}
use Rattle.stage_definitions.specs.Numbering.{type_places}
use Rattle.kb_names.proofs.places.type_places.Given as goal

abbrev pub invariant-loop-raw : goal.invariant-loop-raw
invariant-loop-raw l =
    l.places ++ type_places (map declaration_in (drop l.raw-index l.declarations)) ≡ type_places
    (map declaration_in l.declarations)
