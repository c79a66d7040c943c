use Rattle.std.proofs.Common.{◌≡◌, ◌++◌, drop, map}
use Rattle.stage_definitions.specs.FileView.{declaration_in}
use Rattle.stage_definitions.specs.Uses.{parents_in}
use Rattle.formula_names.specs.Meanings.{names_in}
use Rattle.kb_names.proofs.places.parents_in.Given as goal

abbrev pub invariant-loop-raw : goal.invariant-loop-raw
invariant-loop-raw l =
    l.parents ++ parents_in (names_in l.table) (map declaration_in (drop l.raw-index l.declarations)) ≡ parents_in
    (names_in l.table) (map declaration_in l.declarations)
