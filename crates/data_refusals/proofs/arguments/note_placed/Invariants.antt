use Rattle.std.proofs.Common.{◌≡◌, List, drop, fold, map}
use Rattle.kb_logic.specs.declared.vocabularies.TypeDecl.{TypeDecl}
use Rattle.stage_definitions.specs.DataEntries.{Said}
use Rattle.stage_definitions.specs.DataStage as stage
use Rattle.stage_definitions.specs.IntegerArguments.{arguments_at}
use Rattle.data_refusals.specs.PlacedViews.{placed_views}
use Rattle.data_domains.specs.TypeSets.{AreTypesOf}
use Rattle.data_refusals.proofs.arguments.note_placed.Given as goal

abbrev pub invariant-loop-i : goal.invariant-loop-i
invariant-loop-i l = (all : List TypeDecl) (es : List Said) → AreTypesOf all es l.types
    → fold (stage.data_noted all es) l.earliest.first (map stage.argument
    (arguments_at (drop l.i l.places) (placed_views (drop l.i l.found))))
    ≡ fold (stage.data_noted all es) l.fn.earliest.first (map stage.argument
    (arguments_at l.places (placed_views l.found)))
