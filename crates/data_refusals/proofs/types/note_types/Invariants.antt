use Rattle.std.proofs.Common.{◌≡◌, List, drop, fold, map}
use Rattle.std.specs.Prelude.{zip}
use Rattle.std.specs.List.{enumerate_from}
use Rattle.stage_definitions.specs.DataEntries.{Said}
use Rattle.stage_definitions.specs.DataStage as stage
use Rattle.data_domains.specs.TypeSets.{AreTypesOf}
use Rattle.data_refusals.proofs.types.note_types.Given as goal

abbrev pub invariant-loop-t : goal.invariant-loop-t
invariant-loop-t l = (es : List Said) → AreTypesOf l.decls es l.types
    → fold (stage.data_noted l.decls es) l.earliest.first (map stage.type_use
    (zip (enumerate_from l.t (drop l.t l.decls)) (drop l.t l.places)))
    ≡ fold (stage.data_noted l.decls es) l.fn.earliest.first (stage.uses_of_types l.decls l.places)
