use Rattle.std.proofs.Common.{◌≡◌, List, map, fold, drop}
use Rattle.stage_definitions.specs.Names.{Names, place_of_name}
use Rattle.stage_definitions.specs.NamesStage.{name_noted}
use Rattle.grammar.specs.Trees.{Name}
use Rattle.stage_definitions.specs.Uses.{climbing_uses}
use Rattle.kb_names.proofs.cycles.note_cycles.Given as goal

abbrev pub invariant-loop-ty : goal.invariant-loop-ty
invariant-loop-ty l = (names : Names) → (types : List Name) → map place_of_name types ≡ l.places
    → fold (name_noted names) l.earliest.first (climbing_uses l.parents l.ty (drop l.ty types))
    ≡ fold (name_noted names) l.initial.earliest.first (climbing_uses l.parents 0 types)
