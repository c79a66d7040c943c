use Rattle.std.proofs.Common.{◌≡◌, ◌∙◌, ℕ, List, Option, ap, fold, map, sym}
use Rattle.stage_definitions.specs.FileView.{declaration_in}
use Rattle.stage_definitions.specs.Names.{place_of_name}
use Rattle.stage_definitions.specs.NamesStage.{name_noted}
use Rattle.stage_definitions.specs.Uses.{climbing_uses, type_names}
use Rattle.formula_names.specs.Meanings.{names_in}
use Rattle.stage_definitions.proofs.Climbs.{type_places-is}
use Rattle.kb_names.proofs.files.climbed_types.Goals as goal

pub returns-clause-noted : goal.returns-clause-noted
returns-clause-noted c =
    let same : map place_of_name (type_names (map declaration_in c.args.declarations.now)) ≡ c.as_slice-2.result.now =
    type_places-is (map declaration_in c.args.declarations.now) ∙ sym (c.as_slice-2.ensures ∙ c.in_ok-places.ensures) in
    c.note_cycles.ensures (names_in c.args.table.now) (type_names (map declaration_in c.args.declarations.now)) same
    ∙ ap (λ (ps : List (Option ℕ)). fold (name_noted (names_in c.args.table.now)) c.args.earliest.now.first
    (climbing_uses ps 0 (type_names (map declaration_in c.args.declarations.now))))
    (c.as_slice.ensures ∙ c.in_ok-parents.ensures)
