use Rattle.std.proofs.Common.{◌≡◌, ◌+◌, [], ◌∷◌, arith, length, map}
use Rattle.std.proofs.lemmas.Grind.{common_steps}
use Rattle.stage_definitions.specs.FileView.{element_name}
use Rattle.stage_definitions.specs.NamesStage.{name_noted}
use Rattle.stage_definitions.specs.Uses.{counted}
use Rattle.grammar.specs.View.{name_view}
use Rattle.formula_names.proofs.ChainEnds.{always_on_ok}
use Rattle.formula_names.proofs.PerDeclaration.{type_noted}
use Rattle.kb_names.proofs.vocabularies.constructed_type.Goals as goal

pub returns-clause-noted : goal.returns-clause-noted
returns-clause-noted c =
    let elements : length c.as_slice.result.now + 1 ≡ length (name_view c.args.raw.now.first ∷ map element_name
    c.args.raw.now.more) = grind (arith, common_steps) in
    always_on_ok c.push.result _
    (λ names.
    let first : c.note_next.new.earliest.first ≡ name_noted names c.args.earliest.now.first
    (counted 256 (length c.args.types.now + 1) (name_view c.args.raw.now.name)) =
    rw c.len.ensures at (c.note_next.ensures names) in
    let second : c.note_next-2.new.earliest.first ≡ name_noted names c.note_next.new.earliest.first
    (counted 65536 (length (name_view c.args.raw.now.first ∷ map element_name c.args.raw.now.more))
    (name_view c.args.raw.now.name)) =
    rw elements at (c.note_next-2.ensures names) in
    type_noted (name_noted names) c.args.earliest.now.first c.note_next.new.earliest.first
    c.note_next-2.new.earliest.first
    (counted 256 (length c.args.types.now + 1) (name_view c.args.raw.now.name))
    (counted 65536 (length (name_view c.args.raw.now.first ∷ map element_name c.args.raw.now.more))
    (name_view c.args.raw.now.name) ∷ []) first second)
