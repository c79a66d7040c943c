use Rattle.std.proofs.Common.{◌≡◌, ◌∙◌, List, ap, map}
use Rattle.std.specs.List.{flat_map}
use Rattle.grammar.specs.declared.raw_blocks.RawVocabulary.{RawVocabulary}
use Rattle.stage_definitions.specs.FileView.{declaration_in, term_in, theory_in, vocabulary_in}
use Rattle.stage_definitions.specs.Names.{declared_names, names_of, number_types}
use Rattle.stage_definitions.specs.NamesStage.{declarations_of, name_noted}
use Rattle.stage_definitions.specs.Uses.{climbing_uses, declared_uses, parents_in, type_names, uses_in_block}
use Rattle.stage_definitions.specs.Uses.{uses_in_declarations, uses_in_theory}
use Rattle.formula_names.specs.Meanings.{names_in}
use Rattle.formula_names.proofs.PerDeclaration.{file_noted}
use Rattle.kb_names.proofs.files.named.Goals as goal

pub returns-clause-noted : goal.returns-clause-noted
returns-clause-noted c =
    let given : map declaration_in c.declarations_in-declarations.result.now ≡ declarations_of
    (map vocabulary_in c.args.raw.now.vocabularies) =
    c.declarations_in-declarations.ensures ∙ ap (λ (vs : List RawVocabulary). declarations_of (map vocabulary_in vs))
    c.as_slice-vocabularies.ensures in
    let names : names_in c.in_ok-table.table ≡ names_of (declarations_of
    (map vocabulary_in c.args.raw.now.vocabularies)) = c.in_ok-table.ensures.names ∙ ap names_of given in
    file_noted (name_noted (names_of (declarations_of (map vocabulary_in c.args.raw.now.vocabularies))))
    c.args.earliest.now.first
    c.declared_table.new.earliest.first c.types_and_symbols.new.earliest.first c.climbed_types.new.earliest.first
    c.theories.new.earliest.first c.terms.new.earliest.first
    (declared_uses number_types (declared_names 0 0 (declarations_of (map vocabulary_in c.args.raw.now.vocabularies))))
    (uses_in_declarations 0 0 (declarations_of (map vocabulary_in c.args.raw.now.vocabularies)))
    (climbing_uses (parents_in (names_of (declarations_of (map vocabulary_in c.args.raw.now.vocabularies)))
    (declarations_of (map vocabulary_in c.args.raw.now.vocabularies))) 0
    (type_names (declarations_of (map vocabulary_in c.args.raw.now.vocabularies))))
    (flat_map (uses_in_theory (names_of (declarations_of (map vocabulary_in c.args.raw.now.vocabularies))))
    (map theory_in c.args.raw.now.theories))
    (flat_map uses_in_block (map term_in c.args.raw.now.terms))
    (rw given at (c.in_ok-table.ensures.noted (names_of (declarations_of
    (map vocabulary_in c.args.raw.now.vocabularies)))))
    (rw (names, given) at c.in_ok-declared.ensures.noted)
    (rw (names, given) at c.in_ok-type_places.ensures.noted)
    (rw (names, c.as_slice.ensures) at c.in_ok-theories.ensures.noted)
    (rw (names, c.as_slice-2.ensures) at c.in_ok-terms.ensures.noted)
