use Rattle.std.proofs.Common.{◌≡◌, List, [], Some, map, slice_get, sym, ap, ◌∙◌}
use Rattle.std.specs.List.{AllByRecursion}
use Rattle.kb_logic.specs.Trees.{DefinitionTree, FormulaTree, TermTree}
use Rattle.kb_logic.specs.Views.{definition_view, formula_view, theory_view}
use Rattle.certain_truth.specs.KnownArithmetic.{CertaintyFits, ValueFits}
use Rattle.open_sizes.specs.Fits.{BodyFits}
use Rattle.stage_definitions.specs.TypedFiles.{TypedTermTree}
use Rattle.type_derivation.specs.TypedViews.{named_term_view}
use Rattle.heaviest_parts.proofs.Fits.{by_number, mapped}
use Rattle.heaviest_parts.proofs.open.open_in.Goals as goal

pub open_in_sentence-requires : goal.open_in_sentence-requires
open_in_sentence-requires c =
    let k = c.args.known.now in
    let sentences = c.args.theory.now.sentences in
    by_number (λ (f : FormulaTree). CertaintyFits k f []) (map formula_view sentences) c.in-Sentence.number
    (formula_view c.in-Some.sentence.now) c.requires.sentences
    (mapped formula_view sentences c.in-Sentence.number c.in-Some.sentence.now (sym c.in-Some.ensures))

pub open_in_definition-requires : goal.open_in_definition-requires
open_in_definition-requires c =
    let k = c.args.known.now in
    let definitions = c.args.theory.now.definitions in
    by_number (λ (d : DefinitionTree). AllByRecursion (BodyFits k) d.rules) (map definition_view definitions)
    c.in-Definition.number (definition_view c.in-Some-get.definition.now) c.requires.definitions
    (mapped definition_view definitions c.in-Definition.number c.in-Some-get.definition.now (sym c.in-Some-get.ensures))

pub open_in_asked-requires : goal.open_in_asked-requires
open_in_asked-requires c =
    let k = c.args.known.now in
    let terms = c.args.file.now.kb.terms in
    let term = c.in-Some-get-2.term.now in
    let n = c.in-Term.number in
    by_number (λ (u : TermTree). ValueFits k u []) (map (λ (t : TypedTermTree). t.term) (map named_term_view terms)) n
    (named_term_view term).term c.requires.terms
    (mapped (λ (t : TypedTermTree). t.term) (map named_term_view terms) n (named_term_view term)
    (mapped named_term_view terms n term (sym c.in-Some-get-2.ensures.value)))
