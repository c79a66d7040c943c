use Rattle.std.proofs.Common.{List, map, sym, subst, ap, ◌∙◌}
use Rattle.kb_logic.specs.Bases.{Base}
use Rattle.kb_logic.specs.Trees.{TermTree, TheoryTree}
use Rattle.kb_logic.specs.Views.{theory_view}
use Rattle.kb_logic.specs.declared.syntax.Term.{Term}
use Rattle.stage_definitions.specs.FileBases.{base_of_file, theory_at}
use Rattle.stage_definitions.specs.SizesStage.{capped}
use Rattle.stage_definitions.specs.TypedFiles.{TypedTermTree}
use Rattle.type_derivation.specs.declared.typed.Named.{Named}
use Rattle.type_derivation.specs.TypedViews.{named_term_view, typed_view}
use Rattle.open_sizes.specs.Fits.{WeighingFits}
use Rattle.open_sizes.specs.OpenWeights.{open_weight_of, terms_in}
use Rattle.narrowed_bases.proofs.Weights.{terms-are}
use Rattle.narrowed_bases.proofs.theories.open_weight_at.Goals as goal

abbrev terms : List (Named Term) → List TermTree
terms ts = map (λ (t : TypedTermTree). t.term) (map named_term_view ts)

pub open_weight-requires-clause-fits : goal.open_weight-requires-clause-fits
open_weight-requires-clause-fits c =
    let kb = c.args.kb.now in
    let these = ap terms c.as_slice.ensures ∙ terms-are (map named_term_view kb.terms) in
    subst (λ (t : TheoryTree). WeighingFits c.args.known.now t (terms c.as_slice.result.now)) (sym c.theory_of.ensures)
    (subst (λ (ts : List TermTree). WeighingFits c.args.known.now (theory_at (typed_view kb) c.args.theory) ts)
    (sym these) c.requires.fits)

pub returns : goal.returns
returns c =
    let kb = c.args.kb.now in
    let k = c.args.known.now in
    let these = terms c.as_slice.result.now in
    c.open_weight.ensures
    ∙ ap capped
    (ap (λ (t : TheoryTree). open_weight_of kb.vocab k t these) c.theory_of.ensures
    ∙ ap (λ (ts : List TermTree). open_weight_of kb.vocab k (theory_at (typed_view kb) c.args.theory) ts)
    (ap terms c.as_slice.ensures ∙ terms-are (map named_term_view kb.terms)))
