use Rattle.std.proofs.Common.{List, map, ap, ◌∙◌}
use Rattle.kb_logic.specs.declared.elements.Elem.{Elem}
use Rattle.kb_logic.specs.declared.syntax.Term.{Term}
use Rattle.kb_logic.specs.Trees.{TermTree, TheoryTree}
use Rattle.kb_logic.specs.Views.{theory_view}
use Rattle.kb_logic.specs.Weights.{weight_of}
use Rattle.stage_definitions.specs.FileBases.{theory_at}
use Rattle.stage_definitions.specs.SizesStage.{capped}
use Rattle.stage_definitions.specs.TypedFiles.{TypedTermTree}
use Rattle.type_derivation.specs.declared.typed.Named.{Named}
use Rattle.type_derivation.specs.TypedViews.{named_term_view, typed_view}
use Rattle.narrowed_bases.proofs.Weights.{terms-are}
use Rattle.narrowed_bases.proofs.theories.weight_at.Goals as goal

pub returns : goal.returns
returns c =
    let kb = c.args.kb.now in
    let terms = λ (ts : List (Named Term)). map (λ (t : TypedTermTree). t.term) (map named_term_view ts) in
    let these = terms c.as_slice.result.now in
    let domains = c.args.known.now.domains in
    let theory = theory_at (typed_view kb) c.args.theory in
    c.weight.ensures
    ∙ ap capped
    (ap (λ (ds : List (List Elem)). weight_of kb.vocab ds (theory_view c.theory_of.result.now) these)
    c.domains.ensures.domains
    ∙ ap (λ (t : TheoryTree). weight_of kb.vocab domains t these) c.theory_of.ensures
    ∙ ap (λ (ts : List TermTree). weight_of kb.vocab domains theory ts)
    (ap terms c.as_slice.ensures ∙ terms-are (map named_term_view kb.terms)))
