use Rattle.std.proofs.Common.{◌∙◌, fold, sym, ap}
use Rattle.std.specs.Prelude.{zip}
use Rattle.stage_definitions.specs.SizesStage.{size_noted, uses_of_theory}
use Rattle.type_derivation.specs.TypedViews.{named_theory_view}
use Rattle.size_stage.specs.Notes.{theory_bounds, wide_noted}
use Rattle.size_stage.proofs.Noting.{no_first, no_second, one_chosen, terms_noted}
use Rattle.size_stage.proofs.notes.note_theory.Goals as goal

pub returns-in_default : goal.returns-in_default
returns-in_default c =
    let kb = c.args.kb.now in
    no_first named_theory_view (uses_of_theory kb.vocab c.args.domains.now) kb.theories kb.places.theory_terms
    c.args.theory c.args.earliest.now.first (sym c.in_default.ensures.value)

pub returns-in_default-get : goal.returns-in_default-get
returns-in_default-get c =
    let kb = c.args.kb.now in
    no_second named_theory_view (uses_of_theory kb.vocab c.args.domains.now) kb.theories kb.places.theory_terms
    c.args.theory c.args.earliest.now.first (sym c.in_default-get.ensures.value)

pub returns : goal.returns
returns c =
    let kb = c.args.kb.now in
    let o = c.args.earliest.now.first in
    let uses = uses_of_theory kb.vocab c.args.domains.now in
    let named = c.in-Some.named.now in
    let places = c.in-Some-get.places.now in
    let chosen = one_chosen named_theory_view uses kb.theories kb.places.theory_terms c.args.theory o named places
    (sym c.in-Some.ensures.value) (sym c.in-Some-get.ensures.value) in
    let bounds = theory_bounds kb.vocab c.args.domains.now (named_theory_view named).theory in
    let ps = c.as_slice.result.now in
    let wide = c.deref.ensures.value ∙ c.in_ok-wide.ensures in
    let seen = ap (λ qs. fold size_noted o (uses (named_theory_view named, qs))) c.as_slice.ensures in
    c.note_terms.ensures ∙ ap (λ ws. fold wide_noted o (zip ps ws)) wide ∙ terms_noted o ps bounds ∙ seen ∙ chosen
