use Rattle.std.proofs.Common.{◌≡◌, ◌∙◌, map, nat_lt, sym, ap}
use Rattle.kb_text.specs.declared.fault.K.TheVariants as k
use Rattle.kb_logic.specs.Views.{theory_view}
use Rattle.kb_logic.specs.Weights.{weight_of}
use Rattle.stage_definitions.specs.Earliest.{noted_if}
use Rattle.stage_definitions.specs.SizesStage.{capped, weight_in, weight_uses}
use Rattle.type_derivation.specs.TypedViews.{named_term_view, named_theory_view, typed_view}
use Rattle.size_stage.proofs.Noting.{below_weight, no_first, no_second, one_chosen}
use Rattle.size_stage.proofs.notes.note_weight.Goals as goal

pub returns-in_default : goal.returns-in_default
returns-in_default c =
    let kb = c.args.kb.now in
    no_first named_theory_view (weight_uses (typed_view kb) c.args.domains.now) kb.theories kb.places.theories
    c.args.theory c.args.earliest.now.first (sym c.in_default.ensures.value)

pub returns-in_default-get : goal.returns-in_default-get
returns-in_default-get c =
    let kb = c.args.kb.now in
    no_second named_theory_view (weight_uses (typed_view kb) c.args.domains.now) kb.theories kb.places.theories
    c.args.theory c.args.earliest.now.first (sym c.in_default-get.ensures.value)

pub returns : goal.returns
returns c =
    let kb = c.args.kb.now in
    let d = c.args.domains.now in
    let o = c.args.earliest.now.first in
    let named = c.in-Some.named.now in
    let place = c.in-Some-get.place.now in
    let w = weight_in (typed_view kb) d (named_theory_view named) in
    let weight : c.weight-weight.result ≡ capped w = c.weight-weight.ensures
    ∙ ap (λ ts. capped (weight_of kb.vocab d (theory_view named.value)
    (map (λ t. t.term) (map named_term_view ts)))) c.as_slice.ensures in
    let heavy : nat_lt 64000000 c.weight-weight.result ≡ nat_lt 64000000 w = ap (nat_lt 64000000) weight
    ∙ below_weight w in
    let chosen = one_chosen named_theory_view (weight_uses (typed_view kb) d) kb.theories kb.places.theories
    c.args.theory o named place (sym c.in-Some.ensures.value) (sym c.in-Some-get.ensures.value) in
    c.note_if.ensures ∙ ap (λ b. noted_if b k.TooLarge place o) heavy ∙ chosen
