use Rattle.std.proofs.Common.{◌∙◌, [], fold, ap}
use Rattle.std.specs.Prelude.{zip}
use Rattle.kb_logic.specs.Views.{term_view}
use Rattle.stage_definitions.specs.Sizes.{term_bounds}
use Rattle.size_stage.specs.Notes.{wide_noted}
use Rattle.size_stage.proofs.Noting.{terms_noted}
use Rattle.size_stage.proofs.notes.note_block.Goals as goal

pub returns : goal.returns
returns c =
    let o = c.args.earliest.now.first in
    let ps = c.args.places.now in
    let bounds = term_bounds c.args.setting.vocab.now c.args.setting.domains.now (term_view c.args.block.now.value) [] in
    c.note_terms.ensures ∙ ap (λ ws. fold wide_noted o (zip ps ws)) (c.deref.ensures.value ∙ c.in_ok-wide.ensures)
    ∙ terms_noted o ps bounds
