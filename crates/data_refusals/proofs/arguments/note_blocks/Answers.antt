use Rattle.std.proofs.Common.{◌≤◌, ◌∙◌, drop, fold, length, map, sym, ap}
use Rattle.std.specs.List.{flat_map}
use Rattle.stage_definitions.specs.DataStage as stage
use Rattle.type_derivation.specs.TypedViews.{named_term_view}
use Rattle.data_refusals.proofs.Noting.{next_block, nothing_right}
use Rattle.data_refusals.proofs.arguments.note_blocks.Goals as goal

pub returns-then-i-places : goal.returns-then-i-places
returns-then-i-places c = λ all es h.
    let kb = c.args.kb.now in
    let i = c.loop-i.i in
    let past : length kb.places.block_terms ≤ i = rw (← c.as_slice-places.ensures) c.if-i-places.true in
    ap (λ zs. fold (stage.data_noted all es) c.loop-i.earliest.first
    (map stage.argument (flat_map (stage.arguments_of_block kb.vocab.symbols) zs)))
    (sym (nothing_right (map named_term_view (drop i kb.terms)) kb.places.block_terms i past))
    ∙ c.loop-i.invariant all es h

pub loop-i-preserved : goal.loop-i-preserved
loop-i-preserved c = λ all es h.
    let kb = c.args.kb.now in
    let noted = c.in_ok-note_block.ensures all es h ∙ ap (λ ss. fold (stage.data_noted all es) c.loop-i.earliest.first
    (map stage.argument (stage.arguments_of_block ss (
      named_term_view c.index-blocks-i.result,
      c.as_slice.result.now,
    )))) c.as_slice-symbols.ensures
    ∙ ap (λ ps. fold (stage.data_noted all es) c.loop-i.earliest.first
    (map stage.argument (stage.arguments_of_block kb.vocab.symbols (named_term_view c.index-blocks-i.result, ps))))
    c.as_slice.ensures in
    next_block (stage.data_noted all es) named_term_view (stage.arguments_of_block kb.vocab.symbols) kb.terms
    kb.places.block_terms c.loop-i.i c.index-blocks-i.result c.index-places-i.result c.loop-i.earliest.first _ _
    (rw (← c.as_slice-blocks.ensures) c.loop-i-test.true) (rw (← c.as_slice-places.ensures) c.if-i-places.false)
    (rw (← c.as_slice-blocks.ensures) c.index-blocks-i.is) (rw (← c.as_slice-places.ensures) c.index-places-i.is)
    noted (c.loop-i.invariant all es h)
