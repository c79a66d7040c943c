use Rattle.std.proofs.Common.{◌≤◌, ◌∙◌, drop, fold, length, map, sym, ap}
use Rattle.std.specs.Prelude.{flat_map}
use Rattle.stage_definitions.specs.SizesStage.{size_noted, uses_of_block}
use Rattle.type_derivation.specs.TypedViews.{named_term_view}
use Rattle.size_stage.proofs.Noting.{nothing_right}
use Rattle.size_stage.proofs.notes.note_blocks.Goals as goal

pub returns-then-i-places : goal.returns-then-i-places
returns-then-i-places c =
    let kb = c.args.kb.now in
    let i = c.loop-i.i in
    let past : length kb.places.block_terms ≤ i = rw (← c.as_slice-places.ensures) c.if-i-places.true in
    ap (λ zs. fold size_noted c.loop-i.earliest.first (flat_map (uses_of_block kb.vocab c.args.domains.now) zs))
    (sym (nothing_right (map named_term_view (drop i kb.terms)) kb.places.block_terms i past))
    ∙ c.loop-i.invariant
