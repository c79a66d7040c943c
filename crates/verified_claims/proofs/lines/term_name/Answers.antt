use Rattle.std.proofs.Common.{◌∙◌, length, Some, None, refl, sym}
use Rattle.std.proofs.lemmas.Option.{slice_get_past, slice_get_read}
use Rattle.verified_claims.proofs.LineFacts.{block-name}
use Rattle.verified_claims.proofs.lines.term_name.Goals as goal

pub returns-in-Some : goal.returns-in-Some
returns-in-Some c =
    let found = c.in-Some.ensures.lookup in
    c.text.ensures
    ∙ sym (block-name c.args.blocks.now c.args.number (Some c.in-Some.block.now)
    (slice_get_read c.args.blocks.now (length c.args.blocks.now) c.args.number c.in-Some.block.now refl found.3.0
    found.1))

pub returns-in-None : goal.returns-in-None
returns-in-None c =
    sym (block-name c.args.blocks.now c.args.number None
    (slice_get_past c.args.blocks.now c.args.number c.in-None.ensures.lookup.3))
