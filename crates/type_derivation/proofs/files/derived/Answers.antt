use Rattle.std.proofs.Common.{map}
use Rattle.std.specs.List.{flat_map}
use Rattle.stage_definitions.specs.TypesStage.{type_noted, theory_type_uses, block_type_uses}
use Rattle.stage_definitions.specs.FileViews.{block_view, kb_view, theory_view}
use Rattle.type_derivation.proofs.Listed.{noted_both}
use Rattle.type_derivation.proofs.files.derived.Goals as goal

pub returns-clause-noted : goal.returns-clause-noted
returns-clause-noted c =
    noted_both (type_noted c.args.named.vocab.types) c.args.earliest.now.first c.theories.new.earliest.first
    c.blocks-2.new.earliest.first
    (flat_map (theory_type_uses (kb_view c.args.named)) (map theory_view c.args.named.theories))
    (flat_map (block_type_uses (kb_view c.args.named)) (map block_view c.args.named.terms))
    (rw c.as_slice.ensures at c.in_ok-theories.ensures.noted) (rw c.as_slice-2.ensures at c.in_ok-terms.ensures.noted)
