use Rattle.std.proofs.Common.{◌≡◌, ◌∙◌, None, fold, sym}
use Rattle.stage_definitions.specs.TypesStage.{type_noted, type_uses_of_file}
use Rattle.stage_definitions.specs.FileViews.{kb_view}
use Rattle.type_derivation.proofs.TypeRows.{earliest_refused, nothing_refused}
use Rattle.type_derivation.proofs.files.derive.Goals as goal

pub returns-in-None-clause-ok : goal.returns-in-None-clause-ok
returns-in-None-clause-ok c =
    let noted : c.derived.new.earliest.first ≡ fold (type_noted c.args.named.vocab.types) None
    (type_uses_of_file (kb_view c.args.named)) =
    rw c.new-earliest.ensures at c.in-Ok.ensures.noted in
    record {
      accepted = nothing_refused (kb_view c.args.named) (sym noted ∙ c.in-None.is);
      tree = c.in-Ok.ensures.tree;
    }

pub returns-in-Some-clause-err : goal.returns-in-Some-clause-err
returns-in-Some-clause-err c =
    let noted : c.derived.new.earliest.first ≡ fold (type_noted c.args.named.vocab.types) None
    (type_uses_of_file (kb_view c.args.named)) =
    rw c.new-earliest.ensures at c.in-Ok.ensures.noted in
    earliest_refused (kb_view c.args.named) c.in-Some.fault (sym noted ∙ c.in-Some.is)
