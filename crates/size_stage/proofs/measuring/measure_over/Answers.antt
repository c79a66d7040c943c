use Rattle.std.proofs.Common.{◌≡◌, ◌∙◌, None, fold, sym}
use Rattle.stage_definitions.specs.SizesStage.{is_size_refused, place_of_size_use, size_causes, size_noted, size_uses}
use Rattle.stage_definitions.proofs.EarliestLaws.{earliest_noted, nothing_noted}
use Rattle.type_derivation.specs.TypedViews.{typed_view}
use Rattle.size_stage.proofs.measuring.measure_over.Goals as goal

pub returns-in-None-clause-ok : goal.returns-in-None-clause-ok
returns-in-None-clause-ok c =
    let us = size_uses (typed_view c.args.kb.now) c.args.theory c.args.domains.now in
    let noted : c.note_all.new.earliest.first ≡ fold size_noted None us =
    rw c.new-earliest.ensures at c.in-Ok.ensures in
    record {
      accepted = nothing_noted is_size_refused place_of_size_use size_causes us (sym noted ∙ c.in-None.is);
      atoms = c.atoms.ensures;
      weight = c.theory_weight.ensures;
    }

pub returns-in-Some-clause-err : goal.returns-in-Some-clause-err
returns-in-Some-clause-err c =
    let us = size_uses (typed_view c.args.kb.now) c.args.theory c.args.domains.now in
    let noted : c.note_all.new.earliest.first ≡ fold size_noted None us =
    rw c.new-earliest.ensures at c.in-Ok.ensures in
    earliest_noted is_size_refused place_of_size_use size_causes us c.in-Some.fault (sym noted ∙ c.in-Some.is)
