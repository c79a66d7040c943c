use Rattle.std.proofs.Common.{◌∙◌, ap}
use Rattle.std.proofs.lemmas.Result.{IfOk-weaker}
use Rattle.stage_definitions.specs.SizesStage.{capped}
use Rattle.size_stage.specs.Counted.{count_in}
use Rattle.heaviest_parts.proofs.Counts.{counted_listed}
use Rattle.heaviest_parts.proofs.counting.count_of.Goals as goal

pub returns : goal.returns
returns c =
    let x = c.args.of.now in
    IfOk-weaker c.exact.result _ _ (λ n h. h (count_in x) (c.count.ensures c.requires.cells c.requires.elements
    ∙ ap capped (counted_listed x c.requires))) c.exact.ensures
