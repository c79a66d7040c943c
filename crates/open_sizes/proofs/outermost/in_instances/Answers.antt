use Rattle.std.proofs.Common.{◌≡◌, ◌+◌, refl, ap, ◌∙◌, arith}
use Rattle.std.specs.List.{sum_by}
use Rattle.kb_logic.specs.Structures.{choices}
use Rattle.kb_logic.specs.Views.{formula_view}
use Rattle.stage_definitions.specs.SizesStage.{capped}
use Rattle.open_sizes.specs.OpenWeights.{open_occurrences}
use Rattle.open_sizes.proofs.Walks.{stopped_sum}
use Rattle.open_sizes.proofs.outermost.in_instances.Goals as goal

pub returns : goal.returns
returns c =
    let v = c.args.setting.vocabulary.now in
    let k = c.args.setting.known.now in
    let f = formula_view c.args.of.now in
    let cs = choices k.domains c.args.bounds.now in
    let none : 0 + sum_by (open_occurrences v k f) cs ≡ sum_by (open_occurrences v k f) cs = omega arith in
    c.outer_instances.ensures.count refl ∙ (stopped_sum (open_occurrences v k f) cs 0 0 refl ∙ ap capped none)
