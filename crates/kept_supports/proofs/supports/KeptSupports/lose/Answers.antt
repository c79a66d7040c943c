use Rattle.std.proofs.Common.{rules, ◌∙◌, ap}
use Rattle.std.proofs.lemmas.Fn.{filter_same}
use Rattle.kept_supports.specs.Supports.{without_support}
use Rattle.kept_supports.proofs.supports.KeptSupports.lose.Goals as goal

pub returns : goal.returns
returns c =
    filter_same _ _ _ (λ x b f' k. search rules) _ _ c.retain.ensures.filtered ∙ ap (without_support c.args.lit)
    c.self.view_is
