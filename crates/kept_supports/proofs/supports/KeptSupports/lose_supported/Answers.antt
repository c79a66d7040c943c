use Rattle.std.proofs.Common.{rules, ◌∙◌, ap}
use Rattle.std.proofs.lemmas.Fn.{filter_same}
use Rattle.kept_supports.specs.Supports.{unsupported}
use Rattle.kept_supports.proofs.supports.KeptSupports.lose_supported.Goals as goal

pub returns : goal.returns
returns c =
    filter_same _ _ _ (λ x b f' k. search rules) _ _ c.retain.ensures.filtered ∙ ap unsupported c.self.view_is
