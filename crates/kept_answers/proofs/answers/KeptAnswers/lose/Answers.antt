use Rattle.std.proofs.Common.{rules, ◌∙◌, ap}
use Rattle.std.proofs.lemmas.Fn.{filter_same}
use Rattle.kept_answers.specs.Answers.{without_kind}
use Rattle.kept_answers.proofs.answers.KeptAnswers.lose.Goals as goal

pub returns : goal.returns
returns c =
    filter_same _ _ _ (λ x b f' k. search rules) _ _ c.retain.ensures.filtered
    ∙ ap (without_kind c.args.query.now) c.self.view_is
