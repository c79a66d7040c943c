use Rattle.std.proofs.Common.{◌≡◌, ◌∙◌, sym, rules, IfOk}
use Rattle.std.proofs.lemmas.Result.{IfOk-weaker}
use Rattle.kb_logic.specs.Views as view
use Rattle.stage_definitions.specs.TypesStage.{rule_settled}
use Rattle.stage_definitions.specs.NamedViews.{rule_view}
use Rattle.type_constraints.specs.ChosenTypes.{types_among}
use Rattle.type_derivation.specs.ListedTrees.{listed_rule}
use Rattle.type_derivation.proofs.RuleOrder.{types_are_in_order}
use Rattle.type_derivation.proofs.definitions.rule.Goals as goal

pub returns-clause-tree : goal.returns-clause-tree
returns-clause-tree c =
    let listed : IfOk c.rule.result (λ r. view.rule_view r ≡ listed_rule
    (types_among (rule_settled c.args.vocab.now (rule_view c.args.named.now))) (rule_view c.args.named.now)) =
    search rules in
    IfOk-weaker c.rule.result _ _ (λ r e. e ∙ sym (types_are_in_order.rule c.args.vocab.now
    (rule_view c.args.named.now))) listed
