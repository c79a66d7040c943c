use Rattle.std.proofs.Common.{◌≡◌, ◌∙◌, sym, rules, IfOk}
use Rattle.std.proofs.lemmas.Result.{IfOk-weaker}
use Rattle.kb_logic.specs.Views as view
use Rattle.stage_definitions.specs.TypesStage.{block_settled}
use Rattle.stage_definitions.specs.NamedViews.{term_view}
use Rattle.type_constraints.specs.ChosenTypes.{types_among}
use Rattle.type_derivation.specs.ListedTrees.{listed_term}
use Rattle.type_derivation.proofs.RuleOrder.{types_are_in_order}
use Rattle.type_derivation.proofs.files.block_term.Goals as goal

pub returns-clause-tree : goal.returns-clause-tree
returns-clause-tree c =
    let listed : IfOk c.term.result (λ t. view.term_view t ≡ listed_term
    (types_among (block_settled c.args.vocab.now (term_view c.args.named.now))) (term_view c.args.named.now)) =
    search rules in
    IfOk-weaker c.term.result _ _ (λ t e. e ∙ sym (types_are_in_order.term c.args.vocab.now
    (term_view c.args.named.now))) listed
