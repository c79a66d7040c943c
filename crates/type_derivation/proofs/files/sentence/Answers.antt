use Rattle.std.proofs.Common.{◌≡◌, ◌∙◌, sym, rules, IfOk}
use Rattle.std.proofs.lemmas.Result.{IfOk-weaker}
use Rattle.kb_logic.specs.Views as view
use Rattle.stage_definitions.specs.TypesStage.{sentence_settled}
use Rattle.stage_definitions.specs.NamedViews.{formula_view}
use Rattle.type_constraints.specs.ChosenTypes.{types_among}
use Rattle.type_derivation.specs.ListedTrees.{listed_formula}
use Rattle.type_derivation.proofs.RuleOrder.{types_are_in_order}
use Rattle.type_derivation.proofs.files.sentence.Goals as goal

pub returns-clause-tree : goal.returns-clause-tree
returns-clause-tree c =
    let listed : IfOk c.formula.result (λ f. view.formula_view f ≡ listed_formula
    (types_among (sentence_settled c.args.vocab.now (formula_view c.args.named.now)))
    (formula_view c.args.named.now)) =
    search rules in
    IfOk-weaker c.formula.result _ _ (λ f e. e ∙ sym (types_are_in_order.sentence c.args.vocab.now
    (formula_view c.args.named.now))) listed
