use Rattle.std.proofs.Common.{◌≡◌, map, refl}
use Rattle.std.specs.Option.{option_map}
use Rattle.std.proofs.lemmas.Result.{IfOk-weaker}
use Rattle.grammar.specs.BlockTrees.{value_head}
use Rattle.grammar.specs.BlockView as block
use Rattle.grammar.specs.View as view
use Rattle.rule_names.proofs.RuleLaws.{with_value}
use Rattle.rule_names.proofs.definitions.rule.Goals as goal

pub returns-in-Value : goal.returns-in-Value
returns-in-Value c =
    let seen : block.head_view c.args.raw.now.head ≡ value_head (view.app_view c.in-Value.app) c.in-Value.field-1
    (view.term_view c.in-Value.value) = rw c.in-Value.is refl in
    IfOk-weaker c.value_rule.result _ _ (λ r two. rw seen
    (with_value c.args.walk.now c.head.new.walk _ c.value_rule.new.walk
    (map block.binding_view c.args.raw.now.binders) (view.app_view c.in-Value.app) c.in-Value.field-1
    (view.term_view c.in-Value.value) (option_map block.body_view c.args.raw.now.body) c.args.raw.now.dot
    (rw seen at c.in_ok-head.ensures) (rw c.app_name.ensures at two) refl refl refl)) c.value_rule.ensures
