use Rattle.std.proofs.lemmas.Result.{IfOk-weaker}
use Rattle.formula_names.proofs.StepLaws.{on_ok_from}
use Rattle.rule_names.proofs.definitions.lone_rule.Goals as goal

pub returns-clause-tree : goal.returns-clause-tree
returns-clause-tree c =
    IfOk-weaker c.rule-named.result _ _ (λ r is. rw c.begin-walk.ensures.known at is.tree) c.rule-named.ensures

pub returns-clause-noted : goal.returns-clause-noted
returns-clause-noted c =
    on_ok_from c.rule-named.result _ _ c.rule-named.ensures
    (λ r is. rw (c.begin-walk.ensures.known, c.begin-walk.ensures.noted) at is.noted)
