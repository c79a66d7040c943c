use Rattle.std.proofs.Common.{not, subst}
use Rattle.kb_logic.specs.Views.{formula_view}
use Rattle.plain_evaluation.specs.Environments.{env_view}
use Rattle.quantifier_bounds.specs.Steps.{IsConstant}
use Rattle.quantifier_bounds.proofs.Lost.{not_lost}
use Rattle.quantifier_bounds.proofs.left.not_lost.Goals as goal

pub returns : goal.returns
returns c =
    not_lost c.args.known.now c.args.v (formula_view c.args.formula.now) (env_view c.args.env.now) c.constant.result
    (subst (λ b. IsConstant (not b) c.constant.result) c.is_lost.ensures c.constant.ensures)
