use Rattle.type_derivation.proofs.RuleOrder.{types_are_in_order}
use Rattle.type_derivation.proofs.laws.types_are_in_order.Goals as goal

pub returns : goal.returns
returns c = types_are_in_order
