use Rattle.kb_logic.specs.Bases.{Base}
use Rattle.kb_logic.specs.InForce.{InForce, IsSomeOf, IsModelOf}
use Rattle.kb_logic.specs.Models.{HoldsIn}
use Rattle.kb_logic.specs.declared.structures.Structure.{Structure}
use Rattle.logic_laws.proofs.Sublists.{all_of_some}
use Rattle.logic_laws.proofs.laws.less_allows_more.Goals as goal

less : (base : Base) (q p : InForce) (m : Structure) → IsSomeOf q p → IsModelOf base p m → IsModelOf base q m
less base q p m among model = record {
  structure = model.structure;
  extends = model.extends;
  theory = model.theory;
  chosen = all_of_some (HoldsIn m) q.choices p.choices among.choices model.chosen;
}

pub returns-clause-models : goal.returns-clause-models
returns-clause-models c = less

pub returns-clause-forced : goal.returns-clause-forced
returns-clause-forced c = λ base q p l among forced m model. forced m (less base q p m among model)
