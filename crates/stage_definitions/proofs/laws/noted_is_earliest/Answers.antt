use Rattle.stage_definitions.proofs.Rows.{nothing_refused, earliest_refused}
use Rattle.stage_definitions.proofs.laws.noted_is_earliest.Goals as goal

pub returns : goal.returns
returns c = record {
  found = earliest_refused;
  nothing = nothing_refused;
}
