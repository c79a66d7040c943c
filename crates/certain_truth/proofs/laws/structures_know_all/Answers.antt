use Rattle.certain_truth.proofs.Total.{structures_know_all, extends_is_knows_more}
use Rattle.certain_truth.proofs.laws.structures_know_all.Goals as goal

pub returns : goal.returns
returns c = record { all = structures_know_all; more = extends_is_knows_more }
