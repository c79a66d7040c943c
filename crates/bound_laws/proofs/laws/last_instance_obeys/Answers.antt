use Rattle.bound_laws.proofs.Lasts.{last_instance_obeys}
use Rattle.bound_laws.proofs.laws.last_instance_obeys.Goals as goal

pub returns : goal.returns
returns c = last_instance_obeys
