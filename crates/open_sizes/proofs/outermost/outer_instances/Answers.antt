use Rattle.plain_evaluation.proofs.Envs.{env_view-Given}
use Rattle.open_sizes.proofs.outermost.outer_instances.Goals as goal

pub led-requires-clause-fits : goal.led-requires-clause-fits
led-requires-clause-fits c = rw env_view-Given c.requires.fits

pub instances-requires-clause-fits : goal.instances-requires-clause-fits
instances-requires-clause-fits c = rw env_view-Given c.requires.fits
