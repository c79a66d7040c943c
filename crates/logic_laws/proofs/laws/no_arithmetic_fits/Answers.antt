use Rattle.logic_laws.proofs.NoArithmetic.{no_arithmetic_fits}
use Rattle.logic_laws.proofs.laws.no_arithmetic_fits.Goals as goal

pub returns : goal.returns
returns c = no_arithmetic_fits
