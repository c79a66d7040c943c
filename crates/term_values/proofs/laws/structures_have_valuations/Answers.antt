use Rattle.term_values.proofs.StructureLaws.{structure-same, one-value-each, valuation-of}
use Rattle.term_values.proofs.laws.structures_have_valuations.Goals as goal

pub returns : goal.returns
returns c = λ b m is structure same.
    (valuation-of b m, structure-same b is m structure same, one-value-each b is m structure same)
