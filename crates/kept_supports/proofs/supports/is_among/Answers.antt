use Rattle.consequences.proofs.IndexFacts.{looked-up}
use Rattle.kept_supports.proofs.KeptFacts.{tells}
use Rattle.kept_supports.proofs.supports.is_among.Goals as goal

pub returns : goal.returns
returns c = λ ks indexed.
    tells ks c.args.lit c.contains.result
    (looked-up c.args.index.now.keys ks c.args.lit c.contains.result indexed c.contains.ensures)
