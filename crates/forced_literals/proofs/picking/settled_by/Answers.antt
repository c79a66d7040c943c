use Rattle.forced_literals.proofs.PickingFacts.{settled-one}
use Rattle.forced_literals.proofs.picking.settled_by.Goals as goal

pub returns : goal.returns
returns c = settled-one c.args.numbers.now c.args.lit c.requires c.if-not-lit.false c.application_of.result
    c.application_of.ensures
