use Rattle.std.proofs.Common.{rules, ◌≡◌}
use Rattle.forced_literals.specs.Picking.{is_among}
use Rattle.forced_literals.proofs.PickingFacts.{beside-plain, beside-valued}
use Rattle.forced_literals.proofs.picking.LeftOut.denies_beside.Goals as goal

pub returns-in-None : goal.returns-in-None
returns-in-None c = λ forced h. beside-plain c.args.numbers.now c.args.lit c.requires forced c.in-None.ensures

pub returns-in-Some : goal.returns-in-Some
returns-in-Some c = λ forced h.
    let told : c.contains.result ≡ is_among c.args.self.now.settled.keys c.in-Some.var = search rules in
    beside-valued c.args.numbers.now c.args.lit c.requires forced c.args.self.now.settled.keys h c.if-lit.false
    c.in-Some.var c.in-Some.ensures c.contains.result told
