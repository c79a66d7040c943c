use Rattle.std.proofs.Common.{rules, ◌≡◌, ◌∙◌, sym}
use Rattle.forced_literals.specs.Picking.{is_among}
use Rattle.forced_literals.proofs.PickingFacts.{chosen-spared, else-beside}
use Rattle.forced_literals.proofs.picking.LeftOut.has.Goals as goal

pub returns-then-contains : goal.returns-then-contains
returns-then-contains c = λ chosen forced h.
    let told : c.contains.result ≡ is_among c.args.self.now.chosen.keys c.args.lit.var.0 = search rules in
    chosen-spared c.args.numbers.now c.args.lit c.requires forced chosen c.args.self.now h
    (sym told ∙ c.if-contains.true)

pub returns : goal.returns
returns c = λ chosen forced h.
    let told : c.contains.result ≡ is_among c.args.self.now.chosen.keys c.args.lit.var.0 = search rules in
    else-beside c.args.numbers.now c.args.lit c.requires forced chosen c.args.self.now h
    (sym told ∙ c.if-contains.false) c.denies_beside.result (c.denies_beside.ensures forced h.settled)
