use Rattle.data_domains.proofs.Wholes.{made_stand, none_stand}
use Rattle.data_domains.proofs.types.declared.Goals as goal
use Rattle.data_domains.proofs.types.declared.Goals.{then-traits+in_ok-add_declared, else-traits}

pub returns-clause-stands : goal.returns-clause-stands
returns-clause-stands c =
    let x = c.new-data.result in
    elim c.if-traits.branch [
      | then-traits+in_ok-add_declared b ↦ rw b.data-is (made_stand c.args.traits.constructed x
          b.add_declared.new.data c.args.decl.now b.if-traits.true c.new-data.ensures.stands b.in_ok-add_declared.ensures)
      | else-traits b ↦ rw b.data-is (none_stand c.args.traits.constructed x c.args.decl.now b.if-traits.false
          c.new-data.ensures.stands)
    ]
