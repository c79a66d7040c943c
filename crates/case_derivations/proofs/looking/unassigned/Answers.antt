use Rattle.std.proofs.Common.{rules}
use Rattle.case_derivations.proofs.Assigning.{other-unassigned}
use Rattle.case_derivations.proofs.looking.unassigned.Goals as goal

pub returns-then-is_lit_of : goal.returns-then-is_lit_of
returns-then-is_lit_of c = λ ls h. rw (c.negated.ensures)
    (other-unassigned c.args.checker.now.state.vars ls c.in-Some.lit (search rules) (c.in-Some.ensures ls h))

pub returns : goal.returns
returns c = rw (← c.vars-vars.ensures.value) c.first_unassigned.ensures
