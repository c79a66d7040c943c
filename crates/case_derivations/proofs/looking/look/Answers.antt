use Rattle.std.proofs.Common.{rules}
use Rattle.log_checker.specs.Sets.{IsMarked}
use Rattle.case_derivations.proofs.Assigning.{of-none}
use Rattle.case_derivations.proofs.Completeness.{admitted}
use Rattle.case_derivations.proofs.looking.look.Goals as goal

pub returns-clause-sees : goal.returns-clause-sees
returns-clause-sees c =
    let marked : IsMarked c.mark_all.new.self c.args.inforce.now = search rules in (
      _,
      admitted c.args.checker.now c.args.inforce.now c.vars-vars.ensures.laws c.requires.fine
          (of-none _ _ _ c.in-None.is (c.unassigned.ensures c.args.inforce.now marked))
          (of-none _ _ c.false_clause.result (search rules) (c.false_clause.ensures c.args.inforce.now marked))
          (of-none _ _ c.in_ok-constraint.field-0 (search rules) c.in_ok-constraint.ensures),
    )
