use Rattle.std.proofs.Common.{rules}
use Rattle.log_checker.specs.States.{state_view}
use Rattle.log_checker.specs.Citing.{IsOther}
use Rattle.log_checker.proofs.Covering.{cites-some, cites-some-back}
use Rattle.log_checker.proofs.citing.cites.Goals as goal

pub returns-clause-decides : goal.returns-clause-decides
returns-clause-decides c =
    let is = c.covers-found.ensures c.args.lits.now (search rules) in (
      λ t. cites-some (state_view c.args.st.now) c.args.lits.now
          (IsOther c.args.st.now.bounds c.args.other) c.args.number c.in-Some.clause.now c.in-Some.ensures (is.0 t),
      λ h. is.1 (cites-some-back (state_view c.args.st.now) c.args.lits.now
          (IsOther c.args.st.now.bounds c.args.other) c.args.number c.in-Some.clause.now c.in-Some.ensures h),
    )
