use Rattle.std.proofs.Common.{rules}
use Rattle.log_checker.specs.States.{state_view}
use Rattle.log_checker.specs.Growing.{known}
use Rattle.log_checker.specs.Cases.{FailsAt}
use Rattle.log_checker.proofs.Falsity.{none-fails, none-more, failing-place}
use Rattle.log_checker.proofs.asking.first_failing.Goals as goal

pub returns : goal.returns
returns c = none-fails (known c.args.p.now (state_view c.args.st.now)) c.args.inforce.now c.loop-place.place
    (search rules) c.loop-place.invariant

pub loop-place-preserved : goal.loop-place-preserved
loop-place-preserved c =
    let old = known c.args.p.now (state_view c.args.st.now) in
    none-more (FailsAt old c.args.inforce.now) c.loop-place.place
    (λ k. let x = c.in_ok-fails.ensures.1 (failing-place old c.args.inforce.now c.loop-place.place k) in
    absurd (search (rules, x))) c.loop-place.invariant
