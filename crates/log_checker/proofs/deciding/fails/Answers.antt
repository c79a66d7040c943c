use Rattle.std.proofs.Common.{rules, ◌≡◌, ◌↔◌, IsTrue, map, subst, sym}
use Rattle.lit_core.specs.Literals.{negated}
use Rattle.derivation_log.specs.Steps.{CannotHold, HasNoOpposites}
use Rattle.log_checker.proofs.Furthest.{negated-fine}
use Rattle.log_checker.specs.States.{state_view}
use Rattle.log_checker.proofs.deciding.fails.Goals as goal

pub returns-clause-decides : goal.returns-clause-decides
returns-clause-decides c =
    let e : c.deref-2.result.now ≡ map negated c.args.lits.now = search rules in
    subst (λ x. IsTrue c.in_ok-found.found ↔ CannotHold c.args.p.now
    (state_view c.args.st.now) x c.args.n) e c.in_ok-found.ensures

pub cannot_hold-requires-clause-fine : goal.cannot_hold-requires-clause-fine
cannot_hold-requires-clause-fine c =
    let e : c.deref-2.result.now ≡ map negated c.args.lits.now = search rules in
    subst HasNoOpposites (sym e) (negated-fine c.args.lits.now c.requires.fine)
