use Rattle.std.proofs.Common.{rules, ◌≡◌, true, false, subst}
use Rattle.lit_core.specs.Literals.{negated}
use Rattle.case_derivations.specs.Closing.{HasLit}
use Rattle.case_derivations.proofs.Bearing.{without-case, shut-case}
use Rattle.case_derivations.proofs.closing.close.Goals as goal

pub returns-then-not-has_at-clause-closes : goal.returns-then-not-has_at-clause-closes
returns-then-not-has_at-clause-closes c =
    let clauses = c.args.checker.now.state.clauses in
    let e : c.has_at.result ≡ false = search rules in
    without-case clauses c.args.inforce.now c.args.case.lit c.args.number c.requires.falsity
    (subst (HasLit clauses c.args.number (negated c.args.case.lit)) e (rw (← c.negated.ensures) c.has_at.ensures))

pub returns-then-case-eq0-clause-closes : goal.returns-then-case-eq0-clause-closes
returns-then-case-eq0-clause-closes c =
    let clauses = c.args.checker.now.state.clauses in
    let e : c.has_at.result ≡ true = search rules in
    shut-case clauses c.args.inforce.now c.args.case.lit c.args.number c.requires.falsity
    (subst (HasLit clauses c.args.number (negated c.args.case.lit)) e (rw (← c.negated.ensures) c.has_at.ensures))
