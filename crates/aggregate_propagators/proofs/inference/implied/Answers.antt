use Rattle.std.proofs.Common.{◌≡◌, ◌↔◌, ℕ, Bool, true, All, IfOk, IfSome, IsNone, sym, subst}
use Rattle.lit_core.specs.Truth.{IsSatisfied}
use Rattle.ground_core.specs.declared.parts.AggCon.{AggCon}
use Rattle.ground_core.specs.Meaning.{SumHolds}
use Rattle.ground_core.specs.Intervals.{contradicts, refuting, IsQuiet}
use Rattle.aggregate_propagators.specs.Implied.{assigned, IsOfSum, IsWithin}
use Rattle.aggregate_propagators.proofs.Joined.{joined}
use Rattle.aggregate_propagators.proofs.inference.implied.Goals as goal

pub implied_at-requires-clause-within : goal.implied_at-requires-clause-within
implied_at-requires-clause-within c =
    subst (IsWithin c.args.values.now)
    (sym (joined c.threshold_of.result c.as_slice.result.now c.args.c.now c.threshold_of.ensures.out
    c.threshold_of.ensures.kind
    c.threshold_of.ensures.least c.as_slice.ensures)) c.requires

pub returns-clause-holds : goal.returns-clause-holds
returns-clause-holds c =
    subst (λ (x : AggCon). IfOk c.implied_at.result (λ o. IfSome o
    (λ cl. (v : ℕ → Bool) → SumHolds v x → IsSatisfied v cl)))
    (joined c.threshold_of.result c.as_slice.result.now c.args.c.now c.threshold_of.ensures.out
    c.threshold_of.ensures.kind
    c.threshold_of.ensures.least c.as_slice.ensures) c.implied_at.ensures.holds

pub returns-clause-alone : goal.returns-clause-alone
returns-clause-alone c =
    subst (λ (x : AggCon). IfOk c.implied_at.result (λ o. IfSome o (λ cl. contradicts (refuting cl) x ≡ true)))
    (joined c.threshold_of.result c.as_slice.result.now c.args.c.now c.threshold_of.ensures.out
    c.threshold_of.ensures.kind
    c.threshold_of.ensures.least c.as_slice.ensures) c.implied_at.ensures.alone

pub returns-clause-none : goal.returns-clause-none
returns-clause-none c =
    subst (λ (x : AggCon). IfOk c.implied_at.result (λ o. IsNone o ↔ IsQuiet (assigned c.args.values.now) x))
    (joined c.threshold_of.result c.as_slice.result.now c.args.c.now c.threshold_of.ensures.out
    c.threshold_of.ensures.kind
    c.threshold_of.ensures.least c.as_slice.ensures) c.implied_at.ensures.none

pub returns-clause-variables : goal.returns-clause-variables
returns-clause-variables c =
    subst (λ (x : AggCon). IfOk c.implied_at.result (λ o. IfSome o (λ cl. All (λ l. IsOfSum l x) cl)))
    (joined c.threshold_of.result c.as_slice.result.now c.args.c.now c.threshold_of.ensures.out
    c.threshold_of.ensures.kind
    c.threshold_of.ensures.least c.as_slice.ensures) c.implied_at.ensures.variables
