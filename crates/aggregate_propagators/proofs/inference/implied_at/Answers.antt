use Rattle.std.proofs.Common.{◌≡◌, true, false, Some, inl, sym, ◌∙◌}
use Rattle.ground_core.specs.Intervals.{contradicts}
use Rattle.aggregate_propagators.specs.Implied.{assigned, under}
use Rattle.aggregate_propagators.specs.Thresholds.{constraint_of}
use Rattle.aggregate_propagators.proofs.Acting.{is-alone, is-held, is-false, is-unit}
use Rattle.aggregate_propagators.proofs.Deciding.{quiet-open}
use Rattle.aggregate_propagators.proofs.Variables.{of-sum}
use Rattle.aggregate_propagators.proofs.inference.implied_at.Goals as goal

no-some : true ≡ false → ⊥
no-some e = cc

module _ (c : goal.In_ok-clause_from) where
  now-wrong : contradicts (assigned c.args.values.now) (constraint_of c.args.c c.args.parts.now) ≡ true
  now-wrong = sym c.contradicted.ensures ∙ c.if-contradicted.true

pub returns-then-contradicted-clause-holds : goal.returns-then-contradicted-clause-holds
returns-then-contradicted-clause-holds c =
    is-held (assigned c.args.values.now) (constraint_of c.args.c c.args.parts.now) c.in_ok-clause_from.field-0
    c.in_ok-clause_from.ensures (now-wrong c)

pub returns-then-contradicted-clause-acts : goal.returns-then-contradicted-clause-acts
returns-then-contradicted-clause-acts c =
    inl (is-false c.args.values.now (constraint_of c.args.c c.args.parts.now) c.in_ok-clause_from.field-0
    c.in_ok-clause_from.ensures (now-wrong c))

pub returns-then-contradicted-clause-alone : goal.returns-then-contradicted-clause-alone
returns-then-contradicted-clause-alone c =
    is-alone (assigned c.args.values.now) (constraint_of c.args.c c.args.parts.now) c.in_ok-clause_from.field-0
    c.in_ok-clause_from.ensures (now-wrong c)

pub returns-in_ok-clause_from-in-Some-clause-holds : goal.returns-in_ok-clause_from-in-Some-clause-holds
returns-in_ok-clause_from-in-Some-clause-holds c =
    is-held (under (assigned c.args.values.now) (Some c.in-Some.lit))
    (constraint_of c.args.c c.args.parts.now) c.in_ok-clause_from-in-Some.field-0
    c.in_ok-clause_from-in-Some.ensures
    c.in-Some.ensures.some.0.wrong

pub returns-in_ok-clause_from-in-Some-clause-acts : goal.returns-in_ok-clause_from-in-Some-clause-acts
returns-in_ok-clause_from-in-Some-clause-acts c =
    is-unit c.args.values.now (constraint_of c.args.c c.args.parts.now) c.in-Some.lit
    c.in_ok-clause_from-in-Some.field-0 c.in_ok-clause_from-in-Some.ensures c.in-Some.ensures.some.0

pub returns-in_ok-clause_from-in-Some-clause-alone : goal.returns-in_ok-clause_from-in-Some-clause-alone
returns-in_ok-clause_from-in-Some-clause-alone c =
    is-alone (under (assigned c.args.values.now) (Some c.in-Some.lit))
    (constraint_of c.args.c c.args.parts.now) c.in_ok-clause_from-in-Some.field-0
    c.in_ok-clause_from-in-Some.ensures
    c.in-Some.ensures.some.0.wrong

pub returns-in_ok-clause_from-in-Some-clause-none : goal.returns-in_ok-clause_from-in-Some-clause-none
returns-in_ok-clause_from-in-Some-clause-none c = (
  λ e. absurd (no-some e),
  λ q. absurd
      (c.in-Some.ensures.some.1 (quiet-open (assigned c.args.values.now) (constraint_of c.args.c c.args.parts.now) q)),
)

pub returns-then-contradicted-clause-variables : goal.returns-then-contradicted-clause-variables
returns-then-contradicted-clause-variables c =
    of-sum (assigned c.args.values.now) (constraint_of c.args.c c.args.parts.now) c.in_ok-clause_from.field-0
    c.in_ok-clause_from.ensures

pub returns-in_ok-clause_from-in-Some-clause-variables : goal.returns-in_ok-clause_from-in-Some-clause-variables
returns-in_ok-clause_from-in-Some-clause-variables c =
    of-sum (under (assigned c.args.values.now) (Some c.in-Some.lit)) (constraint_of c.args.c c.args.parts.now)
    c.in_ok-clause_from-in-Some.field-0 c.in_ok-clause_from-in-Some.ensures
