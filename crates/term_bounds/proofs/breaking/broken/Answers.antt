use Rattle.std.proofs.Common.{◌≡◌, ℕ, get_or, slice_get, refl, ◌+◌, ◌-◌, ◌<◌, ◌≤◌, Some, All, drop, length, sym, ap}
use Rattle.std.proofs.Common.{◌∙◌, subst}
use Rattle.std.proofs.Common.{arith}
use Rattle.std.proofs.lemmas.Option.{slice_get-get_or}
use Rattle.ground_core.specs.Meaning.{BoundHolds}
use Rattle.term_bounds.proofs.BreakFacts.{IsNoted, broken-one, hold-here, hold-followed, noted-here, noted-later}
use Rattle.term_bounds.proofs.breaking.broken.Goals as goal

pub returns-in-Some-clause-broken : goal.returns-in-Some-clause-broken
returns-in-Some-clause-broken c =
    let terms = c.args.terms.now in
    let bounds = c.args.bounds.now in
    let a = c.args.assignment.now in
    let i : ℕ = c.loop-left.left - 1 in
    let lt : i < length bounds = omega (arith, c.loop-left.invariant.0, c.loop-left-test.true) in
    let here = rw c.in-Some.is at c.in_ok-clause.ensures.broken in
    broken-one terms bounds a i _ _ (slice_get-get_or bounds i _ lt)
    (slice_get-get_or terms _ c.index-terms-bound.result (c.requires.terms i _ lt)
    ∙ ap Some (sym c.index-terms-bound.is)) c.in-Some.clause.items here

pub loop-left-preserved : goal.loop-left-preserved
loop-left-preserved c =
    let terms = c.args.terms.now in
    let bounds = c.args.bounds.now in
    let a = c.args.assignment.now in
    let i : ℕ = c.loop-left.left - 1 in
    let some = c.loop-left-test.true in
    let within : c.loop-left.left ≤ length bounds = c.loop-left.invariant.0 in
    let lt : i < length bounds = omega (arith, within, some) in
    let next : c.loop-left.left ≡ i + 1 = omega (arith, some) in
    let here = rw c.in-None.is at c.in_ok-clause.ensures.holds in (
      omega (arith, within),
      λ v decided. hold-here terms bounds a i _ _ (slice_get-get_or bounds i _ lt)
          (slice_get-get_or terms _ c.index-terms-bound.result (c.requires.terms i _ lt)
          ∙ ap Some (sym c.index-terms-bound.is)) v decided here (subst
          (λ (n : ℕ). All (BoundHolds v terms) (drop n bounds)) next (c.loop-left.invariant.1 v decided)),
      noted-here terms bounds a i _ (slice_get-get_or bounds i _ lt) c.loop-left.tight c.in_force-tight.result
          (subst (λ (n : ℕ). IsNoted bounds a n c.loop-left.tight) next c.loop-left.invariant.2)
          c.in_force-tight.ensures,
    )

pub loop-left-preserved-then-follows_from : goal.loop-left-preserved-then-follows_from
loop-left-preserved-then-follows_from c =
    let terms = c.args.terms.now in
    let bounds = c.args.bounds.now in
    let a = c.args.assignment.now in
    let i : ℕ = c.loop-left.left - 1 in
    let some = c.loop-left-test.true in
    let within : c.loop-left.left ≤ length bounds = c.loop-left.invariant.0 in
    let lt : i < length bounds = omega (arith, within, some) in
    let next : c.loop-left.left ≡ i + 1 = omega (arith, some) in
    let at : slice_get bounds i ≡ Some (get_or bounds i _) = slice_get-get_or bounds i _ lt in
    let noted : IsNoted bounds a (i + 1) c.loop-left.tight =
    subst (λ (n : ℕ). IsNoted bounds a n c.loop-left.tight) next c.loop-left.invariant.2 in (
      omega (arith, within),
      λ v decided. hold-followed terms bounds a i _ at c.loop-left.tight (c.if-follows_from.ensures refl)
          noted v decided
          (subst (λ (n : ℕ). All (BoundHolds v terms) (drop n bounds)) next (c.loop-left.invariant.1 v decided)),
      noted-later terms bounds a i _ at c.loop-left.tight noted,
    )

pub returns-clause-hold : goal.returns-clause-hold
returns-clause-hold c = λ v decided.
    let bounds = c.args.bounds.now in
    let none : c.loop-left.left ≡ 0 = omega (arith, c.loop-left-test.false) in
    subst (λ (n : ℕ). All (BoundHolds v c.args.terms.now) (drop n bounds)) none (c.loop-left.invariant.1 v decided)
