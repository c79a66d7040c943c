use Rattle.std.proofs.Common.{◌≡◌, ℕ, ◌+◌, ◌<◌, List, false, Some, sym, subst}
use Rattle.std.specs.List.{Contains}
use Rattle.term_values.specs.GroundBases.{first_var, known_of}
use Rattle.sentence_guards.proofs.GuardRows.{left-passed, left-pushed}
use Rattle.sentence_guards.proofs.rows.rows_left.Goals as goal

pub loop-index-preserved-then-is_false : goal.loop-index-preserved-then-is_false
loop-index-preserved-then-is_false c =
    let b = c.args.base.now in
    let n = c.loop-index.index in
    left-passed (λ i. known_of b (first_var b c.args.symbol + i) ≡ Some false) c.loop-index.rows.items n
    c.loop-index.invariant
    (subst (λ k. known_of b (k + n) ≡ Some false) c.first_var-first.ensures (c.is_false.ensures c.if-is_false.true))

pub loop-index-preserved : goal.loop-index-preserved
loop-index-preserved c =
    let b = c.args.base.now in
    let n = c.loop-index.index in
    subst (λ (rows : List ℕ). (i : ℕ) → i < n + 1 → (Contains rows i → ⊥)
    → known_of b (first_var b c.args.symbol + i) ≡ Some false) (sym c.in_ok-push.ensures.items)
    (left-pushed (λ i. known_of b (first_var b c.args.symbol + i) ≡ Some false) c.loop-index.rows.items n
    c.loop-index.invariant)
