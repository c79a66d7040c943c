use Rattle.std.proofs.Common.{◌≡◌, ℕ, ◌<◌, ◌+◌, List, Some, slice_get, sym, subst, arith}
use Rattle.std.specs.List.{Contains}
use Rattle.std.proofs.lemmas.Option.{slice_get_within}
use Rattle.partial_structures.specs.declared.truths.Truth.{Truth}
use Rattle.partial_structures.specs.declared.truths.Truth.TheVariants.{No}
use Rattle.known_guards.proofs.GuardRows.{left-pushed}
use Rattle.known_guards.proofs.rows.others.Goals as goal

pub loop-index-preserved : goal.loop-index-preserved
loop-index-preserved c =
    let n = c.loop-index.index in
    subst (λ (rows : List ℕ). (i : ℕ) → i < n + 1 → (Contains rows i → ⊥) → (t : Truth)
    → slice_get c.args.truths.now i ≡ Some t → t ≡ No) (sym c.in_ok-push.ensures.items)
    (left-pushed (λ i. (t : Truth) → slice_get c.args.truths.now i ≡ Some t → t ≡ No) c.loop-index.rows.items n
    c.loop-index.invariant)

pub returns : goal.returns
returns c =
    λ i t is none.
    let low = slice_get_within c.args.truths.now i t is in
    c.loop-index.invariant i (omega (arith, low, c.loop-index-test.false)) none t is
