use Rattle.std.proofs.Common.{rules, ◌≡◌, ◌<◌, ◌≤◌, Some, None, length, slice_get, take, FitsSigned, IfSome, w64}
use Rattle.std.proofs.Common.{sym, ap, subst, ◌∙◌}
use Rattle.std.specs.List.{AllByRecursion}
use Rattle.std.proofs.lemmas.Int.{to_z-of_z}
use Rattle.ground_core.specs.declared.parts.Part.{Part}
use Rattle.def_ground.specs.Linear.{Shifted}
use Rattle.def_ground.specs.LinearViews.{own_part}
use Rattle.def_ground.proofs.LinearCalls.{merged-there, inserted-there}
use Rattle.def_ground.proofs.linear.insert.Goals as goal

pub returns-in_ok-base-in-Some-clause-base : goal.returns-in_ok-base-in-Some-clause-base
returns-in_ok-base-in-Some-clause-base c =
    let one = c.in_ok-base-in-Some in
    let n = c.args.part.lit.var.0 in
    let k = c.place_of-place.result in
    let fits : FitsSigned w64 one.base = search rules in
    let before = subst (λ ps. AllByRecursion (λ (p : Part). p.lit.var.0 < n) (take k ps)) c.as_slice.ensures.value
    c.place_of-place.ensures.before in
    let own = subst (λ ps. own_part (slice_get ps k) n ≡ Some c.in-Some.other) c.as_slice-2.ensures.value
    (sym c.in-Some.ensures) in
    let is = merged-there c.args.part c.args.parts.now.items k c.in-Some.other one.one before own one.ensures.parts in
    to_z-of_z w64 one.base fits ∙ one.ensures.base ∙ sym (ap (λ (s : Shifted). s.base) is)

pub returns-in_ok-base-in-Some-clause-parts : goal.returns-in_ok-base-in-Some-clause-parts
returns-in_ok-base-in-Some-clause-parts c =
    let one = c.in_ok-base-in-Some in
    let n = c.args.part.lit.var.0 in
    let k = c.place_of-place.result in
    let before = subst (λ ps. AllByRecursion (λ (p : Part). p.lit.var.0 < n) (take k ps)) c.as_slice.ensures.value
    c.place_of-place.ensures.before in
    let own = subst (λ ps. own_part (slice_get ps k) n ≡ Some c.in-Some.other) c.as_slice-2.ensures.value
    (sym c.in-Some.ensures) in
    let is = merged-there c.args.part c.args.parts.now.items k c.in-Some.other one.one before own one.ensures.parts in
    sym (ap (λ (s : Shifted). s.parts) is)

pub returns-in_ok-insert-in-None-clause-base : goal.returns-in_ok-insert-in-None-clause-base
returns-in_ok-insert-in-None-clause-base c =
    let n = c.args.part.lit.var.0 in
    let k = c.place_of-place.result in
    let at = c.as_slice.ensures.value in
    let within = subst (λ ps. k ≤ length ps) at c.place_of-place.ensures.within in
    let before = subst (λ ps. AllByRecursion (λ (p : Part). p.lit.var.0 < n) (take k ps)) at
    c.place_of-place.ensures.before in
    let here = subst (λ ps. IfSome (slice_get ps k) (λ p. n ≤ p.lit.var.0)) at c.place_of-place.ensures.here in
    let own = subst (λ ps. own_part (slice_get ps k) n ≡ None) c.as_slice-2.ensures.value (sym c.in-None.ensures) in
    let is = inserted-there c.args.part c.args.parts.now.items k within before here own in
    sym (ap (λ (s : Shifted). s.base) is)

pub returns-in_ok-insert-in-None-clause-parts : goal.returns-in_ok-insert-in-None-clause-parts
returns-in_ok-insert-in-None-clause-parts c =
    let n = c.args.part.lit.var.0 in
    let k = c.place_of-place.result in
    let at = c.as_slice.ensures.value in
    let within = subst (λ ps. k ≤ length ps) at c.place_of-place.ensures.within in
    let before = subst (λ ps. AllByRecursion (λ (p : Part). p.lit.var.0 < n) (take k ps)) at
    c.place_of-place.ensures.before in
    let here = subst (λ ps. IfSome (slice_get ps k) (λ p. n ≤ p.lit.var.0)) at c.place_of-place.ensures.here in
    let own = subst (λ ps. own_part (slice_get ps k) n ≡ None) c.as_slice-2.ensures.value (sym c.in-None.ensures) in
    let is = inserted-there c.args.part c.args.parts.now.items k within before here own in
    c.in_ok-insert-in-None.ensures.items ∙ sym (ap (λ (s : Shifted). s.parts) is)
