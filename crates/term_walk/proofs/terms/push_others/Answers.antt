use Rattle.std.proofs.Common.{◌≡◌, ◌+◌, ℤ, ◌-ℤ◌, drop, w64, to_z, of_z, sym, ap, subst, ◌∙◌, arith}
use Rattle.std.specs.List.{AllByRecursion}
use Rattle.std.proofs.lemmas.Int.{ints}
use Rattle.kb_logic.specs.Meaning.{signed_of}
use Rattle.kb_logic.specs.Values.{value_view}
use Rattle.def_ground.specs.AskedTerms.{number_of, first_number, other_weights, weigh_all}
use Rattle.def_ground.proofs.Leaves.{rows-more}
use Rattle.term_walk.specs.Askable.{weighted, IsSmallNumber}
use Rattle.ground_walk.specs.Groundable.{HaveLits}
use Rattle.ground_walk.proofs.LeafSteps.{guards-within, row-left}
use Rattle.term_walk.proofs.AskedSteps.{first-small, value-small, difference-kept, weight-kept, next-row-same}
use Rattle.term_walk.proofs.terms.push_others.Goals as goal

pub with_sign-weight-requires-clause-low : goal.with_sign-weight-requires-clause-low
with_sign-weight-requires-clause-low c =
    let all = c.args.summand.now.rows in
    let first : IsSmallNumber c.first_number-first.result =
    subst IsSmallNumber (sym c.first_number-first.ensures) (first-small all c.requires.small) in
    let number : IsSmallNumber c.number_in.result =
    subst IsSmallNumber (sym c.number_in.ensures)
    (value-small all c.loop-row.row (value_view c.value.result) c.value.ensures c.loop-row.invariant.small) in
    let kept = difference-kept c.number_in.result c.first_number-first.result number first in
    omega (arith, ints, kept, first.0, first.1, number.0, number.1)

pub with_sign-weight-requires-clause-high : goal.with_sign-weight-requires-clause-high
with_sign-weight-requires-clause-high c =
    let all = c.args.summand.now.rows in
    let first : IsSmallNumber c.first_number-first.result =
    subst IsSmallNumber (sym c.first_number-first.ensures) (first-small all c.requires.small) in
    let number : IsSmallNumber c.number_in.result =
    subst IsSmallNumber (sym c.number_in.ensures)
    (value-small all c.loop-row.row (value_view c.value.result) c.value.ensures c.loop-row.invariant.small) in
    let kept = difference-kept c.number_in.result c.first_number-first.result number first in
    omega (arith, ints, kept, first.0, first.1, number.0, number.1)

pub push_part-requires-clause-guards : goal.push_part-requires-clause-guards
push_part-requires-clause-guards c =
    guards-within c.loop-row.problem.vars c.args.summand.now.rows c.loop-row.row c.guards.result.now c.guards.ensures
    c.loop-row.invariant.within

pub loop-row-preserved : goal.loop-row-preserved
loop-row-preserved c =
    let all = c.args.summand.now.rows in
    let minus = c.args.summand.now.minus in
    let k = c.loop-row.row in
    let g = c.guards.result.now in
    let x = value_view c.value.result in
    let f : ℤ = c.first_number-first.result in
    let n : ℤ = c.number_in.result in
    let p = c.loop-row.problem in
    let q = c.push_part.new.problem in
    let first : IsSmallNumber f = subst IsSmallNumber (sym c.first_number-first.ensures)
    (first-small all c.requires.small) in
    let number : IsSmallNumber n = subst IsSmallNumber (sym c.number_in.ensures)
    (value-small all k x c.value.ensures c.loop-row.invariant.small) in
    let e = row-left all k g x c.guards.ensures c.value.ensures in
    let made = c.in_ok-push_part.ensures.made in
    let grows = c.in_ok-push_part.ensures.grows in
    let before = c.loop-row.invariant.grows in
    let sign : c.with_sign-weight.result ≡ signed_of minus (n -ℤ f) =
    c.with_sign-weight.ensures ∙ ap (signed_of minus) (difference-kept n f number first) in
    let weight : to_z w64 (of_z w64 c.with_sign-weight.result) ≡ signed_of minus (number_of x -ℤ first_number all) =
    ap (λ y. to_z w64 (of_z w64 y)) sign ∙ weight-kept n f number first minus
    ∙ ap (λ y. signed_of minus (y -ℤ f)) c.number_in.ensures
    ∙ ap (λ y. signed_of minus (number_of x -ℤ y)) c.first_number-first.ensures in
    let small = subst (AllByRecursion (λ r. IsSmallNumber (number_of r.1))) e c.loop-row.invariant.small in
    let within = subst (HaveLits p.vars) e c.loop-row.invariant.within in
    record {
      same = next-row-same minus (first_number all) (to_z w64 (of_z w64 c.with_sign-weight.result)) g x (drop k all)
          (drop (k + 1) all) (weighted c.loop-row.parts p) (weighted c.push_part.new.parts q)
          (weigh_all (other_weights minus all) (weighted c.args.parts.now c.args.problem.now)) e weight made
          c.loop-row.invariant.same;
      small = small.1;
      within = rows-more p.vars q.vars grows (drop (k + 1) all) within.1;
      parts = c.in_ok-push_part.ensures.within;
      grows = omega (arith, before, grows);
    }
