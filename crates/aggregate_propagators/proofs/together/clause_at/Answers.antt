use Rattle.std.proofs.Common.{rules, ◌≡◌, ℤ, [], ◌∷◌, ◌++◌, FitsSigned, to_z, of_z, ap, ◌∙◌}
use Rattle.std.specs.Int.{w128}
use Rattle.std.proofs.lemmas.Int.{to_z-of_z}
use Rattle.lit_core.specs.declared.literals.Lit.{Lit}
use Rattle.aggregate_propagators.specs.Looking.{needed}
use Rattle.aggregate_propagators.specs.Spared.{spare_of}
use Rattle.aggregate_propagators.specs.Thresholds.{amount_of}
use Rattle.aggregate_propagators.specs.Totals.{goal_of}
use Rattle.aggregate_propagators.proofs.Followed.{walked}
use Rattle.aggregate_propagators.proofs.together.clause_at.Goals as goal

pub returns : goal.returns
returns c =
    let e = c.args.end in
    let fits : FitsSigned w128 e.sum = search rules in
    let fits1 : FitsSigned w128 c.spare_around-spare.result = search rules in
    let fits2 : FitsSigned w128 c.in_ok-spare.spare = search rules in
    let fits3 : FitsSigned w128 c.in_ok-spare-2.spare = search rules in
    let s1 : ℤ = to_z w128 (of_z w128 c.spare_around-spare.result) in
    let s2 : ℤ = to_z w128 (of_z w128 c.in_ok-spare.spare) in
    let s3 : ℤ = to_z w128 (of_z w128 c.in_ok-spare-2.spare) in
    let spare : s1 ≡ spare_of (goal_of e.of.kind (amount_of e.of.least)) e.sum =
    to_z-of_z w128 c.spare_around-spare.result fits1
    ∙ (c.spare_around-spare.ensures.value ∙ (ap (spare_of (amount_of c.goal.result)) (to_z-of_z w128 e.sum fits)
    ∙ ap (λ g. spare_of g e.sum) c.goal.ensures.value)) in
    walked s1 s2 s3 c.args.before.now (c.args.own ∷ []) c.args.after.now c.new-clause.result c.add_needed.new.clause
    c.add_needed-2.new.clause c.add_needed-3.new.clause c.push.new.self c.false_one.result c.new-clause.ensures
    c.in_ok-spare.ensures.clause (to_z-of_z w128 c.in_ok-spare.spare fits2 ∙ c.in_ok-spare.ensures.left)
    c.in_ok-spare-2.ensures.clause (to_z-of_z w128 c.in_ok-spare-2.spare fits3 ∙ c.in_ok-spare-2.ensures.left)
    c.in_ok-add_needed.ensures.clause c.in_ok-push.ensures.ok
    ∙ (ap (λ s. needed s (c.args.before.now ++ c.args.own ∷ c.args.after.now) ++ c.false_one.result ∷ []) spare
    ∙ ap (λ (l : Lit). needed (spare_of (goal_of e.of.kind (amount_of e.of.least)) e.sum)
    (c.args.before.now ++ c.args.own ∷ c.args.after.now) ++ l ∷ []) c.false_one.ensures)
