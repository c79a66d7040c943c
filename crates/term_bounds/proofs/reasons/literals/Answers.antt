use Rattle.std.proofs.Common.{rules, ◌≡◌, ◌+◌, ◌-ℤ◌, ◌≤ℤ◌, pos, None, List, [], ◌∷◌, ◌++◌, drop}
use Rattle.std.proofs.Common.{get_or, FitsSigned, to_z, of_z, sym, ap, ◌∙◌, subst, arith}
use Rattle.std.specs.Int.{w128}
use Rattle.std.proofs.lemmas.Int.{ints, to_z-of_z}
use Rattle.std.proofs.lemmas.List.{drop_all}
use Rattle.lit_core.specs.declared.literals.Lit.{Lit}
use Rattle.lit_core.specs.Literals.{value_in}
use Rattle.ground_core.specs.declared.parts.Part.{Part}
use Rattle.term_bounds.specs.Amounts.{amount_of}
use Rattle.term_bounds.specs.Shares.{raised}
use Rattle.term_bounds.specs.Totals.{counted_as}
use Rattle.term_bounds.specs.Reasons.{AreReasons}
use Rattle.term_bounds.proofs.ListFacts.{no_part}
use Rattle.term_bounds.proofs.ReasonFacts.{SoFar, false_lit, so-far-all, so-far-kept, so-far-spared}
use Rattle.term_bounds.proofs.reasons.literals.Goals.{in-Some+then-raise-spare+in_ok-push-in-Some}
use Rattle.term_bounds.proofs.reasons.literals.Goals.{in-Some+else-raise-spare, in-None}
use Rattle.term_bounds.proofs.reasons.literals.Goals as goal

pub loop-part-preserved : goal.loop-part-preserved
loop-part-preserved c =
    let k = c.args.line.kind in
    let bound = amount_of c.args.line.bound in
    let a = c.args.assignment.now in
    let ps = c.args.parts.now in
    let i = c.loop-part.part-index in
    let p : Part = get_or ps i no_part in
    let first = to_z w128 (of_z w128 c.args.spare) in
    let spare = to_z w128 c.loop-part.spare-bits in
    let left = to_z w128 c.match-value.spare-bits in
    let w = counted_as k bound p.weight in
    let value : c.value-value.result ≡ value_in a p.lit = c.value-value.ensures in
    elim c.match-value.branch [
      | in-Some+then-raise-spare+in_ok-push-in-Some b ↦
          let items : c.match-value.clause.items ≡ c.loop-part.clause.items ++ false_lit p.lit b.in-Some.value ∷ [] =
          ap (λ v. v.items) b.clause-is ∙ (b.in_ok-push-in-Some.ensures.items
          ∙ ap (λ (l : Lit). c.loop-part.clause.items ++ l ∷ []) b.false_one.ensures) in
          rw (b.spare-is, items) (so-far-kept a k bound ps first i no_part spare c.loop-part.clause.items
          c.loop-part-test.true c.loop-part.invariant b.in-Some.value (sym value ∙ b.in-Some.is))
      | in-Some+else-raise-spare b ↦
          let fits : FitsSigned w128 c.part_raise-raise.result = search rules in
          let back : to_z w128 (of_z w128 c.part_raise-raise.result) ≡ c.part_raise-raise.result =
          to_z-of_z w128 c.part_raise-raise.result fits in
          let raise : c.part_raise-raise.result ≡ raised (value_in a p.lit) w = c.part_raise-raise.ensures.value
          ∙ ap (λ o. raised o w) value in
          let left-fits : FitsSigned w128 b.left_of-spare.result = search rules in
          let left-is : left ≡ b.left_of-spare.result = b.spare-is ∙ to_z-of_z w128 b.left_of-spare.result left-fits in
          let less : left ≡ spare -ℤ c.part_raise-raise.result = left-is
          ∙ (b.left_of-spare.ensures.value ∙ ap (λ z. spare -ℤ z) back) in
          let low : pos 0 ≤ℤ left = subst (λ z. pos 0 ≤ℤ z) (sym left-is) b.left_of-spare.ensures.low in
          subst (SoFar a k bound ps (drop (i + 1) ps) first left) (sym (ap (λ v. v.items) b.clause-is))
          (so-far-spared a k bound ps first i no_part spare c.loop-part.clause.items c.loop-part-test.true
          c.loop-part.invariant left (less ∙ ap (λ z. spare -ℤ z) raise) low)
      | in-None b ↦
          let none : value_in a p.lit ≡ None = sym value ∙ b.in-None.is in
          let nothing : raised (value_in a p.lit) w ≡ pos 0 = ap (λ o. raised o w) none ∙ omega (arith, ints) in
          let same : left ≡ spare = b.spare-is in
          let low : pos 0 ≤ℤ spare = c.loop-part.invariant.low in
          subst (SoFar a k bound ps (drop (i + 1) ps) first left) (sym (ap (λ v. v.items) b.clause-is))
          (so-far-spared a k bound ps first i no_part spare c.loop-part.clause.items c.loop-part-test.true
          c.loop-part.invariant left (omega (arith, ints, same, nothing)) (omega (arith, ints, same, low)))
    ]

pub returns : goal.returns
returns c =
    let k = c.args.line.kind in
    let bound = amount_of c.args.line.bound in
    let a = c.args.assignment.now in
    let ps = c.args.parts.now in
    let i = c.loop-part.part-index in
    let fits : FitsSigned w128 c.args.spare = search rules in
    let back : to_z w128 (of_z w128 c.args.spare) ≡ c.args.spare = to_z-of_z w128 c.args.spare fits in
    let none : drop i ps ≡ [] = drop_all i ps (omega (arith, c.loop-part-test.false)) in
    record {
      reasons = subst (λ z. AreReasons a k bound ps z c.loop-part.clause.items) back
          (so-far-all a k bound ps (to_z w128 (of_z w128 c.args.spare)) (to_z w128 c.loop-part.spare-bits)
          c.loop-part.clause.items (subst (λ (rest : List Part). SoFar a k bound ps rest
          (to_z w128 (of_z w128 c.args.spare)) (to_z w128 c.loop-part.spare-bits) c.loop-part.clause.items) none
          c.loop-part.invariant));
    }
