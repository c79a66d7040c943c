use Rattle.std.proofs.Common.{rules, ◌≡◌, ℤ, List, [], ◌∷◌, ◌++◌, FitsSigned, to_z, of_z, All, Any, sym, ap, ◌∙◌, subst}
use Rattle.std.specs.Int.{w128}
use Rattle.std.proofs.lemmas.Int.{to_z-of_z}
use Rattle.lit_core.specs.declared.literals.Lit.{Lit}
use Rattle.term_bounds.specs.Amounts.{amount_of}
use Rattle.term_bounds.specs.Implying.{IsRaisedBy}
use Rattle.term_bounds.proofs.ImplyFacts.{raised-push}
use Rattle.term_bounds.proofs.ListFacts.{no_part}
use Rattle.term_bounds.proofs.implying.rises_of.Goals.{in-Some+in_ok-push, in_default}
use Rattle.term_bounds.proofs.implying.rises_of.Goals as goal

pub loop-part-preserved : goal.loop-part-preserved
loop-part-preserved c =
    let a = c.args.assignment.now in
    let k = c.args.line.kind in
    let bound = amount_of c.args.line.bound in
    let ps = c.args.parts.now in
    let low : ℤ = to_z w128 (of_z w128 c.args.low) in
    elim c.match-rise_of.branch [
      | in-Some+in_ok-push b ↦
          let items : c.match-rise_of.lits.items ≡ c.loop-part.lits.items ++ b.in-Some.lit ∷ [] =
          ap (λ v. v.items) b.lits-is ∙ b.in_ok-push.ensures.items in
          subst (λ (xs : List Lit). All (λ (x : Lit). Any (IsRaisedBy a k bound low x) ps) xs) (sym items)
          (raised-push a k bound low ps c.loop-part.lits.items b.in-Some.lit c.loop-part.part-index no_part
          c.loop-part-test.true c.loop-part.invariant b.in-Some.ensures)
      | in_default b ↦ subst (λ (xs : List Lit). All (λ (x : Lit). Any (IsRaisedBy a k bound low x) ps) xs)
          (sym (ap (λ v. v.items) b.lits-is)) c.loop-part.invariant
    ]

pub returns : goal.returns
returns c =
    let a = c.args.assignment.now in
    let k = c.args.line.kind in
    let bound = amount_of c.args.line.bound in
    let ps = c.args.parts.now in
    let fits : FitsSigned w128 c.args.low = search rules in
    let back : to_z w128 (of_z w128 c.args.low) ≡ c.args.low = to_z-of_z w128 c.args.low fits in
    subst (λ (z : ℤ). All (λ (x : Lit). Any (IsRaisedBy a k bound z x) ps) c.loop-part.lits.items) back
    c.loop-part.invariant
