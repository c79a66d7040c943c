use Rattle.std.proofs.Common.{rules, ◌≡◌, FitsSigned, to_z, of_z, sym, subst}
use Rattle.std.specs.Int.{w128}
use Rattle.std.proofs.lemmas.Int.{to_z-of_z}
use Rattle.std.proofs.lemmas.Result.{IfOk-weaker}
use Rattle.kb_logic.specs.declared.syntax.AggKind.TheVariants as kind
use Rattle.term_bounds.specs.Amounts.{amount_of}
use Rattle.term_bounds.specs.Reasons.{AreReasons}
use Rattle.term_bounds.proofs.reasons.literals_of.Goals as goal

pub returns-in-Sum : goal.returns-in-Sum
returns-in-Sum c =
    let a = c.args.assignment.now in
    let bound = amount_of c.args.line.bound in
    let ps = c.args.parts.now in
    let fits : FitsSigned w128 c.args.spare = search rules in
    let back : to_z w128 (of_z w128 c.args.spare) ≡ c.args.spare = to_z-of_z w128 c.args.spare fits in
    record {
      reasons = IfOk-weaker c.sum_literals.result _ _
          (λ x all. subst (λ k. AreReasons a k bound ps c.args.spare x.items) (sym c.in-Sum.is)
          (subst (λ z. AreReasons a kind.Sum bound ps z x.items) back (all bound))) c.sum_literals.ensures.reasons;
    }
