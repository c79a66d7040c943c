use Rattle.std.proofs.Common.{rules, ◌≡◌, ◌++◌, ◌∷◌, [], List, FitsSigned, to_z, of_z, sym, ap, ◌∙◌, subst}
use Rattle.std.specs.Int.{w128}
use Rattle.std.proofs.lemmas.Int.{to_z-of_z}
use Rattle.lit_core.specs.declared.literals.Lit.{Lit}
use Rattle.lit_core.specs.Literals.{negated}
use Rattle.term_bounds.specs.Amounts.{amount_of}
use Rattle.term_bounds.specs.Reasons.{AreReasons, IsReason}
use Rattle.term_bounds.proofs.ReasonFacts.{with-output}
use Rattle.term_bounds.proofs.reasons.reasons.Goals as goal

pub returns : goal.returns
returns c =
    let a = c.args.assignment.now in
    let k = c.args.line.kind in
    let bound = amount_of c.args.line.bound in
    let ps = c.args.parts.now in
    let lits : List Lit = c.in_ok-clause.clause.items in
    let fits : FitsSigned w128 c.args.spare = search rules in
    let back : to_z w128 (of_z w128 c.args.spare) ≡ c.args.spare = to_z-of_z w128 c.args.spare fits in
    let all : AreReasons a k bound ps c.args.spare lits = subst (λ z. AreReasons a k bound ps z lits) back
    c.in_ok-clause.ensures.reasons in
    let items : c.push.new.self.items ≡ lits ++ negated c.args.out ∷ [] = c.in_ok-push.ensures.items
    ∙ ap (λ (l : Lit). lits ++ l ∷ []) c.negated.ensures in
    record {
      reason = subst (IsReason a k bound c.args.out ps c.args.spare) (sym items)
          (with-output a k bound c.args.out ps c.args.spare lits c.requires.out all);
    }
