use Rattle.std.proofs.Common.{◌≡◌, ◌++◌, ◌+◌, List, IfOk, take, ap, ◌∙◌, subst}
use Rattle.lit_core.specs.declared.literals.Lit.{Lit}
use Rattle.support_explainer.proofs.ItemFacts.{without-parts, take-rest}
use Rattle.support_explainer.proofs.lists.without_at.Goals as goal

pub returns : goal.returns
returns c =
    subst (λ (l : List Lit). IfOk c.joined.result (λ list. list.items ≡ l))
    (ap (λ (l : List Lit). take c.args.at c.args.lits.now ++ l) (take-rest c.args.lits.now (c.args.at + 1))
    ∙ without-parts c.args.lits.now c.args.at)
    c.joined.ensures
