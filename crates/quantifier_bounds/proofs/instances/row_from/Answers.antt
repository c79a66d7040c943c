use Rattle.std.proofs.Common.{◌≡◌, ◌+◌, ◌++◌, ◌∷◌, [], ◌∙◌, drop, subst, sym, ap, arith}
use Rattle.plain_evaluation.specs.Environments.{env_view}
use Rattle.quantifier_bounds.proofs.Opened.{row_next}
use Rattle.quantifier_bounds.proofs.instances.row_from.Goals as goal

pub elements-preserved : goal.elements-preserved
elements-preserved c =
    let e = env_view c.args.env.now in
    let x = c.in-Ok.elem.now in
    let row : c.push.new.self ≡ c.elements.row ++ x ∷ [] =
    c.in_ok-push-in-Ok.ensures.ok ∙ ap (λ y. c.elements.row ++ y ∷ []) c.in_ok-copy-in-Ok.ensures in
    let next : c.in-Some.next ≡ c.elements.at + 1 = omega (arith, c.in-Some.ensures) in
    subst (λ us. us ++ drop c.in-Some.next e ≡ drop c.args.first e) (sym row)
    (subst (λ n. (c.elements.row ++ x ∷ []) ++ drop n e ≡ drop c.args.first e) (sym next)
    (row_next e c.elements.row c.elements.at c.args.first x c.in-Ok.ensures c.elements.invariant))
