use Rattle.std.proofs.Common.{◌∷◌, ◌++◌, [], List, sym, ap, ◌∙◌}
use Rattle.lit_core.specs.declared.literals.Lit.{Lit}
use Rattle.lit_core.specs.Literals.{negated}
use Rattle.ground_core.specs.Growth.{falsified_by}
use Rattle.ground_core.proofs.GrowthFacts.{falsified-more}
use Rattle.ground_core.proofs.exclusions.exclusion.Goals as goal

pub loop-i-preserved : goal.loop-i-preserved
loop-i-preserved c =
    let vs = c.args.values.now in
    let o : Lit = negated c.args.out in
    c.in_ok-push-2.ensures.ok
    ∙ ap (λ (ls : List Lit). ls ++ c.falsified.result ∷ []) c.loop-i.invariant
    ∙ ap (λ (x : Lit). (o ∷ falsified_by vs c.loop-i.i) ++ x ∷ []) c.falsified.ensures
    ∙ ap (λ (ls : List Lit). o ∷ ls) (sym (falsified-more vs c.loop-i.i))
