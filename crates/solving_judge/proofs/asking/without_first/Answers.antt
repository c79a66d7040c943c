use Rattle.std.proofs.Common.{◌↔◌, ◌∷◌, sym, subst, ◌∙◌}
use Rattle.ground_core.specs.Solving.{IsSublist}
use Rattle.solving_judge.proofs.AskFacts.{same-lit, taken}
use Rattle.solving_judge.proofs.asking.without_first.Goals as goal

pub returns-in-Some : goal.returns-in-Some
returns-in-Some c = λ others.
    let first = c.in-Some.first.now in
    let further = c.in-Some.further.now in
    subst (λ ls. IsSublist further others ↔ IsSublist ls (c.args.lit ∷ others)) (sym c.in-Some.ensures.cases.0)
    (taken first c.args.lit further others (same-lit first c.args.lit (sym c.eq.ensures ∙ c.if-eq.true)))
