use Rattle.std.proofs.Common.{◌↔◌, [], length, sym, subst, ◌∙◌}
use Rattle.std.proofs.lemmas.Bool.{eq-eqb, eqb-true}
use Rattle.std.proofs.lemmas.List.{drop_all}
use Rattle.ground_core.specs.Solving.{IsSublist}
use Rattle.solving_judge.proofs.AskFacts.{nothing-left}
use Rattle.solving_judge.proofs.asking.is_sublist.Goals as goal

pub returns : goal.returns
returns c =
    let over = drop_all c.loop-other.other-index c.args.others.now c.loop-other-test.false in
    let end = nothing-left c.loop-other.rest.now in
    let inv : IsSublist c.loop-other.rest.now [] ↔ IsSublist c.args.lits.now c.args.others.now =
    subst (λ ys. IsSublist c.loop-other.rest.now ys ↔ IsSublist c.args.lits.now c.args.others.now) over
    c.loop-other.invariant in
    let count = length c.loop-other.rest.now in (
      λ t. inv.0 (end.0 (eqb-true count 0 (sym c.is_empty.ensures ∙ t))),
      λ h. c.is_empty.ensures ∙ eq-eqb count 0 (end.1 (inv.1 h)),
    )
