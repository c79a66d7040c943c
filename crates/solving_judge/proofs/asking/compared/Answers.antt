use Rattle.std.proofs.Common.{List, subst}
use Rattle.std.proofs.lemmas.Result.{IfOk-weaker}
use Rattle.ground_core.specs.Problems.{ProblemState}
use Rattle.solving_judge.specs.declared.additions.Event.{Event}
use Rattle.solving_judge.specs.Sayings.{problem_changed}
use Rattle.solving_judge.specs.Telling.{Tells, Told}
use Rattle.solving_judge.proofs.asking.compared.Goals as goal

pub returns-in-Values-Values-clause-told : goal.returns-in-Values-Values-clause-told
returns-in-Values-Values-clause-told c = λ given len.
    let force = c.args.sides.now.force in
    subst (λ (es : List Event). Tells (problem_changed given c.args.spoken.now.said.items es) force c.args.assume.now
    c.of_values.result) c.deref.ensures.value (c.of_values.ensures.told given force len)

pub returns-in-Core-Core-clause-told : goal.returns-in-Core-Core-clause-told
returns-in-Core-Core-clause-told c =
    IfOk-weaker c.of_core.result (λ o. (said : ProblemState) → Tells said c.args.sides.now.force c.args.assume.now o)
    (Told c.args.spoken.now c.args.sides.now c.args.assume.now)
    (λ o h given len. h (problem_changed given c.args.spoken.now.said.items c.args.sides.now.events.items))
    c.of_core.ensures.told
