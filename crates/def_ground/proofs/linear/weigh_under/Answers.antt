use Rattle.std.proofs.Common.{rules, ◌≡◌, FitsSigned, w64, subst}
use Rattle.std.proofs.lemmas.Int.{to_z-of_z}
use Rattle.std.proofs.lemmas.Result.{IfOk-weaker}
use Rattle.def_ground.specs.Linear.{weighed, weighed_under}
use Rattle.def_ground.specs.LinearViews.{linear_view, LinearGrows}
use Rattle.def_ground.proofs.LinearCalls.{weighed-made, weighed-within}
use Rattle.def_ground.proofs.linear.weigh_under.Goals as goal

pub returns-clause-made : goal.returns-clause-made
returns-clause-made c =
    let p = c.args.problem.now in
    let q = c.answer_under.new.problem in
    let a = c.in_ok-answer.answer in
    let st = linear_view c.args.linear.now p in
    let next = linear_view c.weigh.new.linear q in
    let fits : FitsSigned w64 c.args.weight = search rules in
    let back = to_z-of_z w64 c.args.weight fits in
    IfOk-weaker c.weigh.result (λ _. _) (λ _. next ≡ weighed_under c.args.weight c.args.answer c.args.guards.now st)
    (λ _ is. weighed-made c.args.weight c.args.answer a c.args.guards.now st next q c.in_ok-answer.ensures.made
    (subst (λ w. next ≡ weighed w (record { answer = a; problem = q }) st) back (is q p))) c.weigh.ensures

pub returns-clause-grows : goal.returns-clause-grows
returns-clause-grows c =
    let p = c.args.problem.now in
    let q = c.answer_under.new.problem in
    let a = c.in_ok-answer.answer in
    let st = linear_view c.args.linear.now p in
    let next = linear_view c.weigh.new.linear q in
    let fits : FitsSigned w64 c.args.weight = search rules in
    let back = to_z-of_z w64 c.args.weight fits in
    IfOk-weaker c.weigh.result (λ _. _) (λ _. LinearGrows p q c.weigh.new.linear.parts)
    (λ _ is. weighed-within c.args.weight a p q st next c.in_ok-answer.ensures.grows c.requires.parts
    (subst (λ w. next ≡ weighed w (record { answer = a; problem = q }) st) back (is q p))) c.weigh.ensures
