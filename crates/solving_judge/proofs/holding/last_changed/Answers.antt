use Rattle.std.proofs.Common.{◌≡◌, ◌+◌, Some, take, sym, ap, ◌∙◌, subst}
use Rattle.std.proofs.lemmas.List.Sums.{fold_more}
use Rattle.ground_core.specs.Problems.{ProblemState}
use Rattle.ground_core.specs.Growth.{empty_problem}
use Rattle.solving_judge.specs.Sayings.{changed, problem_changed, problem_said}
use Rattle.solving_judge.specs.Suiting.{IsLastIfSuited}
use Rattle.solving_judge.proofs.SuitFacts.{all-back, changed-back, changed-fields, said-atoms, unsuited}
use Rattle.solving_judge.proofs.holding.last_changed.Goals as goal

abbrev Any : ProblemState → Type 0
Any p = Unit {0}

pub returns-in_err-last-clause-last : goal.returns-in_err-last-clause-last
returns-in_err-last-clause-last c = λ given len.
    let values = c.args.values.now in
    subst (λ r. IsLastIfSuited (problem_changed given c.args.said.now c.args.events.now) values r)
    (sym c.from_residual.ensures)
    (λ s. c.in_err-last.ensures.last given len (all-back values changed Any (λ p x h. tt) (changed-back values)
    (problem_said given c.args.said.now) c.args.events.now tt s))

pub returns-in_err-last-2-clause-last : goal.returns-in_err-last-2-clause-last
returns-in_err-last-2-clause-last c = λ given len.
    let values = c.args.values.now in
    let i = c.loop-event.event-index in
    let p : ProblemState = problem_said given c.args.said.now in
    let q : ProblemState = problem_changed given c.args.said.now (take i c.args.events.now) in
    let h = c.loop-event.invariant.suits given len in
    let same = changed-fields p (take i c.args.events.now) in
    let atoms : q.atoms ≡ given = same.0 ∙ said-atoms (empty_problem given) c.args.said.now in
    subst (λ r. IsLastIfSuited (problem_changed given c.args.said.now c.args.events.now) values r)
    (sym c.from_residual-in_err-last-2.ensures)
    (unsuited values changed Any (λ p x h. tt) (changed-back values) p c.args.events.now i c.event-item.result tt
    c.loop-event-test.true c.event-item.is (c.in_err-last-2.ensures.last given q len atoms same.1 h.1 h.0))

pub loop-event-preserved : goal.loop-event-preserved
loop-event-preserved c = record {
  fits = c.in_ok-last-2.ensures.fits;
  suits = λ given len.
      let values = c.args.values.now in
      let i = c.loop-event.event-index in
      let events = c.args.events.now in
      let p : ProblemState = problem_said given c.args.said.now in
      let q : ProblemState = problem_changed given c.args.said.now (take i events) in
      let h = c.loop-event.invariant.suits given len in
      let same = changed-fields p (take i events) in
      let atoms : q.atoms ≡ given = same.0 ∙ said-atoms (empty_problem given) c.args.said.now in
      let next : problem_changed given c.args.said.now (take (i + 1) events) ≡ changed q c.event-item.result =
      fold_more changed p events i c.event-item.result c.loop-event-test.true
      ∙ ap (changed q) (sym c.event-item.is) in
      subst (λ (r : ProblemState). IsLastIfSuited r values (Some c.in_ok-last-2.last)) (sym next)
      (c.in_ok-last-2.ensures.last given q len atoms same.1 h.1 h.0);
}
