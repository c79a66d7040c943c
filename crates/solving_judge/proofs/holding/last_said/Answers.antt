use Rattle.std.proofs.Common.{◌≡◌, ◌+◌, [], Some, take, refl, sym, ap, ◌∙◌, subst, arith}
use Rattle.std.proofs.lemmas.List.Sums.{fold_more}
use Rattle.ground_core.specs.Problems.{ProblemState}
use Rattle.ground_core.specs.Growth.{empty_problem}
use Rattle.solving_judge.specs.Sayings.{problem_said, saying}
use Rattle.solving_judge.specs.Suiting.{IsLastIfSuited}
use Rattle.solving_judge.proofs.SuitFacts.{all-back, all-fine, saying-back, saying-fine, unsuited}
use Rattle.solving_judge.proofs.holding.last_said.Goals as goal

abbrev NoBounds : ProblemState → Type 0
NoBounds p = p.bounds ≡ []

pub returns-then-from-len-clause-last : goal.returns-then-from-len-clause-last
returns-then-from-len-clause-last c = λ given len s.
    let values = c.args.values.now in
    let t = all-back values saying NoBounds saying-fine (saying-back values) (empty_problem given) c.args.said.now refl
    s in
    omega (arith, t.0, len, c.if-from-len.true, c.from.ensures, c.len.ensures)

pub returns-in_err-last-clause-last : goal.returns-in_err-last-clause-last
returns-in_err-last-clause-last c = λ given len.
    let values = c.args.values.now in
    let i = c.loop-it.it-index in
    let q : ProblemState = problem_said given (take i c.args.said.now) in
    let h = c.loop-it.invariant.suits given len in
    let fine : NoBounds q = all-fine values saying NoBounds saying-fine (saying-back values) (empty_problem given)
    (take i c.args.said.now) refl in
    subst (λ r. IsLastIfSuited (problem_said given c.args.said.now) values r) (sym c.from_residual.ensures)
    (unsuited values saying NoBounds saying-fine (saying-back values) (empty_problem given) c.args.said.now i
    c.it-item.result refl c.loop-it-test.true c.it-item.is (c.in_err-last.ensures.last q h.1 fine h.0))

pub loop-it-preserved : goal.loop-it-preserved
loop-it-preserved c = record {
  fits = c.in_ok-last.ensures.fits;
  suits = λ given len.
      let values = c.args.values.now in
      let i = c.loop-it.it-index in
      let said = c.args.said.now in
      let q : ProblemState = problem_said given (take i said) in
      let h = c.loop-it.invariant.suits given len in
      let fine : NoBounds q = all-fine values saying NoBounds saying-fine (saying-back values) (empty_problem given)
      (take i said) refl in
      let next : problem_said given (take (i + 1) said) ≡ saying q c.it-item.result =
      fold_more saying (empty_problem given) said i c.it-item.result c.loop-it-test.true
      ∙ ap (saying q) (sym c.it-item.is) in
      subst (λ (r : ProblemState). IsLastIfSuited r values (Some c.in_ok-last.last)) (sym next)
      (c.in_ok-last.ensures.last q h.1 fine h.0);
}
