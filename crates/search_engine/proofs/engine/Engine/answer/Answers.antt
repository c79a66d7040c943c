use Rattle.std.proofs.Common.{ℕ, ◌+◌, Bool, List, subst}
use Rattle.search_engine.specs.declared.engine.Engine.{Engine}
use Rattle.search_engine.specs.Searching.{GivesValues}
use Rattle.search_engine.proofs.AnswerFacts.{values-satisfy, values-make}
use Rattle.search_engine.proofs.engine.Engine.answer.Goals as goal

pub returns-clause-answer : goal.returns-clause-answer
returns-clause-answer c =
    let e : Engine = c.args.self.now in
    let values : List Bool = c.in_ok-values.values in
    let given : GivesValues e.store.trail.values (e.problem.vars + 1) values =
    subst (λ xs. GivesValues xs (e.problem.vars + 1) values) c.assignment.ensures.value
    (subst (λ (n : ℕ). GivesValues c.assignment.result.now n values) c.requires.end c.in_ok-values.ensures) in (
      given.size,
      values-satisfy e c.requires.search c.requires.quiet values given c.requires.sums c.requires.bounds,
      values-make e c.requires.search c.requires.quiet values given c.requires.sums c.requires.bounds c.args.assume.now
          c.requires.literals c.requires.trues,
    )
