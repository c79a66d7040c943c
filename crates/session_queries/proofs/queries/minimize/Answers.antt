use Rattle.std.proofs.Common.{◌+◌, Some, refl, sym, subst}
use Rattle.kb_logic.specs.Bases.{Base}
use Rattle.ground_task.specs.Tasks.{IsTaskOf, ShowsNone}
use Rattle.consult_text.specs.declared.commands.Command.TheVariants as command
use Rattle.consult_text.specs.declared.replies.Reply.TheVariants as reply
use Rattle.consult_text.specs.Searches.{term_width}
use Rattle.task_queries.specs.Queries.{AnswersLeast}
use Rattle.task_queries.specs.declared.found.Least.{Least}
use Rattle.session_queries.proofs.QueryLemmas.{unspent_budget, IsCalled, found}
use Rattle.session_queries.proofs.MinimumLemmas.{spans, halts_by}
use Rattle.session_queries.proofs.queries.minimize.Goals as goal

pub least-requires-clause-budget : goal.least-requires-clause-budget
least-requires-clause-budget g c =
    unspent_budget c.args.limit c.args.task.now.solver.kept.learnt (record { limit = c.args.limit; spent = 0 }) refl

pub returns-in-Ok-Some : goal.returns-in-Ok-Some
returns-in-Ok-Some g c =
    let kb = c.requires.task.0 in
    let called : IsCalled (term_width kb c.args.term + 3) (command.Minimize c.args.term) c.args.limit
    c.args.task.now.numbers c.least.new.task.numbers c.args.task.now.solver.kept c.least.new.task.solver.kept
    (record { limit = c.args.limit; spent = 0 }) c.least.new.budget = record {
      query = tt;
      begun = refl;
      ends = c.least.ensures.ends (term_width kb c.args.term) (spans kb c.args.task.now.numbers
          c.args.task.now.solver.kept.problem c.args.term c.requires.task.1 c.requires.term);
      task = c.least.ensures.task;
    } in
    found (λ kb. IsTaskOf kb c.args.task.now.numbers c.args.task.now.solver.kept.problem) c.args.choices.now called
    _ (λ k is. cc) tt
    (λ kb is. (
      tt,
      subst (λ (l : Least). AnswersLeast kb c.args.choices.now c.args.term (Some l)) (sym c.in-Ok-Some.least-is)
          (subst (AnswersLeast kb c.args.choices.now c.args.term) c.in-Ok-Some.field-0-is
          (c.in-Ok-Some.ensures.answer kb is)),
    ))

pub returns-in-Ok-None : goal.returns-in-Ok-None
returns-in-Ok-None g c =
    let kb = c.requires.task.0 in
    let called : IsCalled (term_width kb c.args.term + 3) (command.Minimize c.args.term) c.args.limit
    c.args.task.now.numbers c.least.new.task.numbers c.args.task.now.solver.kept c.least.new.task.solver.kept
    (record { limit = c.args.limit; spent = 0 }) c.least.new.budget = record {
      query = tt;
      begun = refl;
      ends = c.least.ensures.ends (term_width kb c.args.term) (spans kb c.args.task.now.numbers
          c.args.task.now.solver.kept.problem c.args.term c.requires.task.1 c.requires.term);
      task = c.least.ensures.task;
    } in
    found (λ kb. IsTaskOf kb c.args.task.now.numbers c.args.task.now.solver.kept.problem) c.args.choices.now called
    reply.Inconsistent (λ k is. cc)
    (subst (ShowsNone c.args.task.now.numbers c.args.choices.now c.least.new.task.solver.kept.cores)
    c.in-Ok-None.field-0-is c.in-Ok-None.ensures.refuted)
    (λ kb is. (
      tt,
      subst (AnswersLeast kb c.args.choices.now c.args.term) c.in-Ok-None.field-0-is
          (c.in-Ok-None.ensures.answer kb is),
    ))

pub returns-in-Err : goal.returns-in-Err
returns-in-Err g c =
    let called : (kb : Base) → IsTaskOf kb c.args.task.now.numbers c.args.task.now.solver.kept.problem
    → IsCalled (term_width kb c.args.term + 3) (command.Minimize c.args.term) c.args.limit c.args.task.now.numbers
    c.least.new.task.numbers c.args.task.now.solver.kept c.least.new.task.solver.kept
    (record { limit = c.args.limit; spent = 0 }) c.least.new.budget = λ kb of. record {
      query = tt;
      begun = refl;
      ends = c.least.ensures.ends (term_width kb c.args.term) (spans kb c.args.task.now.numbers
          c.args.task.now.solver.kept.problem c.args.term of c.requires.term);
      task = c.least.ensures.task;
    } in
    halts_by (λ kb. IsTaskOf kb c.args.task.now.numbers c.args.task.now.solver.kept.problem) c.args.choices.now called
    c.requires.task.0 c.requires.task.1 c.in-Err.halt c.halted.result c.in-Err.ensures.halt c.halted.ensures
