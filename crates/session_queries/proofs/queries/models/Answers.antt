use Rattle.std.proofs.Common.{Some, refl, sym, subst, arith}
use Rattle.ground_task.specs.Tasks.{IsTaskOf, ShowsNone}
use Rattle.task_queries.specs.declared.found.Models.{Models}
use Rattle.consult_text.specs.declared.replies.Reply.TheVariants as reply
use Rattle.task_queries.specs.Queries.{AnswersModels}
use Rattle.session_queries.proofs.QueryLemmas.{unspent_budget, found, halts}
use Rattle.session_queries.proofs.queries.models.Goals as goal

pub models-requires-clause-budget : goal.models-requires-clause-budget
models-requires-clause-budget g c =
    unspent_budget c.args.limit c.args.task.now.solver.kept.learnt (record { limit = c.args.limit; spent = 0 }) refl

pub returns-in-Ok-Some : goal.returns-in-Ok-Some
returns-in-Ok-Some g c =
    found (λ kb. IsTaskOf kb c.args.task.now.numbers c.args.task.now.solver.kept.problem) c.args.choices.now (record {
      query = tt;
      begun = refl;
      ends = c.models.ensures.ends;
      task = c.models.ensures.task;
    }) (reply.Models _ _) (λ k is. cc) tt
    (λ kb is. (
      tt,
      subst (λ (ms : Models). AnswersModels kb c.args.choices.now c.args.most (Some ms)) (sym c.in-Ok-Some.models-is)
          (subst (AnswersModels kb c.args.choices.now c.args.most) c.in-Ok-Some.field-0-is
          (c.in-Ok-Some.ensures.answer kb is)),
    ))

pub returns-in-Ok-None : goal.returns-in-Ok-None
returns-in-Ok-None g c =
    found (λ kb. IsTaskOf kb c.args.task.now.numbers c.args.task.now.solver.kept.problem) c.args.choices.now (record {
      query = tt;
      begun = refl;
      ends = c.models.ensures.ends;
      task = c.models.ensures.task;
    }) reply.Inconsistent (λ k is. cc) (subst (ShowsNone c.args.task.now.numbers c.args.choices.now
    c.models.new.task.solver.kept.cores)
    c.in-Ok-None.field-0-is c.in-Ok-None.ensures.refuted)
    (λ kb is. (
      tt,
      subst (AnswersModels kb c.args.choices.now c.args.most) c.in-Ok-None.field-0-is
          (c.in-Ok-None.ensures.answer kb is),
    ))

pub returns-in-Err : goal.returns-in-Err
returns-in-Err g c =
    halts (λ kb. IsTaskOf kb c.args.task.now.numbers c.args.task.now.solver.kept.problem) c.args.choices.now (record {
      query = tt;
      begun = refl;
      ends = c.models.ensures.ends;
      task = c.models.ensures.task;
    }) c.in-Err.halt c.halted.result c.in-Err.ensures.halt c.halted.ensures
    (λ kb is. omega arith)
