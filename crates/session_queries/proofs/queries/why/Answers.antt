use Rattle.std.proofs.Common.{List, Some, refl, sym, subst, arith}
use Rattle.ground_task.specs.Tasks.{IsTaskOf}
use Rattle.kb_logic.specs.declared.structures.Literal.{Literal}
use Rattle.consult_text.specs.declared.replies.Reply.TheVariants as reply
use Rattle.task_queries.specs.Queries.{AnswersConflict}
use Rattle.session_queries.proofs.QueryLemmas.{unspent_budget, found, halts}
use Rattle.session_queries.proofs.queries.why.Goals as goal

pub conflict-requires-clause-budget : goal.conflict-requires-clause-budget
conflict-requires-clause-budget g c =
    unspent_budget c.args.limit c.args.task.now.solver.kept.learnt (record { limit = c.args.limit; spent = 0 }) refl

pub returns-in-Ok-Some : goal.returns-in-Ok-Some
returns-in-Ok-Some g c =
    found (λ kb. IsTaskOf kb c.args.task.now.numbers c.args.task.now.solver.kept.problem) c.args.choices.now (record {
      query = tt;
      begun = refl;
      ends = c.conflict.ensures.ends;
      task = c.conflict.ensures.task;
    }) (reply.Conflict _) (λ k is. cc) tt
    (λ kb is. (
      tt,
      subst (λ (ls : List Literal). AnswersConflict kb c.args.choices.now (Some ls)) (sym c.in-Ok-Some.some-is)
          (subst (AnswersConflict kb c.args.choices.now) c.in-Ok-Some.field-0-is (c.in-Ok-Some.ensures.answer kb is)),
    ))

pub returns-in-Ok-None : goal.returns-in-Ok-None
returns-in-Ok-None g c =
    found (λ kb. IsTaskOf kb c.args.task.now.numbers c.args.task.now.solver.kept.problem) c.args.choices.now (record {
      query = tt;
      begun = refl;
      ends = c.conflict.ensures.ends;
      task = c.conflict.ensures.task;
    }) reply.Consistent (λ k is. cc) tt
    (λ kb is. (
      tt,
      subst (AnswersConflict kb c.args.choices.now) c.in-Ok-None.field-0-is
          (c.in-Ok-None.ensures.answer kb is),
    ))

pub returns-in-Err : goal.returns-in-Err
returns-in-Err g c =
    halts (λ kb. IsTaskOf kb c.args.task.now.numbers c.args.task.now.solver.kept.problem) c.args.choices.now (record {
      query = tt;
      begun = refl;
      ends = c.conflict.ensures.ends;
      task = c.conflict.ensures.task;
    }) c.in-Err.halt c.halted.result c.in-Err.ensures.halt c.halted.ensures
    (λ kb is. omega arith)
