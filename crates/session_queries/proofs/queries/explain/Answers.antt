use Rattle.std.proofs.Common.{List, refl, sym, subst, arith}
use Rattle.ground_task.specs.Tasks.{IsTaskOf}
use Rattle.kb_logic.specs.declared.structures.Literal.{Literal}
use Rattle.task_queries.specs.declared.found.Reason.TheVariants.{By}
use Rattle.consult_text.specs.declared.replies.Reply.TheVariants as reply
use Rattle.task_queries.specs.Queries.{AnswersSupport, ShowsInconsistent}
use Rattle.session_queries.proofs.QueryLemmas.{unspent_budget, found, halts}
use Rattle.session_queries.proofs.queries.explain.Goals as goal

pub support-requires-clause-budget : goal.support-requires-clause-budget
support-requires-clause-budget g c =
    unspent_budget c.args.limit c.args.task.now.solver.kept.learnt (record { limit = c.args.limit; spent = 0 }) refl

pub returns-in-Ok-By : goal.returns-in-Ok-By
returns-in-Ok-By g c =
    found (λ kb. IsTaskOf kb c.args.task.now.numbers c.args.task.now.solver.kept.problem) c.args.choices.now (record {
      query = tt;
      begun = refl;
      ends = c.support.ensures.ends;
      task = c.support.ensures.task;
    }) (reply.Supported _) (λ k is. cc) tt
    (λ kb is. (
      tt,
      subst (λ (ls : List Literal). AnswersSupport kb c.args.choices.now c.args.literal.now (By ls))
          (sym c.in-Ok-By.some-is) (subst (AnswersSupport kb c.args.choices.now c.args.literal.now)
          c.in-Ok-By.field-0-is
          (c.in-Ok-By.ensures.answer kb is)),
    ))

pub returns-in-Ok-Free : goal.returns-in-Ok-Free
returns-in-Ok-Free g c =
    found (λ kb. IsTaskOf kb c.args.task.now.numbers c.args.task.now.solver.kept.problem) c.args.choices.now (record {
      query = tt;
      begun = refl;
      ends = c.support.ensures.ends;
      task = c.support.ensures.task;
    }) reply.Free (λ k is. cc) tt
    (λ kb is. (
      tt,
      subst (AnswersSupport kb c.args.choices.now c.args.literal.now) c.in-Ok-Free.field-0-is
          (c.in-Ok-Free.ensures.answer kb is),
    ))

pub returns-in-Ok-Inconsistent : goal.returns-in-Ok-Inconsistent
returns-in-Ok-Inconsistent g c =
    found (λ kb. IsTaskOf kb c.args.task.now.numbers c.args.task.now.solver.kept.problem) c.args.choices.now (record {
      query = tt;
      begun = refl;
      ends = c.support.ensures.ends;
      task = c.support.ensures.task;
    }) reply.Inconsistent (λ k is. cc) (subst (ShowsInconsistent c.args.task.now.numbers c.args.choices.now
    c.support.new.task.solver.kept.cores)
    c.in-Ok-Inconsistent.field-0-is c.in-Ok-Inconsistent.ensures.refuted)
    (λ kb is. (
      tt,
      subst (AnswersSupport kb c.args.choices.now c.args.literal.now) c.in-Ok-Inconsistent.field-0-is
          (c.in-Ok-Inconsistent.ensures.answer kb is),
    ))

pub returns-in-Err : goal.returns-in-Err
returns-in-Err g c =
    halts (λ kb. IsTaskOf kb c.args.task.now.numbers c.args.task.now.solver.kept.problem) c.args.choices.now (record {
      query = tt;
      begun = refl;
      ends = c.support.ensures.ends;
      task = c.support.ensures.task;
    }) c.in-Err.halt c.halted.result c.in-Err.ensures.halt c.halted.ensures
    (λ kb is. omega arith)
