use Rattle.std.proofs.Common.{Some, refl, sym, subst, arith}
use Rattle.kb_logic.specs.declared.structures.Structure.{Structure}
use Rattle.ground_task.specs.Tasks.{IsTaskOf, ShowsNone}
use Rattle.found_models.specs.Models.{IsAnswer}
use Rattle.consult_text.specs.declared.replies.Reply.TheVariants as reply
use Rattle.session_queries.proofs.QueryLemmas.{unspent_budget, found, halts}
use Rattle.session_queries.proofs.queries.seek_model.Goals as goal

pub new_model-requires-clause-budget : goal.new_model-requires-clause-budget
new_model-requires-clause-budget g c =
    unspent_budget c.args.limit c.args.task.now.solver.kept.learnt (record { limit = c.args.limit; spent = 0 }) refl

pub returns-in-Ok-Some-clause-ends : goal.returns-in-Ok-Some-clause-ends
returns-in-Ok-Some-clause-ends g c =
    let choices = c.args.choices.now in
    found (λ kb. IsTaskOf kb c.args.task.now.numbers c.args.task.now.solver.kept.problem) choices
    (record {
      query = tt;
      begun = refl;
      ends = c.new_model.ensures.ends;
      task = c.new_model.ensures.task;
    }) (reply.Model _) (λ k is. cc) tt
    (λ kb is. (
      tt,
      subst (λ (m : Structure). IsAnswer kb choices (Some m)) (sym c.in-Ok-Some.model-is)
          (subst (IsAnswer kb choices) c.in-Ok-Some.field-0-is (c.in-Ok-Some.ensures.answer kb is)),
    ))

pub returns-in-Ok-None-clause-ends : goal.returns-in-Ok-None-clause-ends
returns-in-Ok-None-clause-ends g c =
    let choices = c.args.choices.now in
    found (λ kb. IsTaskOf kb c.args.task.now.numbers c.args.task.now.solver.kept.problem) choices
    (record {
      query = tt;
      begun = refl;
      ends = c.new_model.ensures.ends;
      task = c.new_model.ensures.task;
    }) reply.Inconsistent (λ k is. cc)
    (subst (ShowsNone c.args.task.now.numbers choices c.new_model.new.task.solver.kept.cores) c.in-Ok-None.field-0-is
    c.in-Ok-None.ensures.refuted)
    (λ kb is. (
      tt,
      subst (IsAnswer kb choices) c.in-Ok-None.field-0-is (c.in-Ok-None.ensures.answer kb is),
    ))

pub returns-in-Err-clause-ends : goal.returns-in-Err-clause-ends
returns-in-Err-clause-ends g c =
    halts (λ kb. IsTaskOf kb c.args.task.now.numbers c.args.task.now.solver.kept.problem) c.args.choices.now
    (record {
      query = tt;
      begun = refl;
      ends = c.new_model.ensures.ends;
      task = c.new_model.ensures.task;
    }) c.in-Err.halt c.halted.result c.in-Err.ensures.halt c.halted.ensures (λ kb is. omega arith)
