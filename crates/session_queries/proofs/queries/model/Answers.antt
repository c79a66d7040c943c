use Rattle.std.proofs.Common.{Ok, Err, Option, sym, subst, IfSome}
use Rattle.kb_logic.specs.declared.structures.Structure.{Structure}
use Rattle.kb_logic.specs.Bases.{IsModelUnder}
use Rattle.ground_task.specs.Tasks.{IsTaskOf}
use Rattle.found_models.specs.Models.{AreFoundModels}
use Rattle.consult_text.specs.declared.replies.Reply.TheVariants as reply
use Rattle.session_queries.proofs.QueryLemmas.{unsearched, narrower}
use Rattle.session_queries.proofs.queries.model.Goals as goal

pub returns-in-Ok-Some-clause-ends : goal.returns-in-Ok-Some-clause-ends
returns-in-Ok-Some-clause-ends g c =
    let choices = c.args.choices.now in
    unsearched (λ kb. IsTaskOf kb c.args.task.now.numbers c.args.task.now.solver.kept.problem
    × AreFoundModels kb c.args.found.now) choices c.known.ensures.kept (Ok (reply.Model _)) (λ k is. cc) tt
    (λ kb is. (
      tt,
      subst (IsModelUnder kb choices) (sym c.in-Ok-Some.model-is)
          (subst (λ (o : Option Structure). IfSome o (IsModelUnder kb choices)) c.in-Ok-Some.field-0-is
          (c.in-Ok-Some.ensures.model kb is.0 is.1)),
    ))

pub returns-in-Ok-None-clause-ends : goal.returns-in-Ok-None-clause-ends
returns-in-Ok-None-clause-ends g c =
    narrower (λ kb. IsTaskOf kb c.args.task.now.numbers c.args.task.now.solver.kept.problem
    × AreFoundModels kb c.args.found.now)
    (λ kb. IsTaskOf kb c.args.task.now.numbers c.args.task.now.solver.kept.problem) c.args.choices.now (λ kb is. is.0)
    c.seek_model.ensures.ends

pub returns-in-Err-clause-ends : goal.returns-in-Err-clause-ends
returns-in-Err-clause-ends g c =
    unsearched (λ kb. IsTaskOf kb c.args.task.now.numbers c.args.task.now.solver.kept.problem
    × AreFoundModels kb c.args.found.now) c.args.choices.now c.known.ensures.kept (Err _) tt tt (λ kb is. tt)
