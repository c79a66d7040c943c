use Rattle.std.proofs.Common.{List, Some, refl, sym, subst}
use Rattle.kb_logic.specs.declared.structures.Literal.{Literal}
use Rattle.ground_task.specs.Tasks.{ShowsNone}
use Rattle.consult_text.specs.declared.replies.Reply.TheVariants as reply
use Rattle.forced_literals.specs.OpenTasks.{CoversWhereSome, IsAnswer, IsOpenTaskWith}
use Rattle.session_queries.proofs.QueryLemmas.{unspent_budget, found, halts}
use Rattle.session_queries.proofs.OpenLemmas.{few-undecided}
use Rattle.session_queries.proofs.queries.propagate.Goals as goal

pub forced-requires-clause-budget : goal.forced-requires-clause-budget
forced-requires-clause-budget g c =
    unspent_budget c.args.limit c.args.task.now.solver.kept.learnt (record { limit = c.args.limit; spent = 0 }) refl

pub returns-in-Ok-Some-clause-ends : goal.returns-in-Ok-Some-clause-ends
returns-in-Ok-Some-clause-ends g c =
    found (λ kb. IsOpenTaskWith kb c.args.task.now.numbers c.args.task.now.solver.kept.problem
    c.args.unknown.now.lits.now
    c.args.choices.now c.args.supports.now) c.args.choices.now (record {
      query = tt;
      begun = refl;
      ends = c.forced.ensures.ends;
      task = c.forced.ensures.task;
    }) (reply.Forced _) (λ k is. cc) tt
    (λ kb is. (
      tt,
      subst (λ (ls : List Literal). IsAnswer kb (record { choices = c.args.choices.now }) (Some ls))
          (sym c.in-Ok-Some.literals-is)
          (subst (IsAnswer kb (record { choices = c.args.choices.now })) c.in-Ok-Some.field-0-is
          (c.in-Ok-Some.ensures.answer kb is)),
    ))

pub returns-in-Ok-Some-clause-covers : goal.returns-in-Ok-Some-clause-covers
returns-in-Ok-Some-clause-covers g c = λ kb is.
    subst (CoversWhereSome kb (record { choices = c.args.choices.now }) c.forced.new.supports)
    c.in-Ok-Some.field-0-is (c.in-Ok-Some.ensures.covers kb is)

pub returns-in-Ok-None-clause-ends : goal.returns-in-Ok-None-clause-ends
returns-in-Ok-None-clause-ends g c =
    found (λ kb. IsOpenTaskWith kb c.args.task.now.numbers c.args.task.now.solver.kept.problem
    c.args.unknown.now.lits.now
    c.args.choices.now c.args.supports.now) c.args.choices.now (record {
      query = tt;
      begun = refl;
      ends = c.forced.ensures.ends;
      task = c.forced.ensures.task;
    }) reply.Inconsistent (λ k is. cc)
    (subst (ShowsNone c.args.task.now.numbers c.args.choices.now c.forced.new.task.solver.kept.cores)
    c.in-Ok-None.field-0-is c.in-Ok-None.ensures.refuted)
    (λ kb is. (
      tt,
      subst (IsAnswer kb (record { choices = c.args.choices.now })) c.in-Ok-None.field-0-is
          (c.in-Ok-None.ensures.answer kb is),
    ))

pub returns-in-Err-clause-ends : goal.returns-in-Err-clause-ends
returns-in-Err-clause-ends g c =
    halts (λ kb. IsOpenTaskWith kb c.args.task.now.numbers c.args.task.now.solver.kept.problem
    c.args.unknown.now.lits.now
    c.args.choices.now c.args.supports.now) c.args.choices.now (record {
      query = tt;
      begun = refl;
      ends = c.forced.ensures.ends;
      task = c.forced.ensures.task;
    }) c.in-Err.halt c.halted.result c.in-Err.ensures.halt c.halted.ensures
    (λ kb is. few-undecided kb c.args.task.now.numbers c.args.task.now.solver.kept.problem
    c.args.unknown.now.lits.now c.args.supports.now is.0)
