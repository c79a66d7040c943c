use Rattle.std.proofs.Common.{◌+◌, ◌∙◌, Bool, List, IfOk, All, length, true, inl, map, refl, sym, subst}
use Rattle.kb_logic.specs.declared.structures.Literal.{Literal}
use Rattle.kb_logic.specs.InForce.{literal_with}
use Rattle.lit_core.specs.declared.literals.Lit.{Lit}
use Rattle.consequences.specs.Forced.{IsSeen}
use Rattle.atom_numbers.specs.Unknown.{unknown_atoms}
use Rattle.std.proofs.lemmas.Result.{err_from_is_err_and}
use Rattle.ground_task.specs.Choices.{AreOver}
use Rattle.ground_task.specs.Tasks.{atom_base}
use Rattle.ground_task.proofs.TaskFacts.{one-list}
use Rattle.consult_base.specs.Opened.{base_of}
use Rattle.consult_text.specs.declared.commands.Command.TheVariants as command
use Rattle.consult_text.specs.RightReplies.{RightAnswer}
use Rattle.kept_supports.specs.Supports.{IsSupported, undecided}
use Rattle.forced_literals.specs.OpenTasks.{IsOpenTaskOf, IsOpenTaskWith}
use Rattle.session_queries.specs.Queries.{CoversReply, SearchesUpTo}
use Rattle.consultant_session.proofs.FoundLemmas.{choices_over}
use Rattle.consultant_session.proofs.KeptAnswers.{answers-stay}
use Rattle.consultant_session.proofs.OpenLemmas.{open-task}
use Rattle.consultant_session.proofs.CommandLemmas.{idle, still_over, query_searches, refuted_by}
use Rattle.consultant_session.proofs.ReplyLemmas.{if-ok}
use Rattle.consultant_session.proofs.SolverLemmas.{solver-of}
use Rattle.consultant_session.proofs.session.Session.propagate.Goals as goal

pub models_under-requires-clause-task : goal.models_under-requires-clause-task
models_under-requires-clause-task g c =
    (base_of c.self.inside.kb, c.self.invariant.over.task, c.self.invariant.found)

pub models_under-requires-clause-choices : goal.models_under-requires-clause-choices
models_under-requires-clause-choices g c =
    subst (AreOver c.self.inside.task.numbers) (sym c.as_slice-choices.ensures)
    (choices_over (base_of c.self.inside.kb) c.self.inside.task.numbers c.self.inside.task.solver.kept.problem
    c.self.inside.choices c.self.invariant.over.task c.self.invariant.choices)

pub propagate-requires-clause-task : goal.propagate-requires-clause-task
propagate-requires-clause-task g c =
    let base = base_of c.self.inside.kb in (
      base,
      (
        subst (IsOpenTaskOf base c.self.inside.task.numbers c.self.inside.task.solver.kept.problem)
            (sym c.as_slice.ensures.value)
            (open-task base c.self.inside.task.numbers c.self.inside.task.solver.kept.problem
            c.self.inside.unknown.items c.self.invariant.over.task c.self.invariant.unknown),
        subst (λ (ls : List Literal). All (IsSupported base ls) c.self.inside.supports)
            (sym c.as_slice-choices.ensures) c.self.invariant.supports,
      ),
    )

pub propagate-requires-clause-seen : goal.propagate-requires-clause-seen
propagate-requires-clause-seen g c = λ lits each.
    subst (λ (models : List (List Bool)). All (IsSeen c.self.inside.task.solver.kept.problem lits) models)
    (sym c.as_slice-2.ensures.value) (c.in_ok-seen.ensures.seen lits each)

pub propagate-requires-clause-choices : goal.propagate-requires-clause-choices
propagate-requires-clause-choices g c =
    subst (AreOver c.self.inside.task.numbers) (sym c.as_slice-choices.ensures)
    (choices_over (base_of c.self.inside.kb) c.self.inside.task.numbers c.self.inside.task.solver.kept.problem
    c.self.inside.choices c.self.invariant.over.task c.self.invariant.choices)

pub returns-in_err-seen-clause-searches : goal.returns-in_err-seen-clause-searches
returns-in_err-seen-clause-searches g c =
    let p = err_from_is_err_and c.from_residual.result c.from_residual.ensures.1 in
    rw p.1 (idle (base_of c.args.self.now.kb) command.Propagate c.args.self.now.state.budget _
    c.args.self.now.solver c.args.self.now.solver refl refl tt (rw (← c.self.view_is) (solver-of
    (base_of c.self.inside.kb) c.self.inside.task.numbers c.self.inside.task.solver.kept c.self.invariant.over)))

pub invariant_of-self : goal.invariant_of-self
invariant_of-self g c =
    let base = base_of c.self.inside.kb in
    let open' : IsOpenTaskWith base c.self.inside.task.numbers c.self.inside.task.solver.kept.problem
    c.as_slice.result.now c.as_slice-choices.result.now c.self.inside.supports = (
      subst (IsOpenTaskOf base c.self.inside.task.numbers c.self.inside.task.solver.kept.problem)
          (sym c.as_slice.ensures.value)
          (open-task base c.self.inside.task.numbers c.self.inside.task.solver.kept.problem
          c.self.inside.unknown.items c.self.invariant.over.task c.self.invariant.unknown),
      subst (λ (ls : List Literal). All (IsSupported base ls) c.self.inside.supports)
          (sym c.as_slice-choices.ensures) c.self.invariant.supports,
    ) in
    record {
      choices = c.self.invariant.choices;
      hashed = c.self.invariant.hashed;
      unknown = c.self.invariant.unknown;
      found = c.self.invariant.found;
      over = still_over _ base command.Propagate _ _ _ _ _ _ _ c.propagate.ensures.ends c.self.invariant.over;
      supports = subst (λ (ls : List Literal). All (IsSupported base ls) c.propagate.new.supports)
          c.as_slice-choices.ensures (c.propagate.ensures.supported base open');
      answered = answers-stay base (record { choices = c.self.inside.choices; budget = c.self.inside.budget })
          c.self.inside.supports c.propagate.new.supports c.self.inside.task.solver.kept
          c.propagate.new.task.solver.kept c.self.inside.answered c.propagate.ensures.kept
          c.propagate.ensures.ends.learns.cores c.self.invariant.answered;
    }

pub returns-clause-right : goal.returns-clause-right
returns-clause-right g c =
    let base = base_of c.self.inside.kb in
    let open' : IsOpenTaskWith base c.self.inside.task.numbers c.self.inside.task.solver.kept.problem
    c.as_slice.result.now c.as_slice-choices.result.now c.self.inside.supports = (
      subst (IsOpenTaskOf base c.self.inside.task.numbers c.self.inside.task.solver.kept.problem)
          (sym c.as_slice.ensures.value)
          (open-task base c.self.inside.task.numbers c.self.inside.task.solver.kept.problem
          c.self.inside.unknown.items c.self.invariant.over.task c.self.invariant.unknown),
      subst (λ (ls : List Literal). All (IsSupported base ls) c.self.inside.supports)
          (sym c.as_slice-choices.ensures) c.self.invariant.supports,
    ) in
    rw (← c.self.view_is) (subst (λ (ls : List Literal). IfOk c.propagate.result
    (RightAnswer base (record { choices = ls; budget = c.self.inside.budget }) command.Propagate))
    c.as_slice-choices.ensures (c.propagate.ensures.ends.right base open' c.self.invariant.over.free))

pub returns-clause-searches : goal.returns-clause-searches
returns-clause-searches g c =
    rw (← c.self.view_is) (query_searches _ (base_of c.self.inside.kb) command.Propagate _ _ _ _ _ _ _ _
    (inl (refl, refl)) c.propagate.ensures.ends c.self.invariant.over)

pub returns-clause-refuted : goal.returns-clause-refuted
returns-clause-refuted g c =
    rw (← c.self.view_is) (refuted_by (base_of c.self.inside.kb) c.self.inside.task.numbers
    c.as_slice-choices.result.now c.self.inside.choices c.propagate.new.task.solver.kept.cores c.propagate.result
    c.self.invariant.over.task.numbers c.as_slice-choices.ensures c.propagate.ensures.ends.refuted)

pub returns-clause-covers : goal.returns-clause-covers
returns-clause-covers g c =
    let base = base_of c.self.inside.kb in
    let open' : IsOpenTaskWith base c.self.inside.task.numbers c.self.inside.task.solver.kept.problem
    c.as_slice.result.now c.as_slice-choices.result.now c.self.inside.supports = (
      subst (IsOpenTaskOf base c.self.inside.task.numbers c.self.inside.task.solver.kept.problem)
          (sym c.as_slice.ensures.value)
          (open-task base c.self.inside.task.numbers c.self.inside.task.solver.kept.problem
          c.self.inside.unknown.items c.self.invariant.over.task c.self.invariant.unknown),
      subst (λ (ls : List Literal). All (IsSupported base ls) c.self.inside.supports)
          (sym c.as_slice-choices.ensures) c.self.invariant.supports,
    ) in
    rw (← c.self.view_is) (if-ok c.propagate.result (λ r h. subst (λ (ls : List Literal). CoversReply base ls
    c.propagate.new.supports r) c.as_slice-choices.ensures (h base open')) c.propagate.ensures.covers)

pub returns-clause-propagates : goal.returns-clause-propagates
returns-clause-propagates g c =
    let base = base_of c.self.inside.kb in
    rw (← c.self.view_is) (λ lits are. subst (λ (ls : List Lit).
    SearchesUpTo (length (undecided c.self.inside.supports ls) + 1) c.self.inside.task.solver.kept
    c.propagate.new.task.solver.kept)
    (c.as_slice.ensures.value ∙ one-list (atom_base base) c.self.invariant.over.task.fine
    (map (literal_with true) (unknown_atoms base.known)) c.self.inside.unknown.items lits
    c.self.invariant.unknown.unknown are) c.propagate.ensures.searches)
