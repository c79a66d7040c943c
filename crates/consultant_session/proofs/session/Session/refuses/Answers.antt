use Rattle.std.proofs.Common.{MatchOption, sym, subst}
use Rattle.ground_core.specs.Solving.{HasCoreWithin}
use Rattle.ground_task.specs.Choices.{AreOver}
use Rattle.consult_base.specs.Opened.{base_of}
use Rattle.consultant_session.proofs.FoundLemmas.{choices_over}
use Rattle.consultant_session.proofs.StepLemmas.{is-refused, is-not-refused}
use Rattle.consultant_session.proofs.session.Session.refuses.Goals as goal

pub lits_of-requires : goal.lits_of-requires
lits_of-requires g c =
    subst (AreOver c.self.inside.task.numbers) (sym c.as_slice.ensures)
    (choices_over (base_of c.self.inside.kb) c.self.inside.task.numbers c.self.inside.task.solver.kept.problem
    c.self.inside.choices c.self.invariant.over.task c.self.invariant.choices)

pub returns-in-Ok-Some-clause-told : goal.returns-in-Ok-Some-clause-told
returns-in-Ok-Some-clause-told g c =
    let cores = c.self.inside.task.solver.kept.cores in
    let core = subst (λ o. MatchOption o (HasCoreWithin cores c.as_slice-2.result.now → ⊥)
    (λ n. HasCoreWithin cores c.as_slice-2.result.now)) c.in-Ok-Some.field-0-is c.in-Ok-Some.ensures in
    rw (← c.self.view_is) (is-refused (base_of c.self.inside.kb) c.self.inside.task.numbers
    (record { choices = c.self.inside.choices; budget = c.self.inside.budget }) c.self.inside.task.solver.kept
    c.self.invariant.over c.args.command.now c.as_slice.result.now c.as_slice.ensures c.in_ok-lits.lits.items
    c.as_slice-2.result.now c.in_ok-lits.ensures c.as_slice-2.ensures.value c.if-not-needs_model.ensures core)

pub returns-in-Ok-None-clause-told : goal.returns-in-Ok-None-clause-told
returns-in-Ok-None-clause-told g c =
    let cores = c.self.inside.task.solver.kept.cores in
    let core = subst (λ o. MatchOption o (HasCoreWithin cores c.as_slice-2.result.now → ⊥)
    (λ n. HasCoreWithin cores c.as_slice-2.result.now)) c.in-Ok-None.field-0-is c.in-Ok-None.ensures in
    rw (← c.self.view_is) (is-not-refused (base_of c.self.inside.kb) c.self.inside.task.numbers
    (record { choices = c.self.inside.choices; budget = c.self.inside.budget }) c.self.inside.task.solver.kept
    c.self.invariant.over c.args.command.now c.as_slice.result.now c.as_slice.ensures c.in_ok-lits.lits.items
    c.as_slice-2.result.now c.in_ok-lits.ensures c.as_slice-2.ensures.value core)
