use Rattle.std.proofs.Common.{ℕ, ◌+◌, ◌++◌, ◌∷◌, [], Bool, Option, Ok, Err, List, length, sym, ap, ◌∙◌, subst}
use Rattle.lit_core.specs.declared.literals.Lit.{Lit}
use Rattle.lit_core.specs.Literals.{negated}
use Rattle.ground_core.specs.Problems.{ProblemState}
use Rattle.ground_core.specs.Solving.{AreUnretired, HasCoreWithin}
use Rattle.ground_core.specs.Calls.{Keeps, Costs, IsAnsweredAtOnce}
use Rattle.ground_core.proofs.CoreFacts.{still-shown}
use Rattle.ground_core.proofs.CallFacts.{keeps-twice, costs-after, costs-once}
use Rattle.model_search.specs.Models.{FindsModel, IsRefuted}
use Rattle.support_explainer.proofs.DeletionFacts.{frees, core-wider, no-reason, two-more}
use Rattle.support_explainer.proofs.explaining.support.Goals as goal

pub model_of-requires-clause-unretired : goal.model_of-requires-clause-unretired
model_of-requires-clause-unretired g c =
    let whole = c.as_slice.ensures.value ∙ c.in-Ok.ensures ∙ ap (λ (k : Lit). c.args.assume.now ++ k ∷ [])
    c.negated.ensures in
    subst (AreUnretired (g.S.Solve.state c.args.s.now).problem) (sym whole) c.requires.all_unretired

pub returns-in-Ok-Some-clause-finds : goal.returns-in-Ok-Some-clause-finds
returns-in-Ok-Some-clause-finds g c =
    let whole = c.as_slice.ensures.value ∙ c.in-Ok.ensures ∙ ap (λ (k : Lit). c.args.assume.now ++ k ∷ [])
    c.negated.ensures in
    let told = subst (λ (l : List Lit). FindsModel (g.S.Solve.state c.args.s.now).problem l
    (g.S.Solve.state c.model_of.new.s).cores c.in-Ok-Some.field-0) whole c.in-Ok-Some.ensures.finds in
    frees (g.S.Solve.state c.args.s.now).problem c.args.assume.now c.args.target c.in-Ok-Some.values
    (subst (λ (o : Option (List Bool)). FindsModel (g.S.Solve.state c.args.s.now).problem
    (c.args.assume.now ++ negated c.args.target ∷ []) (g.S.Solve.state c.model_of.new.s).cores o)
    c.in-Ok-Some.field-0-is told)

pub returns-in-Ok-Some-clause-costs : goal.returns-in-Ok-Some-clause-costs
returns-in-Ok-Some-clause-costs g c = subst (λ (n : ℕ). Costs n (g.S.Solve.state c.args.s.now)
    (g.S.Solve.state c.model_of.new.s) c.args.budget.now c.model_of.new.budget) (two-more (length c.args.assume.now))
    (costs-once (length c.args.assume.now + 1) (g.S.Solve.state c.args.s.now) (g.S.Solve.state c.model_of.new.s)
    c.args.budget.now c.model_of.new.budget c.model_of.ensures.counts c.model_of.ensures.keeps.rises)

pub returns-in-Ok-Some-clause-decided : goal.returns-in-Ok-Some-clause-decided
returns-in-Ok-Some-clause-decided g c = λ h.
    let whole = c.as_slice.ensures.value ∙ c.in-Ok.ensures ∙ ap (λ (k : Lit). c.args.assume.now ++ k ∷ [])
    c.negated.ensures in
    let at_once : IsAnsweredAtOnce (g.S.Solve.state c.args.s.now) (g.S.Solve.state c.model_of.new.s)
    (Ok c.in-Ok-Some.field-0) = c.in-Ok-Some.ensures.decided
    (subst (HasCoreWithin (g.S.Solve.state c.args.s.now).cores) (sym whole)
    (core-wider (g.S.Solve.state c.args.s.now).cores c.args.assume.now (negated c.args.target ∷ []) h)) in
    absurd (subst (λ (o : Option (List Bool)). IsAnsweredAtOnce (g.S.Solve.state c.args.s.now)
    (g.S.Solve.state c.model_of.new.s) (Ok o)) c.in-Ok-Some.field-0-is at_once).answer

pub supported-requires-clause-unretired : goal.supported-requires-clause-unretired
supported-requires-clause-unretired g c = subst (λ (p : ProblemState). AreUnretired p c.args.assume.now)
    (sym c.model_of.ensures.stays.problem) c.requires.unretired

pub supported-requires-clause-all_unretired : goal.supported-requires-clause-all_unretired
supported-requires-clause-all_unretired g c = subst (λ (p : ProblemState). AreUnretired p
    (c.args.assume.now ++ negated c.args.target ∷ [])) (sym c.model_of.ensures.stays.problem) c.requires.all_unretired

pub supported-requires-clause-refuted : goal.supported-requires-clause-refuted
supported-requires-clause-refuted g c =
    let whole = c.as_slice.ensures.value ∙ c.in-Ok.ensures ∙ ap (λ (k : Lit). c.args.assume.now ++ k ∷ [])
    c.negated.ensures in
    let told = subst (λ (l : List Lit). FindsModel (g.S.Solve.state c.args.s.now).problem l
    (g.S.Solve.state c.model_of.new.s).cores c.in-Ok-None.field-0) whole c.in-Ok-None.ensures.finds in
    subst (λ (p : ProblemState). IsRefuted p (g.S.Solve.state c.model_of.new.s).cores
    (c.args.assume.now ++ negated c.args.target ∷ [])) (sym c.model_of.ensures.stays.problem)
    (subst (λ (o : Option (List Bool)). FindsModel (g.S.Solve.state c.args.s.now).problem
    (c.args.assume.now ++ negated c.args.target ∷ []) (g.S.Solve.state c.model_of.new.s).cores o)
    c.in-Ok-None.field-0-is told)

pub returns-in-Ok-None-clause-keeps : goal.returns-in-Ok-None-clause-keeps
returns-in-Ok-None-clause-keeps g c = keeps-twice (g.S.Solve.state c.args.s.now) (g.S.Solve.state c.model_of.new.s)
    (g.S.Solve.state c.supported.new.s) c.args.budget.now c.model_of.new.budget c.supported.new.budget
    c.model_of.ensures.keeps c.supported.ensures.keeps

pub returns-in-Ok-None-clause-costs : goal.returns-in-Ok-None-clause-costs
returns-in-Ok-None-clause-costs g c =
    let both : Keeps (g.S.Solve.state c.args.s.now) (g.S.Solve.state c.supported.new.s) c.args.budget.now
    c.supported.new.budget = keeps-twice (g.S.Solve.state c.args.s.now) (g.S.Solve.state c.model_of.new.s)
    (g.S.Solve.state c.supported.new.s) c.args.budget.now c.model_of.new.budget c.supported.new.budget
    c.model_of.ensures.keeps c.supported.ensures.keeps in
    subst (λ (n : ℕ). Costs n (g.S.Solve.state c.args.s.now) (g.S.Solve.state c.supported.new.s) c.args.budget.now
    c.supported.new.budget) (two-more (length c.args.assume.now))
    (costs-after (length c.args.assume.now + 1) (g.S.Solve.state c.args.s.now) (g.S.Solve.state c.model_of.new.s)
    (g.S.Solve.state c.supported.new.s) c.args.budget.now c.model_of.new.budget c.supported.new.budget
    c.model_of.ensures.stays.free c.model_of.ensures.counts c.supported.ensures.counts both.rises)

pub returns-in-Ok-None-clause-decided : goal.returns-in-Ok-None-clause-decided
returns-in-Ok-None-clause-decided g c = λ h.
    let whole = c.as_slice.ensures.value ∙ c.in-Ok.ensures ∙ ap (λ (k : Lit). c.args.assume.now ++ k ∷ [])
    c.negated.ensures in
    let at_once : IsAnsweredAtOnce (g.S.Solve.state c.args.s.now) (g.S.Solve.state c.model_of.new.s)
    (Ok c.in-Ok-None.field-0) = c.in-Ok-None.ensures.decided
    (subst (HasCoreWithin (g.S.Solve.state c.args.s.now).cores) (sym whole)
    (core-wider (g.S.Solve.state c.args.s.now).cores c.args.assume.now (negated c.args.target ∷ []) h)) in
    let then = c.supported.ensures.decided (still-shown (g.S.Solve.state c.args.s.now).cores
    (g.S.Solve.state c.model_of.new.s).cores c.args.assume.now c.model_of.ensures.keeps.cores h) in
    record { answer = then.answer; learnt = then.learnt ∙ at_once.learnt }

pub returns-clause-costs : goal.returns-clause-costs
returns-clause-costs g c = subst (λ (n : ℕ). Costs n (g.S.Solve.state c.args.s.now) (g.S.Solve.state c.model_of.new.s)
    c.args.budget.now c.model_of.new.budget) (two-more (length c.args.assume.now))
    (costs-once (length c.args.assume.now + 1) (g.S.Solve.state c.args.s.now) (g.S.Solve.state c.model_of.new.s)
    c.args.budget.now c.model_of.new.budget c.model_of.ensures.counts c.model_of.ensures.keeps.rises)

pub returns-clause-decided : goal.returns-clause-decided
returns-clause-decided g c = λ h.
    let whole = c.as_slice.ensures.value ∙ c.in-Ok.ensures ∙ ap (λ (k : Lit). c.args.assume.now ++ k ∷ [])
    c.negated.ensures in
    let at_once : IsAnsweredAtOnce {T = List Bool} (g.S.Solve.state c.args.s.now) (g.S.Solve.state c.model_of.new.s)
    (Err c.in-Err.halt) = c.in-Err.ensures.decided (subst (HasCoreWithin (g.S.Solve.state c.args.s.now).cores)
    (sym whole) (core-wider (g.S.Solve.state c.args.s.now).cores c.args.assume.now (negated c.args.target ∷ []) h))
    in
    record { answer = no-reason c.in-Err.halt at_once.answer; learnt = at_once.learnt }
