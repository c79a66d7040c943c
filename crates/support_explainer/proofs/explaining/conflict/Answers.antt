use Rattle.std.proofs.Common.{ℕ, ◌+◌, ◌≤◌, [], List, Option, length, sym, subst, arith}
use Rattle.std.proofs.lemmas.List.{append-nil}
use Rattle.lit_core.specs.declared.literals.Lit.{Lit}
use Rattle.ground_core.specs.Problems.{ProblemState, AreLitsOf}
use Rattle.ground_core.specs.Solving.{AreUnretired}
use Rattle.ground_core.specs.Calls.{Keeps, Costs}
use Rattle.ground_core.proofs.CallFacts.{stays-twice, keeps-twice, costs-after, costs-once}
use Rattle.model_search.specs.Models.{IsRefuted}
use Rattle.support_explainer.specs.Reasons.{FindsCore, IsIrreducible}
use Rattle.support_explainer.proofs.ItemFacts.{sublist-trans, length-sublist}
use Rattle.support_explainer.proofs.DeletionFacts.{lits-fewer, unretired-fewer, counts-wider, two-more}
use Rattle.support_explainer.proofs.explaining.conflict.Goals as goal

pub irreducible-requires-clause-literals : goal.irreducible-requires-clause-literals
irreducible-requires-clause-literals g c =
    let found = subst (λ (o : Option (List Lit)). FindsCore (g.S.Solve.state c.args.s.now).problem c.args.assume.now
    (g.S.Solve.state c.core_of.new.s).cores o) c.in-Ok-Some.field-0-is c.in-Ok-Some.ensures.finds in
    subst (AreLitsOf (g.S.Solve.state c.core_of.new.s).problem.vars) (sym (append-nil c.in-Ok-Some.core))
    (subst (λ (p : ProblemState). AreLitsOf p.vars c.in-Ok-Some.core) (sym c.core_of.ensures.stays.problem)
    (lits-fewer (g.S.Solve.state c.args.s.now).problem.vars c.in-Ok-Some.core c.args.assume.now found.0
    c.requires.literals))

pub irreducible-requires-clause-unretired : goal.irreducible-requires-clause-unretired
irreducible-requires-clause-unretired g c =
    let found = subst (λ (o : Option (List Lit)). FindsCore (g.S.Solve.state c.args.s.now).problem c.args.assume.now
    (g.S.Solve.state c.core_of.new.s).cores o) c.in-Ok-Some.field-0-is c.in-Ok-Some.ensures.finds in
    subst (AreUnretired (g.S.Solve.state c.core_of.new.s).problem) (sym (append-nil c.in-Ok-Some.core))
    (subst (λ (p : ProblemState). AreUnretired p c.in-Ok-Some.core) (sym c.core_of.ensures.stays.problem)
    (unretired-fewer (g.S.Solve.state c.args.s.now).problem c.in-Ok-Some.core c.args.assume.now found.0
    c.requires.unretired))

pub irreducible-requires-clause-refuted : goal.irreducible-requires-clause-refuted
irreducible-requires-clause-refuted g c =
    let found = subst (λ (o : Option (List Lit)). FindsCore (g.S.Solve.state c.args.s.now).problem c.args.assume.now
    (g.S.Solve.state c.core_of.new.s).cores o) c.in-Ok-Some.field-0-is c.in-Ok-Some.ensures.finds in
    subst (IsRefuted (g.S.Solve.state c.core_of.new.s).problem (g.S.Solve.state c.core_of.new.s).cores)
    (sym (append-nil c.in-Ok-Some.core))
    (subst (λ (p : ProblemState). IsRefuted p (g.S.Solve.state c.core_of.new.s).cores c.in-Ok-Some.core)
    (sym c.core_of.ensures.stays.problem) found.1)

pub returns-in-Ok-clause-finds : goal.returns-in-Ok-clause-finds
returns-in-Ok-clause-finds g c =
    let found = subst (λ (o : Option (List Lit)). FindsCore (g.S.Solve.state c.args.s.now).problem c.args.assume.now
    (g.S.Solve.state c.core_of.new.s).cores o) c.in-Ok-Some.field-0-is c.in-Ok-Some.ensures.finds in (
      sublist-trans c.in-Ok.items c.in-Ok-Some.core c.args.assume.now c.in-Ok.ensures.among found.0,
      subst (λ (p : ProblemState). IsIrreducible p (g.S.Solve.state c.irreducible.new.s).cores [] c.in-Ok.items)
          c.core_of.ensures.stays.problem c.in-Ok.ensures.irreducible,
    )

pub returns-in-Ok-clause-stays : goal.returns-in-Ok-clause-stays
returns-in-Ok-clause-stays g c = stays-twice (g.S.Solve.state c.args.s.now) (g.S.Solve.state c.core_of.new.s)
    (g.S.Solve.state c.irreducible.new.s) c.core_of.ensures.stays c.irreducible.ensures.stays

pub returns-in-Ok-clause-keeps : goal.returns-in-Ok-clause-keeps
returns-in-Ok-clause-keeps g c = keeps-twice (g.S.Solve.state c.args.s.now) (g.S.Solve.state c.core_of.new.s)
    (g.S.Solve.state c.irreducible.new.s) c.args.budget.now c.core_of.new.budget c.irreducible.new.budget
    c.core_of.ensures.keeps c.irreducible.ensures.keeps

pub returns-in-Ok-clause-costs : goal.returns-in-Ok-clause-costs
returns-in-Ok-clause-costs g c =
    let found = subst (λ (o : Option (List Lit)). FindsCore (g.S.Solve.state c.args.s.now).problem c.args.assume.now
    (g.S.Solve.state c.core_of.new.s).cores o) c.in-Ok-Some.field-0-is c.in-Ok-Some.ensures.finds in
    let both : Keeps (g.S.Solve.state c.args.s.now) (g.S.Solve.state c.irreducible.new.s) c.args.budget.now
    c.irreducible.new.budget = keeps-twice (g.S.Solve.state c.args.s.now) (g.S.Solve.state c.core_of.new.s)
    (g.S.Solve.state c.irreducible.new.s) c.args.budget.now c.core_of.new.budget c.irreducible.new.budget
    c.core_of.ensures.keeps c.irreducible.ensures.keeps in
    let le : length c.in-Ok-Some.core ≤ length c.args.assume.now =
    length-sublist c.in-Ok-Some.core c.args.assume.now found.0 in
    subst (λ (n : ℕ). Costs n (g.S.Solve.state c.args.s.now) (g.S.Solve.state c.irreducible.new.s) c.args.budget.now
    c.irreducible.new.budget) (two-more (length c.args.assume.now))
    (costs-after (length c.args.assume.now + 1) (g.S.Solve.state c.args.s.now) (g.S.Solve.state c.core_of.new.s)
    (g.S.Solve.state c.irreducible.new.s) c.args.budget.now c.core_of.new.budget c.irreducible.new.budget
    c.core_of.ensures.stays.free c.core_of.ensures.counts
    (counts-wider (g.S.Solve.state c.core_of.new.s).free (length c.in-Ok-Some.core) (length c.args.assume.now + 1)
    (g.S.Solve.state c.core_of.new.s) (g.S.Solve.state c.irreducible.new.s) c.core_of.new.budget
    c.irreducible.new.budget (omega (arith, le)) c.irreducible.ensures.counts) both.rises)

pub returns-in-Err-irreducible-clause-stays : goal.returns-in-Err-irreducible-clause-stays
returns-in-Err-irreducible-clause-stays g c = stays-twice (g.S.Solve.state c.args.s.now)
    (g.S.Solve.state c.core_of.new.s) (g.S.Solve.state c.irreducible.new.s) c.core_of.ensures.stays
    c.irreducible.ensures.stays

pub returns-in-Err-irreducible-clause-keeps : goal.returns-in-Err-irreducible-clause-keeps
returns-in-Err-irreducible-clause-keeps g c = keeps-twice (g.S.Solve.state c.args.s.now)
    (g.S.Solve.state c.core_of.new.s) (g.S.Solve.state c.irreducible.new.s) c.args.budget.now c.core_of.new.budget
    c.irreducible.new.budget c.core_of.ensures.keeps c.irreducible.ensures.keeps

pub returns-in-Err-irreducible-clause-costs : goal.returns-in-Err-irreducible-clause-costs
returns-in-Err-irreducible-clause-costs g c =
    let found = subst (λ (o : Option (List Lit)). FindsCore (g.S.Solve.state c.args.s.now).problem c.args.assume.now
    (g.S.Solve.state c.core_of.new.s).cores o) c.in-Ok-Some.field-0-is c.in-Ok-Some.ensures.finds in
    let both : Keeps (g.S.Solve.state c.args.s.now) (g.S.Solve.state c.irreducible.new.s) c.args.budget.now
    c.irreducible.new.budget = keeps-twice (g.S.Solve.state c.args.s.now) (g.S.Solve.state c.core_of.new.s)
    (g.S.Solve.state c.irreducible.new.s) c.args.budget.now c.core_of.new.budget c.irreducible.new.budget
    c.core_of.ensures.keeps c.irreducible.ensures.keeps in
    let le : length c.in-Ok-Some.core ≤ length c.args.assume.now =
    length-sublist c.in-Ok-Some.core c.args.assume.now found.0 in
    subst (λ (n : ℕ). Costs n (g.S.Solve.state c.args.s.now) (g.S.Solve.state c.irreducible.new.s) c.args.budget.now
    c.irreducible.new.budget) (two-more (length c.args.assume.now))
    (costs-after (length c.args.assume.now + 1) (g.S.Solve.state c.args.s.now) (g.S.Solve.state c.core_of.new.s)
    (g.S.Solve.state c.irreducible.new.s) c.args.budget.now c.core_of.new.budget c.irreducible.new.budget
    c.core_of.ensures.stays.free c.core_of.ensures.counts
    (counts-wider (g.S.Solve.state c.core_of.new.s).free (length c.in-Ok-Some.core) (length c.args.assume.now + 1)
    (g.S.Solve.state c.core_of.new.s) (g.S.Solve.state c.irreducible.new.s) c.core_of.new.budget
    c.irreducible.new.budget (omega (arith, le)) c.irreducible.ensures.counts) both.rises)

pub returns-in-Ok-None-clause-costs : goal.returns-in-Ok-None-clause-costs
returns-in-Ok-None-clause-costs g c = subst (λ (n : ℕ). Costs n (g.S.Solve.state c.args.s.now)
    (g.S.Solve.state c.core_of.new.s) c.args.budget.now c.core_of.new.budget) (two-more (length c.args.assume.now))
    (costs-once (length c.args.assume.now + 1) (g.S.Solve.state c.args.s.now) (g.S.Solve.state c.core_of.new.s)
    c.args.budget.now c.core_of.new.budget c.core_of.ensures.counts c.core_of.ensures.keeps.rises)

pub returns-in-Err-clause-costs : goal.returns-in-Err-clause-costs
returns-in-Err-clause-costs g c = subst (λ (n : ℕ). Costs n (g.S.Solve.state c.args.s.now)
    (g.S.Solve.state c.core_of.new.s) c.args.budget.now c.core_of.new.budget) (two-more (length c.args.assume.now))
    (costs-once (length c.args.assume.now + 1) (g.S.Solve.state c.args.s.now) (g.S.Solve.state c.core_of.new.s)
    c.args.budget.now c.core_of.new.budget c.core_of.ensures.counts c.core_of.ensures.keeps.rises)
