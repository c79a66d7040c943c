use Rattle.std.proofs.Common.{◌+◌, ◌++◌, ◌∷◌, [], Bool, Option, None, Ok, Err, List, refl}
use Rattle.std.proofs.Common.{sym, subst, arith}
use Rattle.lit_core.specs.declared.literals.Lit.{Lit}
use Rattle.ground_core.specs.Solving.{SolveState, AreUnretired, HasCoreWithin}
use Rattle.ground_core.specs.Calls.{Keeps, CountsUpTo, IsAnsweredAtOnce, IsNone}
use Rattle.model_search.specs.Models.{IsLeft, FindsModel}
use Rattle.model_expansion.proofs.EnumerationFacts.{IsSoFar, ends-with-more}
use Rattle.model_expansion.proofs.EnumerationFacts.{searched-keeps, searched-up-to}
use Rattle.model_expansion.proofs.EnumerationFacts.{all-told, told-at-once, so-far-next, halted}
use Rattle.model_expansion.proofs.enumeration.gather.Goals as goal

pub model_of-requires-clause-unretired : goal.model_of-requires-clause-unretired
model_of-requires-clause-unretired g c = subst (AreUnretired (g.S.Solve.state c.loop-number.s).problem)
    (sym c.as_slice.ensures.value) c.loop-number.invariant.0.unretired

pub model_of-requires-2-clause-unretired : goal.model_of-requires-2-clause-unretired
model_of-requires-2-clause-unretired g c = subst (AreUnretired (g.S.Solve.state c.loop-number.s).problem)
    (sym c.as_slice-2.ensures.value) c.loop-number.invariant.0.unretired

pub returns-in-Err-exclude-clause-keeps : goal.returns-in-Err-exclude-clause-keeps
returns-in-Err-exclude-clause-keeps g c =
    let r : SolveState = g.S.Solve.state c.args.s.now in
    let s : SolveState = g.S.Solve.state c.loop-number.s in
    let t : SolveState = g.S.Solve.state c.model_of.new.s in
    let h : IsSoFar c.args.assumed.now.items c.args.n c.loop-number._number r s c.args.budget.now c.loop-number.budget
    c.loop-number.assumed.items c.loop-number.found.items = c.loop-number.invariant.0 in
    subst (λ (u : SolveState). Keeps r u c.args.budget.now c.model_of.new.budget)
    (sym c.in-Err-exclude.ensures.state_same) (searched-keeps c.args.assumed.now.items c.args.n
    c.loop-number._number r s c.args.budget.now c.loop-number.budget c.loop-number.assumed.items
    c.loop-number.found.items h t c.model_of.new.budget c.model_of.ensures.stays c.model_of.ensures.keeps
    c.model_of.ensures.counts)

pub returns-in-Err-exclude-clause-counts : goal.returns-in-Err-exclude-clause-counts
returns-in-Err-exclude-clause-counts g c =
    let r : SolveState = g.S.Solve.state c.args.s.now in
    let s : SolveState = g.S.Solve.state c.loop-number.s in
    let t : SolveState = g.S.Solve.state c.model_of.new.s in
    let h : IsSoFar c.args.assumed.now.items c.args.n c.loop-number._number r s c.args.budget.now c.loop-number.budget
    c.loop-number.assumed.items c.loop-number.found.items = c.loop-number.invariant.0 in
    subst (λ (u : SolveState). CountsUpTo (r.free + c.args.n) (c.args.n + 1) r u c.args.budget.now
    c.model_of.new.budget) (sym c.in-Err-exclude.ensures.state_same)
    (searched-up-to c.args.assumed.now.items c.args.n c.loop-number._number r s c.args.budget.now
    c.loop-number.budget c.loop-number.assumed.items c.loop-number.found.items h t c.model_of.new.budget
    c.model_of.ensures.stays c.model_of.ensures.keeps c.model_of.ensures.counts
    (omega (arith, c.loop-number-test.true)))

pub returns-in-Err-exclude-clause-decided : goal.returns-in-Err-exclude-clause-decided
returns-in-Err-exclude-clause-decided g c = λ shown.
    let r : SolveState = g.S.Solve.state c.args.s.now in
    let s : SolveState = g.S.Solve.state c.loop-number.s in
    let t : SolveState = g.S.Solve.state c.model_of.new.s in
    let h : IsSoFar c.args.assumed.now.items c.args.n c.loop-number._number r s c.args.budget.now c.loop-number.budget
    c.loop-number.assumed.items c.loop-number.found.items = c.loop-number.invariant.0 in
    let told = told-at-once c.args.assumed.now.items c.args.n c.loop-number._number r s c.args.budget.now
    c.loop-number.budget c.loop-number.assumed.items c.loop-number.found.items h t c.model_of.new.budget
    c.model_of.ensures.stays c.model_of.ensures.keeps c.model_of.ensures.counts (Ok c.in-Ok-Some.field-0)
    (subst (λ (xs : List Lit). HasCoreWithin s.cores xs → IsAnsweredAtOnce s t (Ok c.in-Ok-Some.field-0))
    c.as_slice.ensures.value c.in-Ok-Some.ensures.decided) c.requires.kept shown in
    absurd (subst (λ (o : Option (List Bool)). IsNone (Ok o)) c.in-Ok-Some.field-0-is told.1)

pub returns-in-Ok-None-clause-ends : goal.returns-in-Ok-None-clause-ends
returns-in-Ok-None-clause-ends g c =
    let r : SolveState = g.S.Solve.state c.args.s.now in
    let s : SolveState = g.S.Solve.state c.loop-number.s in
    let t : SolveState = g.S.Solve.state c.model_of.new.s in
    let h : IsSoFar c.args.assumed.now.items c.args.n c.loop-number._number r s c.args.budget.now c.loop-number.budget
    c.loop-number.assumed.items c.loop-number.found.items = c.loop-number.invariant.0 in
    let none : FindsModel s.problem c.loop-number.assumed.items t.cores None =
    subst (λ (o : Option (List Bool)). FindsModel s.problem c.loop-number.assumed.items t.cores o)
    c.in-Ok-None.field-0-is
    (subst (λ (xs : List Lit). FindsModel s.problem xs t.cores c.in-Ok-None.field-0) c.as_slice.ensures.value
    c.in-Ok-None.ensures.finds) in
    all-told c.args.assumed.now.items c.args.n c.loop-number._number r s c.args.budget.now c.loop-number.budget
    c.loop-number.assumed.items c.loop-number.found.items h t c.model_of.new.budget c.model_of.ensures.stays
    c.model_of.ensures.keeps c.model_of.ensures.counts none.0 none.1

pub returns-in-Ok-None-clause-keeps : goal.returns-in-Ok-None-clause-keeps
returns-in-Ok-None-clause-keeps g c =
    let r : SolveState = g.S.Solve.state c.args.s.now in
    let s : SolveState = g.S.Solve.state c.loop-number.s in
    let t : SolveState = g.S.Solve.state c.model_of.new.s in
    let h : IsSoFar c.args.assumed.now.items c.args.n c.loop-number._number r s c.args.budget.now c.loop-number.budget
    c.loop-number.assumed.items c.loop-number.found.items = c.loop-number.invariant.0 in
    searched-keeps c.args.assumed.now.items c.args.n c.loop-number._number r s c.args.budget.now c.loop-number.budget
    c.loop-number.assumed.items c.loop-number.found.items h t c.model_of.new.budget c.model_of.ensures.stays
    c.model_of.ensures.keeps c.model_of.ensures.counts

pub returns-in-Ok-None-clause-counts : goal.returns-in-Ok-None-clause-counts
returns-in-Ok-None-clause-counts g c =
    let r : SolveState = g.S.Solve.state c.args.s.now in
    let s : SolveState = g.S.Solve.state c.loop-number.s in
    let t : SolveState = g.S.Solve.state c.model_of.new.s in
    let h : IsSoFar c.args.assumed.now.items c.args.n c.loop-number._number r s c.args.budget.now c.loop-number.budget
    c.loop-number.assumed.items c.loop-number.found.items = c.loop-number.invariant.0 in
    searched-up-to c.args.assumed.now.items c.args.n c.loop-number._number r s c.args.budget.now c.loop-number.budget
    c.loop-number.assumed.items c.loop-number.found.items h t c.model_of.new.budget c.model_of.ensures.stays
    c.model_of.ensures.keeps c.model_of.ensures.counts (omega (arith, c.loop-number-test.true))

pub returns-in-Ok-None-clause-decided : goal.returns-in-Ok-None-clause-decided
returns-in-Ok-None-clause-decided g c = λ shown.
    let r : SolveState = g.S.Solve.state c.args.s.now in
    let s : SolveState = g.S.Solve.state c.loop-number.s in
    let t : SolveState = g.S.Solve.state c.model_of.new.s in
    let h : IsSoFar c.args.assumed.now.items c.args.n c.loop-number._number r s c.args.budget.now c.loop-number.budget
    c.loop-number.assumed.items c.loop-number.found.items = c.loop-number.invariant.0 in
    let told = told-at-once c.args.assumed.now.items c.args.n c.loop-number._number r s c.args.budget.now
    c.loop-number.budget c.loop-number.assumed.items c.loop-number.found.items h t c.model_of.new.budget
    c.model_of.ensures.stays c.model_of.ensures.keeps c.model_of.ensures.counts (Ok c.in-Ok-None.field-0)
    (subst (λ (xs : List Lit). HasCoreWithin s.cores xs → IsAnsweredAtOnce s t (Ok c.in-Ok-None.field-0))
    c.as_slice.ensures.value c.in-Ok-None.ensures.decided) c.requires.kept shown in
    record { none = told.0; answer = refl; learnt = told.2 }

pub returns-in-Err-clause-keeps : goal.returns-in-Err-clause-keeps
returns-in-Err-clause-keeps g c =
    let r : SolveState = g.S.Solve.state c.args.s.now in
    let s : SolveState = g.S.Solve.state c.loop-number.s in
    let t : SolveState = g.S.Solve.state c.model_of.new.s in
    let h : IsSoFar c.args.assumed.now.items c.args.n c.loop-number._number r s c.args.budget.now c.loop-number.budget
    c.loop-number.assumed.items c.loop-number.found.items = c.loop-number.invariant.0 in
    searched-keeps c.args.assumed.now.items c.args.n c.loop-number._number r s c.args.budget.now c.loop-number.budget
    c.loop-number.assumed.items c.loop-number.found.items h t c.model_of.new.budget c.model_of.ensures.stays
    c.model_of.ensures.keeps c.model_of.ensures.counts

pub returns-in-Err-clause-counts : goal.returns-in-Err-clause-counts
returns-in-Err-clause-counts g c =
    let r : SolveState = g.S.Solve.state c.args.s.now in
    let s : SolveState = g.S.Solve.state c.loop-number.s in
    let t : SolveState = g.S.Solve.state c.model_of.new.s in
    let h : IsSoFar c.args.assumed.now.items c.args.n c.loop-number._number r s c.args.budget.now c.loop-number.budget
    c.loop-number.assumed.items c.loop-number.found.items = c.loop-number.invariant.0 in
    searched-up-to c.args.assumed.now.items c.args.n c.loop-number._number r s c.args.budget.now c.loop-number.budget
    c.loop-number.assumed.items c.loop-number.found.items h t c.model_of.new.budget c.model_of.ensures.stays
    c.model_of.ensures.keeps c.model_of.ensures.counts (omega (arith, c.loop-number-test.true))

pub returns-in-Err-clause-decided : goal.returns-in-Err-clause-decided
returns-in-Err-clause-decided g c = λ shown.
    let r : SolveState = g.S.Solve.state c.args.s.now in
    let s : SolveState = g.S.Solve.state c.loop-number.s in
    let t : SolveState = g.S.Solve.state c.model_of.new.s in
    let h : IsSoFar c.args.assumed.now.items c.args.n c.loop-number._number r s c.args.budget.now c.loop-number.budget
    c.loop-number.assumed.items c.loop-number.found.items = c.loop-number.invariant.0 in
    let told = told-at-once c.args.assumed.now.items c.args.n c.loop-number._number r s c.args.budget.now
    c.loop-number.budget c.loop-number.assumed.items c.loop-number.found.items h t c.model_of.new.budget
    c.model_of.ensures.stays c.model_of.ensures.keeps c.model_of.ensures.counts (Err c.in-Err.halt)
    (subst (λ (xs : List Lit). HasCoreWithin s.cores xs → IsAnsweredAtOnce {T = List Bool} s t (Err c.in-Err.halt))
    c.as_slice.ensures.value c.in-Err.ensures.decided) c.requires.kept shown in
    record { none = told.0; answer = halted c.in-Err.halt told.1; learnt = told.2 }

pub loop-number-preserved : goal.loop-number-preserved
loop-number-preserved g c =
    let r : SolveState = g.S.Solve.state c.args.s.now in
    let s : SolveState = g.S.Solve.state c.loop-number.s in
    let t : SolveState = g.S.Solve.state c.model_of.new.s in
    let h : IsSoFar c.args.assumed.now.items c.args.n c.loop-number._number r s c.args.budget.now c.loop-number.budget
    c.loop-number.assumed.items c.loop-number.found.items = c.loop-number.invariant.0 in
    let u : SolveState = g.S.Solve.state c.exclude.new.s in
    let left : IsLeft s.problem c.loop-number.assumed.items c.in-Ok-Some.values =
    subst (λ (o : Option (List Bool)). FindsModel s.problem c.loop-number.assumed.items t.cores o)
    c.in-Ok-Some.field-0-is
    (subst (λ (xs : List Lit). FindsModel s.problem xs t.cores c.in-Ok-Some.field-0) c.as_slice.ensures.value
    c.in-Ok-Some.ensures.finds) in
    let next = so-far-next c.args.assumed.now.items c.args.n c.loop-number._number r s c.args.budget.now
    c.loop-number.budget c.loop-number.assumed.items c.loop-number.found.items h t c.model_of.new.budget
    c.model_of.ensures.stays c.model_of.ensures.keeps c.model_of.ensures.counts u c.in-Ok-Some.values left
    c.in-Ok.ensures.excluded c.exclude.ensures.kept c.loop-number-test.true c.requires.kept.problem in (
      subst (λ (vs : List (List Bool)). IsSoFar c.args.assumed.now.items c.args.n (c.loop-number._number + 1) r u
          c.args.budget.now c.model_of.new.budget c.exclude.new.assumed.items vs) (sym c.in-Ok.ensures.found)
          (subst (λ (ls : List Lit). IsSoFar c.args.assumed.now.items c.args.n (c.loop-number._number + 1) r u
          c.args.budget.now c.model_of.new.budget ls (c.loop-number.found.items ++ c.in-Ok-Some.values ∷ []))
          (sym c.in-Ok.ensures.assumed) next),
      g.met.S.Solve.goes_on_twice c.args.s.now c.loop-number.s c.exclude.new.s c.loop-number.invariant.1
          (g.met.S.Solve.goes_on_twice c.loop-number.s c.model_of.new.s c.exclude.new.s c.model_of.ensures.later
          c.exclude.ensures.later),
    )

pub returns-in-Ok-Some-model_of-clause-ends : goal.returns-in-Ok-Some-model_of-clause-ends
returns-in-Ok-Some-model_of-clause-ends g c =
    let r : SolveState = g.S.Solve.state c.args.s.now in
    let s : SolveState = g.S.Solve.state c.loop-number.s in
    let t : SolveState = g.S.Solve.state c.model_of-2.new.s in
    let h : IsSoFar c.args.assumed.now.items c.args.n c.loop-number._number r s c.args.budget.now c.loop-number.budget
    c.loop-number.assumed.items c.loop-number.found.items = c.loop-number.invariant.0 in
    let left : IsLeft s.problem c.loop-number.assumed.items c.in-Ok-Some-model_of.field-0-0 =
    subst (λ (o : Option (List Bool)). FindsModel s.problem c.loop-number.assumed.items t.cores o)
    c.in-Ok-Some-model_of.field-0-is
    (subst (λ (xs : List Lit). FindsModel s.problem xs t.cores c.in-Ok-Some-model_of.field-0) c.as_slice-2.ensures.value
    c.in-Ok-Some-model_of.ensures.finds) in
    ends-with-more c.args.assumed.now.items c.args.n c.loop-number._number r s c.args.budget.now c.loop-number.budget
    c.loop-number.assumed.items c.loop-number.found.items h c.in-Ok-Some-model_of.field-0-0 left t.cores
    (omega (arith, c.loop-number-test.false, c.loop-number.auto._number-end))

pub returns-in-Ok-Some-model_of-clause-keeps : goal.returns-in-Ok-Some-model_of-clause-keeps
returns-in-Ok-Some-model_of-clause-keeps g c =
    let r : SolveState = g.S.Solve.state c.args.s.now in
    let s : SolveState = g.S.Solve.state c.loop-number.s in
    let t : SolveState = g.S.Solve.state c.model_of-2.new.s in
    let h : IsSoFar c.args.assumed.now.items c.args.n c.loop-number._number r s c.args.budget.now c.loop-number.budget
    c.loop-number.assumed.items c.loop-number.found.items = c.loop-number.invariant.0 in
    searched-keeps c.args.assumed.now.items c.args.n c.loop-number._number r s c.args.budget.now c.loop-number.budget
    c.loop-number.assumed.items c.loop-number.found.items h t c.model_of-2.new.budget c.model_of-2.ensures.stays
    c.model_of-2.ensures.keeps c.model_of-2.ensures.counts

pub returns-in-Ok-Some-model_of-clause-decided : goal.returns-in-Ok-Some-model_of-clause-decided
returns-in-Ok-Some-model_of-clause-decided g c = λ shown.
    let r : SolveState = g.S.Solve.state c.args.s.now in
    let s : SolveState = g.S.Solve.state c.loop-number.s in
    let t : SolveState = g.S.Solve.state c.model_of-2.new.s in
    let h : IsSoFar c.args.assumed.now.items c.args.n c.loop-number._number r s c.args.budget.now c.loop-number.budget
    c.loop-number.assumed.items c.loop-number.found.items = c.loop-number.invariant.0 in
    let told = told-at-once c.args.assumed.now.items c.args.n c.loop-number._number r s c.args.budget.now
    c.loop-number.budget c.loop-number.assumed.items c.loop-number.found.items h t c.model_of-2.new.budget
    c.model_of-2.ensures.stays c.model_of-2.ensures.keeps c.model_of-2.ensures.counts
    (Ok c.in-Ok-Some-model_of.field-0) (subst (λ (xs : List Lit). HasCoreWithin s.cores xs
    → IsAnsweredAtOnce s t (Ok c.in-Ok-Some-model_of.field-0)) c.as_slice-2.ensures.value
    c.in-Ok-Some-model_of.ensures.decided) c.requires.kept shown in
    absurd (subst (λ (o : Option (List Bool)). IsNone (Ok o)) c.in-Ok-Some-model_of.field-0-is told.1)

pub returns-in-Ok-None-model_of-clause-ends : goal.returns-in-Ok-None-model_of-clause-ends
returns-in-Ok-None-model_of-clause-ends g c =
    let r : SolveState = g.S.Solve.state c.args.s.now in
    let s : SolveState = g.S.Solve.state c.loop-number.s in
    let t : SolveState = g.S.Solve.state c.model_of-2.new.s in
    let h : IsSoFar c.args.assumed.now.items c.args.n c.loop-number._number r s c.args.budget.now c.loop-number.budget
    c.loop-number.assumed.items c.loop-number.found.items = c.loop-number.invariant.0 in
    let none : FindsModel s.problem c.loop-number.assumed.items t.cores None =
    subst (λ (o : Option (List Bool)). FindsModel s.problem c.loop-number.assumed.items t.cores o)
    c.in-Ok-None-model_of.field-0-is
    (subst (λ (xs : List Lit). FindsModel s.problem xs t.cores c.in-Ok-None-model_of.field-0) c.as_slice-2.ensures.value
    c.in-Ok-None-model_of.ensures.finds) in
    all-told c.args.assumed.now.items c.args.n c.loop-number._number r s c.args.budget.now c.loop-number.budget
    c.loop-number.assumed.items c.loop-number.found.items h t c.model_of-2.new.budget c.model_of-2.ensures.stays
    c.model_of-2.ensures.keeps c.model_of-2.ensures.counts none.0 none.1

pub returns-in-Ok-None-model_of-clause-keeps : goal.returns-in-Ok-None-model_of-clause-keeps
returns-in-Ok-None-model_of-clause-keeps g c =
    let r : SolveState = g.S.Solve.state c.args.s.now in
    let s : SolveState = g.S.Solve.state c.loop-number.s in
    let t : SolveState = g.S.Solve.state c.model_of-2.new.s in
    let h : IsSoFar c.args.assumed.now.items c.args.n c.loop-number._number r s c.args.budget.now c.loop-number.budget
    c.loop-number.assumed.items c.loop-number.found.items = c.loop-number.invariant.0 in
    searched-keeps c.args.assumed.now.items c.args.n c.loop-number._number r s c.args.budget.now c.loop-number.budget
    c.loop-number.assumed.items c.loop-number.found.items h t c.model_of-2.new.budget c.model_of-2.ensures.stays
    c.model_of-2.ensures.keeps c.model_of-2.ensures.counts

pub returns-in-Ok-None-model_of-clause-decided : goal.returns-in-Ok-None-model_of-clause-decided
returns-in-Ok-None-model_of-clause-decided g c = λ shown.
    let r : SolveState = g.S.Solve.state c.args.s.now in
    let s : SolveState = g.S.Solve.state c.loop-number.s in
    let t : SolveState = g.S.Solve.state c.model_of-2.new.s in
    let h : IsSoFar c.args.assumed.now.items c.args.n c.loop-number._number r s c.args.budget.now c.loop-number.budget
    c.loop-number.assumed.items c.loop-number.found.items = c.loop-number.invariant.0 in
    let told = told-at-once c.args.assumed.now.items c.args.n c.loop-number._number r s c.args.budget.now
    c.loop-number.budget c.loop-number.assumed.items c.loop-number.found.items h t c.model_of-2.new.budget
    c.model_of-2.ensures.stays c.model_of-2.ensures.keeps c.model_of-2.ensures.counts
    (Ok c.in-Ok-None-model_of.field-0) (subst (λ (xs : List Lit). HasCoreWithin s.cores xs
    → IsAnsweredAtOnce s t (Ok c.in-Ok-None-model_of.field-0)) c.as_slice-2.ensures.value
    c.in-Ok-None-model_of.ensures.decided) c.requires.kept shown in
    record { none = told.0; answer = refl; learnt = told.2 }

pub returns-clause-keeps : goal.returns-clause-keeps
returns-clause-keeps g c =
    let r : SolveState = g.S.Solve.state c.args.s.now in
    let s : SolveState = g.S.Solve.state c.loop-number.s in
    let t : SolveState = g.S.Solve.state c.model_of-2.new.s in
    let h : IsSoFar c.args.assumed.now.items c.args.n c.loop-number._number r s c.args.budget.now c.loop-number.budget
    c.loop-number.assumed.items c.loop-number.found.items = c.loop-number.invariant.0 in
    searched-keeps c.args.assumed.now.items c.args.n c.loop-number._number r s c.args.budget.now c.loop-number.budget
    c.loop-number.assumed.items c.loop-number.found.items h t c.model_of-2.new.budget c.model_of-2.ensures.stays
    c.model_of-2.ensures.keeps c.model_of-2.ensures.counts

pub returns-clause-decided : goal.returns-clause-decided
returns-clause-decided g c = λ shown.
    let r : SolveState = g.S.Solve.state c.args.s.now in
    let s : SolveState = g.S.Solve.state c.loop-number.s in
    let t : SolveState = g.S.Solve.state c.model_of-2.new.s in
    let h : IsSoFar c.args.assumed.now.items c.args.n c.loop-number._number r s c.args.budget.now c.loop-number.budget
    c.loop-number.assumed.items c.loop-number.found.items = c.loop-number.invariant.0 in
    let told = told-at-once c.args.assumed.now.items c.args.n c.loop-number._number r s c.args.budget.now
    c.loop-number.budget c.loop-number.assumed.items c.loop-number.found.items h t c.model_of-2.new.budget
    c.model_of-2.ensures.stays c.model_of-2.ensures.keeps c.model_of-2.ensures.counts (Err c.in-Err-model_of.halt)
    (subst (λ (xs : List Lit). HasCoreWithin s.cores xs → IsAnsweredAtOnce {T = List Bool} s t
    (Err c.in-Err-model_of.halt)) c.as_slice-2.ensures.value c.in-Err-model_of.ensures.decided)
    c.requires.kept shown in
    record { none = told.0; answer = halted c.in-Err-model_of.halt told.1; learnt = told.2 }
