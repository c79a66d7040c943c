use Rattle.std.proofs.Common.{List, length, refl, sym, ap, ◌∙◌, subst}
use Rattle.lit_core.specs.declared.literals.Lit.{Lit}
use Rattle.ground_core.specs.Problems.{ProblemState, AreLitsOf}
use Rattle.ground_core.specs.Solving.{SolveState, IsLive}
use Rattle.consequences.specs.Forced.{AreForced, FindsForced}
use Rattle.kept_supports.specs.Supports.{kept_of, undecided}
use Rattle.forced_literals.specs.Searches.{AreForcedOf, both_signs}
use Rattle.forced_literals.proofs.KeptLemmas.{all-forced}
use Rattle.forced_literals.proofs.SearchFacts.{signed-are, undecided-are, more-lits, always-live, call-ends}
use Rattle.forced_literals.proofs.SearchFacts.{adds-nothing, adds-either, adds-found}
use Rattle.forced_literals.proofs.searching.forced_lits.Goals as goal

pub forced-requires-clause-asked : goal.forced-requires-clause-asked
forced-requires-clause-asked g c =
    let p : ProblemState = (g.S.Solve.state c.args.s.now).problem in
    let open' : List Lit = undecided c.args.supports.now c.args.unknown.now.lits.now in
    subst (AreLitsOf p.vars) (sym (c.as_slice-2.ensures.value ∙ c.in-Ok-signed.ensures ∙ ap both_signs
    (c.as_slice.ensures.value ∙ c.in-Ok.ensures)))
    (more-lits (length p.atoms) p.vars (both_signs open') c.known.ensures.kept.problem.atoms
    (signed-are (length p.atoms) open' (undecided-are (length p.atoms) c.args.supports.now c.args.unknown.now.lits.now
    c.requires.atoms)))

pub forced-requires-clause-asked_unretired : goal.forced-requires-clause-asked_unretired
forced-requires-clause-asked_unretired g c =
    let p : ProblemState = (g.S.Solve.state c.args.s.now).problem in
    let open' : List Lit = undecided c.args.supports.now c.args.unknown.now.lits.now in
    subst (IsLive p.retired) (sym (c.as_slice-2.ensures.value ∙ c.in-Ok-signed.ensures ∙ ap both_signs
    (c.as_slice.ensures.value ∙ c.in-Ok.ensures)))
    (always-live p c.requires.retired (both_signs open')
    (signed-are (length p.atoms) open' (undecided-are (length p.atoms) c.args.supports.now c.args.unknown.now.lits.now
    c.requires.atoms)))

pub returns-in-Ok-kept_with-clause-ends : goal.returns-in-Ok-kept_with-clause-ends
returns-in-Ok-kept_with-clause-ends g c =
    call-ends (g.S.Solve.state c.args.s.now) (g.S.Solve.state c.forced.new.s) c.args.budget.now c.forced.new.budget
    (undecided c.args.supports.now c.args.unknown.now.lits.now) c.as_slice-2.result.now c.last_var.result
    c.args.unknown.now.seen.now (c.as_slice-2.ensures.value ∙ c.in-Ok-signed.ensures ∙ ap both_signs
    (c.as_slice.ensures.value
    ∙ c.in-Ok.ensures)) c.forced.ensures.keeps c.forced.ensures.costs c.forced.ensures.kept c.forced.ensures.stays

pub returns-in-Ok-Some-clause-ends : goal.returns-in-Ok-Some-clause-ends
returns-in-Ok-Some-clause-ends g c =
    call-ends (g.S.Solve.state c.args.s.now) (g.S.Solve.state c.forced.new.s) c.args.budget.now c.forced.new.budget
    (undecided c.args.supports.now c.args.unknown.now.lits.now) c.as_slice-2.result.now c.last_var.result
    c.args.unknown.now.seen.now (c.as_slice-2.ensures.value ∙ c.in-Ok-signed.ensures ∙ ap both_signs
    (c.as_slice.ensures.value
    ∙ c.in-Ok.ensures)) c.forced.ensures.keeps c.forced.ensures.costs c.forced.ensures.kept c.forced.ensures.stays

pub returns-in-Ok-None-clause-ends : goal.returns-in-Ok-None-clause-ends
returns-in-Ok-None-clause-ends g c =
    call-ends (g.S.Solve.state c.args.s.now) (g.S.Solve.state c.forced.new.s) c.args.budget.now c.forced.new.budget
    (undecided c.args.supports.now c.args.unknown.now.lits.now) c.as_slice-2.result.now c.last_var.result
    c.args.unknown.now.seen.now (c.as_slice-2.ensures.value ∙ c.in-Ok-signed.ensures ∙ ap both_signs
    (c.as_slice.ensures.value
    ∙ c.in-Ok.ensures)) c.forced.ensures.keeps c.forced.ensures.costs c.forced.ensures.kept c.forced.ensures.stays

pub returns-clause-ends : goal.returns-clause-ends
returns-clause-ends g c =
    call-ends (g.S.Solve.state c.args.s.now) (g.S.Solve.state c.forced.new.s) c.args.budget.now c.forced.new.budget
    (undecided c.args.supports.now c.args.unknown.now.lits.now) c.as_slice-2.result.now c.last_var.result
    c.args.unknown.now.seen.now (c.as_slice-2.ensures.value ∙ c.in-Ok-signed.ensures ∙ ap both_signs
    (c.as_slice.ensures.value
    ∙ c.in-Ok.ensures)) c.forced.ensures.keeps c.forced.ensures.costs c.forced.ensures.kept c.forced.ensures.stays

pub returns-in-Ok-kept_with-clause-finds : goal.returns-in-Ok-kept_with-clause-finds
returns-in-Ok-kept_with-clause-finds g c =
    let p : ProblemState = (g.S.Solve.state c.args.s.now).problem in
    let t : SolveState = g.S.Solve.state c.forced.new.s in
    let found = subst (FindsForced p c.args.assume.now c.as_slice-2.result.now t.cores) c.in-Ok-Some.field-0-is
    c.in-Ok-Some.ensures.finds in
    let h : AreForced p c.args.assume.now (both_signs (undecided c.args.supports.now c.args.unknown.now.lits.now))
    t.cores
    c.in-Ok-Some.found =
    subst (λ (ask : List Lit). AreForced p c.args.assume.now ask t.cores c.in-Ok-Some.found)
    (c.as_slice-2.ensures.value ∙ c.in-Ok-signed.ensures ∙ ap both_signs (c.as_slice.ensures.value ∙ c.in-Ok.ensures))
    found in
    subst (AreForcedOf p c.args.assume.now (both_signs c.args.unknown.now.lits.now))
    (sym c.in-Ok-kept_with.ensures.lists)
    (all-forced p c.args.assume.now t.cores c.args.supports.now c.in-Ok-Some.found c.kept_with.new.supports
    c.args.unknown.now.lits.now c.requires.known c.in-Ok-kept_with.ensures.kept h)

pub returns-in-Ok-kept_with-clause-adds : goal.returns-in-Ok-kept_with-clause-adds
returns-in-Ok-kept_with-clause-adds g c =
    let p : ProblemState = (g.S.Solve.state c.args.s.now).problem in
    let t : SolveState = g.S.Solve.state c.forced.new.s in
    let found = subst (FindsForced p c.args.assume.now c.as_slice-2.result.now t.cores) c.in-Ok-Some.field-0-is
    c.in-Ok-Some.ensures.finds in
    let h : AreForced p c.args.assume.now (both_signs (undecided c.args.supports.now c.args.unknown.now.lits.now))
    t.cores
    c.in-Ok-Some.found =
    subst (λ (ask : List Lit). AreForced p c.args.assume.now ask t.cores c.in-Ok-Some.found)
    (c.as_slice-2.ensures.value ∙ c.in-Ok-signed.ensures ∙ ap both_signs (c.as_slice.ensures.value ∙ c.in-Ok.ensures))
    found in
    adds-found p c.args.assume.now (both_signs (undecided c.args.supports.now c.args.unknown.now.lits.now)) t.cores
    c.in-Ok-Some.found c.args.supports.now c.kept_with.new.supports h c.in-Ok-kept_with.ensures.kept

pub returns-in-Ok-Some-clause-adds : goal.returns-in-Ok-Some-clause-adds
returns-in-Ok-Some-clause-adds g c =
    let p : ProblemState = (g.S.Solve.state c.args.s.now).problem in
    let t : SolveState = g.S.Solve.state c.forced.new.s in
    let found = subst (FindsForced p c.args.assume.now c.as_slice-2.result.now t.cores) c.in-Ok-Some.field-0-is
    c.in-Ok-Some.ensures.finds in
    let h : AreForced p c.args.assume.now (both_signs (undecided c.args.supports.now c.args.unknown.now.lits.now))
    t.cores
    c.in-Ok-Some.found =
    subst (λ (ask : List Lit). AreForced p c.args.assume.now ask t.cores c.in-Ok-Some.found)
    (c.as_slice-2.ensures.value ∙ c.in-Ok-signed.ensures ∙ ap both_signs (c.as_slice.ensures.value ∙ c.in-Ok.ensures))
    found in
    adds-either p c.args.assume.now (both_signs (undecided c.args.supports.now c.args.unknown.now.lits.now)) t.cores
    c.in-Ok-Some.found c.args.supports.now c.kept_with.new.supports h c.in-Err-kept_with.ensures.some

pub returns-in-Ok-None-clause-adds : goal.returns-in-Ok-None-clause-adds
returns-in-Ok-None-clause-adds g c =
    adds-nothing (g.S.Solve.state c.args.s.now).problem c.args.assume.now
    (both_signs (undecided c.args.supports.now c.args.unknown.now.lits.now)) _ c.args.supports.now c.args.supports.now
    refl

pub returns-clause-adds : goal.returns-clause-adds
returns-clause-adds g c =
    adds-nothing (g.S.Solve.state c.args.s.now).problem c.args.assume.now
    (both_signs (undecided c.args.supports.now c.args.unknown.now.lits.now)) _ c.args.supports.now c.args.supports.now
    refl
