use Rattle.std.proofs.Common.{◌≡◌, Bool, List, drop, length, sym, ap}
use Rattle.std.proofs.Common.{◌∙◌, subst}
use Rattle.std.proofs.Math.Seq.{drop-append_seam}
use Rattle.lit_core.specs.declared.literals.Lit.{Lit}
use Rattle.ground_core.specs.Solving.{SolveState, AreUnretired, HasCoreWithin}
use Rattle.model_expansion.specs.Exclusions.{exclusion_selectors, Excludes}
use Rattle.model_expansion.specs.Enumerations.{Gathers, Ends, FindsSeveral}
use Rattle.model_expansion.proofs.EnumerationFacts.{selectors-fit, selectors-new, end-excludes, end-adds, end-costs}
use Rattle.model_expansion.proofs.EnumerationFacts.{empty-halted}
use Rattle.model_expansion.proofs.ExclusionFacts.{excludes-grow}
use Rattle.model_expansion.proofs.enumeration.several.Goals as goal

pub gather-told-requires-clause-unretired : goal.gather-told-requires-clause-unretired
gather-told-requires-clause-unretired g c = subst (AreUnretired (g.S.Solve.state c.args.s.now).problem)
    (sym c.in-Ok.ensures.items) c.requires.unretired

pub retire_each-requires-clause-selectors : goal.retire_each-requires-clause-selectors
retire_each-requires-clause-selectors g c =
    let r : SolveState = g.S.Solve.state c.args.s.now in
    let s : SolveState = g.S.Solve.state c.gather-told.new.s in
    let h : Gathers c.args.assume.now c.args.n r s c.gather-told.new.assumed.items c.gather-told.new.found.items =
    subst (λ (ls : List Lit). Gathers ls c.args.n r s c.gather-told.new.assumed.items c.gather-told.new.found.items)
    c.in-Ok.ensures.items c.gather-told.ensures.gathers in
    let is : c.split_at.result.1.now ≡ exclusion_selectors r.problem c.gather-told.new.found.items =
    c.split_at.ensures.back ∙ ap (drop (length c.args.assume.now)) (c.as_slice.ensures.value ∙ h.lits)
    ∙ drop-append_seam c.args.assume.now (exclusion_selectors r.problem c.gather-told.new.found.items) in
    selectors-fit c.args.assume.now c.args.n r s s c.gather-told.new.assumed.items c.split_at.result.1.now
    c.gather-told.new.found.items h is

pub retire_each-requires-clause-new : goal.retire_each-requires-clause-new
retire_each-requires-clause-new g c =
    let r : SolveState = g.S.Solve.state c.args.s.now in
    let s : SolveState = g.S.Solve.state c.gather-told.new.s in
    let h : Gathers c.args.assume.now c.args.n r s c.gather-told.new.assumed.items c.gather-told.new.found.items =
    subst (λ (ls : List Lit). Gathers ls c.args.n r s c.gather-told.new.assumed.items c.gather-told.new.found.items)
    c.in-Ok.ensures.items c.gather-told.ensures.gathers in
    let is : c.split_at.result.1.now ≡ exclusion_selectors r.problem c.gather-told.new.found.items =
    c.split_at.ensures.back ∙ ap (drop (length c.args.assume.now)) (c.as_slice.ensures.value ∙ h.lits)
    ∙ drop-append_seam c.args.assume.now (exclusion_selectors r.problem c.gather-told.new.found.items) in
    selectors-new c.args.assume.now c.args.n r s s c.gather-told.new.assumed.items c.split_at.result.1.now
    c.gather-told.new.found.items h is c.known.ensures.kept.problem

pub returns-in-Ok-told-clause-finds : goal.returns-in-Ok-told-clause-finds
returns-in-Ok-told-clause-finds g c =
    let r : SolveState = g.S.Solve.state c.args.s.now in
    let s : SolveState = g.S.Solve.state c.gather-told.new.s in
    let h : Gathers c.args.assume.now c.args.n r s c.gather-told.new.assumed.items c.gather-told.new.found.items =
    subst (λ (ls : List Lit). Gathers ls c.args.n r s c.gather-told.new.assumed.items c.gather-told.new.found.items)
    c.in-Ok.ensures.items c.gather-told.ensures.gathers in
    let is : c.split_at.result.1.now ≡ exclusion_selectors r.problem c.gather-told.new.found.items =
    c.split_at.ensures.back ∙ ap (drop (length c.args.assume.now)) (c.as_slice.ensures.value ∙ h.lits)
    ∙ drop-append_seam c.args.assume.now (exclusion_selectors r.problem c.gather-told.new.found.items) in
    let u : SolveState = g.S.Solve.state c.retire_each.new.s in
    let ends : Ends r.problem c.args.assume.now c.args.n s.cores c.gather-told.new.found.items c.in-Ok-told.complete =
    subst (λ (ls : List Lit). Ends r.problem ls c.args.n s.cores c.gather-told.new.found.items c.in-Ok-told.complete)
    c.in-Ok.ensures.items c.in-Ok-told.ensures.ends in
    subst (λ (vs : List (List Bool)). FindsSeveral r.problem c.args.assume.now c.args.n u.cores
    (record { found = vs; complete = c.in-Ok-told.complete })) (sym c.from_vec.ensures) (record {
      models = h.models;
      most = h.most;
      ends = ends.ends;
      shown = λ e f. subst (λ (cs : List (List Lit)). HasCoreWithin cs c.args.assume.now)
          (sym (ap (λ (q : SolveState). q.cores) c.retire_each.ensures.retired)) (ends.shown e f);
    })

pub returns-in-Ok-told-clause-excludes : goal.returns-in-Ok-told-clause-excludes
returns-in-Ok-told-clause-excludes g c =
    let r : SolveState = g.S.Solve.state c.args.s.now in
    let s : SolveState = g.S.Solve.state c.gather-told.new.s in
    let h : Gathers c.args.assume.now c.args.n r s c.gather-told.new.assumed.items c.gather-told.new.found.items =
    subst (λ (ls : List Lit). Gathers ls c.args.n r s c.gather-told.new.assumed.items c.gather-told.new.found.items)
    c.in-Ok.ensures.items c.gather-told.ensures.gathers in
    let is : c.split_at.result.1.now ≡ exclusion_selectors r.problem c.gather-told.new.found.items =
    c.split_at.ensures.back ∙ ap (drop (length c.args.assume.now)) (c.as_slice.ensures.value ∙ h.lits)
    ∙ drop-append_seam c.args.assume.now (exclusion_selectors r.problem c.gather-told.new.found.items) in
    let u : SolveState = g.S.Solve.state c.retire_each.new.s in
    subst (λ (vs : List (List Bool)). Excludes vs r u) (sym c.from_vec.ensures)
    (end-excludes c.args.assume.now c.args.n r s u c.gather-told.new.assumed.items c.split_at.result.1.now
    c.gather-told.new.found.items h is c.retire_each.ensures.retired)

pub returns-in-Ok-told-clause-adds : goal.returns-in-Ok-told-clause-adds
returns-in-Ok-told-clause-adds g c =
    let r : SolveState = g.S.Solve.state c.args.s.now in
    let s : SolveState = g.S.Solve.state c.gather-told.new.s in
    let h : Gathers c.args.assume.now c.args.n r s c.gather-told.new.assumed.items c.gather-told.new.found.items =
    subst (λ (ls : List Lit). Gathers ls c.args.n r s c.gather-told.new.assumed.items c.gather-told.new.found.items)
    c.in-Ok.ensures.items c.gather-told.ensures.gathers in
    let is : c.split_at.result.1.now ≡ exclusion_selectors r.problem c.gather-told.new.found.items =
    c.split_at.ensures.back ∙ ap (drop (length c.args.assume.now)) (c.as_slice.ensures.value ∙ h.lits)
    ∙ drop-append_seam c.args.assume.now (exclusion_selectors r.problem c.gather-told.new.found.items) in
    let u : SolveState = g.S.Solve.state c.retire_each.new.s in
    end-adds c.args.assume.now c.args.n r s u c.gather-told.new.assumed.items c.split_at.result.1.now
    c.gather-told.new.found.items h is c.retire_each.ensures.retired

pub returns-in-Ok-told-clause-costs : goal.returns-in-Ok-told-clause-costs
returns-in-Ok-told-clause-costs g c =
    let r : SolveState = g.S.Solve.state c.args.s.now in
    let s : SolveState = g.S.Solve.state c.gather-told.new.s in
    let h : Gathers c.args.assume.now c.args.n r s c.gather-told.new.assumed.items c.gather-told.new.found.items =
    subst (λ (ls : List Lit). Gathers ls c.args.n r s c.gather-told.new.assumed.items c.gather-told.new.found.items)
    c.in-Ok.ensures.items c.gather-told.ensures.gathers in
    let is : c.split_at.result.1.now ≡ exclusion_selectors r.problem c.gather-told.new.found.items =
    c.split_at.ensures.back ∙ ap (drop (length c.args.assume.now)) (c.as_slice.ensures.value ∙ h.lits)
    ∙ drop-append_seam c.args.assume.now (exclusion_selectors r.problem c.gather-told.new.found.items) in
    let u : SolveState = g.S.Solve.state c.retire_each.new.s in
    end-costs c.args.assume.now c.args.n r s u c.gather-told.new.assumed.items c.split_at.result.1.now
    c.gather-told.new.found.items h is c.args.budget.now c.gather-told.new.budget c.retire_each.ensures.retired
    c.gather-told.ensures.keeps c.gather-told.ensures.counts

pub returns-clause-adds : goal.returns-clause-adds
returns-clause-adds g c =
    let r : SolveState = g.S.Solve.state c.args.s.now in
    let s : SolveState = g.S.Solve.state c.gather-told.new.s in
    let h : Gathers c.args.assume.now c.args.n r s c.gather-told.new.assumed.items c.gather-told.new.found.items =
    subst (λ (ls : List Lit). Gathers ls c.args.n r s c.gather-told.new.assumed.items c.gather-told.new.found.items)
    c.in-Ok.ensures.items c.gather-told.ensures.gathers in
    let is : c.split_at.result.1.now ≡ exclusion_selectors r.problem c.gather-told.new.found.items =
    c.split_at.ensures.back ∙ ap (drop (length c.args.assume.now)) (c.as_slice.ensures.value ∙ h.lits)
    ∙ drop-append_seam c.args.assume.now (exclusion_selectors r.problem c.gather-told.new.found.items) in
    let u : SolveState = g.S.Solve.state c.retire_each.new.s in
    end-adds c.args.assume.now c.args.n r s u c.gather-told.new.assumed.items c.split_at.result.1.now
    c.gather-told.new.found.items h is c.retire_each.ensures.retired

pub returns-clause-costs : goal.returns-clause-costs
returns-clause-costs g c =
    let r : SolveState = g.S.Solve.state c.args.s.now in
    let s : SolveState = g.S.Solve.state c.gather-told.new.s in
    let h : Gathers c.args.assume.now c.args.n r s c.gather-told.new.assumed.items c.gather-told.new.found.items =
    subst (λ (ls : List Lit). Gathers ls c.args.n r s c.gather-told.new.assumed.items c.gather-told.new.found.items)
    c.in-Ok.ensures.items c.gather-told.ensures.gathers in
    let is : c.split_at.result.1.now ≡ exclusion_selectors r.problem c.gather-told.new.found.items =
    c.split_at.ensures.back ∙ ap (drop (length c.args.assume.now)) (c.as_slice.ensures.value ∙ h.lits)
    ∙ drop-append_seam c.args.assume.now (exclusion_selectors r.problem c.gather-told.new.found.items) in
    let u : SolveState = g.S.Solve.state c.retire_each.new.s in
    end-costs c.args.assume.now c.args.n r s u c.gather-told.new.assumed.items c.split_at.result.1.now
    c.gather-told.new.found.items h is c.args.budget.now c.gather-told.new.budget c.retire_each.ensures.retired
    c.gather-told.ensures.keeps c.gather-told.ensures.counts

pub returns-in-Ok-told-clause-decided : goal.returns-in-Ok-told-clause-decided
returns-in-Ok-told-clause-decided g c = λ shown.
    let r : SolveState = g.S.Solve.state c.args.s.now in
    let told = c.in-Ok-told.ensures.decided (subst (HasCoreWithin r.cores) (sym c.in-Ok.ensures.items) shown) in
    record {
      answer = (c.from_vec.ensures ∙ told.none, told.answer);
      learnt =
          ap (λ (q : SolveState). q.learnt) c.retire_each.ensures.retired ∙ told.learnt;
    }

pub returns-clause-decided : goal.returns-clause-decided
returns-clause-decided g c = λ shown.
    let r : SolveState = g.S.Solve.state c.args.s.now in
    let told = c.in-Err.ensures.decided (subst (HasCoreWithin r.cores) (sym c.in-Ok.ensures.items) shown) in
    record {
      answer = empty-halted c.in-Err.halt told.answer;
      learnt =
          ap (λ (q : SolveState). q.learnt) c.retire_each.ensures.retired ∙ told.learnt;
    }

pub returns-in-Ok-told-clause-grows : goal.returns-in-Ok-told-clause-grows
returns-in-Ok-told-clause-grows g c =
    let r : SolveState = g.S.Solve.state c.args.s.now in
    let s : SolveState = g.S.Solve.state c.gather-told.new.s in
    let h : Gathers c.args.assume.now c.args.n r s c.gather-told.new.assumed.items c.gather-told.new.found.items =
    subst (λ (ls : List Lit). Gathers ls c.args.n r s c.gather-told.new.assumed.items c.gather-told.new.found.items)
    c.in-Ok.ensures.items c.gather-told.ensures.gathers in
    let is : c.split_at.result.1.now ≡ exclusion_selectors r.problem c.gather-told.new.found.items =
    c.split_at.ensures.back ∙ ap (drop (length c.args.assume.now)) (c.as_slice.ensures.value ∙ h.lits)
    ∙ drop-append_seam c.args.assume.now (exclusion_selectors r.problem c.gather-told.new.found.items) in
    let u : SolveState = g.S.Solve.state c.retire_each.new.s in
    excludes-grow c.gather-told.new.found.items r u c.known.ensures.kept.problem
    (end-excludes c.args.assume.now c.args.n r s u c.gather-told.new.assumed.items c.split_at.result.1.now
    c.gather-told.new.found.items h is c.retire_each.ensures.retired)

pub returns-clause-grows : goal.returns-clause-grows
returns-clause-grows g c =
    let r : SolveState = g.S.Solve.state c.args.s.now in
    let s : SolveState = g.S.Solve.state c.gather-told.new.s in
    let h : Gathers c.args.assume.now c.args.n r s c.gather-told.new.assumed.items c.gather-told.new.found.items =
    subst (λ (ls : List Lit). Gathers ls c.args.n r s c.gather-told.new.assumed.items c.gather-told.new.found.items)
    c.in-Ok.ensures.items c.gather-told.ensures.gathers in
    let is : c.split_at.result.1.now ≡ exclusion_selectors r.problem c.gather-told.new.found.items =
    c.split_at.ensures.back ∙ ap (drop (length c.args.assume.now)) (c.as_slice.ensures.value ∙ h.lits)
    ∙ drop-append_seam c.args.assume.now (exclusion_selectors r.problem c.gather-told.new.found.items) in
    let u : SolveState = g.S.Solve.state c.retire_each.new.s in
    excludes-grow c.gather-told.new.found.items r u c.known.ensures.kept.problem
    (end-excludes c.args.assume.now c.args.n r s u c.gather-told.new.assumed.items c.split_at.result.1.now
    c.gather-told.new.found.items h is c.retire_each.ensures.retired)
