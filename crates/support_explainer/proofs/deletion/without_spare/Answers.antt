use Rattle.std.proofs.Common.{◌++◌, List, Bool, Option, sym, ap, ◌∙◌, subst}
use Rattle.lit_core.specs.declared.literals.Lit.{Lit}
use Rattle.lit_core.specs.Literals.{valuation}
use Rattle.ground_core.specs.Problems.{AreLitsOf}
use Rattle.ground_core.specs.Solving.{SolveState, AreUnretired}
use Rattle.model_search.specs.Models.{FindsModel, IsConsistent, IsRefuted}
use Rattle.support_explainer.specs.Reasons.{without_item}
use Rattle.support_explainer.proofs.ItemFacts.{without-sublist, sublist-append}
use Rattle.support_explainer.proofs.DeletionFacts.{lits-fewer, unretired-fewer}
use Rattle.support_explainer.proofs.deletion.without_spare.Goals as goal

pub model_of-requires-clause-literals : goal.model_of-requires-clause-literals
model_of-requires-clause-literals g c =
    let s : SolveState = g.S.Solve.state c.args.s.now in
    let items : List Lit = c.args.items.now in
    let last : List Lit = c.args.last.now in
    let fewer : List Lit = without_item items c.args.at in
    let whole = c.as_slice-2.ensures.value ∙ c.in-Ok-joined.ensures ∙ ap (λ (l : List Lit). l ++ last)
    (c.as_slice.ensures.value ∙ c.in-Ok.ensures) in
    subst (AreLitsOf s.problem.vars) (sym whole) (lits-fewer s.problem.vars (fewer ++ last) (items ++ last)
    (sublist-append fewer items last (without-sublist items c.args.at)) c.requires.literals)

pub model_of-requires-clause-unretired : goal.model_of-requires-clause-unretired
model_of-requires-clause-unretired g c =
    let s : SolveState = g.S.Solve.state c.args.s.now in
    let items : List Lit = c.args.items.now in
    let last : List Lit = c.args.last.now in
    let fewer : List Lit = without_item items c.args.at in
    let whole = c.as_slice-2.ensures.value ∙ c.in-Ok-joined.ensures ∙ ap (λ (l : List Lit). l ++ last)
    (c.as_slice.ensures.value ∙ c.in-Ok.ensures) in
    subst (AreUnretired s.problem) (sym whole) (unretired-fewer s.problem (fewer ++ last) (items ++ last)
    (sublist-append fewer items last (without-sublist items c.args.at)) c.requires.unretired)

pub returns-in-Ok-None-clause-tells : goal.returns-in-Ok-None-clause-tells
returns-in-Ok-None-clause-tells g c =
    let s : SolveState = g.S.Solve.state c.args.s.now in
    let t : SolveState = g.S.Solve.state c.model_of.new.s in
    let last : List Lit = c.args.last.now in
    let whole = c.as_slice-2.ensures.value ∙ c.in-Ok-joined.ensures ∙ ap (λ (l : List Lit). l ++ last)
    (c.as_slice.ensures.value ∙ c.in-Ok.ensures) in
    let is = c.from_vec.ensures ∙ c.in-Ok.ensures in
    let told : IsRefuted s.problem t.cores c.as_slice-2.result.now =
    subst (λ (o : Option (List Bool)). FindsModel s.problem c.as_slice-2.result.now t.cores o)
    c.in-Ok-None.field-0-is c.in-Ok-None.ensures.finds in
    (is, subst (IsRefuted s.problem t.cores) (whole ∙ sym (ap (λ (l : List Lit). l ++ last) is)) told)

pub returns-in-Ok-Some-clause-tells : goal.returns-in-Ok-Some-clause-tells
returns-in-Ok-Some-clause-tells g c =
    let s : SolveState = g.S.Solve.state c.args.s.now in
    let t : SolveState = g.S.Solve.state c.model_of.new.s in
    let last : List Lit = c.args.last.now in
    let whole = c.as_slice-2.ensures.value ∙ c.in-Ok-joined.ensures ∙ ap (λ (l : List Lit). l ++ last)
    (c.as_slice.ensures.value ∙ c.in-Ok.ensures) in
    let h = subst (λ (o : Option (List Bool)). FindsModel s.problem c.as_slice-2.result.now t.cores o)
    c.in-Ok-Some.field-0-is c.in-Ok-Some.ensures.finds in
    subst (IsConsistent s.problem) whole (valuation c.in-Ok-Some.field-0-0, h.1, h.2)
