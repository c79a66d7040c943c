use Rattle.std.proofs.Common.{◌≡◌, map, ap, sym, ◌∙◌, List, not}
use Rattle.kb_logic.specs.Trees.{FormulaTree, formulas_of}
use Rattle.kb_logic.specs.Views.{formula_view}
use Rattle.kb_logic.specs.declared.syntax.Formula.{Formula, And, Or}
use Rattle.normal_forms.specs.NormalForms.{normal_form, joined_by}
use Rattle.normal_forms.proofs.NormalFacts.{forms-of}
use Rattle.normal_forms.proofs.Views.{view-And, view-Or}
use Rattle.normal_forms.proofs.negations.+normal.Goals as goal

pub normal-returns-in_ok-normal_list-in-And : goal.normal-returns-in_ok-normal_list-in-And
normal-returns-in_ok-normal_list-in-And t c =
    let fs : List FormulaTree = map formula_view c.in-And.parts.items in
    let items : map formula_view c.in_ok-normal_list-in-And.field-0.items ≡ map (normal_form c.args.sign) fs =
    c.in_ok-normal_list-in-And.ensures ∙ ap (λ (xs : List Formula). map (normal_form c.args.sign)
    (map formula_view xs)) c.deref-in-And.ensures.value in
    let is : formula_view c.args.formula.now ≡ formula_view (And c.in-And.parts) = ap formula_view c.in-And.is in
    c.join.ensures ∙ ap (λ (xs : List FormulaTree). joined_by c.args.sign (formulas_of xs)) items
    ∙ ap (joined_by c.args.sign) (sym (forms-of c.args.sign fs))
    ∙ ap (normal_form c.args.sign) (sym (is ∙ view-And c.in-And.parts))

pub normal-returns-in_ok-normal_list-in-Or : goal.normal-returns-in_ok-normal_list-in-Or
normal-returns-in_ok-normal_list-in-Or t c =
    let fs : List FormulaTree = map formula_view c.in-Or.parts.items in
    let items : map formula_view c.in_ok-normal_list-in-Or.field-0.items ≡ map (normal_form c.args.sign) fs =
    c.in_ok-normal_list-in-Or.ensures ∙ ap (λ (xs : List Formula). map (normal_form c.args.sign)
    (map formula_view xs)) c.deref-in-Or.ensures.value in
    let is : formula_view c.args.formula.now ≡ formula_view (Or c.in-Or.parts) = ap formula_view c.in-Or.is in
    c.join-in-Or.ensures ∙ ap (λ (xs : List FormulaTree). joined_by (not c.args.sign) (formulas_of xs)) items
    ∙ ap (joined_by (not c.args.sign)) (sym (forms-of c.args.sign fs))
    ∙ ap (normal_form c.args.sign) (sym (is ∙ view-Or c.in-Or.parts))
