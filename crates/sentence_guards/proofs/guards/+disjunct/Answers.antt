use Rattle.std.proofs.Common.{◌≡◌, map, sym, ap, subst, ◌∙◌, false}
use Rattle.kb_logic.specs.Trees.{atom, conjunction, disjunction, formulas_of, implication, negation, terms_of}
use Rattle.kb_logic.specs.Views.{formula_view, term_view}
use Rattle.sentence_guards.specs.declared.guards.Part.TheVariants.{Found, Quiet}
use Rattle.sentence_guards.specs.Guards.{IsPart}
use Rattle.sentence_guards.proofs.GuardSteps.{implied-found, implied-next, negation-part, parts-end, parts-found}
use Rattle.sentence_guards.proofs.GuardSteps.{parts-next}
use Rattle.sentence_guards.proofs.FormulaViews.{formula_view-And, formula_view-Atom, formula_view-Compare}
use Rattle.sentence_guards.proofs.FormulaViews.{formula_view-Implies, formula_view-Not, formula_view-Or}
use Rattle.sentence_guards.proofs.guards.+disjunct.Goals as goal

pub negated_part-returns : goal.negated_part-returns
negated_part-returns t c =
    λ b. negation-part b c.args.sign (formula_view c.args.inner.now) c.part_of.result (c.part_of.ensures b)

pub and_part-returns : goal.and_part-returns
and_part-returns t c =
    let fs = formulas_of (map formula_view c.args.formulas.now) in
    λ b. subst (λ v. IsPart b v (conjunction fs) c.parts.result) (sym c.if-sign.false) (c.parts.ensures b)

pub or_part-returns-then-sign : goal.or_part-returns-then-sign
or_part-returns-then-sign t c =
    let fs = formulas_of (map formula_view c.args.formulas.now) in
    λ b. subst (λ v. IsPart b v (disjunction fs) c.parts.result) (sym c.if-sign.true) (c.parts.ensures b)

pub right_part-returns-in-Found : goal.right_part-returns-in-Found
right_part-returns-in-Found t c =
    λ b f h. implied-found b f (formula_view c.args.right.now) c.in-Found.guard
    (subst (IsPart b false f) c.in-Found.is h)

pub right_part-returns-in-Quiet : goal.right_part-returns-in-Quiet
right_part-returns-in-Quiet t c =
    λ b f h. implied-next b f (formula_view c.args.right.now) c.part_of.result
    (subst (IsPart b false f) c.in-Quiet.is h) (c.part_of.ensures b)

pub part_of-returns-in-Atom : goal.part_of-returns-in-Atom
part_of-returns-in-Atom t c =
    let s = c.in-Atom.symbol in
    λ b. subst (λ f. IsPart b c.args.sign f c.atom_part.result)
    (ap (λ ts. atom s (terms_of (map term_view ts))) c.deref.ensures.value
    ∙ sym (ap formula_view c.in-Atom.is ∙ formula_view-Atom s c.in-Atom.args)) (c.atom_part.ensures b)

pub part_of-returns-in-Compare : goal.part_of-returns-in-Compare
part_of-returns-in-Compare t c =
    let x = c.in-Compare.left in
    let y = c.in-Compare.right in
    λ b. subst (λ f. IsPart b c.args.sign f c.comparison_part.result)
    (sym (ap formula_view c.in-Compare.is ∙ formula_view-Compare c.in-Compare.cmp x y)) (c.comparison_part.ensures b)

pub part_of-returns-in-Not : goal.part_of-returns-in-Not
part_of-returns-in-Not t c =
    λ b. subst (λ f. IsPart b c.args.sign f c.negated_part.result)
    (ap (λ f. negation (formula_view f)) c.deref-in-Not.ensures
    ∙ sym (ap formula_view c.in-Not.is ∙ formula_view-Not c.in-Not.inner)) (c.negated_part.ensures b)

pub part_of-returns-in-And : goal.part_of-returns-in-And
part_of-returns-in-And t c =
    λ b. subst (λ f. IsPart b c.args.sign f c.and_part.result)
    (ap (λ fs. conjunction (formulas_of (map formula_view fs))) c.deref-in-And.ensures.value
    ∙ sym (ap formula_view c.in-And.is ∙ formula_view-And c.in-And.formulas)) (c.and_part.ensures b)

pub part_of-returns-in-Or : goal.part_of-returns-in-Or
part_of-returns-in-Or t c =
    λ b. subst (λ f. IsPart b c.args.sign f c.or_part.result)
    (ap (λ fs. disjunction (formulas_of (map formula_view fs))) c.deref-in-Or.ensures.value
    ∙ sym (ap formula_view c.in-Or.is ∙ formula_view-Or c.in-Or.formulas)) (c.or_part.ensures b)

pub part_of-returns-then-sign : goal.part_of-returns-then-sign
part_of-returns-then-sign t c =
    let l = formula_view c.deref-then-sign.result.now in
    let r = formula_view c.deref-then-sign-2.result.now in
    let viewed : implication l r ≡ formula_view c.args.formula.now =
    ap (λ f. implication (formula_view f) r) c.deref-then-sign.ensures
    ∙ (ap (λ f. implication (formula_view c.in-Implies.left.value) (formula_view f)) c.deref-then-sign-2.ensures
    ∙ sym (ap formula_view c.in-Implies.is ∙ formula_view-Implies c.in-Implies.left c.in-Implies.right)) in
    λ b. subst (λ f. IsPart b c.args.sign f c.right_part.result) viewed
    (subst (λ v. IsPart b v (implication l r) c.right_part.result) (sym c.if-sign.true)
    (c.right_part.ensures b l (c.part_of-first.ensures b)))

pub parts-returns-in-Found : goal.parts-returns-in-Found
parts-returns-in-Found t c =
    let fs = c.args.formulas.now in
    let i = c.loop-formula.formula-index in
    let x = c.formula-item.result in
    λ b. c.loop-formula.invariant b (Found c.in-Found.guard)
    (parts-found b c.args.sign fs i x c.in-Found.guard c.loop-formula-test.true c.formula-item.is
    (subst (IsPart b c.args.sign (formula_view x)) c.in-Found.is (c.part_of.ensures b)))

pub parts-loop-formula-preserved : goal.parts-loop-formula-preserved
parts-loop-formula-preserved t c =
    let fs = c.args.formulas.now in
    let i = c.loop-formula.formula-index in
    let x = c.formula-item.result in
    λ b r later. c.loop-formula.invariant b r
    (parts-next b c.args.sign fs i x r c.loop-formula-test.true c.formula-item.is
    (subst (IsPart b c.args.sign (formula_view x)) c.in-Quiet.is (c.part_of.ensures b)) later)

pub parts-returns : goal.parts-returns
parts-returns t c =
    λ b. c.loop-formula.invariant b Quiet
    (parts-end b c.args.sign c.args.formulas.now c.loop-formula.formula-index c.loop-formula-test.false)
