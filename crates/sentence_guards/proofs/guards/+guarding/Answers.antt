use Rattle.std.proofs.Common.{map, sym, ap, subst, ◌∙◌}
use Rattle.std.proofs.lemmas.Option.{IfSome_then}
use Rattle.kb_logic.specs.Trees.{conjunction, disjunction, formulas_of, terms_of}
use Rattle.kb_logic.specs.Views.{formula_view, term_view}
use Rattle.sentence_guards.specs.Guards.{IsGuard}
use Rattle.sentence_guards.proofs.FormulaViews.{formula_view-And, formula_view-Or}
use Rattle.sentence_guards.proofs.GuardSteps.{negated-guard}
use Rattle.sentence_guards.proofs.guards.+guarding.Goals as goal

pub negated_guard-returns : goal.negated_guard-returns
negated_guard-returns t c =
    IfSome_then c.guard_in.result c.guard_in.ensures
    (λ g h b. negated-guard b c.args.sign (formula_view c.args.inner.now) g.symbol (terms_of (map term_view g.args.now))
    (h b))

pub guard_in-returns-in-And : goal.guard_in-returns-in-And
guard_in-returns-in-And t c =
    IfSome_then c.and_guard.result c.and_guard.ensures
    (λ g h b. subst (λ f. IsGuard b c.args.sign f g.symbol (terms_of (map term_view g.args.now)))
    (ap (λ fs. conjunction (formulas_of (map formula_view fs))) c.deref-in-And.ensures.value
    ∙ sym (ap formula_view c.in-And.is ∙ formula_view-And c.in-And.formulas)) (h b))

pub guard_in-returns-in-Or : goal.guard_in-returns-in-Or
guard_in-returns-in-Or t c =
    IfSome_then c.or_guard.result c.or_guard.ensures
    (λ g h b. subst (λ f. IsGuard b c.args.sign f g.symbol (terms_of (map term_view g.args.now)))
    (ap (λ fs. disjunction (formulas_of (map formula_view fs))) c.deref-in-Or.ensures.value
    ∙ sym (ap formula_view c.in-Or.is ∙ formula_view-Or c.in-Or.formulas)) (h b))
