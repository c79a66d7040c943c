use Rattle.std.proofs.Common.{map, sym, subst, false}
use Rattle.std.proofs.lemmas.Option.{IfSome_then}
use Rattle.kb_logic.specs.Trees.{implication, terms_of}
use Rattle.kb_logic.specs.Views.{formula_view, term_view}
use Rattle.sentence_guards.specs.Guards.{IsGuard, IsPart}
use Rattle.sentence_guards.proofs.GuardSteps.{implied-guard}
use Rattle.sentence_guards.proofs.guards.implied_guard.Goals as goal

pub returns-then-sign : goal.returns-then-sign
returns-then-sign c =
    let f = formula_view c.args.left.now in
    let g = formula_view c.args.right.now in
    IfSome_then c.found.result c.found.ensures
    (λ a is b. subst (λ v. IsGuard b v (implication f g) a.symbol (terms_of (map term_view a.args.now)))
    (sym c.if-sign.true) (implied-guard b f g a (subst (IsPart b false f) is (c.part_of.ensures b))))
