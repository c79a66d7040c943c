use Rattle.std.proofs.Common.{map, sym, subst}
use Rattle.std.proofs.lemmas.Option.{IfSome_then}
use Rattle.kb_logic.specs.Trees.{disjunction, formulas_of, terms_of}
use Rattle.kb_logic.specs.Views.{formula_view, term_view}
use Rattle.sentence_guards.specs.Guards.{IsGuard}
use Rattle.sentence_guards.proofs.guards.or_guard.Goals as goal

pub returns-then-sign : goal.returns-then-sign
returns-then-sign c =
    let fs = formulas_of (map formula_view c.args.formulas.now) in
    IfSome_then c.guard_of_others.result c.guard_of_others.ensures
    (λ g h b. subst (λ v. IsGuard b v (disjunction fs) g.symbol (terms_of (map term_view g.args.now)))
    (sym c.if-sign.true) (h b))
