use Rattle.std.proofs.Common.{map, subst, rules}
use Rattle.std.proofs.lemmas.Option.{IfSome_then}
use Rattle.kb_logic.specs.Trees.{formulas_of}
use Rattle.kb_logic.specs.Views.{formula_view}
use Rattle.sentence_guards.specs.Guards.{AreParts}
use Rattle.sentence_guards.proofs.GuardSteps.{others-guard}
use Rattle.sentence_guards.proofs.guards.guard_of_others.Goals as goal

pub returns : goal.returns
returns c =
    let others = c.in-Some.others.now in
    IfSome_then c.found.result c.found.ensures
    (λ g is b. others-guard b c.args.sign c.args.formulas.now others c.in-Some._last.now g (search rules)
    (subst (AreParts b c.args.sign (formulas_of (map formula_view others))) is (c.parts.ensures b)))
