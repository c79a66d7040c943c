-- The trees of quantified formulas.
use Rattle.std.proofs.Common.{◌≡◌, Vec, rules}
use Rattle.std.specs.declared.alloc.Global.{Global}
use Rattle.std.specs.declared.boxed.Box.{Box}
use Rattle.kb_logic.specs.Trees.{universal, existential}
use Rattle.kb_logic.specs.Views.{formula_view}
use Rattle.kb_logic.specs.declared.vocabularies.Bound.{Bound}
use Rattle.kb_logic.specs.declared.syntax.Formula.{Formula, All, Any, the_lemmas}

pub formula_view-All : (bs : Vec Bound Global) (f : Box Formula Global) → formula_view (All bs f) ≡ universal bs.items
    (formula_view f.value)
formula_view-All bs f = search (rules, the_lemmas)

pub formula_view-Any : (bs : Vec Bound Global) (f : Box Formula Global) → formula_view (Any bs f) ≡ existential bs.items
    (formula_view f.value)
formula_view-Any bs f = search (rules, the_lemmas)
