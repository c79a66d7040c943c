-- The trees of conjunctions and disjunctions.
use Rattle.std.proofs.Common.{◌≡◌, Vec, map, rules}
use Rattle.std.specs.declared.alloc.Global.{Global}
use Rattle.kb_logic.specs.Trees.{conjunction, disjunction, formulas_of}
use Rattle.kb_logic.specs.Views.{formula_view}
use Rattle.kb_logic.specs.declared.syntax.Formula.{Formula, And, Or, the_lemmas}

pub view-And : (fs : Vec Formula Global) → formula_view (And fs) ≡ conjunction (formulas_of (map formula_view fs.items))
view-And fs = search (rules, the_lemmas)

pub view-Or : (fs : Vec Formula Global) → formula_view (Or fs) ≡ disjunction (formulas_of (map formula_view fs.items))
view-Or fs = search (rules, the_lemmas)
