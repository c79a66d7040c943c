-- The trees of formulas and terms, by their variants.
use Rattle.kb_logic.specs.Trees.{numbered}
use Rattle.kb_logic.specs.Trees.{aggregate}
use Rattle.kb_logic.specs.Views.{formula_view, term_view}
use Rattle.std.proofs.Common.{◌≡◌, ℤ, Vec, rules, max, ◌<◌}
use Rattle.std.specs.declared.alloc.Global.{Global}
use Rattle.std.specs.declared.boxed.Box.{Box}
use Rattle.kb_logic.specs.declared.vocabularies.Bound.{Bound}
use Rattle.kb_logic.specs.declared.syntax.Cmp.{Cmp}
use Rattle.kb_logic.specs.declared.syntax.AggKind.{AggKind}
use Rattle.kb_logic.specs.declared.syntax.Term.{Term, size-Term, Agg}
use Rattle.kb_logic.specs.declared.syntax.Formula.{Formula, size-Formula, Number, the_lemmas}

pub formula_view-Number : (c : Cmp) (n : ℤ) (bs : Vec Bound Global) (f : Box Formula Global)
    → formula_view (Number c n bs f) ≡ numbered c n bs.items (formula_view f.value)
formula_view-Number c n bs f = search (rules, the_lemmas)

pub term_view-Agg : (k : AggKind) (bs : Vec Bound Global) (f : Box Formula Global) (t : Box Term Global)
    → term_view (Agg k bs f t) ≡ aggregate k bs.items (formula_view f.value) (term_view t.value)
term_view-Agg k bs f t = search (rules, the_lemmas)

pub size-Agg : (k : AggKind) (bs : Vec Bound Global) (f : Box Formula Global) (t : Box Term Global)
    → max (size-Formula f.value) (size-Term t.value) < size-Term (Agg k bs f t)
size-Agg k bs f t = search (rules, the_lemmas)
