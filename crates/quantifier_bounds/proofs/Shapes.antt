-- The trees of formulas, by their variants.
use Rattle.std.proofs.Common.{◌≡◌, ℕ, map, Vec, rules}
use Rattle.std.specs.declared.alloc.Global.{Global}
use Rattle.std.specs.declared.boxed.Box.{Box}
use Rattle.kb_logic.specs.Trees.{atom, equivalence, terms_of}
use Rattle.kb_logic.specs.Views.{formula_view, term_view}
use Rattle.kb_logic.specs.declared.syntax.Term.{Term}
use Rattle.kb_logic.specs.declared.syntax.Formula.{Formula, Atom, Iff, the_lemmas}

pub formula_view-Atom : (s : ℕ) (ts : Vec Term Global) → formula_view (Atom s ts) ≡ atom s
    (terms_of (map term_view ts.items))
formula_view-Atom s ts = search (rules, the_lemmas)

pub formula_view-Iff : (f g : Box Formula Global) → formula_view (Iff f g) ≡ equivalence (formula_view f.value)
    (formula_view g.value)
formula_view-Iff f g = search (rules, the_lemmas)
