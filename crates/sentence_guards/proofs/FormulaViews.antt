-- The trees of formulas without quantifiers.
use Rattle.std.proofs.Common.{◌≡◌, ℕ, map, Vec, rules}
use Rattle.std.specs.declared.alloc.Global.{Global}
use Rattle.std.specs.declared.boxed.Box.{Box}
use Rattle.kb_logic.specs.declared.syntax.Cmp.{Cmp}
use Rattle.kb_logic.specs.declared.syntax.Formula.{Formula, And, Atom, Compare, Implies, Not, Or, the_lemmas}
use Rattle.kb_logic.specs.declared.syntax.Term.{Term}
use Rattle.kb_logic.specs.Trees.{atom, comparison, conjunction, disjunction, formulas_of, implication, negation}
use Rattle.kb_logic.specs.Trees.{terms_of}
use Rattle.kb_logic.specs.Views.{formula_view, term_view}

pub formula_view-Atom : (s : ℕ) (ts : Vec Term Global)
    → formula_view (Atom s ts) ≡ atom s (terms_of (map term_view ts.items))
formula_view-Atom s ts = search (rules, the_lemmas)

pub formula_view-Compare : (c : Cmp) (x y : Term)
    → formula_view (Compare c x y) ≡ comparison c (term_view x) (term_view y)
formula_view-Compare c x y = search (rules, the_lemmas)

pub formula_view-Not : (f : Box Formula Global) → formula_view (Not f) ≡ negation (formula_view f.value)
formula_view-Not f = search (rules, the_lemmas)

pub formula_view-And : (fs : Vec Formula Global)
    → formula_view (And fs) ≡ conjunction (formulas_of (map formula_view fs.items))
formula_view-And fs = search (rules, the_lemmas)

pub formula_view-Or : (fs : Vec Formula Global)
    → formula_view (Or fs) ≡ disjunction (formulas_of (map formula_view fs.items))
formula_view-Or fs = search (rules, the_lemmas)

pub formula_view-Implies : (f g : Box Formula Global)
    → formula_view (Implies f g) ≡ implication (formula_view f.value) (formula_view g.value)
formula_view-Implies f g = search (rules, the_lemmas)
