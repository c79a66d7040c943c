-- The trees of formulas without quantifiers, and of plain terms.
use Rattle.std.proofs.Common.{◌≡◌, ℕ, ℤ, map, Vec, rules}
use Rattle.std.specs.declared.alloc.Global.{Global}
use Rattle.std.specs.declared.boxed.Box.{Box}
use Rattle.kb_logic.specs.declared.syntax.Formula.{Formula, And, Atom, Implies, Not, Or}
use Rattle.kb_logic.specs.declared.syntax.Formula.{the_lemmas as of_formulas}
use Rattle.kb_logic.specs.declared.syntax.Term.{Term, Int, Made, Var}
use Rattle.kb_logic.specs.declared.syntax.Term.{the_lemmas as of_terms}
use Rattle.kb_logic.specs.Trees.{atom, conjunction, constructed, disjunction, formulas_of, implication, integer}
use Rattle.kb_logic.specs.Trees.{negation}
use Rattle.kb_logic.specs.Trees.{terms_of, variable}
use Rattle.kb_logic.specs.Views.{formula_view, term_view}

pub formula_view-Atom : (s : ℕ) (ts : Vec Term Global)
    → formula_view (Atom s ts) ≡ atom s (terms_of (map term_view ts.items))
formula_view-Atom s ts = search (rules, of_formulas)

pub formula_view-Not : (f : Box Formula Global) → formula_view (Not f) ≡ negation (formula_view f.value)
formula_view-Not f = search (rules, of_formulas)

pub formula_view-And : (fs : Vec Formula Global)
    → formula_view (And fs) ≡ conjunction (formulas_of (map formula_view fs.items))
formula_view-And fs = search (rules, of_formulas)

pub formula_view-Or : (fs : Vec Formula Global)
    → formula_view (Or fs) ≡ disjunction (formulas_of (map formula_view fs.items))
formula_view-Or fs = search (rules, of_formulas)

pub formula_view-Implies : (f g : Box Formula Global)
    → formula_view (Implies f g) ≡ implication (formula_view f.value) (formula_view g.value)
formula_view-Implies f g = search (rules, of_formulas)

pub term_view-Var : (n : ℕ) → term_view (Var n) ≡ variable n
term_view-Var n = search (rules, of_terms)

pub term_view-Int : (z : ℤ) → term_view (Int z) ≡ integer z
term_view-Int z = search (rules, of_terms)

pub term_view-Made : (ty n : ℕ) → term_view (Made ty n) ≡ constructed ty n
term_view-Made ty n = search (rules, of_terms)
