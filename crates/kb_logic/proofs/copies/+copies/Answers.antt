use Rattle.std.proofs.Common.{rules}
use Rattle.kb_logic.specs.declared.syntax.Formula.{the_lemmas}
use Rattle.kb_logic.proofs.copies.+copies.Goals as goal

pub copy_formula-returns-in-False : goal.copy_formula-returns-in-False
copy_formula-returns-in-False t c = search (rules, the_lemmas)

pub copy_formula-returns-in-True : goal.copy_formula-returns-in-True
copy_formula-returns-in-True t c = search (rules, the_lemmas)

pub copy_formula-returns-in_ok-bounds-in-All : goal.copy_formula-returns-in_ok-bounds-in-All
copy_formula-returns-in_ok-bounds-in-All t c = search (rules, the_lemmas)

pub copy_formula-returns-in_ok-bounds-in-Any : goal.copy_formula-returns-in_ok-bounds-in-Any
copy_formula-returns-in_ok-bounds-in-Any t c = search (rules, the_lemmas)

pub copy_formula-returns-in_ok-bounds-in-Number : goal.copy_formula-returns-in_ok-bounds-in-Number
copy_formula-returns-in_ok-bounds-in-Number t c = search (rules, the_lemmas)

pub copy_formula-returns-in_ok-copy_boxed-in-Iff : goal.copy_formula-returns-in_ok-copy_boxed-in-Iff
copy_formula-returns-in_ok-copy_boxed-in-Iff t c = search (rules, the_lemmas)

pub copy_formula-returns-in_ok-copy_boxed-in-Implies : goal.copy_formula-returns-in_ok-copy_boxed-in-Implies
copy_formula-returns-in_ok-copy_boxed-in-Implies t c = search (rules, the_lemmas)

pub copy_formula-returns-in_ok-copy_boxed-in-Not : goal.copy_formula-returns-in_ok-copy_boxed-in-Not
copy_formula-returns-in_ok-copy_boxed-in-Not t c = search (rules, the_lemmas)

pub copy_formula-returns-in_ok-copy_formulas-in-And : goal.copy_formula-returns-in_ok-copy_formulas-in-And
copy_formula-returns-in_ok-copy_formulas-in-And t c = search (rules, the_lemmas)

pub copy_formula-returns-in_ok-copy_formulas-in-Or : goal.copy_formula-returns-in_ok-copy_formulas-in-Or
copy_formula-returns-in_ok-copy_formulas-in-Or t c = search (rules, the_lemmas)

pub copy_formula-returns-in_ok-copy_term-in-Compare-2 : goal.copy_formula-returns-in_ok-copy_term-in-Compare-2
copy_formula-returns-in_ok-copy_term-in-Compare-2 t c = search (rules, the_lemmas)

pub copy_formula-returns-in_ok-copy_terms-in-Atom : goal.copy_formula-returns-in_ok-copy_terms-in-Atom
copy_formula-returns-in_ok-copy_terms-in-Atom t c = search (rules, the_lemmas)

pub copy_term-returns-in-Int : goal.copy_term-returns-in-Int
copy_term-returns-in-Int t c = search (rules, the_lemmas)

pub copy_term-returns-in-Made : goal.copy_term-returns-in-Made
copy_term-returns-in-Made t c = search (rules, the_lemmas)

pub copy_term-returns-in-Var : goal.copy_term-returns-in-Var
copy_term-returns-in-Var t c = search (rules, the_lemmas)

pub copy_term-returns-in_ok-copy_summands-in-Sum : goal.copy_term-returns-in_ok-copy_summands-in-Sum
copy_term-returns-in_ok-copy_summands-in-Sum t c = search (rules, the_lemmas)

pub copy_term-returns-in_ok-copy_terms-in-Apply : goal.copy_term-returns-in_ok-copy_terms-in-Apply
copy_term-returns-in_ok-copy_terms-in-Apply t c = search (rules, the_lemmas)

pub copy_term-returns-in_ok-copy_terms-in-Product : goal.copy_term-returns-in_ok-copy_terms-in-Product
copy_term-returns-in_ok-copy_terms-in-Product t c = search (rules, the_lemmas)

pub copy_term-returns-in_ok-new-in-Agg : goal.copy_term-returns-in_ok-new-in-Agg
copy_term-returns-in_ok-new-in-Agg t c = search (rules, the_lemmas)
