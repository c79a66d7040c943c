use Rattle.std.proofs.Common.{rules, append_assoc}
use Rattle.stage_definitions.specs.declared.named.NamedFormula.{the_lemmas}
use Rattle.type_constraints.proofs.collect.+list.Goals as goal

pub formula-returns-in-All : goal.formula-returns-in-All
formula-returns-in-All t c = search (rules, the_lemmas)

pub formula-returns-in-And : goal.formula-returns-in-And
formula-returns-in-And t c = search (rules, the_lemmas)

pub formula-returns-in-Atom : goal.formula-returns-in-Atom
formula-returns-in-Atom t c = search (rules, the_lemmas)

pub formula-returns-in-Not : goal.formula-returns-in-Not
formula-returns-in-Not t c = search (rules, the_lemmas)

pub formula-returns-in-Truth : goal.formula-returns-in-Truth
formula-returns-in-Truth t c = search (rules, the_lemmas)

pub formula-returns-in_ok-formula-in-Implies : goal.formula-returns-in_ok-formula-in-Implies
formula-returns-in_ok-formula-in-Implies t c = search (rules, the_lemmas, append_assoc)

pub formula-returns-in_ok-term-in-Compare : goal.formula-returns-in_ok-term-in-Compare
formula-returns-in_ok-term-in-Compare t c = search (rules, the_lemmas, append_assoc)

pub term-returns-in-Apply : goal.term-returns-in-Apply
term-returns-in-Apply t c = search (rules, the_lemmas)

pub term-returns-in-Int : goal.term-returns-in-Int
term-returns-in-Int t c = search (rules, the_lemmas)

pub term-returns-in-Made : goal.term-returns-in-Made
term-returns-in-Made t c = search (rules, the_lemmas)

pub term-returns-in-Product : goal.term-returns-in-Product
term-returns-in-Product t c = search (rules, the_lemmas)

pub term-returns-in-Sum : goal.term-returns-in-Sum
term-returns-in-Sum t c = search (rules, the_lemmas)

pub term-returns-in-Var : goal.term-returns-in-Var
term-returns-in-Var t c = search (rules, the_lemmas)
