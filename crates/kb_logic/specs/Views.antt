-- The tree that a term, a formula, a rule, a definition or a theory is.
use Rattle.std.specs.Prelude.{Bool, map}
use Rattle.std.specs.Option.{option_map}
use Rattle.kb_logic.specs.Trees.{TermTree, variable, integer, constructed, application, summation, product, aggregate}
use Rattle.kb_logic.specs.Trees.{FormulaTree, verum, falsum, atom, comparison, negation, conjunction, disjunction}
use Rattle.kb_logic.specs.Trees.{implication, equivalence, universal, existential, numbered, terms_of, formulas_of}
use Rattle.kb_logic.specs.Trees.{summands_of, RuleTree, DefinitionTree, TheoryTree}
use Rattle.kb_logic.specs.declared.syntax.Formula.{Formula, fold-Formula}
use Rattle.kb_logic.specs.declared.syntax.Term.{Term, fold-Term}
use Rattle.kb_logic.specs.declared.syntax.Signed.{Signed, fold-Signed}
use Rattle.kb_logic.specs.declared.syntax.Rule.{Rule}
use Rattle.kb_logic.specs.declared.syntax.Definition.{Definition}
use Rattle.kb_logic.specs.declared.syntax.Theory.{Theory}
use Rattle.kb_logic.specs.declared.syntax.Formula.TheOpen.{Formula-F, Term-F, Signed-F}

abbrev pub formula_step : Formula-F FormulaTree TermTree (Bool × TermTree) → FormulaTree
formula_step Formula-F.True = verum
formula_step Formula-F.False = falsum
formula_step (Formula-F.Atom s ts) = atom s (terms_of ts.items)
formula_step (Formula-F.Compare c a b) = comparison c a b
formula_step (Formula-F.Not f) = negation f.value
formula_step (Formula-F.And fs) = conjunction (formulas_of fs.items)
formula_step (Formula-F.Or fs) = disjunction (formulas_of fs.items)
formula_step (Formula-F.Implies f g) = implication f.value g.value
formula_step (Formula-F.Iff f g) = equivalence f.value g.value
formula_step (Formula-F.All bs f) = universal bs.items f.value
formula_step (Formula-F.Any bs f) = existential bs.items f.value
formula_step (Formula-F.Number c n bs f) = numbered c n bs.items f.value

abbrev pub term_step : Term-F FormulaTree TermTree (Bool × TermTree) → TermTree
term_step (Term-F.Var n) = variable n
term_step (Term-F.Int z) = integer z
term_step (Term-F.Made ty n) = constructed ty n
term_step (Term-F.Apply s ts) = application s (terms_of ts.items)
term_step (Term-F.Sum ss) = summation (summands_of ss.items)
term_step (Term-F.Product ts) = product (terms_of ts.items)
term_step (Term-F.Agg k bs f t) = aggregate k bs.items f.value t.value

abbrev pub signed_step : Signed-F FormulaTree TermTree (Bool × TermTree) → Bool × TermTree
signed_step s = (s.minus, s.term)

-- the tree of a formula
abbrev pub formula_view : Formula → FormulaTree
formula_view = fold-Formula FormulaTree TermTree (Bool × TermTree) formula_step term_step signed_step

-- the tree of a term
abbrev pub term_view : Term → TermTree
term_view = fold-Term FormulaTree TermTree (Bool × TermTree) formula_step term_step signed_step

-- an operand of a sum: whether it has a minus, and its tree
abbrev pub signed_view : Signed → Bool × TermTree
signed_view = fold-Signed FormulaTree TermTree (Bool × TermTree) formula_step term_step signed_step

-- the tree of a rule
abbrev pub rule_view : Rule → RuleTree
rule_view r = record {
  vars = r.vars;
  symbol = r.symbol;
  args = map term_view r.args;
  value = option_map term_view r.value;
  has_body = r.has_body;
  body = formula_view r.body;
}

-- the tree of a definition
abbrev pub definition_view : Definition → DefinitionTree
definition_view d = record { rules = map rule_view d.rules }

-- the tree of a theory
abbrev pub theory_view : Theory → TheoryTree
theory_view t = record {
  sentences = map formula_view t.sentences;
  definitions = map definition_view t.definitions;
}
