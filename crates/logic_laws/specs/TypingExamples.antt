-- Worked examples of typing, over a constructed type, a number type and a type below that.
use Rattle.std.specs.Prelude.{ℕ, pos, List, [], ◌∷◌, true, false, Option, Some, None}
use Rattle.kb_logic.specs.declared.syntax.Cmp.TheVariants as cmp
use Rattle.kb_logic.specs.declared.vocabularies.Parent.{Parent}
use Rattle.kb_logic.specs.declared.vocabularies.Parent.TheVariants.{Root, Nat, Of}
use Rattle.kb_logic.specs.declared.vocabularies.TypeDecl.{TypeDecl}
use Rattle.kb_logic.specs.declared.vocabularies.Symbol.{Symbol}
use Rattle.kb_logic.specs.declared.vocabularies.Vocabulary.{Vocabulary}
use Rattle.kb_logic.specs.Trees.{TermTree, variable, integer, constructed, application, summation, TermTrees, no_terms}
use Rattle.kb_logic.specs.Trees.{more_terms, no_summands, more_summands, FormulaTree, atom, comparison, universal}
use Rattle.kb_logic.specs.Typing.{IsWellTyped}

abbrev declared_as : Parent → List (List ℕ) → TypeDecl
declared_as parent made = record { name = []; parent = parent; made = made }

abbrev symbol : List ℕ → Option ℕ → Symbol
symbol args value = record { name = []; args = args; value = value }

-- type 0 is constructed from two names, type 1 is under `nat`, type 2 is below type 1; P is a predicate of numbers, f a
-- function from numbers to names, c a constant of type 2
abbrev pub words : Vocabulary
words = record {
  name = [];
  types = declared_as Root ((114 ∷ []) ∷ (103 ∷ []) ∷ []) ∷ declared_as Nat [] ∷ declared_as (Of 1) [] ∷ [];
  symbols = symbol (1 ∷ []) None ∷ symbol (1 ∷ []) (Some 0) ∷ symbol [] (Some 2) ∷ [];
}

abbrev pub one_term : TermTree → TermTrees
one_term t = more_terms t no_terms

abbrev pub p_of : TermTree → FormulaTree
p_of t = atom 0 (one_term t)

abbrev pub f_of : TermTree → TermTree
f_of t = application 1 (one_term t)

abbrev pub c_ : TermTree
c_ = application 2 no_terms

abbrev pub name : TermTree
name = constructed 0 0

abbrev pub minus_three : TermTree
minus_three = summation (more_summands true (integer (pos 3)) no_summands)

abbrev IsTyped : FormulaTree → Type 0
IsTyped f = IsWellTyped words f []

abbrev IsNotTyped : FormulaTree → Type 0
IsNotTyped f = IsWellTyped words f [] → ⊥

-- which formulas are well typed
pub record TypingExamples : Type 0 where
  pub subtype : IsTyped (comparison cmp.Eq (f_of c_) name)
  pub literal : IsTyped (comparison cmp.Ne (f_of minus_three) name)
  pub akin : IsTyped (universal (record { name = []; ty = 2 } ∷ []) (p_of (variable 0)))
  pub ordered : IsTyped (comparison cmp.Lt c_ (integer (pos 3)))
  pub name_for_number : IsNotTyped (comparison cmp.Eq (f_of name) name)
  pub sum_for_argument : IsNotTyped (comparison cmp.Eq (f_of (summation
      (more_summands false c_ (more_summands false c_ no_summands)))) name)
  pub not_akin : IsNotTyped (p_of name)
  pub names_in_order : IsNotTyped (comparison cmp.Lt name (integer (pos 3)))
  pub no_such_name : IsNotTyped (comparison cmp.Eq name (constructed 0 2))
  pub out_of_scope : IsNotTyped (p_of (variable 0))
  pub too_many_arguments : IsNotTyped (atom 0 (more_terms c_ (one_term c_)))
  pub function_as_atom : IsNotTyped (atom 1 (one_term c_))
