-- Terms, formulas and rules with numbers for words. Variables need not have their types yet, and each term has the
-- place of its first token.
use Rattle.std.specs.Prelude.{ℕ, Bool, List, [], ◌∷◌, ◌++◌, Option, option_to_list}
use Rattle.kb_logic.specs.declared.syntax.AggKind.{AggKind}
use Rattle.kb_logic.specs.declared.syntax.Cmp.{Cmp}
use Rattle.stage_definitions.specs.Scopes.{Text}

-- a variable where it is bound: its name, the name's place, and its type where one is written
pub record NamedVar : Type 0 where
  pub name : Text
  pub place : ℕ
  pub ty : Option ℕ

mutual
  -- a term and the place of its first token
  pub data NamedTerm : Type 0 where
    at : ℕ → NamedNode → NamedTerm

  pub data NamedNode : Type 0 where
    variable : ℕ → NamedNode
    integer : ℕ → NamedNode
    constructed : ℕ → ℕ → NamedNode
    application : ℕ → NamedTerms → NamedNode
    summation : NamedSummands → NamedNode
    product : NamedTerms → NamedNode
    aggregate : AggKind → List NamedVar → NamedFormula → NamedTerm → NamedNode

  pub data NamedTerms : Type 0 where
    no_terms : NamedTerms
    more_terms : NamedTerm → NamedTerms → NamedTerms

  -- the operands of a sum, each with whether it has a minus
  pub data NamedSummands : Type 0 where
    no_summands : NamedSummands
    more_summands : Bool → NamedTerm → NamedSummands → NamedSummands

  pub data NamedFormula : Type 0 where
    truth : Bool → NamedFormula
    atom : ℕ → NamedTerms → NamedFormula
    comparison : Cmp → NamedTerm → NamedTerm → NamedFormula
    negation : NamedFormula → NamedFormula
    conjunction : NamedFormulas → NamedFormula
    disjunction : NamedFormulas → NamedFormula
    implication : NamedFormula → NamedFormula → NamedFormula
    equivalence : NamedFormula → NamedFormula → NamedFormula
    universal : List NamedVar → NamedFormula → NamedFormula
    existential : List NamedVar → NamedFormula → NamedFormula
    numbered : Cmp → ℕ → List NamedVar → NamedFormula → NamedFormula

  pub data NamedFormulas : Type 0 where
    no_formulas : NamedFormulas
    more_formulas : NamedFormula → NamedFormulas → NamedFormulas

abbrev pub terms_of : List NamedTerm → NamedTerms
terms_of [] = no_terms
terms_of (t ∷ ts) = more_terms t (terms_of ts)

abbrev pub summands_of : List (Bool × NamedTerm) → NamedSummands
summands_of [] = no_summands
summands_of (s ∷ ss) = more_summands s.0 s.1 (summands_of ss)

abbrev pub formulas_of : List NamedFormula → NamedFormulas
formulas_of [] = no_formulas
formulas_of (f ∷ fs) = more_formulas f (formulas_of fs)

abbrev pub place_of : NamedTerm → ℕ
place_of (at p n) = p

-- the same term, that begins at another token
abbrev pub begun_at : ℕ → NamedTerm → NamedTerm
begun_at p (at q n) = at p n

-- a rule of a definition: its variables, its head's symbol and arguments, and a function's value; whether it has a
-- body, and its body, which is true where it has none
pub record NamedRule : Type 0 where
  pub vars : List NamedVar
  pub symbol : ℕ
  pub args : List NamedTerm
  pub value : Option NamedTerm
  pub has_body : Bool
  pub body : NamedFormula

-- the terms of a rule's head
abbrev pub head_terms : NamedRule → List NamedTerm
head_terms r = r.args ++ option_to_list r.value
