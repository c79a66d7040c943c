-- Trees whose numbers stand for variables in scope and for things of a vocabulary, used as they are declared.
use Rattle.std.proofs.Common.{◌≡◌, ◌<◌, ℕ, suc, ◌+◌, true, false, is_some, List, [], ◌∷◌, length, None, Some, slice_get}
use Rattle.std.proofs.Common.{refl, ap}
use Rattle.std.specs.Prelude.{⊤, IfSome}
use Rattle.std.specs.List.{AllByRecursion}
use Rattle.kb_logic.specs.declared.vocabularies.TypeDecl.{TypeDecl}
use Rattle.kb_logic.specs.declared.vocabularies.Symbol.{Symbol}
use Rattle.kb_logic.specs.declared.vocabularies.Vocabulary.{Vocabulary}
use Rattle.stage_definitions.specs.NamedTrees.{NamedVar, NamedTerm, at, NamedNode, variable, integer, constructed}
use Rattle.stage_definitions.specs.NamedTrees.{application, summation, product, aggregate, NamedTerms, no_terms}
use Rattle.stage_definitions.specs.NamedTrees.{more_terms, NamedSummands, no_summands, more_summands, NamedFormula}
use Rattle.stage_definitions.specs.NamedTrees.{truth}
use Rattle.stage_definitions.specs.NamedTrees.{atom, comparison, negation, conjunction, disjunction, implication}
use Rattle.stage_definitions.specs.NamedTrees.{equivalence, universal, existential, numbered, NamedFormulas}
use Rattle.stage_definitions.specs.NamedTrees.{no_formulas}
use Rattle.stage_definitions.specs.NamedTrees.{more_formulas, terms_of, NamedRule}

abbrev pub number_of_terms : NamedTerms → ℕ
number_of_terms no_terms = 0
number_of_terms (more_terms t ts) = suc (number_of_terms ts)

-- a lone operand has a minus: without one it is no sum
abbrev pub IsSum : NamedSummands → Type 0
IsSum no_summands = ⊤
IsSum (more_summands true t ss) = ⊤
IsSum (more_summands false t no_summands) = ⊥
IsSum (more_summands false t (more_summands m u ss)) = ⊤

-- each type that is written is one of the vocabulary
abbrev pub AreWritten : Vocabulary → List NamedVar → Type 0
AreWritten v xs = AllByRecursion (λ x. IfSome x.ty (λ t. t < length v.types)) xs

abbrev mutual
  -- where so many variables are in scope
  pub FormulaIsNumbered : Vocabulary → ℕ → NamedFormula → Type 0
  FormulaIsNumbered v k (truth b) = ⊤
  FormulaIsNumbered v k (atom s us) =
      (d : Symbol) × (slice_get v.symbols s ≡ Some d) × (d.value ≡ None) × (number_of_terms us ≡ length d.args)
      × TermsAreNumbered v k us
  FormulaIsNumbered v k (comparison c x y) = TermIsNumbered v k x × TermIsNumbered v k y
  FormulaIsNumbered v k (negation f) = FormulaIsNumbered v k f
  FormulaIsNumbered v k (conjunction fs) = FormulasAreNumbered v k fs
  FormulaIsNumbered v k (disjunction fs) = FormulasAreNumbered v k fs
  FormulaIsNumbered v k (implication f g) = FormulaIsNumbered v k f × FormulaIsNumbered v k g
  FormulaIsNumbered v k (equivalence f g) = FormulaIsNumbered v k f × FormulaIsNumbered v k g
  FormulaIsNumbered v k (universal xs f) = AreWritten v xs × FormulaIsNumbered v (k + length xs) f
  FormulaIsNumbered v k (existential xs f) = AreWritten v xs × FormulaIsNumbered v (k + length xs) f
  FormulaIsNumbered v k (numbered c n xs f) = AreWritten v xs × FormulaIsNumbered v (k + length xs) f

  pub FormulasAreNumbered : Vocabulary → ℕ → NamedFormulas → Type 0
  FormulasAreNumbered v k no_formulas = ⊤
  FormulasAreNumbered v k (more_formulas f fs) = FormulaIsNumbered v k f × FormulasAreNumbered v k fs

  pub TermIsNumbered : Vocabulary → ℕ → NamedTerm → Type 0
  TermIsNumbered v k (at p x) = NodeIsNumbered v k x

  pub NodeIsNumbered : Vocabulary → ℕ → NamedNode → Type 0
  NodeIsNumbered v k (variable n) = n < k
  NodeIsNumbered v k (integer i) = ⊤
  NodeIsNumbered v k (constructed t i) = (d : TypeDecl) × (slice_get v.types t ≡ Some d) × (i < length d.made)
  NodeIsNumbered v k (application s us) =
      (d : Symbol) × (slice_get v.symbols s ≡ Some d) × (is_some d.value ≡ true) × (number_of_terms us ≡ length d.args)
      × TermsAreNumbered v k us
  NodeIsNumbered v k (summation ss) = IsSum ss × SummandsAreNumbered v k ss
  NodeIsNumbered v k (product us) = TermsAreNumbered v k us
  NodeIsNumbered v k (aggregate how xs f w) =
      AreWritten v xs × FormulaIsNumbered v (k + length xs) f × TermIsNumbered v (k + length xs) w

  pub TermsAreNumbered : Vocabulary → ℕ → NamedTerms → Type 0
  TermsAreNumbered v k no_terms = ⊤
  TermsAreNumbered v k (more_terms u us) = TermIsNumbered v k u × TermsAreNumbered v k us

  pub SummandsAreNumbered : Vocabulary → ℕ → NamedSummands → Type 0
  SummandsAreNumbered v k no_summands = ⊤
  SummandsAreNumbered v k (more_summands m u ss) = TermIsNumbered v k u × SummandsAreNumbered v k ss

-- ---- rules

-- a term of a head is a variable, an integer, with a minus or without, or a constructed name
abbrev pub IsPlainNode : NamedNode → Type 0
IsPlainNode (variable n) = ⊤
IsPlainNode (integer i) = ⊤
IsPlainNode (constructed t i) = ⊤
IsPlainNode (application s us) = ⊥
IsPlainNode (summation ss) = (q i : ℕ) × (ss ≡ more_summands true (at q (integer i)) no_summands)
IsPlainNode (product us) = ⊥
IsPlainNode (aggregate how xs f w) = ⊥

abbrev pub IsPlain : NamedTerm → Type 0
IsPlain (at p x) = IsPlainNode x

-- a term of a head where so many variables are in scope
pub record IsHeadNumbered (v : Vocabulary) (k : ℕ) (t : NamedTerm) : Type 0 where
  pub numbered : TermIsNumbered v k t
  pub plain : IsPlain t

pub each_term : (v : Vocabulary) (k : ℕ) (ts : List NamedTerm) → AllByRecursion (IsHeadNumbered v k) ts
    → TermsAreNumbered v k (terms_of ts)
each_term v k [] h = tt
each_term v k (t ∷ ts) h = (h.0.numbered, each_term v k ts h.1)

pub as_many_terms : (ts : List NamedTerm) → number_of_terms (terms_of ts) ≡ length ts
as_many_terms [] = refl
as_many_terms (t ∷ ts) = ap suc (as_many_terms ts)

-- the head's symbol is declared, takes as many arguments, and is a function exactly where there is a value; the body
-- is true where it is not written
pub record RuleIsNumbered (v : Vocabulary) (r : NamedRule) : Type 0 where
  pub vars : AreWritten v r.vars
  pub symbol : (d : Symbol) × (slice_get v.symbols r.symbol ≡ Some d) × (is_some r.value ≡ is_some d.value)
      × (length r.args ≡ length d.args)
  pub args : AllByRecursion (IsHeadNumbered v (length r.vars)) r.args
  pub value : IfSome r.value (IsHeadNumbered v (length r.vars))
  pub body : FormulaIsNumbered v (length r.vars) r.body
  pub unwritten : r.has_body ≡ false → r.body ≡ truth true

-- each position of a symbol has a type of the vocabulary
pub record AreTypes (types : List TypeDecl) (d : Symbol) : Type 0 where
  pub args : AllByRecursion (λ t. t < length types) d.args
  pub value : IfSome d.value (λ t. t < length types)

abbrev pub SymbolsHaveTypes : Vocabulary → Type 0
SymbolsHaveTypes v = AllByRecursion (AreTypes v.types) v.symbols
