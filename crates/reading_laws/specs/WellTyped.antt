-- Laws of what the stages of reading accept: it is well typed.
use Rattle.std.specs.Prelude.{◌≡◌, ℕ, ℤ, true, false, is_some, List, [], Some, slice_get, IfSome, ⊤}
use Rattle.std.specs.List.{AllByRecursion}
use Rattle.kb_logic.specs.declared.elements.Elem.{Elem}
use Rattle.kb_logic.specs.declared.vocabularies.Symbol.{Symbol}
use Rattle.kb_logic.specs.declared.vocabularies.Vocabulary.{Vocabulary}
use Rattle.kb_logic.specs.KnownAtoms.{KnownAtoms}
use Rattle.kb_logic.specs.Bases.{Base}
use Rattle.kb_logic.specs.Trees.{TermTree, variable, integer, constructed, application, summation, product, aggregate}
use Rattle.kb_logic.specs.Trees.{no_summands, more_summands, verum, terms_of, RuleTree, DefinitionTree}
use Rattle.kb_logic.specs.Bounds.{types_of}
use Rattle.kb_logic.specs.Typing.{IsNumberType, IsNumeric, sort_of, HaveTypes, TermIsTyped, ArgumentsAreTyped}
use Rattle.kb_logic.specs.Typing.{FormulaIsTyped, IsWellTyped, IsIntegerIn, IsTypedOver, TermIsTypedOver}
use Rattle.grammar.specs.BlockTrees as raw
use Rattle.stage_definitions.specs.Files.{File}
use Rattle.stage_definitions.specs.Numbering.{NamedFile, IsNamed}
use Rattle.stage_definitions.specs.FileBases.{base_of_file}
use Rattle.stage_definitions.specs.TypedFiles.{TypedFile}
use Rattle.stage_definitions.specs.TypesStage.{IsTyped}
use Rattle.stage_definitions.specs.DataAnswer.{IsDataOf}

-- the term is well typed, and a number
abbrev pub IsWellTypedNumber : Vocabulary → TermTree → Type 0
IsWellTypedNumber v t = TermIsTyped v (λ ty z. IsNumberType v ty) t [] × IsNumeric v (sort_of v t [])

-- ---- rules

-- a term of a head is a variable, an integer, with a minus or without, or a constructed name
abbrev pub IsHeadTerm : TermTree → Type 0
IsHeadTerm (variable n) = ⊤
IsHeadTerm (integer z) = ⊤
IsHeadTerm (constructed ty n) = ⊤
IsHeadTerm (application s ts) = ⊥
IsHeadTerm (summation ss) = (z : ℤ) × (ss ≡ more_summands true (integer z) no_summands)
IsHeadTerm (product ts) = ⊥
IsHeadTerm (aggregate k bs f t) = ⊥

-- a head takes the arguments of its symbol, each as a function does, and has a value exactly where the symbol is a
-- function, of whatever type; its terms are plain
pub record HeadIsTyped (v : Vocabulary) (I : ℕ → ℤ → Type 0) (r : RuleTree) (d : Symbol) : Type 0 where
  pub symbol : slice_get v.symbols r.symbol ≡ Some d
  pub args : ArgumentsAreTyped v I (terms_of r.args) d.args (types_of r.vars)
  pub value : IfSome r.value (λ t. TermIsTyped v I t (types_of r.vars))
  pub kind : is_some r.value ≡ is_some d.value
  pub plain_args : AllByRecursion IsHeadTerm r.args
  pub plain_value : IfSome r.value IsHeadTerm

-- a rule is well typed, where I says of an integer argument of a function what its position asks: its head is, and its
-- body in the scope of its variables, which is true where it is not written
pub record RuleIsTyped (v : Vocabulary) (I : ℕ → ℤ → Type 0) (r : RuleTree) : Type 0 where
  pub vars : HaveTypes v r.vars
  pub head : (d : Symbol) × HeadIsTyped v I r d
  pub body : FormulaIsTyped v I r.body (types_of r.vars)
  pub unwritten : r.has_body ≡ false → r.body ≡ verum

-- each rule of the definition is well typed: an integer argument stands where numbers are asked for
abbrev pub IsWellTypedDefinition : Vocabulary → DefinitionTree → Type 0
IsWellTypedDefinition v d = AllByRecursion (RuleIsTyped v (λ ty z. IsNumberType v ty)) d.rules

-- each rule is well typed over domains: an integer argument is an element of its position's type
abbrev pub IsDefinitionOver : Vocabulary → List (List Elem) → DefinitionTree → Type 0
IsDefinitionOver v domains d = AllByRecursion (RuleIsTyped v (IsIntegerIn domains)) d.rules

-- ---- files

-- each sentence and each definition of each theory is well typed, and the term of each term block is, and a number
pub record IsWellTypedFile (f : TypedFile) : Type 0 where
  pub theories : AllByRecursion (λ t. AllByRecursion (λ g. IsWellTyped f.vocabulary g []) t.theory.sentences) f.theories
  pub definitions : AllByRecursion (λ t. AllByRecursion (IsWellTypedDefinition f.vocabulary) t.theory.definitions)
      f.theories
  pub terms : AllByRecursion (λ b. IsWellTypedNumber f.vocabulary b.term) f.terms

-- what the stages of names and types accept is well typed
abbrev pub DerivedIsWellTyped : Type 0
DerivedIsWellTyped =
    (file : File) (named : NamedFile) (typed : TypedFile) → IsNamed file named → IsTyped named typed
    → IsWellTypedFile typed

-- the term is well typed over domains, and a number
abbrev pub IsNumberOver : Vocabulary → List (List Elem) → TermTree → Type 0
IsNumberOver v domains t = TermIsTypedOver v domains t [] × IsNumeric v (sort_of v t [])

-- each sentence and each definition of the theory is well typed over the data's domains, and so is each term that may
-- be asked for, a number
pub record IsTypedBase (base : Base) : Type 0 where
  pub sentences : AllByRecursion (λ g. IsTypedOver base.vocabulary base.known.domains g []) base.theory.sentences
  pub definitions : AllByRecursion (IsDefinitionOver base.vocabulary base.known.domains) base.theory.definitions
  pub terms : AllByRecursion (λ t. IsNumberOver base.vocabulary base.known.domains t.term) base.terms

-- what the stage of data accepts as well is well typed over the data's domains
abbrev pub AcceptedIsTypedOver : Type 0
AcceptedIsTypedOver =
    (file : File) (named : NamedFile) (typed : TypedFile) → IsNamed file named → IsTyped named typed
    → (theory : ℕ) (s : raw.Structure) (answer : KnownAtoms) → IsDataOf typed theory s answer
    → IsTypedBase (base_of_file typed theory answer)
