-- Well-typed terms and formulas: variables in scope, symbols with their arguments, and types that fit where they meet.
use Rattle.std.specs.Prelude.{◌≡◌, ◌<◌, ◌⊎◌, ℕ, ℤ, neg_ℤ, List, [], ◌∷◌, ◌++◌, true, length, Option, Some, None}
use Rattle.std.specs.Prelude.{option_map, is_some, slice_get, Contains, ⊤}
use Rattle.std.specs.List.{AllByRecursion}
use Rattle.kb_logic.specs.declared.elements.Elem.{Elem}
use Rattle.kb_logic.specs.declared.elements.Elem.TheVariants.{Num}
use Rattle.kb_logic.specs.declared.syntax.Cmp.{Cmp}
use Rattle.kb_logic.specs.declared.syntax.Cmp.TheVariants as cmp
use Rattle.kb_logic.specs.declared.vocabularies.Bound.{Bound}
use Rattle.kb_logic.specs.declared.vocabularies.Parent.{Parent}
use Rattle.kb_logic.specs.declared.vocabularies.Parent.TheVariants.{Root, Int, Nat, Of}
use Rattle.kb_logic.specs.declared.vocabularies.TypeDecl.{TypeDecl}
use Rattle.kb_logic.specs.declared.vocabularies.Symbol.{Symbol}
use Rattle.kb_logic.specs.declared.vocabularies.Vocabulary.{Vocabulary}
use Rattle.kb_logic.specs.Trees.{TermTree, variable, integer, constructed, application, summation, product, aggregate}
use Rattle.kb_logic.specs.Trees.{TermTrees, no_terms, more_terms, SummandTrees, no_summands, more_summands, FormulaTree}
use Rattle.kb_logic.specs.Trees.{verum, falsum, atom, comparison, negation, conjunction, disjunction, implication}
use Rattle.kb_logic.specs.Trees.{equivalence, universal, existential, numbered, FormulaTrees, no_formulas}
use Rattle.kb_logic.specs.Trees.{more_formulas}
use Rattle.kb_logic.specs.Structures.{domain_at}
use Rattle.kb_logic.specs.Bounds.{types_of, value_type_of}

-- the type t is the type u, or reaches it by `isa`
pub data IsBelow (v : Vocabulary) : ℕ → ℕ → Type 0 where
  itself : (t : ℕ) → IsBelow v t t
  under : (t p u : ℕ) (d : TypeDecl) → slice_get v.types t ≡ Some d → d.parent ≡ Of p → IsBelow v p u → IsBelow v t u

abbrev pub IsNumberParent : Parent → Type 0
IsNumberParent Root = ⊥
IsNumberParent Int = ⊤
IsNumberParent Nat = ⊤
IsNumberParent (Of t) = ⊥

-- a number type reaches `int` or `nat`
abbrev pub IsNumberType : Vocabulary → ℕ → Type 0
IsNumberType v t = (u : ℕ) × IsBelow v t u × ((d : TypeDecl) × (slice_get v.types u ≡ Some d) × IsNumberParent d.parent)

-- two types are akin: both are number types, or both reach one type
abbrev pub AreAkin : Vocabulary → ℕ → ℕ → Type 0
AreAkin v t u = (IsNumberType v t × IsNumberType v u) ⊎ ((top : ℕ) × IsBelow v t top × IsBelow v u top)

-- what a term stands for: an element of a type, or what arithmetic gives
pub data Sort : Type 0 where
  element_of : ℕ → Sort
  arithmetic : Sort

abbrev pub sort_of : Vocabulary → TermTree → List ℕ → Option Sort
sort_of v (variable n) scope = option_map element_of (slice_get scope n)
sort_of v (integer z) scope = Some arithmetic
sort_of v (constructed ty n) scope = Some (element_of ty)
sort_of v (application s ts) scope = option_map element_of (value_type_of v s)
sort_of v (summation ss) scope = Some arithmetic
sort_of v (product ts) scope = Some arithmetic
sort_of v (aggregate k bs f t) scope = Some arithmetic

-- a number: an element of a number type, or what arithmetic gives
abbrev pub IsNumeric : Vocabulary → Option Sort → Type 0
IsNumeric v None = ⊥
IsNumeric v (Some (element_of t)) = IsNumberType v t
IsNumeric v (Some arithmetic) = ⊤

-- elements of akin types, or numbers
abbrev pub SortsAreAkin : Vocabulary → Option Sort → Option Sort → Type 0
SortsAreAkin v None o = ⊥
SortsAreAkin v (Some s) None = ⊥
SortsAreAkin v (Some (element_of t)) (Some (element_of u)) = AreAkin v t u
SortsAreAkin v (Some (element_of t)) (Some arithmetic) = IsNumberType v t
SortsAreAkin v (Some arithmetic) (Some o) = IsNumeric v (Some o)

-- the sides of a comparison: akin for equations, and numbers where they are ordered
abbrev pub SidesFit : Vocabulary → Cmp → Option Sort → Option Sort → Type 0
SidesFit v cmp.Eq a b = SortsAreAkin v a b
SidesFit v cmp.Ne a b = SortsAreAkin v a b
SidesFit v cmp.Lt a b = IsNumeric v a × IsNumeric v b
SidesFit v cmp.Gt a b = IsNumeric v a × IsNumeric v b
SidesFit v cmp.Le a b = IsNumeric v a × IsNumeric v b
SidesFit v cmp.Ge a b = IsNumeric v a × IsNumeric v b

-- an integer of which Q holds, written with or without a minus
abbrev pub IsIntegerSuch : (ℤ → Type 0) → TermTree → Type 0
IsIntegerSuch Q t =
    (z : ℤ) × (((t ≡ integer z) × Q z) ⊎ ((t ≡ summation (more_summands true (integer z) no_summands)) × Q (neg_ℤ z)))

abbrev pub IsElementBelow : Vocabulary → Option Sort → ℕ → Type 0
IsElementBelow v None ty = ⊥
IsElementBelow v (Some (element_of t)) ty = IsBelow v t ty
IsElementBelow v (Some arithmetic) ty = ⊥

-- each variable has a type of the vocabulary
abbrev pub HaveTypes : Vocabulary → List Bound → Type 0
HaveTypes v bs = AllByRecursion (λ b. b.ty < length v.types) bs

abbrev mutual
  -- the term is well typed, where I says of an integer argument of a function what its position asks
  pub TermIsTyped : Vocabulary → (ℕ → ℤ → Type 0) → TermTree → List ℕ → Type 0
  TermIsTyped v I (variable n) scope = (ty : ℕ) × (slice_get scope n ≡ Some ty)
  TermIsTyped v I (integer z) scope = ⊤
  TermIsTyped v I (constructed ty n) scope = (d : TypeDecl) × (slice_get v.types ty ≡ Some d) × (n < length d.made)
  TermIsTyped v I (application s ts) scope =
      (d : Symbol) × (slice_get v.symbols s ≡ Some d) × (is_some d.value ≡ true) × ArgumentsAreTyped v I ts d.args scope
  TermIsTyped v I (summation ss) scope = OperandsAreTyped v I ss scope
  TermIsTyped v I (product ts) scope = FactorsAreTyped v I ts scope
  TermIsTyped v I (aggregate k bs f t) scope =
      HaveTypes v bs × FormulaIsTyped v I f (scope ++ types_of bs) × TermIsTyped v I t (scope ++ types_of bs)
      × IsNumeric v (sort_of v t (scope ++ types_of bs))

  -- each argument of a function is an element of a type below its position's, or an integer
  pub ArgumentsAreTyped : Vocabulary → (ℕ → ℤ → Type 0) → TermTrees → List ℕ → List ℕ → Type 0
  ArgumentsAreTyped v I no_terms [] scope = ⊤
  ArgumentsAreTyped v I no_terms (ty ∷ types) scope = ⊥
  ArgumentsAreTyped v I (more_terms t ts) [] scope = ⊥
  ArgumentsAreTyped v I (more_terms t ts) (ty ∷ types) scope =
      TermIsTyped v I t scope × (IsElementBelow v (sort_of v t scope) ty ⊎ IsIntegerSuch (I ty) t)
      × ArgumentsAreTyped v I ts types scope

  -- each argument of a predicate is akin to its position
  pub PlacesAreTyped : Vocabulary → (ℕ → ℤ → Type 0) → TermTrees → List ℕ → List ℕ → Type 0
  PlacesAreTyped v I no_terms [] scope = ⊤
  PlacesAreTyped v I no_terms (ty ∷ types) scope = ⊥
  PlacesAreTyped v I (more_terms t ts) [] scope = ⊥
  PlacesAreTyped v I (more_terms t ts) (ty ∷ types) scope =
      TermIsTyped v I t scope × SortsAreAkin v (sort_of v t scope) (Some (element_of ty))
      × PlacesAreTyped v I ts types scope

  pub FactorsAreTyped : Vocabulary → (ℕ → ℤ → Type 0) → TermTrees → List ℕ → Type 0
  FactorsAreTyped v I no_terms scope = ⊤
  FactorsAreTyped v I (more_terms t ts) scope =
      TermIsTyped v I t scope × IsNumeric v (sort_of v t scope) × FactorsAreTyped v I ts scope

  pub OperandsAreTyped : Vocabulary → (ℕ → ℤ → Type 0) → SummandTrees → List ℕ → Type 0
  OperandsAreTyped v I no_summands scope = ⊤
  OperandsAreTyped v I (more_summands minus t ss) scope =
      TermIsTyped v I t scope × IsNumeric v (sort_of v t scope) × OperandsAreTyped v I ss scope

  -- the formula is well typed, in the same way
  pub FormulaIsTyped : Vocabulary → (ℕ → ℤ → Type 0) → FormulaTree → List ℕ → Type 0
  FormulaIsTyped v I verum scope = ⊤
  FormulaIsTyped v I falsum scope = ⊤
  FormulaIsTyped v I (atom s ts) scope =
      (d : Symbol) × (slice_get v.symbols s ≡ Some d) × (d.value ≡ None) × PlacesAreTyped v I ts d.args scope
  FormulaIsTyped v I (comparison c a b) scope =
      TermIsTyped v I a scope × TermIsTyped v I b scope × SidesFit v c (sort_of v a scope) (sort_of v b scope)
  FormulaIsTyped v I (negation f) scope = FormulaIsTyped v I f scope
  FormulaIsTyped v I (conjunction fs) scope = AllAreTyped v I fs scope
  FormulaIsTyped v I (disjunction fs) scope = AllAreTyped v I fs scope
  FormulaIsTyped v I (implication f g) scope = FormulaIsTyped v I f scope × FormulaIsTyped v I g scope
  FormulaIsTyped v I (equivalence f g) scope = FormulaIsTyped v I f scope × FormulaIsTyped v I g scope
  FormulaIsTyped v I (universal bs f) scope = HaveTypes v bs × FormulaIsTyped v I f (scope ++ types_of bs)
  FormulaIsTyped v I (existential bs f) scope = HaveTypes v bs × FormulaIsTyped v I f (scope ++ types_of bs)
  FormulaIsTyped v I (numbered c n bs f) scope = HaveTypes v bs × FormulaIsTyped v I f (scope ++ types_of bs)

  pub AllAreTyped : Vocabulary → (ℕ → ℤ → Type 0) → FormulaTrees → List ℕ → Type 0
  AllAreTyped v I no_formulas scope = ⊤
  AllAreTyped v I (more_formulas f fs) scope = FormulaIsTyped v I f scope × AllAreTyped v I fs scope

-- the formula is well typed: an integer argument of a function stands where numbers are asked for
abbrev pub IsWellTyped : Vocabulary → FormulaTree → List ℕ → Type 0
IsWellTyped v f scope = FormulaIsTyped v (λ ty z. IsNumberType v ty) f scope

-- an integer is an element of a type over these domains
abbrev pub IsIntegerIn : List (List Elem) → ℕ → ℤ → Type 0
IsIntegerIn domains ty z = Contains (domain_at domains ty) (Num z)

-- the formula is well typed over domains: an integer argument of a function is an element of its position's type
abbrev pub IsTypedOver : Vocabulary → List (List Elem) → FormulaTree → List ℕ → Type 0
IsTypedOver v domains f scope = FormulaIsTyped v (IsIntegerIn domains) f scope

abbrev pub TermIsTypedOver : Vocabulary → List (List Elem) → TermTree → List ℕ → Type 0
TermIsTypedOver v domains t scope = TermIsTyped v (IsIntegerIn domains) t scope
