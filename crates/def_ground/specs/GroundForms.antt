-- The formulas of which the laws speak.
use Rattle.std.specs.Prelude.{ℕ, ℤ, List, ◌++◌, IsSome, IsNone, slice_get, ⊤, ◌⊎◌, Bool, true, false, ◌||◌}
use Rattle.std.specs.Prelude.{◌≡◌}
use Rattle.std.specs.List.{AllByRecursion}
use Rattle.kb_logic.specs.declared.elements.Elem.{Elem}
use Rattle.kb_logic.specs.declared.syntax.AggKind.{AggKind}
use Rattle.kb_logic.specs.declared.syntax.AggKind.TheVariants as kind
use Rattle.kb_logic.specs.Trees.{TermTree, variable, integer, constructed, application, summation, product, aggregate}
use Rattle.kb_logic.specs.Trees.{TermTrees, no_terms, more_terms, SummandTrees, no_summands, more_summands}
use Rattle.kb_logic.specs.Trees.{FormulaTree, verum, falsum, atom, comparison, negation, conjunction, disjunction}
use Rattle.kb_logic.specs.Trees.{implication, equivalence, universal, existential, numbered}
use Rattle.kb_logic.specs.Trees.{FormulaTrees, no_formulas, more_formulas}
use Rattle.kb_logic.specs.Bounds.{value_type_of}
use Rattle.kb_logic.specs.Denotations.{Denotation, number}
use Rattle.kb_logic.specs.Structures.{choices}
use Rattle.lit_core.specs.declared.literals.Lit.{Lit}
use Rattle.term_values.specs.GroundBases.{GroundBase}
use Rattle.term_values.specs.GroundTerms.{IsGroundTerm, AreGroundTerms, TermHasNoCounting, TermsHaveNoCounting}
use Rattle.term_values.specs.Rows.{rows_of_term}
use Rattle.def_ground.specs.Counting.{has_aggregate}

-- the symbol is a predicate
pub record IsPredicateOf (b : GroundBase) (s : ℕ) : Type 0 where
  pub declared : IsSome (slice_get b.vocabulary.symbols s)
  pub value : IsNone (value_type_of b.vocabulary s)

-- ---- where aggregates may stand

-- an aggregate whose parts are added
abbrev pub IsAdding : AggKind → Type 0
IsAdding kind.Count = ⊤
IsAdding kind.Sum = ⊤
IsAdding kind.Min = ⊥
IsAdding kind.Max = ⊥

-- a minimum or a maximum stands as a whole side, opposite a side without aggregates
abbrev pub MayStand : (other : Bool) → AggKind → Type 0
MayStand other kind.Count = ⊤
MayStand other kind.Sum = ⊤
MayStand other kind.Min = other ≡ false
MayStand other kind.Max = other ≡ false

abbrev mutual
  pub IsSignedInteger : TermTree → Type 0
  IsSignedInteger (variable n) = ⊥
  IsSignedInteger (integer z) = ⊤
  IsSignedInteger (constructed ty n) = ⊥
  IsSignedInteger (application s ts) = ⊥
  IsSignedInteger (summation ss) = IsSignedOperand ss
  IsSignedInteger (product ts) = ⊥
  IsSignedInteger (aggregate k bs f t) = ⊥

  pub IsSignedOperand : SummandTrees → Type 0
  IsSignedOperand no_summands = ⊥
  IsSignedOperand (more_summands minus t no_summands) = IsSignedInteger t
  IsSignedOperand (more_summands minus t (more_summands sign u ss)) = ⊥

abbrev pub AreSignedIntegers : TermTrees → Type 0
AreSignedIntegers no_terms = ⊤
AreSignedIntegers (more_terms t ts) = IsSignedInteger t × AreSignedIntegers ts

abbrev mutual
  -- aggregates stand only as sides of comparisons, or as summands of such with integer factors and signs
  pub IsPlaced : FormulaTree → Type 0
  IsPlaced verum = ⊤
  IsPlaced falsum = ⊤
  IsPlaced (atom s ts) = TermsHaveNoCounting ts
  IsPlaced (comparison c x y) = IsSide (has_aggregate y) x × IsSide (has_aggregate x) y
  IsPlaced (negation f) = IsPlaced f
  IsPlaced (conjunction fs) = ArePlaced fs
  IsPlaced (disjunction fs) = ArePlaced fs
  IsPlaced (implication f g) = IsPlaced f × IsPlaced g
  IsPlaced (equivalence f g) = IsPlaced f × IsPlaced g
  IsPlaced (universal bs f) = IsPlaced f
  IsPlaced (existential bs f) = IsPlaced f
  IsPlaced (numbered c n bs f) = IsPlaced f

  pub ArePlaced : FormulaTrees → Type 0
  ArePlaced no_formulas = ⊤
  ArePlaced (more_formulas f fs) = IsPlaced f × ArePlaced fs

  -- a side of a comparison, opposite a side with aggregates or without; or a term that may be asked for, which stands
  -- opposite none
  pub IsSide : (other : Bool) → TermTree → Type 0
  IsSide other (variable n) = ⊤
  IsSide other (integer z) = ⊤
  IsSide other (constructed ty n) = ⊤
  IsSide other (application s ts) = TermsHaveNoCounting ts
  IsSide other (summation ss) = AreSummands ss
  IsSide other (product ts) = TermsHaveNoCounting ts ⊎ IsOneSummand ts
  IsSide other (aggregate k bs f t) = MayStand other k × IsPlaced f × TermHasNoCounting t

  -- an operand of a sum on such a side
  pub IsSummand : TermTree → Type 0
  IsSummand (variable n) = ⊤
  IsSummand (integer z) = ⊤
  IsSummand (constructed ty n) = ⊤
  IsSummand (application s ts) = TermsHaveNoCounting ts
  IsSummand (summation ss) = AreSummands ss
  IsSummand (product ts) = TermsHaveNoCounting ts ⊎ IsOneSummand ts
  IsSummand (aggregate k bs f t) = IsAdding k × IsPlaced f × TermHasNoCounting t

  pub AreSummands : SummandTrees → Type 0
  AreSummands no_summands = ⊤
  AreSummands (more_summands minus t ss) = IsSummand t × AreSummands ss

  -- one of the factors is such an operand, and the others are integers with signs
  pub IsOneSummand : TermTrees → Type 0
  IsOneSummand no_terms = ⊥
  IsOneSummand (more_terms t ts) = (IsSummand t × AreSignedIntegers ts) ⊎ (IsSignedInteger t × IsOneSummand ts)

-- ---- what can be grounded under an assignment

-- the row's value is a number
abbrev pub IsNumberRow : List Lit × Denotation → Type 0
IsNumberRow r = (z : ℤ) × (r.1 ≡ number z)

-- a ground term without aggregates, each of whose rows has a number
pub record IsNumberTerm (b : GroundBase) (t : TermTree) (e : List Elem) : Type 0 where
  pub term : IsGroundTerm b t
  pub rows : AllByRecursion IsNumberRow (rows_of_term b t e)

abbrev mutual
  -- atoms have predicates, terms are ground terms, and aggregates stand where they may, over numbers
  pub IsGroundForm : GroundBase → FormulaTree → List Elem → Type 0
  IsGroundForm b verum e = ⊤
  IsGroundForm b falsum e = ⊤
  IsGroundForm b (atom s ts) e = IsPredicateOf b s × AreGroundTerms b ts
  IsGroundForm b (comparison c x y) e =
      (IsGroundTerm b x × IsGroundTerm b y)
      ⊎ (((has_aggregate x || has_aggregate y) ≡ true) × IsGroundSide b (has_aggregate y) x e
      × IsGroundSide b (has_aggregate x) y e)
  IsGroundForm b (negation f) e = IsGroundForm b f e
  IsGroundForm b (conjunction fs) e = AreGroundForms b fs e
  IsGroundForm b (disjunction fs) e = AreGroundForms b fs e
  IsGroundForm b (implication f g) e = IsGroundForm b f e × IsGroundForm b g e
  IsGroundForm b (equivalence f g) e = IsGroundForm b f e × IsGroundForm b g e
  IsGroundForm b (universal bs f) e = AllByRecursion (λ a. IsGroundForm b f (e ++ a)) (choices b.domains bs)
  IsGroundForm b (existential bs f) e = AllByRecursion (λ a. IsGroundForm b f (e ++ a)) (choices b.domains bs)
  IsGroundForm b (numbered c n bs f) e = AllByRecursion (λ a. IsGroundForm b f (e ++ a)) (choices b.domains bs)

  pub AreGroundForms : GroundBase → FormulaTrees → List Elem → Type 0
  AreGroundForms b no_formulas e = ⊤
  AreGroundForms b (more_formulas f fs) e = IsGroundForm b f e × AreGroundForms b fs e

  pub IsGroundSide : GroundBase → (other : Bool) → TermTree → List Elem → Type 0
  IsGroundSide b other (variable n) e = IsNumberTerm b (variable n) e
  IsGroundSide b other (integer z) e = ⊤
  IsGroundSide b other (constructed ty n) e = IsNumberTerm b (constructed ty n) e
  IsGroundSide b other (application s ts) e = IsNumberTerm b (application s ts) e
  IsGroundSide b other (summation ss) e = AreGroundAddends b ss e
  IsGroundSide b other (product ts) e = IsNumberTerm b (product ts) e ⊎ IsOneAddend b ts e
  IsGroundSide b other (aggregate k bs f t) e =
      MayStand other k × AllByRecursion (λ a. IsGroundForm b f (e ++ a)) (choices b.domains bs)
      × AllByRecursion (λ a. IsNumberTerm b t (e ++ a)) (choices b.domains bs)

  -- an operand of a sum
  pub IsAddend : GroundBase → TermTree → List Elem → Type 0
  IsAddend b (variable n) e = IsNumberTerm b (variable n) e
  IsAddend b (integer z) e = ⊤
  IsAddend b (constructed ty n) e = IsNumberTerm b (constructed ty n) e
  IsAddend b (application s ts) e = IsNumberTerm b (application s ts) e
  IsAddend b (summation ss) e = AreGroundAddends b ss e
  IsAddend b (product ts) e = IsNumberTerm b (product ts) e ⊎ IsOneAddend b ts e
  IsAddend b (aggregate k bs f t) e =
      IsAdding k × AllByRecursion (λ a. IsGroundForm b f (e ++ a)) (choices b.domains bs)
      × AllByRecursion (λ a. IsNumberTerm b t (e ++ a)) (choices b.domains bs)

  pub AreGroundAddends : GroundBase → SummandTrees → List Elem → Type 0
  AreGroundAddends b no_summands e = ⊤
  AreGroundAddends b (more_summands minus t ss) e = IsAddend b t e × AreGroundAddends b ss e

  -- one of the factors is such an operand, and the others are integers with signs
  pub IsOneAddend : GroundBase → TermTrees → List Elem → Type 0
  IsOneAddend b no_terms e = ⊥
  IsOneAddend b (more_terms t ts) e =
      (IsAddend b t e × AreSignedIntegers ts) ⊎ (IsSignedInteger t × IsOneAddend b ts e)
