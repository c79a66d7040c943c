-- Static bounds of terms, which the domains give, and what they promise in every structure over these domains.
use Rattle.std.specs.Prelude.{ℕ, suc, length, ℤ, pos, negsuc, neg_ℤ, ◌+ℤ◌, ◌-ℤ◌, ◌*ℤ◌, ◌≤ℤ◌, nat_abs, ◌*◌, List, []}
use Rattle.std.specs.Prelude.{◌∷◌, ◌++◌, map, Bool, Option, Some, None, unwrap_or, option_and_then, slice_get, IfSome}
use Rattle.std.specs.Prelude.{if◌then◌else◌, Contains, fold, ⊤}
use Rattle.std.specs.Int.{int_min, int_max}
use Rattle.std.specs.List.{AllByRecursion}
use Rattle.kb_logic.specs.declared.elements.Elem.{Elem}
use Rattle.kb_logic.specs.declared.elements.Elem.TheVariants.{Named, Num}
use Rattle.kb_logic.specs.declared.syntax.AggKind.{AggKind}
use Rattle.kb_logic.specs.declared.syntax.AggKind.TheVariants as kind
use Rattle.kb_logic.specs.declared.vocabularies.Bound.{Bound}
use Rattle.kb_logic.specs.declared.vocabularies.Vocabulary.{Vocabulary}
use Rattle.kb_logic.specs.declared.structures.Structure.{Structure}
use Rattle.kb_logic.specs.Trees.{TermTree, variable, integer, constructed, application, summation, product, aggregate}
use Rattle.kb_logic.specs.Trees.{TermTrees, no_terms, more_terms, SummandTrees, no_summands, more_summands, FormulaTree}
use Rattle.kb_logic.specs.Trees.{verum, falsum, atom, comparison, negation, conjunction, disjunction, implication}
use Rattle.kb_logic.specs.Trees.{equivalence, universal, existential, numbered, FormulaTrees, no_formulas}
use Rattle.kb_logic.specs.Trees.{more_formulas, RuleTree, TheoryTree}
use Rattle.kb_logic.specs.Structures.{domain_at, choices, EachWith, IsStructure}
use Rattle.kb_logic.specs.Denotations.{Denotation, number}
use Rattle.kb_logic.specs.Meaning.{value_of}
use Rattle.kb_logic.specs.Arithmetic.{ArithmeticFits, TermFits}

-- the integers from low to high
pub record Interval : Type 0 where
  pub low : ℤ
  pub high : ℤ

abbrev pub exactly : ℤ → Interval
exactly z = record { low = z; high = z }

abbrev pub hull : ℤ → Option Interval → Interval
hull z None = exactly z
hull z (Some i) = record { low = int_min z i.low; high = int_max z i.high }

-- from the least to the greatest integer of a domain, where it has one
abbrev pub integers : List Elem → Option Interval
integers [] = None
integers (Named n ∷ xs) = integers xs
integers (Num z ∷ xs) = Some (hull z (integers xs))

-- from the least to the greatest integer of a domain, and 0 to 0 where it has none
abbrev pub range_of : List Elem → Interval
range_of xs = unwrap_or (integers xs) (exactly (pos 0))

-- the domain of a type that may be missing
abbrev pub domain_if : List (List Elem) → Option ℕ → List Elem
domain_if domains None = []
domain_if domains (Some ty) = domain_at domains ty

-- the value type of a function
abbrev pub value_type_of : Vocabulary → ℕ → Option ℕ
value_type_of v s = option_and_then (λ t. t.value) (slice_get v.symbols s)

abbrev pub signed_interval : Bool → Interval → Interval
signed_interval minus i = if minus then record { low = neg_ℤ i.high; high = neg_ℤ i.low } else i

abbrev pub interval_sum : Interval → Interval → Interval
interval_sum a b = record { low = a.low +ℤ b.low; high = a.high +ℤ b.high }

-- from the least to the greatest product of two ends
abbrev pub interval_product : Interval → Interval → Interval
interval_product a b = record {
  low = int_min (int_min (a.low *ℤ b.low) (a.low *ℤ b.high)) (int_min (a.high *ℤ b.low) (a.high *ℤ b.high));
  high = int_max (int_max (a.low *ℤ b.low) (a.low *ℤ b.high)) (int_max (a.high *ℤ b.low) (a.high *ℤ b.high));
}

-- how far an integer is below 0, and above
abbrev pub below_zero : ℤ → ℕ
below_zero (pos n) = 0
below_zero (negsuc n) = suc n

abbrev pub above_zero : ℤ → ℕ
above_zero (pos n) = n
above_zero (negsuc n) = 0

-- the bounds of an aggregate over n assignments, by those of its weight
abbrev pub aggregate_bounds : AggKind → ℕ → Interval → Interval
aggregate_bounds kind.Count n i = record { low = pos 0; high = pos n }
aggregate_bounds kind.Sum n i = record { low = neg_ℤ (pos (n * below_zero i.low)); high = pos (n * above_zero i.high) }
aggregate_bounds kind.Min n i = i
aggregate_bounds kind.Max n i = i

-- the types of a binder's variables
abbrev pub types_of : List Bound → List ℕ
types_of bs = map (λ b. b.ty) bs

abbrev mutual
  -- the static bounds of a term; the scope has the types of the variables in scope, the outermost first
  pub bounds_of : Vocabulary → List (List Elem) → TermTree → List ℕ → Interval
  bounds_of v domains (variable n) scope = range_of (domain_if domains (slice_get scope n))
  bounds_of v domains (integer z) scope = exactly z
  bounds_of v domains (constructed ty n) scope = range_of (domain_at domains ty)
  bounds_of v domains (application s ts) scope = range_of (domain_if domains (value_type_of v s))
  bounds_of v domains (summation ss) scope = fold interval_sum (exactly (pos 0)) (summand_bounds v domains ss scope)
  bounds_of v domains (product ts) scope = fold interval_product (exactly (pos 1)) (factor_bounds v domains ts scope)
  bounds_of v domains (aggregate k bs f t) scope = aggregate_bounds k (length (choices domains bs))
      (bounds_of v domains t (scope ++ types_of bs))

  pub factor_bounds : Vocabulary → List (List Elem) → TermTrees → List ℕ → List Interval
  factor_bounds v domains no_terms scope = []
  factor_bounds v domains (more_terms t ts) scope = bounds_of v domains t scope ∷ factor_bounds v domains ts scope

  pub summand_bounds : Vocabulary → List (List Elem) → SummandTrees → List ℕ → List Interval
  summand_bounds v domains no_summands scope = []
  summand_bounds v domains (more_summands minus t ss) scope = signed_interval minus (bounds_of v domains t scope)
      ∷ summand_bounds v domains ss scope

-- the greater bound less the lower
abbrev pub width_of : Interval → ℕ
width_of i = nat_abs (i.high -ℤ i.low)

abbrev pub bound_limit : ℕ
bound_limit = 1000000000000000

-- the bounds lie from minus to plus 10 ^ 15
abbrev pub IsSmall : Interval → Type 0
IsSmall i = (neg_ℤ (pos bound_limit) ≤ℤ i.low) × (i.high ≤ℤ pos bound_limit)

-- the bounds of each prefix of a chain of operands, which counts as a term of its own
abbrev pub front_bounds : (Interval → Interval → Interval) → Interval → List Interval → List Interval
front_bounds step i [] = []
front_bounds step i (j ∷ js) = step i j ∷ front_bounds step (step i j) js

abbrev mutual
  -- the bounds of the term and of each term in it are small
  pub TermIsBounded : Vocabulary → List (List Elem) → TermTree → List ℕ → Type 0
  TermIsBounded v domains (variable n) scope = IsSmall (bounds_of v domains (variable n) scope)
  TermIsBounded v domains (integer z) scope = IsSmall (exactly z)
  TermIsBounded v domains (constructed ty n) scope = IsSmall (bounds_of v domains (constructed ty n) scope)
  TermIsBounded v domains (application s ts) scope = IsSmall (bounds_of v domains (application s ts) scope)
      × TermsAreBounded v domains ts scope
  TermIsBounded v domains (summation ss) scope = AllByRecursion IsSmall (front_bounds interval_sum (exactly (pos 0))
      (summand_bounds v domains ss scope)) × SummandsAreBounded v domains ss scope
  TermIsBounded v domains (product ts) scope = AllByRecursion IsSmall (front_bounds interval_product (exactly (pos 1))
      (factor_bounds v domains ts scope)) × TermsAreBounded v domains ts scope
  TermIsBounded v domains (aggregate k bs f t) scope =
      IsSmall (bounds_of v domains (aggregate k bs f t) scope) × IsBounded v domains f (scope ++ types_of bs)
      × TermIsBounded v domains t (scope ++ types_of bs)

  pub TermsAreBounded : Vocabulary → List (List Elem) → TermTrees → List ℕ → Type 0
  TermsAreBounded v domains no_terms scope = ⊤
  TermsAreBounded v domains (more_terms t ts) scope = TermIsBounded v domains t scope
      × TermsAreBounded v domains ts scope

  pub SummandsAreBounded : Vocabulary → List (List Elem) → SummandTrees → List ℕ → Type 0
  SummandsAreBounded v domains no_summands scope = ⊤
  SummandsAreBounded v domains (more_summands minus t ss) scope = TermIsBounded v domains t scope
      × SummandsAreBounded v domains ss scope

  -- the bounds of each term in the formula are small
  pub IsBounded : Vocabulary → List (List Elem) → FormulaTree → List ℕ → Type 0
  IsBounded v domains verum scope = ⊤
  IsBounded v domains falsum scope = ⊤
  IsBounded v domains (atom s ts) scope = TermsAreBounded v domains ts scope
  IsBounded v domains (comparison c a b) scope = TermIsBounded v domains a scope × TermIsBounded v domains b scope
  IsBounded v domains (negation f) scope = IsBounded v domains f scope
  IsBounded v domains (conjunction fs) scope = AreBounded v domains fs scope
  IsBounded v domains (disjunction fs) scope = AreBounded v domains fs scope
  IsBounded v domains (implication f g) scope = IsBounded v domains f scope × IsBounded v domains g scope
  IsBounded v domains (equivalence f g) scope = IsBounded v domains f scope × IsBounded v domains g scope
  IsBounded v domains (universal bs f) scope = IsBounded v domains f (scope ++ types_of bs)
  IsBounded v domains (existential bs f) scope = IsBounded v domains f (scope ++ types_of bs)
  IsBounded v domains (numbered c n bs f) scope = IsBounded v domains f (scope ++ types_of bs)

  pub AreBounded : Vocabulary → List (List Elem) → FormulaTrees → List ℕ → Type 0
  AreBounded v domains no_formulas scope = ⊤
  AreBounded v domains (more_formulas f fs) scope = IsBounded v domains f scope × AreBounded v domains fs scope

-- the bounds of each term in a rule are small
pub record RuleIsBounded (v : Vocabulary) (domains : List (List Elem)) (r : RuleTree) : Type 0 where
  pub args : AllByRecursion (λ t. TermIsBounded v domains t (types_of r.vars)) r.args
  pub value : IfSome r.value (λ t. TermIsBounded v domains t (types_of r.vars))
  pub body : IsBounded v domains r.body (types_of r.vars)

-- the bounds of each term in a theory are small
pub record TheoryIsBounded (v : Vocabulary) (domains : List (List Elem)) (t : TheoryTree) : Type 0 where
  pub sentences : AllByRecursion (λ f. IsBounded v domains f []) t.sentences
  pub definitions : AllByRecursion (λ d. AllByRecursion (RuleIsBounded v domains) d.rules) t.definitions

-- the elements of an environment are of the types of a scope
abbrev pub HasTypes : List (List Elem) → List ℕ → List Elem → Type 0
HasTypes domains scope e = EachWith (λ ty x. Contains (domain_at domains ty) x) scope e

-- the integer is in the interval
pub record IsWithin (i : Interval) (z : ℤ) : Type 0 where
  pub low : i.low ≤ℤ z
  pub high : z ≤ℤ i.high

-- a finite value is in the interval; an empty minimum or maximum is infinite
abbrev pub ValueIsWithin : Interval → Denotation → Type 0
ValueIsWithin i (number z) = IsWithin i z
ValueIsWithin i _ = ⊤

-- a term's finite value lies within its static bounds in every structure over these domains
abbrev pub ValuesLieWithinBounds : Type 0
ValuesLieWithinBounds =
    (v : Vocabulary) (m : Structure) → IsStructure v m → (t : TermTree) (scope : List ℕ) (e : List Elem)
    → HasTypes m.domains scope e
    → ValueIsWithin (bounds_of v m.domains t scope) (value_of m t e)

-- so a formula whose terms have small bounds meets the condition of `truth`, and so does each part of it under elements
-- of the variables in scope
abbrev pub SmallBoundsFit : Type 0
SmallBoundsFit =
    (v : Vocabulary) (m : Structure) → IsStructure v m → (f : FormulaTree) (scope : List ℕ) (e : List Elem)
    → HasTypes m.domains scope e
    → IsBounded v m.domains f scope → ArithmeticFits m f e

-- and so does a term, as that of a term block
abbrev pub SmallTermsFit : Type 0
SmallTermsFit =
    (v : Vocabulary) (m : Structure) → IsStructure v m → (t : TermTree) (scope : List ℕ) (e : List Elem)
    → HasTypes m.domains scope e
    → TermIsBounded v m.domains t scope → TermFits m t e
