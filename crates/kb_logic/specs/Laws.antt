-- What the definitions of truth and value say, in the subject's own words.
use Rattle.std.specs.Prelude.{◌≡◌, ◌↔◌, ℕ, ℤ, pos, ◌≤ℤ◌, List, [], ◌∷◌, ◌++◌, map, length, filter, Some, slice_get}
use Rattle.std.specs.Prelude.{Contains, IsTrue}
use Rattle.std.specs.List.{AllByRecursion}
use Rattle.kb_logic.specs.declared.elements.Elem.{Elem}
use Rattle.kb_logic.specs.declared.vocabularies.Bound.{Bound}
use Rattle.kb_logic.specs.declared.vocabularies.Symbol.{Symbol}
use Rattle.kb_logic.specs.declared.vocabularies.Vocabulary.{Vocabulary}
use Rattle.kb_logic.specs.declared.syntax.Cmp.{Cmp}
use Rattle.kb_logic.specs.declared.syntax.AggKind.{AggKind}
use Rattle.kb_logic.specs.declared.syntax.AggKind.TheVariants as kind
use Rattle.kb_logic.specs.declared.structures.Structure.{Structure}
use Rattle.kb_logic.specs.Trees.{TermTree, TermTrees, aggregate, FormulaTree, atom, universal, existential, numbered}
use Rattle.kb_logic.specs.Structures.{domain_at, IsDistinct, EachWith, IsStructure}
use Rattle.kb_logic.specs.Denotations.{Denotation, number, plus_infinity, minus_infinity, denotation_of, compared}
use Rattle.kb_logic.specs.Denotations.{as_number, added, aggregate_value}
use Rattle.kb_logic.specs.Meaning.{assignments, rows_of, value_of, values_of, truth_of}

-- a choice of elements, one of each variable's type
abbrev pub IsChoice : Structure → List Bound → List Elem → Type 0
IsChoice m bs a = EachWith (λ b x. Contains (domain_at m.domains b.ty) x) bs a

-- the assignments are exactly the choices
abbrev pub AssignmentsAreChoices : Type 0
AssignmentsAreChoices = (m : Structure) (bs : List Bound) (a : List Elem) → Contains (assignments m bs) a
    ↔ IsChoice m bs a

-- and each of them once, where no domain has an element twice
abbrev pub AssignmentsAreDistinct : Type 0
AssignmentsAreDistinct = (m : Structure) (bs : List Bound) → AllByRecursion IsDistinct m.domains
    → IsDistinct (assignments m bs)

-- a universal formula is true exactly where its body is true for each choice of elements
abbrev pub EveryIsForAll : Type 0
EveryIsForAll = (m : Structure) (bs : List Bound) (f : FormulaTree) (e : List Elem)
    → IsTrue (truth_of m (universal bs f) e) ↔ ((a : List Elem) → IsChoice m bs a → IsTrue (truth_of m f (e ++ a)))

-- an existential formula is true exactly where its body is true for some choice of elements
abbrev pub SomeIsThereIs : Type 0
SomeIsThereIs = (m : Structure) (bs : List Bound) (f : FormulaTree) (e : List Elem)
    → IsTrue (truth_of m (existential bs f) e) ↔ ((a : List Elem) × IsChoice m bs a × IsTrue (truth_of m f (e ++ a)))

-- a number quantifier compares the number of the assignments that make its body true
abbrev pub NumberComparesCount : Type 0
NumberComparesCount =
    (m : Structure) (c : Cmp) (n : ℤ) (bs : List Bound) (f : FormulaTree) (e : List Elem)
    → truth_of m (numbered c n bs f) e ≡ compared c (number (pos
    (length (filter (λ a. truth_of m f (e ++ a)) (assignments m bs))))) (number n)

-- an aggregate is over the values of its weight under the assignments that make its condition true, one for each of
-- these
abbrev pub AggregateIsOverAssignments : Type 0
AggregateIsOverAssignments =
    (m : Structure) (k : AggKind) (bs : List Bound) (f : FormulaTree) (t : TermTree) (e : List Elem)
    → value_of m (aggregate k bs f t) e ≡ aggregate_value k (map (λ a. as_number (value_of m t (e ++ a)))
    (filter (λ a. truth_of m f (e ++ a)) (assignments m bs)))

-- a count is the number of the assignments that make its condition true
abbrev pub CountIsLength : Type 0
CountIsLength =
    (m : Structure) (bs : List Bound) (f : FormulaTree) (t : TermTree) (e : List Elem)
    → value_of m (aggregate kind.Count bs f t) e ≡ number (pos
    (length (filter (λ a. truth_of m f (e ++ a)) (assignments m bs))))

-- a sum adds each value that stands in the list, so equal ones as often as they stand there
abbrev pub SumAddsEach : Type 0
SumAddsEach = (aggregate_value kind.Sum [] ≡ number (pos 0)) × ((v : Denotation) (vs : List Denotation)
    → aggregate_value kind.Sum (v ∷ vs) ≡ added v (aggregate_value kind.Sum vs))

-- a minimum over integers is one of them, and none is lower; over nothing it is plus infinity
abbrev pub LeastIsAttained : Type 0
LeastIsAttained =
    (aggregate_value kind.Min [] ≡ plus_infinity)
    × ((z : ℤ) (zs : List ℤ) → (least : ℤ) × (aggregate_value kind.Min (map number (z ∷ zs)) ≡ number least)
    × Contains (z ∷ zs) least × AllByRecursion (λ y. least ≤ℤ y) (z ∷ zs))

-- a maximum over integers is one of them, and none is greater; over nothing it is minus infinity
abbrev pub GreatestIsAttained : Type 0
GreatestIsAttained =
    (aggregate_value kind.Max [] ≡ minus_infinity)
    × ((z : ℤ) (zs : List ℤ) → (most : ℤ) × (aggregate_value kind.Max (map number (z ∷ zs)) ≡ number most)
    × Contains (z ∷ zs) most × AllByRecursion (λ y. y ≤ℤ most) (z ∷ zs))

-- an atom is true exactly where the tuple of its arguments' values is in the predicate's set
abbrev pub AtomIsMembership : Type 0
AtomIsMembership =
    (m : Structure) (n : ℕ) (ts : TermTrees) (e : List Elem)
    → IsTrue (truth_of m (atom n ts) e) ↔ ((row : List Elem) × Contains (rows_of n m.relations) row
    × (map denotation_of row ≡ values_of m ts e))

-- and only where the value of each argument is an element of its type
abbrev pub AtomIsInItsTypes : Type 0
AtomIsInItsTypes =
    (v : Vocabulary) (m : Structure) → IsStructure v m → (n : ℕ) (s : Symbol) → slice_get v.symbols n ≡ Some s
    → (ts : TermTrees) (e : List Elem) → IsTrue (truth_of m (atom n ts) e)
    → EachWith (λ ty d. (x : Elem) × Contains (domain_at m.domains ty) x × (denotation_of x ≡ d)) s.args
    (values_of m ts e)
