-- Models of definitions and theories.
use Rattle.std.specs.Prelude.{◌≡◌, ℕ, Bool, true, false, List, [], ◌∷◌, ◌++◌, map, Option, Some, None, option_map}
use Rattle.std.specs.Prelude.{slice_get, Contains, IsTrue}
use Rattle.std.specs.List.{AllByRecursion}
use Rattle.kb_logic.specs.declared.elements.Elem.{Elem}
use Rattle.kb_logic.specs.declared.vocabularies.Symbol.{Symbol}
use Rattle.kb_logic.specs.declared.vocabularies.Vocabulary.{Vocabulary}
use Rattle.kb_logic.specs.declared.structures.Literal.{Literal}
use Rattle.kb_logic.specs.declared.structures.Structure.{Structure}
use Rattle.kb_logic.specs.Trees.{RuleTree, DefinitionTree, TheoryTree, terms_of}
use Rattle.kb_logic.specs.Structures.{domain_at, tuples_of}
use Rattle.kb_logic.specs.Denotations.{denotation_of}
use Rattle.kb_logic.specs.Meaning.{assignments, rows_of, value_of, values_of, truth_of}

-- `P(args)`, or `f(args) = value`
pub record GroundAtom : Type 0 where
  pub symbol : ℕ
  pub args : List Elem
  pub value : Option Elem

-- the value of an atom is one of the symbol's value type, and there is none where the symbol is a predicate
abbrev pub HasValueIn : List (List Elem) → Option ℕ → Option Elem → Type 0
HasValueIn domains None None = Unit {0}
HasValueIn domains None (Some x) = ⊥
HasValueIn domains (Some ty) None = ⊥
HasValueIn domains (Some ty) (Some x) = Contains (domain_at domains ty) x

-- an atom of one of the symbols over the domains of its types
abbrev pub IsAtomOver : List Symbol → List (List Elem) → GroundAtom → Type 0
IsAtomOver symbols domains a =
    (s : Symbol) × (slice_get symbols a.symbol ≡ Some s) × Contains (tuples_of domains s.args) a.args
    × HasValueIn domains s.value a.value

-- an atom of one of the vocabulary's symbols
abbrev pub IsAtomOf : Vocabulary → List (List Elem) → GroundAtom → Type 0
IsAtomOf v domains a = IsAtomOver v.symbols domains a

-- the atom is true in the structure: its arguments are in the predicate's table, or in the function's table with its
-- value
abbrev pub AtomHolds : Structure → GroundAtom → Type 0
AtomHolds m a = elim a.value [
  | None ↦ Contains (rows_of a.symbol m.relations) a.args
  | Some x ↦ Contains (rows_of a.symbol m.functions) (a.args ++ x ∷ [])
]

-- the atom that a literal affirms or denies
abbrev pub atom_of : Literal → GroundAtom
atom_of l = record { symbol = l.symbol; args = l.args; value = l.value }

abbrev pub HoldsWithSign : Bool → Type 0 → Type 0
HoldsWithSign true A = A
HoldsWithSign false A = A → ⊥

-- the literal is true in the structure: its atom is, or is not where the literal denies it
abbrev pub HoldsIn : Structure → Literal → Type 0
HoldsIn m l = HoldsWithSign l.positive (AtomHolds m (atom_of l))

-- under the assignment e the head of the rule is the atom
pub record IsHead (m : Structure) (r : RuleTree) (e : List Elem) (a : GroundAtom) : Type 0 where
  pub symbol : r.symbol ≡ a.symbol
  pub args : values_of m (terms_of r.args) e ≡ map denotation_of a.args
  pub value : option_map (λ t. value_of m t e) r.value ≡ option_map denotation_of a.value

-- some instance of some rule has the atom as its head, and a true body
abbrev pub IsDerived : Structure → DefinitionTree → GroundAtom → Type 0
IsDerived m d a =
    (r : RuleTree) × Contains d.rules r
    × ((e : List Elem) × Contains (assignments m r.vars) e × IsHead m r e a × IsTrue (truth_of m r.body e))

-- some rule's head has this symbol
abbrev pub IsDefined : DefinitionTree → ℕ → Type 0
IsDefined d s = (r : RuleTree) × Contains d.rules r × (r.symbol ≡ s)

-- an atom of a defined symbol is true exactly where it is derived. For definitions without recursion this is the
-- well-founded semantics
abbrev pub ModelOfDefinition : Vocabulary → Structure → DefinitionTree → Type 0
ModelOfDefinition v m d =
    (a : GroundAtom) → IsAtomOf v m.domains a → IsDefined d a.symbol → (AtomHolds m a → IsDerived m d a)
    × (IsDerived m d a → AtomHolds m a)

-- every sentence is true, and m is a model of every definition, each by itself
pub record ModelOfTheory (v : Vocabulary) (m : Structure) (t : TheoryTree) : Type 0 where
  pub sentences : AllByRecursion (λ f. IsTrue (truth_of m f [])) t.sentences
  pub definitions : AllByRecursion (ModelOfDefinition v m) t.definitions
