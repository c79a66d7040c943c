-- Atoms that settle a formula where they are certainly false.
use Rattle.std.specs.Prelude.{◌≡◌, ℕ, List, Bool, not, Some, slice_get, map, Contains}
use Rattle.kb_logic.specs.declared.elements.Elem.{Elem}
use Rattle.kb_logic.specs.Models.{GroundAtom}
use Rattle.kb_logic.specs.Trees.{TermTree, TermTrees, FormulaTree, FormulaTrees, atom, terms_of}
use Rattle.kb_logic.specs.Views.{term_view}
use Rattle.partial_structures.specs.KnownAtoms.{KnownAtoms, atoms_of, value_at}
use Rattle.partial_structures.specs.declared.truths.Truth.TheVariants as truth
use Rattle.certain_truth.specs.Certainty.{certain_truth, known_value, known_values, truth_if}
use Rattle.certain_truth.specs.Evaluation.{parts_of}
use Rattle.row_ranges.specs.Arguments.{argument_value, argument_values}
use Rattle.known_guards.specs.declared.guards.Guard.{Guard}

-- under the elements e the formula certainly has the value v
abbrev pub IsRuledOut : KnownAtoms → Bool → FormulaTree → List Elem → Type 0
IsRuledOut k v f e = certain_truth k f e ≡ truth_if v

-- the atom is certainly false
abbrev pub IsFalseAtom : KnownAtoms → ℕ → TermTrees → List Elem → Type 0
IsFalseAtom k s ts e = certain_truth k (atom s ts) e ≡ truth.No

-- wherever the atom is certainly false, the formula certainly has the value v
abbrev pub IsGuard : KnownAtoms → Bool → FormulaTree → ℕ → TermTrees → Type 0
IsGuard k v f s ts = (e : List Elem) → IsFalseAtom k s ts e → IsRuledOut k v f e

-- whatever is known, the term's value is known: it is that of a plain argument
abbrev pub IsPlain : TermTree → Type 0
IsPlain t = (k : KnownAtoms) (e : List Elem) → known_value k t e ≡ Some (argument_value k.domains t e)

abbrev pub ArePlain : TermTrees → Type 0
ArePlain ts = (k : KnownAtoms) (e : List Elem) → known_values k ts e ≡ Some (argument_values k.domains ts e)

-- the atom has plain arguments, and is a guard of the formula whatever is known
pub record IsGuarded (v : Bool) (f : FormulaTree) (g : Guard) : Type 0 where
  pub plain : ArePlain (terms_of (map term_view g.args.now))
  pub guard : (k : KnownAtoms) → IsGuard k v f g.symbol (terms_of (map term_view g.args.now))

-- so of the formulas together: of their conjunction where v is false, and else of their disjunction
pub record AreGuarded (v : Bool) (fs : FormulaTrees) (g : Guard) : Type 0 where
  pub plain : ArePlain (terms_of (map term_view g.args.now))
  pub guard : (k : KnownAtoms) (e : List Elem) → IsFalseAtom k g.symbol (terms_of (map term_view g.args.now)) e
      → parts_of (not v) k fs e ≡ truth_if v

-- each atom of the symbol whose index is none of these is certainly false
abbrev pub AreRowsLeft : KnownAtoms → ℕ → List ℕ → Type 0
AreRowsLeft k s rows =
    (i : ℕ) (a : GroundAtom) → slice_get (atoms_of k s) i ≡ Some a → (Contains rows i → ⊥) → value_at k a ≡ truth.No
