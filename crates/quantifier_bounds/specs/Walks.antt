-- Parts of the walk through a formula that must have a value.
use Rattle.std.specs.Prelude.{◌≡◌, ℕ, suc, ◌+◌, List, Bool, true, false, ◌&&◌, if◌then◌else◌, IfSome, Option, Some}
use Rattle.std.specs.Prelude.{Contains}
use Rattle.kb_logic.specs.declared.vocabularies.Symbol.{Symbol}
use Rattle.kb_logic.specs.Structures.{domain_at, tuples_of}
use Rattle.bound_laws.specs.Lone.{LoneOf}
use Rattle.kb_logic.specs.declared.elements.Elem.{Elem}
use Rattle.kb_logic.specs.Trees.{FormulaTree, conjunction, disjunction, FormulaTrees}
use Rattle.kb_logic.specs.Models.{GroundAtom}
use Rattle.partial_structures.specs.KnownAtoms.{KnownAtoms, value_at}
use Rattle.partial_structures.specs.declared.truths.Truth.{Truth}
use Rattle.partial_structures.specs.declared.truths.Truth.TheVariants as truth
use Rattle.certain_truth.specs.Certainty.{truth_if, certain_truth}
use Rattle.bound_laws.specs.Closures.{opposes, Obeys, value_atom}
use Rattle.quantifier_bounds.specs.declared.left.Left.{Left}
use Rattle.quantifier_bounds.specs.declared.left.Left.TheVariants as left

-- the atom, where there is one, has the truth value
abbrev pub Gives : Option GroundAtom → Bool → KnownAtoms → Type 0
Gives o v q = IfSome o (λ a. value_at q a ≡ truth_if v)

-- the conjunction of the formulas, or their disjunction, must have the value
abbrev pub PartsObey : KnownAtoms → Bool → Bool → FormulaTrees → List Elem → Type 0
PartsObey q true v fs e = Obeys q v (conjunction fs) e
PartsObey q false v fs e = Obeys q v (disjunction fs) e

-- what is certain of the left side of an implication, so far as it says whether its right side must have the value v
abbrev pub told_truth : Bool → Truth → Truth
told_truth v t = if v then t else truth.Yes

-- the formula must have the value that the other side of an equivalence gives it
abbrev pub Follows : KnownAtoms → Truth → Bool → Bool → FormulaTree → List Elem → Type 0
Follows q truth.Yes v w f e = Obeys q v f e
Follows q truth.No v w f e = Obeys q w f e
Follows q truth.Unknown v w f e = Unit {0}

-- the formula must have the value: where it is asked of what is left alone, if it was not certainly the other one
abbrev pub Demands : KnownAtoms → Bool → Bool → FormulaTree → List Elem → KnownAtoms → Type 0
Demands old left v f e q = (left && opposes v (certain_truth old f e)) ≡ false → Obeys q v f e

-- one item more, which is lost or left
abbrev pub left_with : Left → Bool → Left
left_with l true = l
left_with left.None false = left.One
left_with left.One false = left.Many
left_with left.Many false = left.Many

-- one of the values of the function at the arguments is left, and where one alone is, it is the function's
abbrev pub HasLone : KnownAtoms → ℕ → List Elem → List Elem → Type 0
HasLone q s r xs = LoneOf (λ x. value_at q (value_atom s r x) ≡ truth.Yes)
    (λ x. opposes true (value_at q (value_atom s r x))) xs false

-- at each tuple of the symbol's, where it is a function
abbrev pub SymbolHas : KnownAtoms → ℕ → Symbol → Type 0
SymbolHas q s d = (ty : ℕ) (r : List Elem) → d.value ≡ Some ty → Contains (tuples_of q.domains d.args) r
    → HasLone q s r (domain_at q.domains ty)

-- the value is the function's, if it was left
abbrev pub ValueDemand : KnownAtoms → ℕ → List Elem → KnownAtoms → Elem → Type 0
ValueDemand old s r q x = opposes true (value_at old (value_atom s r x)) ≡ false
    → value_at q (value_atom s r x) ≡ truth.Yes

-- the item that comes after so many others, from the first to the last, or from the last to the first
abbrev pub IsNth : Bool → ℕ → ℕ → ℕ → Type 0
IsNth true turn count n = n + suc turn ≡ count
IsNth false turn count n = n ≡ turn
