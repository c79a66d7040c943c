-- What a definition says of an atom.
use Rattle.std.specs.Prelude.{◌≡◌, ℕ, suc, ◌+◌, List, [], ◌∷◌, ◌++◌, map, length, slice_get, Contains, Bool, true}
use Rattle.std.specs.Prelude.{false, ◌&&◌, ◌==◌, if◌then◌else◌, fold, Option, Some, None, option_map, ⊤}
use Rattle.std.specs.List.{AllByRecursion}
use Rattle.kb_logic.specs.declared.vocabularies.Bound.{Bound}
use Rattle.kb_logic.specs.declared.elements.Elem.{Elem}
use Rattle.kb_logic.specs.declared.vocabularies.Symbol.{Symbol}
use Rattle.kb_logic.specs.declared.syntax.Rule.{Rule}
use Rattle.kb_logic.specs.Views.{rule_view}
use Rattle.kb_logic.specs.Trees.{RuleTree, DefinitionTree, terms_of}
use Rattle.kb_logic.specs.Structures.{choices, domain_at, tuples_of}
use Rattle.kb_logic.specs.Denotations.{Denotation, denotation_of, same_value}
use Rattle.kb_logic.specs.Models.{GroundAtom, IsDefined}
use Rattle.kb_logic.specs.KnownAtoms.{KnownAtoms}
use Rattle.partial_structures.specs.KnownAtoms.{same_row, value_at}
use Rattle.partial_structures.specs.declared.truths.Truth.{Truth}
use Rattle.partial_structures.specs.declared.truths.Truth.TheVariants as truth
use Rattle.certain_truth.specs.Certainty.{either_certain, known_value, known_values, certain_truth}
use Rattle.bound_laws.specs.Closures.{IsInstance, value_atom}
use Rattle.quantifier_bounds.specs.declared.derivation.Start.{Start}
use Rattle.quantifier_bounds.specs.declared.derivation.Start.TheVariants as start

-- the definition of these rules
abbrev pub definition_of : List Rule → DefinitionTree
definition_of rs = record { rules = map rule_view rs }

-- the value is known, and the element's
abbrev pub is_known : Option Denotation → Elem → Bool
is_known None x = false
is_known (Some d) x = same_value (denotation_of x) d

-- the values are known, and the elements'
abbrev pub is_row : Option (List Denotation) → List Elem → Bool
is_row None xs = false
is_row (Some vs) xs = same_row xs vs

-- both have a value, which is the same, or neither has one
abbrev pub is_value : Option (Option Denotation) → Option Elem → Bool
is_value None None = true
is_value None (Some x) = false
is_value (Some o) None = false
is_value (Some o) (Some x) = is_known o x

-- whether the head of the rule is the atom
abbrev pub is_head : KnownAtoms → RuleTree → List Elem → GroundAtom → Bool
is_head k r e a = (r.symbol == a.symbol) && (is_row (known_values k (terms_of r.args) e) a.args && is_value
    (option_map (λ t. known_value k t e) r.value) a.value)

-- what is certain of the body of an instance whose head is the atom; No where it is another
abbrev pub instance_truth : KnownAtoms → RuleTree → GroundAtom → List Elem → Truth
instance_truth k r a e = if is_head k r e a then certain_truth k r.body e else truth.No

-- with the instances of a rule more
abbrev pub told_by : KnownAtoms → GroundAtom → Truth → RuleTree → Truth
told_by k a t r = fold (λ u e. either_certain u (instance_truth k r a e)) t (choices k.domains r.vars)

-- where the head of the rule is the atom, the variable of this number has the element
abbrev pub FixesVariable : RuleTree → GroundAtom → ℕ → Elem → Type 0
FixesVariable r a n x = (k : KnownAtoms) (e : List Elem) → is_head k r e a ≡ true → slice_get e n ≡ Some x

-- only where the variable after those of e is x can the head of the rule be the atom; so many variables are left then
abbrev pub FixesNext : RuleTree → GroundAtom → ℕ → (Elem → Type 0) → Type 0
FixesNext r a left P =
    (k : KnownAtoms) (e c : List Elem) (x : Elem) → length e + suc left ≡ length r.vars
    → is_head k r (e ++ x ∷ c) a ≡ true → P x

-- the elements of the first of the last variables of the rule with which the head can be the atom
abbrev pub IsStart : List (List Elem) → RuleTree → GroundAtom → List Bound → Start → Type 0
IsStart d r a [] s = ⊤
IsStart d r a (b ∷ bs) start.Free = ⊤
IsStart d r a (b ∷ bs) (start.At p) =
    (x : Elem) × (slice_get (domain_at d b.ty) p ≡ Some x) × FixesNext r a (length bs) (λ y. y ≡ x)
IsStart d r a (b ∷ bs) start.Nowhere = FixesNext r a (length bs) (λ y. Contains (domain_at d b.ty) y → ⊥)

-- what follows for the atom where the definition must be obeyed
abbrev pub Derives : KnownAtoms → DefinitionTree → GroundAtom → Type 0
Derives q d a =
    ((r : RuleTree) (e : List Elem) → IsInstance q d a r e → certain_truth q r.body e ≡ truth.Yes
    → value_at q a ≡ truth.Yes)
    × (((r : RuleTree) (e : List Elem) → IsInstance q d a r e → certain_truth q r.body e ≡ truth.No)
    → value_at q a ≡ truth.No)

-- for each atom with these arguments
abbrev pub TupleDerives : KnownAtoms → DefinitionTree → ℕ → Option ℕ → List Elem → Type 0
TupleDerives q d s None r = Derives q d (record { symbol = s; args = r; value = None })
TupleDerives q d s (Some ty) r = AllByRecursion (λ x. Derives q d (value_atom s r x)) (domain_at q.domains ty)

-- for each atom of the symbol, where it is defined
abbrev pub SymbolDerives : KnownAtoms → DefinitionTree → ℕ → Symbol → Type 0
SymbolDerives q d s declared =
    IsDefined d s → AllByRecursion (TupleDerives q d s declared.value) (tuples_of q.domains declared.args)
