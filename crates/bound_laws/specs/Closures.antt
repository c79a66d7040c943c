-- What is closed under the rules by which a theory narrows what is known.
use Rattle.std.specs.Prelude.{◌≡◌, ◌&&◌, ◌||◌, ℕ, List, [], ◌++◌, map, Bool, true, false, not, Option, Some, None}
use Rattle.std.specs.Prelude.{option_map, slice_get, Contains, ⊤}
use Rattle.std.specs.List.{AllByRecursion}
use Rattle.kb_logic.specs.declared.elements.Elem.{Elem}
use Rattle.kb_logic.specs.declared.syntax.Cmp.{Cmp}
use Rattle.kb_logic.specs.declared.syntax.Cmp.TheVariants as cmp
use Rattle.kb_logic.specs.declared.vocabularies.Symbol.{Symbol}
use Rattle.kb_logic.specs.Trees.{TermTree, TermTrees, variable, integer, constructed, application, summation, product}
use Rattle.kb_logic.specs.Trees.{aggregate}
use Rattle.kb_logic.specs.Trees.{FormulaTree, verum, falsum, atom, comparison, negation, conjunction, disjunction}
use Rattle.kb_logic.specs.Trees.{implication, equivalence, universal, existential, numbered}
use Rattle.kb_logic.specs.Trees.{FormulaTrees, no_formulas, more_formulas, RuleTree, DefinitionTree, TheoryTree}
use Rattle.kb_logic.specs.Trees.{terms_of}
use Rattle.kb_logic.specs.Structures.{choices, domain_at, tuples_of}
use Rattle.kb_logic.specs.Denotations.{denotation_of}
use Rattle.kb_logic.specs.Models.{GroundAtom, IsAtomOver, IsDefined}
use Rattle.partial_structures.specs.KnownAtoms.{KnownAtoms, value_at}
use Rattle.partial_structures.specs.Consistency.{IsConsistent, IsListed, KnowsMore}
use Rattle.partial_structures.specs.declared.truths.Truth.{Truth}
use Rattle.partial_structures.specs.declared.truths.Truth.TheVariants as truth
use Rattle.certain_truth.specs.Certainty.{truth_if, known_value, known_values, certain_truth}
use Rattle.bound_laws.specs.Lone.{LoneOf}

-- it is certainly the other value
abbrev pub opposes : Bool → Truth → Bool
opposes true truth.No = true
opposes false truth.Yes = true
opposes _ _ = false

-- each of the formulas is certainly the other value
abbrev pub all_oppose : KnownAtoms → Bool → FormulaTrees → List Elem → Bool
all_oppose k v no_formulas e = true
all_oppose k v (more_formulas f fs) e = opposes v (certain_truth k f e) && all_oppose k v fs e

-- under e the arguments of the symbol, and its value where a term stands for it, are known, and they are the atom's
pub record IsNamed (k : KnownAtoms) (s : ℕ) (ts : TermTrees) (t : Option TermTree) (e : List Elem) (a : GroundAtom)
    : Type 0 where
  pub symbol : s ≡ a.symbol
  pub args : known_values k ts e ≡ Some (map denotation_of a.args)
  pub value : option_map (λ u. known_value k u e) t ≡ option_map (λ x. Some (denotation_of x)) a.value

-- the atom that is so named, where there is one, has the truth value
abbrev pub AtomHas : KnownAtoms → Bool → ℕ → TermTrees → Option TermTree → List Elem → Type 0
AtomHas k v s ts t e = (a : GroundAtom) → IsAtomOver k.symbols k.domains a → IsNamed k s ts t e a
    → value_at k a ≡ truth_if v

-- the atom of the equation of a term with y has it, where the term is an application
abbrev pub SideHas : KnownAtoms → Bool → TermTree → TermTree → List Elem → Type 0
SideHas k v (variable n) y e = ⊤
SideHas k v (integer z) y e = ⊤
SideHas k v (constructed ty n) y e = ⊤
SideHas k v (application s ts) y e = AtomHas k v s ts (Some y) e
SideHas k v (summation ss) y e = ⊤
SideHas k v (product ts) y e = ⊤
SideHas k v (aggregate a bs f t) y e = ⊤

-- either side of an equation with the other one; no other comparison says anything of an atom
abbrev pub EquationHas : KnownAtoms → Bool → Cmp → TermTree → TermTree → List Elem → Type 0
EquationHas k v cmp.Eq x y e = SideHas k v x y e × SideHas k v y x e
EquationHas k v cmp.Ne x y e = ⊤
EquationHas k v cmp.Lt x y e = ⊤
EquationHas k v cmp.Gt x y e = ⊤
EquationHas k v cmp.Le x y e = ⊤
EquationHas k v cmp.Ge x y e = ⊤

-- the formula is not certainly the other value
abbrev pub IsNotLost : KnownAtoms → Bool → FormulaTree → List Elem → Type 0
IsNotLost k v f e = opposes v (certain_truth k f e) ≡ false

abbrev mutual
  -- the formula must have the value: it is not certainly the other one, and what follows is known
  pub Obeys : KnownAtoms → Bool → FormulaTree → List Elem → Type 0
  Obeys k v verum e = IsNotLost k v verum e
  Obeys k v falsum e = IsNotLost k v falsum e
  Obeys k v (numbered c n bs f) e = IsNotLost k v (numbered c n bs f) e
  Obeys k v (atom s ts) e = IsNotLost k v (atom s ts) e × AtomHas k v s ts None e
  Obeys k v (comparison c x y) e = IsNotLost k v (comparison c x y) e × EquationHas k v c x y e
  Obeys k v (negation f) e = Obeys k (not v) f e
  Obeys k true (conjunction fs) e = AllObey k true fs e
  Obeys k false (conjunction fs) e = LastObeys k false fs e false
  Obeys k true (disjunction fs) e = LastObeys k true fs e false
  Obeys k false (disjunction fs) e = AllObey k false fs e
  Obeys k true (implication f g) e = (certain_truth k g e ≡ truth.No → Obeys k false f e)
      × (certain_truth k f e ≡ truth.Yes → Obeys k true g e)
  Obeys k false (implication f g) e = Obeys k true f e × Obeys k false g e
  Obeys k v (equivalence f g) e =
      (certain_truth k f e ≡ truth.Yes → Obeys k v g e) × (certain_truth k f e ≡ truth.No → Obeys k (not v) g e)
      × (certain_truth k g e ≡ truth.Yes → Obeys k v f e) × (certain_truth k g e ≡ truth.No → Obeys k (not v) f e)
  Obeys k true (universal bs f) e = AllByRecursion (λ a. Obeys k true f (e ++ a)) (choices k.domains bs)
  Obeys k false (universal bs f) e =
      LoneOf (λ a. Obeys k false f (e ++ a)) (λ a. opposes false (certain_truth k f (e ++ a))) (choices k.domains bs)
      false
  Obeys k true (existential bs f) e =
      LoneOf (λ a. Obeys k true f (e ++ a)) (λ a. opposes true (certain_truth k f (e ++ a))) (choices k.domains bs)
      false
  Obeys k false (existential bs f) e = AllByRecursion (λ a. Obeys k false f (e ++ a)) (choices k.domains bs)

  pub AllObey : KnownAtoms → Bool → FormulaTrees → List Elem → Type 0
  AllObey k v no_formulas e = ⊤
  AllObey k v (more_formulas f fs) e = Obeys k v f e × AllObey k v fs e

  -- one of the formulas is left, or one before them is; where all but one are lost, this one obeys
  pub LastObeys : KnownAtoms → Bool → FormulaTrees → List Elem → Bool → Type 0
  LastObeys k v no_formulas e left = left ≡ true
  LastObeys k v (more_formulas f fs) e left = (left ≡ false → all_oppose k v fs e ≡ true → Obeys k v f e)
      × LastObeys k v fs e (left || not (opposes v (certain_truth k f e)))

-- an instance of one of the rules with the atom as its head
pub record IsInstance (k : KnownAtoms) (d : DefinitionTree) (a : GroundAtom) (r : RuleTree) (e : List Elem) : Type 0
  where
    pub rule : Contains d.rules r
    pub choice : Contains (choices k.domains r.vars) e
    pub head : IsNamed k r.symbol (terms_of r.args) r.value e a

-- a defined atom is true where an instance with it as its head has a certainly true body, and false where all such
-- bodies are certainly false
abbrev pub ObeysDefinition : KnownAtoms → DefinitionTree → Type 0
ObeysDefinition k d =
    (a : GroundAtom) → IsAtomOver k.symbols k.domains a → IsDefined d a.symbol
    → ((r : RuleTree) (e : List Elem) → IsInstance k d a r e → certain_truth k r.body e ≡ truth.Yes
    → value_at k a ≡ truth.Yes)
    × (((r : RuleTree) (e : List Elem) → IsInstance k d a r e → certain_truth k r.body e ≡ truth.No)
    → value_at k a ≡ truth.No)

-- the atom of a function with a value
abbrev pub value_atom : ℕ → List Elem → Elem → GroundAtom
value_atom s r x = record { symbol = s; args = r; value = Some x }

-- a tuple has a value that is not false, and where it has one alone, this one is true
abbrev pub ObeysFunctions : KnownAtoms → Type 0
ObeysFunctions k =
    (s ty : ℕ) (d : Symbol) (r : List Elem) → slice_get k.symbols s ≡ Some d → d.value ≡ Some ty
    → Contains (tuples_of k.domains d.args) r
    → LoneOf (λ x. value_at k (value_atom s r x) ≡ truth.Yes) (λ x. opposes true (value_at k (value_atom s r x)))
    (domain_at k.domains ty) false

-- k knows what s does, and is closed under the rules for the theory
pub record IsClosed (t : TheoryTree) (s k : KnownAtoms) : Type 0 where
  pub more : KnowsMore s k
  pub consistent : IsConsistent k
  pub listed : IsListed k
  pub sentences : AllByRecursion (λ f. Obeys k true f []) t.sentences
  pub definitions : AllByRecursion (ObeysDefinition k) t.definitions
  pub functions : ObeysFunctions k

-- the least that is closed
pub record IsNarrowed (t : TheoryTree) (s k : KnownAtoms) : Type 0 where
  pub closed : IsClosed t s k
  pub least : (j : KnownAtoms) → IsClosed t s j → KnowsMore k j

-- narrowing meets a contradiction
abbrev pub IsContradictory : TheoryTree → KnownAtoms → Type 0
IsContradictory t s = (k : KnownAtoms) → IsClosed t s k → ⊥
