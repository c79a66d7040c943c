-- Where narrowing meets no integer that does not fit.
use Rattle.std.specs.Prelude.{◌≡◌, List, [], ◌++◌, IfSome, ⊤}
use Rattle.std.specs.List.{AllByRecursion}
use Rattle.kb_logic.specs.declared.elements.Elem.{Elem}
use Rattle.kb_logic.specs.declared.vocabularies.Symbol.{Symbol}
use Rattle.kb_logic.specs.Trees.{FormulaTree, verum, falsum, atom, comparison, negation, conjunction, disjunction}
use Rattle.kb_logic.specs.Trees.{implication, equivalence, universal, existential, numbered}
use Rattle.kb_logic.specs.Trees.{FormulaTrees, no_formulas, more_formulas, RuleTree, DefinitionTree, TheoryTree}
use Rattle.kb_logic.specs.Trees.{terms_of}
use Rattle.kb_logic.specs.Structures.{choices}
use Rattle.partial_structures.specs.KnownAtoms.{KnownAtoms}
use Rattle.partial_structures.specs.Consistency.{IsConsistent}
use Rattle.certain_truth.specs.KnownArithmetic.{ValueFits, ValuesFit}
use Rattle.bound_laws.specs.Heads.{HasPlainHead}

-- it holds whatever is known over these symbols and domains
abbrev pub Always : List Symbol → List (List Elem) → (KnownAtoms → Type 0) → Type 0
Always s d P = (k : KnownAtoms) → IsConsistent k → k.symbols ≡ s → k.domains ≡ d → P k

abbrev mutual
  -- the integers that come up in the certain truth of the formula fit, whatever is known over the symbols and domains
  pub Fits : List Symbol → List (List Elem) → FormulaTree → List Elem → Type 0
  Fits s d verum e = ⊤
  Fits s d falsum e = ⊤
  Fits s d (atom n ts) e = Always s d (λ k. ValuesFit k ts e)
  Fits s d (comparison c a b) e = Always s d (λ k. ValueFits k a e) × Always s d (λ k. ValueFits k b e)
  Fits s d (negation f) e = Fits s d f e
  Fits s d (conjunction fs) e = AllFit s d fs e
  Fits s d (disjunction fs) e = AllFit s d fs e
  Fits s d (implication f g) e = Fits s d f e × Fits s d g e
  Fits s d (equivalence f g) e = Fits s d f e × Fits s d g e
  Fits s d (universal bs f) e = AllByRecursion (λ a. Fits s d f (e ++ a)) (choices d bs)
  Fits s d (existential bs f) e = AllByRecursion (λ a. Fits s d f (e ++ a)) (choices d bs)
  Fits s d (numbered c n bs f) e = AllByRecursion (λ a. Fits s d f (e ++ a)) (choices d bs)

  pub AllFit : List Symbol → List (List Elem) → FormulaTrees → List Elem → Type 0
  AllFit s d no_formulas e = ⊤
  AllFit s d (more_formulas f fs) e = Fits s d f e × AllFit s d fs e

-- the same for the head and the body of a rule under an assignment
pub record InstanceFits (s : List Symbol) (d : List (List Elem)) (r : RuleTree) (e : List Elem) : Type 0 where
  pub args : Always s d (λ k. ValuesFit k (terms_of r.args) e)
  pub value : IfSome r.value (λ t. Always s d (λ k. ValueFits k t e))
  pub body : Fits s d r.body e

-- the rule's head is plain, and each of its instances fits
pub record RuleFits (s : List Symbol) (d : List (List Elem)) (r : RuleTree) : Type 0 where
  pub plain : HasPlainHead r
  pub instances : AllByRecursion (InstanceFits s d r) (choices d r.vars)

-- the condition of `refine`
pub record TheoryFits (s : List Symbol) (d : List (List Elem)) (t : TheoryTree) : Type 0 where
  pub sentences : AllByRecursion (λ f. Fits s d f []) t.sentences
  pub definitions : AllByRecursion (λ (g : DefinitionTree). AllByRecursion (RuleFits s d) g.rules) t.definitions
