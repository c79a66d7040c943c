-- Well typed formulas whose terms have small bounds can be grounded.
use Rattle.std.proofs.Common.{ℕ, List, [], ◌∷◌, ◌++◌, Bool, refl, sym, ◌∙◌, inl, inr}
use Rattle.std.specs.List.{AllByRecursion}
use Rattle.std.proofs.lemmas.List.{length-map}
use Rattle.kb_logic.specs.declared.elements.Elem.{Elem}
use Rattle.kb_logic.specs.declared.vocabularies.Vocabulary.{Vocabulary}
use Rattle.kb_logic.specs.declared.vocabularies.Bound.{Bound}
use Rattle.kb_logic.specs.Bounds.{HasTypes, IsBounded, AreBounded, TermIsBounded, SummandsAreBounded, TermsAreBounded}
use Rattle.kb_logic.specs.Bounds.{types_of}
use Rattle.kb_logic.specs.Structures.{choices}
use Rattle.kb_logic.specs.KnownAtoms.{KnownAtoms, atoms_over}
use Rattle.kb_logic.specs.Trees.{FormulaTree, verum, falsum, atom, comparison, negation, conjunction, disjunction}
use Rattle.kb_logic.specs.Trees.{implication, equivalence, universal, existential, numbered}
use Rattle.kb_logic.specs.Trees.{FormulaTrees, no_formulas, more_formulas}
use Rattle.kb_logic.specs.Trees.{TermTree, variable, integer, constructed, application, summation, product, aggregate}
use Rattle.kb_logic.specs.Trees.{TermTrees, no_terms, more_terms, SummandTrees, no_summands, more_summands}
use Rattle.kb_logic.proofs.Has.{Has}
use Rattle.partial_structures.specs.KnownAtoms.{value_at}
use Rattle.term_values.specs.GroundBases.{GroundBase}
use Rattle.term_values.specs.GroundTerms.{IsGroundTerm, AreGroundTerms, AreGroundSummands}
use Rattle.term_values.specs.RowArithmetic.{RowsFit}
use Rattle.term_values.specs.KnownBases.{base_of_data, known_truth}
use Rattle.def_ground.specs.Counting.{has_aggregate}
use Rattle.def_ground.specs.GroundForms.{IsGroundForm, AreGroundForms, IsGroundSide, IsAddend, AreGroundAddends}
use Rattle.def_ground.specs.GroundForms.{IsOneAddend, IsNumberTerm, IsSignedInteger, IsSignedOperand, AreSignedIntegers}
use Rattle.def_ground.proofs.TypedForms.{choice-types}
use Rattle.def_ground.proofs.StartLaws.{atoms-length}
use Rattle.ground_walk.specs.Groundable.{IsGroundable, AreGroundable, AreInstancesGroundable, AreSummandsGroundable}
use Rattle.ground_walk.specs.Groundable.{AreFactorsGroundable, KnowsAtoms}
use Rattle.ground_walk.proofs.BoundedRows.{HasAdding, HaveAdding, OperandsHaveAdding, small-rows-fit}
use Rattle.ground_walk.proofs.BoundedRows.{small-tuple-rows-fit}

-- what follows for each member from what holds of it
each-has : {X : Type 0} (Q P : X → Type 0) (xs : List X) → ((x : X) → Has xs x → Q x → P x) → AllByRecursion Q xs
    → AllByRecursion P xs
each-has Q P [] f h = tt
each-has Q P (x ∷ xs) f h = (f x (inl refl) h.0, each-has Q P xs (λ y m. f y (inr m)) h.1)

both-each : {X : Type 0} (P Q : X → Type 0) (xs : List X) → AllByRecursion P xs → AllByRecursion Q xs
    → AllByRecursion (λ x. P x × Q x) xs
both-each P Q [] h k = tt
both-each P Q (x ∷ xs) h k = ((h.0, k.0), both-each P Q xs h.1 k.1)

module _ (b : GroundBase) where
  -- ---- terms without aggregates

  mutual
    pub plain-adding : (t : TermTree) → IsGroundTerm b t → HasAdding t
    plain-adding (variable n) h = tt
    plain-adding (integer z) h = tt
    plain-adding (constructed ty n) h = tt
    plain-adding (application s ts) h = plain-addings ts h.1
    plain-adding (summation ss) h = plain-operand-addings ss h
    plain-adding (product ts) h = plain-addings ts h
    plain-adding (aggregate k bs f t) h = absurd h

    pub plain-addings : (ts : TermTrees) → AreGroundTerms b ts → HaveAdding ts
    plain-addings no_terms h = tt
    plain-addings (more_terms t ts) h = (plain-adding t h.0, plain-addings ts h.1)

    plain-operand-addings : (ss : SummandTrees) → AreGroundSummands b ss → OperandsHaveAdding ss
    plain-operand-addings no_summands h = tt
    plain-operand-addings (more_summands minus t ss) h = (plain-adding t h.0, plain-operand-addings ss h.1)

  mutual
    pub plain-instances : (t : TermTree) (e : List Elem) → IsGroundTerm b t → AreInstancesGroundable b t e
    plain-instances (variable n) e h = tt
    plain-instances (integer z) e h = tt
    plain-instances (constructed ty n) e h = tt
    plain-instances (application s ts) e h = tt
    plain-instances (summation ss) e h = plain-operand-instances ss e h
    plain-instances (product ts) e h = plain-factor-instances ts e h
    plain-instances (aggregate k bs f t) e h = absurd h

    plain-operand-instances : (ss : SummandTrees) (e : List Elem) → AreGroundSummands b ss
        → AreSummandsGroundable b ss e
    plain-operand-instances no_summands e h = tt
    plain-operand-instances (more_summands minus t ss) e h =
        (plain-instances t e h.0, plain-operand-instances ss e h.1)

    plain-factor-instances : (ts : TermTrees) (e : List Elem) → AreGroundTerms b ts → AreFactorsGroundable b ts e
    plain-factor-instances no_terms e h = tt
    plain-factor-instances (more_terms t ts) e h = (plain-instances t e h.0, plain-factor-instances ts e h.1)

  -- an integer with signs is such a term
  mutual
    signed-ground : (t : TermTree) → IsSignedInteger t → IsGroundTerm b t
    signed-ground (variable n) h = absurd h
    signed-ground (integer z) h = tt
    signed-ground (constructed ty n) h = absurd h
    signed-ground (application s ts) h = absurd h
    signed-ground (summation ss) h = operand-ground ss h
    signed-ground (product ts) h = absurd h
    signed-ground (aggregate k bs f t) h = absurd h

    operand-ground : (ss : SummandTrees) → IsSignedOperand ss → AreGroundSummands b ss
    operand-ground no_summands h = absurd h
    operand-ground (more_summands minus t no_summands) h = (signed-ground t h, tt)
    operand-ground (more_summands minus t (more_summands sign u ss)) h = absurd h

  all-ground : (ts : TermTrees) → AreSignedIntegers ts → AreGroundTerms b ts
  all-ground no_terms h = tt
  all-ground (more_terms t ts) h = (signed-ground t h.0, all-ground ts h.1)

  -- ---- sides of comparisons

  mutual
    pub addend-adding : (t : TermTree) (e : List Elem) → IsAddend b t e → HasAdding t
    addend-adding (variable n) e h = tt
    addend-adding (integer z) e h = tt
    addend-adding (constructed ty n) e h = tt
    addend-adding (application s ts) e h = plain-adding (application s ts) h.term
    addend-adding (summation ss) e h = addends-adding ss e h
    addend-adding (product ts) e (inl h) = plain-adding (product ts) h.term
    addend-adding (product ts) e (inr h) = factors-adding ts e h
    addend-adding (aggregate k bs f t) e h = h.0

    pub addends-adding : (ss : SummandTrees) (e : List Elem) → AreGroundAddends b ss e → OperandsHaveAdding ss
    addends-adding no_summands e h = tt
    addends-adding (more_summands minus t ss) e h = (addend-adding t e h.0, addends-adding ss e h.1)

    factors-adding : (ts : TermTrees) (e : List Elem) → IsOneAddend b ts e → HaveAdding ts
    factors-adding no_terms e h = absurd h
    factors-adding (more_terms t ts) e (inl h) = (addend-adding t e h.0, plain-addings ts (all-ground ts h.1))
    factors-adding (more_terms t ts) e (inr h) = (plain-adding t (signed-ground t h.0), factors-adding ts e h.1)

  pub side-rows-fit : (other : Bool) (t : TermTree) (scope : List ℕ) (e : List Elem) → HasTypes b.domains scope e
      → IsGroundSide b other t e → TermIsBounded b.vocabulary b.domains t scope → RowsFit b t e
  side-rows-fit other (variable n) scope e types h k = tt
  side-rows-fit other (integer z) scope e types h k = tt
  side-rows-fit other (constructed ty n) scope e types h k = tt
  side-rows-fit other (application s ts) scope e types h k =
      small-rows-fit b (application s ts) scope e types (plain-adding (application s ts) h.term) k
  side-rows-fit other (summation ss) scope e types h k =
      small-rows-fit b (summation ss) scope e types (addends-adding ss e h) k
  side-rows-fit other (product ts) scope e types h k =
      small-rows-fit b (product ts) scope e types (addend-adding (product ts) e h) k
  side-rows-fit other (aggregate n bs f t) scope e types h k = tt

  -- the instances of an aggregate, and the rows of their weights
  aggregate-instances : (bs : List Bound) (f : FormulaTree) (t : TermTree) (scope : List ℕ) (e : List Elem)
      → HasTypes b.domains scope e → AllByRecursion (λ a. IsGroundForm b f (e ++ a)) (choices b.domains bs)
      → AllByRecursion (λ a. IsNumberTerm b t (e ++ a)) (choices b.domains bs)
      → TermIsBounded b.vocabulary b.domains t (scope ++ types_of bs)
      → ((a : List Elem) → HasTypes b.domains (scope ++ types_of bs) (e ++ a) → IsGroundForm b f (e ++ a)
      → IsGroundable b f (e ++ a))
      → AllByRecursion (λ a. IsGroundable b f (e ++ a) × RowsFit b t (e ++ a)) (choices b.domains bs)
  aggregate-instances bs f t scope e types forms numbers bounded each =
      both-each (λ a. IsGroundable b f (e ++ a)) (λ a. RowsFit b t (e ++ a)) (choices b.domains bs)
      (each-has (λ a. IsGroundForm b f (e ++ a)) (λ a. IsGroundable b f (e ++ a)) (choices b.domains bs)
      (λ a m one. each a (choice-types b.domains scope bs e a types m) one) forms)
      (each-has (λ a. IsNumberTerm b t (e ++ a)) (λ a. RowsFit b t (e ++ a)) (choices b.domains bs)
      (λ a m one. small-rows-fit b t (scope ++ types_of bs) (e ++ a) (choice-types b.domains scope bs e a types m)
      (plain-adding t one.term) bounded) numbers)

  -- ---- formulas

  mutual
    pub groundable : (f : FormulaTree) (scope : List ℕ) (e : List Elem) → HasTypes b.domains scope e
        → IsGroundForm b f e → IsBounded b.vocabulary b.domains f scope → IsGroundable b f e
    groundable verum scope e types h k = tt
    groundable falsum scope e types h k = tt
    groundable (atom s ts) scope e types h k =
        (h.0, small-tuple-rows-fit b ts scope e types (plain-addings ts h.1) k)
    groundable (comparison c x y) scope e types (inl h) k = (
      small-rows-fit b x scope e types (plain-adding x h.0) k.0,
      small-rows-fit b y scope e types (plain-adding y h.1) k.1,
      plain-instances x e h.0,
      plain-instances y e h.1,
    )
    groundable (comparison c x y) scope e types (inr h) k = (
      side-rows-fit (has_aggregate y) x scope e types h.1 k.0,
      side-rows-fit (has_aggregate x) y scope e types h.2 k.1,
      side-instances (has_aggregate y) x scope e types h.1 k.0,
      side-instances (has_aggregate x) y scope e types h.2 k.1,
    )
    groundable (negation f) scope e types h k = groundable f scope e types h k
    groundable (conjunction fs) scope e types h k = groundables fs scope e types h k
    groundable (disjunction fs) scope e types h k = groundables fs scope e types h k
    groundable (implication f g) scope e types h k =
        (groundable f scope e types h.0 k.0, groundable g scope e types h.1 k.1)
    groundable (equivalence f g) scope e types h k =
        (groundable f scope e types h.0 k.0, groundable g scope e types h.1 k.1)
    groundable (universal bs f) scope e types h k =
        each-has (λ a. IsGroundForm b f (e ++ a)) (λ a. IsGroundable b f (e ++ a)) (choices b.domains bs)
        (λ a m one. groundable f (scope ++ types_of bs) (e ++ a) (choice-types b.domains scope bs e a types m) one k) h
    groundable (existential bs f) scope e types h k =
        each-has (λ a. IsGroundForm b f (e ++ a)) (λ a. IsGroundable b f (e ++ a)) (choices b.domains bs)
        (λ a m one. groundable f (scope ++ types_of bs) (e ++ a) (choice-types b.domains scope bs e a types m) one k) h
    groundable (numbered c n bs f) scope e types h k =
        each-has (λ a. IsGroundForm b f (e ++ a)) (λ a. IsGroundable b f (e ++ a)) (choices b.domains bs)
        (λ a m one. groundable f (scope ++ types_of bs) (e ++ a) (choice-types b.domains scope bs e a types m) one k) h

    groundables : (fs : FormulaTrees) (scope : List ℕ) (e : List Elem) → HasTypes b.domains scope e
        → AreGroundForms b fs e → AreBounded b.vocabulary b.domains fs scope → AreGroundable b fs e
    groundables no_formulas scope e types h k = tt
    groundables (more_formulas f fs) scope e types h k =
        (groundable f scope e types h.0 k.0, groundables fs scope e types h.1 k.1)

    pub side-instances : (other : Bool) (t : TermTree) (scope : List ℕ) (e : List Elem) → HasTypes b.domains scope e
        → IsGroundSide b other t e → TermIsBounded b.vocabulary b.domains t scope → AreInstancesGroundable b t e
    side-instances other (variable n) scope e types h k = tt
    side-instances other (integer z) scope e types h k = tt
    side-instances other (constructed ty n) scope e types h k = tt
    side-instances other (application s ts) scope e types h k = tt
    side-instances other (summation ss) scope e types h k = addends-instances ss scope e types h k.1
    side-instances other (product ts) scope e types (inl h) k = plain-instances (product ts) e h.term
    side-instances other (product ts) scope e types (inr h) k = factors-instances ts scope e types h k.1
    side-instances other (aggregate n bs f t) scope e types h k =
        aggregate-instances bs f t scope e types h.1 h.2 k.2
        (λ a inner one. groundable f (scope ++ types_of bs) (e ++ a) inner one k.1)

    addend-instances : (t : TermTree) (scope : List ℕ) (e : List Elem) → HasTypes b.domains scope e
        → IsAddend b t e → TermIsBounded b.vocabulary b.domains t scope → AreInstancesGroundable b t e
    addend-instances (variable n) scope e types h k = tt
    addend-instances (integer z) scope e types h k = tt
    addend-instances (constructed ty n) scope e types h k = tt
    addend-instances (application s ts) scope e types h k = tt
    addend-instances (summation ss) scope e types h k = addends-instances ss scope e types h k.1
    addend-instances (product ts) scope e types (inl h) k = plain-instances (product ts) e h.term
    addend-instances (product ts) scope e types (inr h) k = factors-instances ts scope e types h k.1
    addend-instances (aggregate n bs f t) scope e types h k =
        aggregate-instances bs f t scope e types h.1 h.2 k.2
        (λ a inner one. groundable f (scope ++ types_of bs) (e ++ a) inner one k.1)

    addends-instances : (ss : SummandTrees) (scope : List ℕ) (e : List Elem) → HasTypes b.domains scope e
        → AreGroundAddends b ss e → SummandsAreBounded b.vocabulary b.domains ss scope → AreSummandsGroundable b ss e
    addends-instances no_summands scope e types h k = tt
    addends-instances (more_summands minus t ss) scope e types h k =
        (addend-instances t scope e types h.0 k.0, addends-instances ss scope e types h.1 k.1)

    factors-instances : (ts : TermTrees) (scope : List ℕ) (e : List Elem) → HasTypes b.domains scope e
        → IsOneAddend b ts e → TermsAreBounded b.vocabulary b.domains ts scope → AreFactorsGroundable b ts e
    factors-instances no_terms scope e types h k = absurd h
    factors-instances (more_terms t ts) scope e types (inl h) k =
        (addend-instances t scope e types h.0 k.0, plain-factor-instances ts e (all-ground ts h.1))
    factors-instances (more_terms t ts) scope e types (inr h) k =
        (plain-instances t e (signed-ground t h.0), factors-instances ts scope e types h.1 k.1)

pub sentences-groundable : (b : GroundBase) (fs : List FormulaTree) → AllByRecursion (λ f. IsGroundForm b f []) fs
    → AllByRecursion (λ f. IsBounded b.vocabulary b.domains f []) fs → AllByRecursion (λ f. IsGroundable b f []) fs
sentences-groundable b [] h k = tt
sentences-groundable b (f ∷ fs) h k = (groundable b f [] [] tt h.0 k.0, sentences-groundable b fs h.1 k.1)

-- data know of each atom whether it is known
pub knows-atoms : (v : Vocabulary) (k : KnownAtoms) → KnowsAtoms (base_of_data v k)
knows-atoms v k =
    length-map (atoms_over v.symbols k.domains) (λ a. known_truth (value_at k a))
    ∙ sym (atoms-length v.symbols k.domains)
