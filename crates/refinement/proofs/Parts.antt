-- The instances of a sentence.
use Rattle.std.proofs.Common.{◌≡◌, ◌<◌, ℕ, List, [], ◌∷◌, ◌++◌, length, get_or, Bool, true}
use Rattle.std.proofs.Common.{sym, ap, ◌∙◌, subst, append_assoc}
use Rattle.std.specs.List.{AllByRecursion, Contains}
use Rattle.std.proofs.lemmas.List.{append-nil}
use Rattle.std.proofs.lemmas.Option.{get_or_from_slice_get, slice_get-get_or}
use Rattle.kb_logic.specs.declared.elements.Elem.{Elem}
use Rattle.kb_logic.specs.declared.vocabularies.Bound.{Bound}
use Rattle.kb_logic.specs.declared.vocabularies.Symbol.{Symbol}
use Rattle.kb_logic.specs.Trees.{FormulaTree, universal}
use Rattle.kb_logic.specs.Structures.{choices}
use Rattle.kb_logic.specs.KnownAtoms.{KnownAtoms}
use Rattle.kb_logic.proofs.Members.{all_in, in_all}
use Rattle.kb_logic.proofs.Pairs.{pairs}
use Rattle.kb_logic.proofs.Assignments.{joined}
use Rattle.partial_structures.specs.Consistency.{KnowsMore}
use Rattle.bound_laws.specs.Closures.{Obeys}
use Rattle.quantifier_bounds.specs.Fits.{Fits}
use Rattle.quantifier_bounds.proofs.Lasts.{all_also}
use Rattle.quantifier_bounds.proofs.Orders.{ordered, all_ordered}
use Rattle.quantifier_bounds.proofs.Turns.{to_front}
use Rattle.refinement.specs.Following.{ObeysSentences, SentencesFit, IsPart, AreParts}

pub got_member : {X : Type 0} (xs : List X) (i : ℕ) (d : X) → i < length xs → Contains xs (get_or xs i d)
got_member xs i d lt = (i, lt, get_or_from_slice_get xs i (get_or xs i d) (get_or xs i d) (slice_get-get_or xs i d lt))

module _ (s : List Symbol) (d : List (List Elem)) (fs : List FormulaTree) where
  -- a sentence is a part
  pub sentence_part : (f : FormulaTree) → SentencesFit s d fs → Contains fs f → IsPart s d fs f []
  sentence_part f fit at = record {
    fits = all_in (λ g. Fits s d g []) fs fit f at;
    obeyed = λ q is w. all_in (λ g. Obeys q true g []) fs w f at;
  }

  one_fits : (bs : List Bound) (f : FormulaTree) (e a : List Elem) → Fits s d (universal bs f) e
      → Contains (choices d bs) a → Fits s d f (e ++ a)
  one_fits bs f e a h at = all_in (λ b. Fits s d f (e ++ b)) (choices d bs) h a at

  one_obeyed : (q : KnownAtoms) (bs : List Bound) (f : FormulaTree) (e a : List Elem) → q.domains ≡ d
      → Obeys q true (universal bs f) e → Contains (choices d bs) a → Obeys q true f (e ++ a)
  one_obeyed q bs f e a is h at = all_in (λ b. Obeys q true f (e ++ b)) (choices d bs)
      (subst (λ ds. AllByRecursion (λ b. Obeys q true f (e ++ b)) (choices ds bs)) is h) a at

  -- and so are its instances
  pub instance_parts : (bs : List Bound) (f : FormulaTree) (e : List Elem) → IsPart s d fs (universal bs f) e
      → AreParts s d fs f bs e
  instance_parts bs f e p = in_all (λ a. IsPart s d fs f (e ++ a)) (choices d bs) (λ a at. record {
    fits = one_fits bs f e a p.fits at;
    obeyed = λ q is w. one_obeyed q bs f e a is (p.obeyed q is w) at;
  })

  -- the instance of no variables
  pub last_part : (bs : List Bound) (f : FormulaTree) (e : List Elem) → bs ≡ [] → AreParts s d fs f bs e
      → IsPart s d fs f e
  last_part bs f e is h =
      subst (IsPart s d fs f) (append-nil e) (subst (λ cs. AreParts s d fs f cs e) is h).0

  pub part_fits : (k : KnownAtoms) (f : FormulaTree) (e : List Elem) → s ≡ k.symbols → d ≡ k.domains
      → IsPart s d fs f e → Fits k.symbols k.domains f e
  part_fits k f e ss ds p = subst (λ x. Fits k.symbols x f e) ds (subst (λ x. Fits x d f e) ss p.fits)

  pub part_obeyed : (k : KnownAtoms) (f : FormulaTree) (e : List Elem) → d ≡ k.domains → IsPart s d fs f e
      → (q : KnownAtoms) → KnowsMore k q → ObeysSentences fs q → Obeys q true f e
  part_obeyed k f e ds p q m w = p.obeyed q (m.domains ∙ sym ds) w

-- ---- what is left of the instances

module _ (f : FormulaTree) (e : List Elem) where
  abbrev pub Instances : List (List Elem) → KnownAtoms → Type 0
  Instances xs q = AllByRecursion (λ a. Obeys q true f (e ++ a)) xs

  -- those that begin with this
  abbrev pub Block : List (List Elem) → KnownAtoms → List Elem → Type 0
  Block others q a = AllByRecursion (λ b. Obeys q true f (e ++ (a ++ b))) others

  -- those that begin with each of these
  abbrev pub Blocks : List (List Elem) → List (List Elem) → KnownAtoms → Type 0
  Blocks others xs q = AllByRecursion (Block others q) xs

  pub blocks_all : (falling : Bool) (all others these : List (List Elem)) (q : KnownAtoms)
      → all ≡ pairs joined others these → Blocks others (ordered falling these) q → Instances all q
  blocks_all falling all others these q is h = subst (λ xs. Instances xs q) (sym is)
      (to_front (λ a. Obeys q true f (e ++ a)) others these (all_ordered (Block others q) falling these h))

  pub blocks_join : (others xs next : List (List Elem)) (a inner : List Elem) (q : KnownAtoms) → xs ≡ a ∷ next
      → inner ≡ e ++ a → AllByRecursion (λ b. Obeys q true f (inner ++ b)) others → Blocks others next q
      → Blocks others xs q
  blocks_join others xs next a inner q is begins h n = subst (λ ys. Blocks others ys q) (sym is) (
    all_also (λ b o. subst (λ u. Obeys q true f u) (ap (λ u. u ++ b) begins ∙ append_assoc e a b) o) others h,
    n,
  )

pub one_instance : (d : List (List Elem)) (bs : List Bound) (f : FormulaTree) (e : List Elem) (q : KnownAtoms)
    → bs ≡ [] → Obeys q true f e → AllByRecursion (λ a. Obeys q true f (e ++ a)) (choices d bs)
one_instance d bs f e q is h = subst (λ cs. AllByRecursion (λ a. Obeys q true f (e ++ a)) (choices d cs)) (sym is)
    (subst (λ u. Obeys q true f u) (sym (append-nil e)) h, tt)
