-- The loop that seeks the last open one of several formulas.
use Rattle.std.proofs.Common.{◌≡◌, ℕ, zero, suc, ◌<◌, length, slice_index_or, arith, List, [], ◌∷◌, ◌++◌, Bool, true}
use Rattle.std.proofs.Common.{false, ◌&&◌, ◌||◌, not, Option, None, Some, is_some, refl, sym, ap, ◌∙◌, subst}
use Rattle.std.specs.Option.{option_map}
use Rattle.std.specs.List.{AllByRecursion}
use Rattle.std.proofs.lemmas.Bool.{true≢false, and_parts, and_from}
use Rattle.kb_logic.specs.declared.elements.Elem.{Elem}
use Rattle.kb_logic.specs.declared.vocabularies.Symbol.{Symbol}
use Rattle.kb_logic.specs.Trees.{FormulaTree, verum, falsum, atom, comparison, negation, conjunction, disjunction}
use Rattle.kb_logic.specs.Trees.{implication, equivalence, universal, existential, numbered}
use Rattle.kb_logic.specs.Trees.{FormulaTrees, no_formulas, more_formulas}
use Rattle.kb_logic.specs.Structures.{choices}
use Rattle.kb_logic.specs.KnownAtoms.{KnownAtoms}
use Rattle.partial_structures.specs.Consistency.{IsConsistent, IsListed, KnowsMore}
use Rattle.partial_structures.specs.declared.truths.Truth.{Truth}
use Rattle.partial_structures.specs.declared.truths.Truth.TheVariants.{Yes, No, Unknown}
use Rattle.certain_truth.specs.Certainty.{certain_truth}
use Rattle.certain_truth.specs.KnownArithmetic.{CertaintyFits, PartsFit}
use Rattle.certain_truth.proofs.Monotony.{certainty_is_monotone}
use Rattle.bound_laws.specs.Closures.{opposes, all_oppose, Obeys, LastObeys}
use Rattle.quantifier_bounds.specs.Fits.{Fits, AllFit}

pub all_also : {X : Type 0} {P Q : X → Type 0} → ((x : X) → P x → Q x) → (xs : List X) → AllByRecursion P xs
    → AllByRecursion Q xs
all_also go [] h = tt
all_also go (x ∷ xs) h = (go x h.0, all_also go xs h.1)

module _ (s : List Symbol) (d : List (List Elem)) (k : KnownAtoms) (c : IsConsistent k) (ss : k.symbols ≡ s)
    (dd : k.domains ≡ d) where
  mutual
    pub fits_now : (f : FormulaTree) (e : List Elem) → Fits s d f e → CertaintyFits k f e
    fits_now verum e h = tt
    fits_now falsum e h = tt
    fits_now (atom n ts) e h = h k c ss dd
    fits_now (comparison o a b) e h = (h.0 k c ss dd, h.1 k c ss dd)
    fits_now (negation f) e h = fits_now f e h
    fits_now (conjunction fs) e h = all_fit fs e h
    fits_now (disjunction fs) e h = all_fit fs e h
    fits_now (implication f g) e h = (fits_now f e h.0, fits_now g e h.1)
    fits_now (equivalence f g) e h = (fits_now f e h.0, fits_now g e h.1)
    fits_now (universal bs f) e h = subst (λ ds. AllByRecursion (λ a. CertaintyFits k f (e ++ a)) (choices ds bs))
        (sym dd)
        (all_also (λ a. fits_now f (e ++ a)) (choices d bs) h)
    fits_now (existential bs f) e h = subst (λ ds. AllByRecursion (λ a. CertaintyFits k f (e ++ a)) (choices ds bs))
        (sym dd)
        (all_also (λ a. fits_now f (e ++ a)) (choices d bs) h)
    fits_now (numbered o n bs f) e h = subst (λ ds. AllByRecursion (λ a. CertaintyFits k f (e ++ a)) (choices ds bs))
        (sym dd)
        (all_also (λ a. fits_now f (e ++ a)) (choices d bs) h)

    all_fit : (fs : FormulaTrees) (e : List Elem) → AllFit s d fs e → PartsFit k fs e
    all_fit no_formulas e h = tt
    all_fit (more_formulas f fs) e h = (fits_now f e h.0, all_fit fs e h.1)

-- none of those before is left
pub record NoneLeft (k : KnownAtoms) (v : Bool) (whole rest : FormulaTrees) (e : List Elem) : Type 0 where
  pub left : (q : KnownAtoms) → IsConsistent q → IsListed q → KnowsMore k q → LastObeys q v whole e false
      → LastObeys q v rest e false
  pub done : LastObeys k v rest e false → LastObeys k v whole e false

-- this one alone is
pub record OneLeft (k : KnownAtoms) (v : Bool) (whole rest : FormulaTrees) (f : FormulaTree) (e : List Elem) : Type 0
  where
    pub forced : (q : KnownAtoms) → IsConsistent q → IsListed q → KnowsMore k q → LastObeys q v whole e false
        → all_oppose k v rest e ≡ true → Obeys q v f e
    pub one : Obeys k v f e → all_oppose k v rest e ≡ true → LastObeys k v whole e false
    pub two : all_oppose k v rest e ≡ false → LastObeys k v whole e false

abbrev pub Left : KnownAtoms → Bool → FormulaTrees → FormulaTrees → Option FormulaTree → List Elem → Type 0
Left k v whole rest None e = NoneLeft k v whole rest e
Left k v whole rest (Some f) e = OneLeft k v whole rest f e

lost_by : (v : Bool) (t u : Truth) → (t ≡ Yes → u ≡ Yes) → (t ≡ No → u ≡ No) → opposes v t ≡ true → opposes v u ≡ true
lost_by true Yes u y n h = absurd (cc)
lost_by true No u y n h = ap (opposes true) (n refl)
lost_by true Unknown u y n h = absurd (cc)
lost_by false Yes u y n h = ap (opposes false) (y refl)
lost_by false No u y n h = absurd (cc)
lost_by false Unknown u y n h = absurd (cc)

pub still_lost : (k q : KnownAtoms) → IsConsistent q → KnowsMore k q → (v : Bool) (f : FormulaTree) (e : List Elem)
    → opposes v (certain_truth k f e) ≡ true → opposes v (certain_truth q f e) ≡ true
still_lost k q c more v f e h =
    let m = (certainty_is_monotone k q c more).0 f e in lost_by v (certain_truth k f e) (certain_truth q f e) m.0 m.1 h

all_still : (k q : KnownAtoms) → IsConsistent q → KnowsMore k q → (v : Bool) (fs : FormulaTrees) (e : List Elem)
    → all_oppose k v fs e ≡ true → all_oppose q v fs e ≡ true
all_still k q c more v no_formulas e h = refl
all_still k q c more v (more_formulas f fs) e h =
    let b = and_parts (opposes v (certain_truth k f e)) (all_oppose k v fs e) h in
    and_from (opposes v (certain_truth q f e)) (all_oppose q v fs e) (still_lost k q c more v f e b.0)
    (all_still k q c more v fs e b.1)

last_true : (k : KnownAtoms) (v : Bool) (fs : FormulaTrees) (e : List Elem) (left : Bool) → left ≡ true
    → LastObeys k v fs e left
last_true k v no_formulas e left h = h
last_true k v (more_formulas f fs) e left h = (
  λ none lost. absurd (true≢false (sym h ∙ none)),
  last_true k v fs e (left || not (opposes v (certain_truth k f e)))
      (ap (λ b. b || not (opposes v (certain_truth k f e))) h),
)

none_left : (k : KnownAtoms) (v : Bool) (fs : FormulaTrees) (e : List Elem) (left : Bool) → left ≡ false
    → LastObeys k v fs e left
    → all_oppose k v fs e ≡ true → ⊥
none_left k v no_formulas e left n h lost = true≢false (sym h ∙ n)
none_left k v (more_formulas f fs) e left n h lost =
    let b = and_parts (opposes v (certain_truth k f e)) (all_oppose k v fs e) lost in
    none_left k v fs e (left || not (opposes v (certain_truth k f e)))
    (ap (λ x. x || not (opposes v (certain_truth k f e))) n ∙ ap not b.0) h.1 b.1

pub lost_on : (k : KnownAtoms) (v : Bool) (whole rest next : FormulaTrees) (f : FormulaTree) (e : List Elem)
    → rest ≡ more_formulas f next → opposes v (certain_truth k f e) ≡ true → NoneLeft k v whole rest e
    → NoneLeft k v whole next e
lost_on k v whole rest next f e is lost s = record {
  left = λ q c l more h.
      let g = (subst (λ r. LastObeys q v r e false) is (s.left q c l more h)).1 in
      subst (λ b. LastObeys q v next e (not b)) (still_lost k q c more v f e lost) g;
  done = λ h. s.done (subst (λ r. LastObeys k v r e false) (sym is) (
    λ none all. absurd (none_left k v next e false refl h all),
    subst (λ b. LastObeys k v next e (not b)) (sym lost) h,
  ));
}

pub first_left : (k : KnownAtoms) (v : Bool) (whole rest next : FormulaTrees) (f : FormulaTree) (e : List Elem)
    → rest ≡ more_formulas f next → opposes v (certain_truth k f e) ≡ false → NoneLeft k v whole rest e
    → OneLeft k v whole next f e
first_left k v whole rest next f e is unlost s =
    let after = last_true k v next e (not (opposes v (certain_truth k f e))) (ap not unlost) in
    record {
      forced = λ q c l more h all. (subst (λ r. LastObeys q v r e false) is (s.left q c l more h)).0 refl
          (all_still k q c more v next e all);
      one = λ h all. s.done (subst (λ r. LastObeys k v r e false) (sym is) (λ none lost. h, after));
      two = λ some. s.done (subst (λ r. LastObeys k v r e false) (sym is)
          (λ none all. absurd (true≢false (sym all ∙ some)), after));
    }

same_all : (k : KnownAtoms) (v : Bool) (rest next : FormulaTrees) (f : FormulaTree) (e : List Elem) (b : Bool)
    → rest ≡ more_formulas f next → opposes v (certain_truth k f e) ≡ b
    → all_oppose k v rest e ≡ (b && all_oppose k v next e)
same_all k v rest next f e b is h = ap (λ r. all_oppose k v r e) is ∙ ap (λ x. x && all_oppose k v next e) h

pub lost_after : (k : KnownAtoms) (v : Bool) (whole rest next : FormulaTrees) (f g : FormulaTree) (e : List Elem)
    → rest ≡ more_formulas g next → opposes v (certain_truth k g e) ≡ true → OneLeft k v whole rest f e
    → OneLeft k v whole next f e
lost_after k v whole rest next f g e is lost s =
    let same = same_all k v rest next g e true is lost in
    record {
      forced = λ q c l more h all. s.forced q c l more h (same ∙ all);
      one = λ h all. s.one h (same ∙ all);
      two = λ some. s.two (same ∙ some);
    }

pub second_left : (k : KnownAtoms) (v : Bool) (whole rest next : FormulaTrees) (f g : FormulaTree) (e : List Elem)
    → rest ≡ more_formulas g next → opposes v (certain_truth k g e) ≡ false → OneLeft k v whole rest f e
    → LastObeys k v whole e false
second_left k v whole rest next f g e is unlost s = s.two (same_all k v rest next g e false is unlost)

pub lost_turn : (k : KnownAtoms) (v : Bool) (whole rest next : FormulaTrees) (o : Option FormulaTree) (g : FormulaTree)
    (e : List Elem)
    → rest ≡ more_formulas g next → opposes v (certain_truth k g e) ≡ true → Left k v whole rest o e
    → Left k v whole next o e
lost_turn k v whole rest next None g e is lost s = lost_on k v whole rest next g e is lost s
lost_turn k v whole rest next (Some f) g e is lost s = lost_after k v whole rest next f g e is lost s

pub same_default : {X : Type 0} (xs : List X) (i : ℕ) (d e : X) → i < length xs
    → slice_index_or xs i d ≡ slice_index_or xs i e
same_default [] i d e h = absurd (omega (arith, h))
same_default (x ∷ xs) zero d e h = refl
same_default (x ∷ xs) (suc i) d e h = same_default xs i d e (omega (arith, h))

pub first_turn : (k : KnownAtoms) (v : Bool) (whole rest next : FormulaTrees) (o : Option FormulaTree)
    (g : FormulaTree) (e : List Elem)
    → o ≡ None → rest ≡ more_formulas g next → opposes v (certain_truth k g e) ≡ false → Left k v whole rest o e
    → OneLeft k v whole next g e
first_turn k v whole rest next o g e none is unlost s =
    first_left k v whole rest next g e is unlost (subst (λ p. Left k v whole rest p e) none s)

pub none_of : {X Y : Type 0} (f : X → Y) (o : Option X) → is_some o ≡ false → option_map f o ≡ None
none_of f None h = refl
none_of f (Some x) h = absurd (cc)
