-- What is certain of a formula and its open occurrences, from those of its parts.
use Rattle.std.proofs.Common.{◌≡◌, ℕ, ◌+◌, true, false, if◌then◌else◌, Bool, List, refl, sym, ap, ◌∙◌, arith, rules}
use Rattle.std.specs.declared.alloc.Global.{Global}
use Rattle.std.specs.declared.boxed.Box.{Box}
use Rattle.kb_logic.specs.declared.syntax.Formula.{Formula, Iff, the_lemmas}
use Rattle.kb_logic.specs.Views.{formula_view}
use Rattle.kb_logic.specs.declared.elements.Elem.{Elem}
use Rattle.kb_logic.specs.declared.vocabularies.Vocabulary.{Vocabulary}
use Rattle.kb_logic.specs.KnownAtoms.{KnownAtoms}
use Rattle.kb_logic.specs.Trees.{FormulaTree, verum, falsum, atom, comparison, negation, conjunction, disjunction}
use Rattle.kb_logic.specs.Trees.{implication, equivalence, universal, existential, numbered}
use Rattle.partial_structures.specs.declared.truths.Truth.{Truth}
use Rattle.partial_structures.specs.declared.truths.Truth.TheVariants as truth
use Rattle.certain_truth.specs.Certainty.{certain_truth, truth_if}
use Rattle.certain_truth.specs.Evaluation.{joined, settles}
use Rattle.certain_truth.proofs.Connected.{joined_unit, settled_stays}
use Rattle.quantifier_bounds.specs.Steps.{is_unknown}
use Rattle.stage_definitions.specs.SizesStage.{capped}
use Rattle.open_sizes.specs.declared.connectives.Joining.{Joining}
use Rattle.open_sizes.specs.declared.connectives.Joining.TheVariants.{Conjunction, Disjunction, Survey}
use Rattle.open_sizes.specs.declared.weighed.Weighed.{Weighed}
use Rattle.open_sizes.specs.OpenWeights.{open_occurrences, where_open}
use Rattle.open_sizes.specs.Weighings.{is_all, is_over, IsWeighed}

hidden : (t : Truth) (n : ℕ) → is_unknown t ≡ false → where_open t n ≡ 0
hidden t n h = ap (λ b. if b then n else 0) h

-- of what is certain nothing is open
pub nothing_open : (v : Vocabulary) (k : KnownAtoms) (f : FormulaTree) (e : List Elem)
    → is_unknown (certain_truth k f e) ≡ false → open_occurrences v k f e ≡ 0
nothing_open v k verum e h = refl
nothing_open v k falsum e h = refl
nothing_open v k (atom s ts) e h = hidden (certain_truth k (atom s ts) e) _ h
nothing_open v k (comparison c a b) e h = hidden (certain_truth k (comparison c a b) e) _ h
nothing_open v k (negation f) e h = hidden (certain_truth k (negation f) e) _ h
nothing_open v k (conjunction fs) e h = hidden (certain_truth k (conjunction fs) e) _ h
nothing_open v k (disjunction fs) e h = hidden (certain_truth k (disjunction fs) e) _ h
nothing_open v k (implication f g) e h = hidden (certain_truth k (implication f g) e) _ h
nothing_open v k (equivalence f g) e h = hidden (certain_truth k (equivalence f g) e) _ h
nothing_open v k (universal bs f) e h = hidden (certain_truth k (universal bs f) e) _ h
nothing_open v k (existential bs f) e h = hidden (certain_truth k (existential bs f) e) _ h
nothing_open v k (numbered c n bs f) e h = hidden (certain_truth k (numbered c n bs f) e) _ h

where_capped : (t : Truth) (n m : ℕ) → (is_unknown t ≡ true → n ≡ capped m)
    → where_open t n ≡ capped (where_open t m)
where_capped truth.Yes n m h = refl
where_capped truth.No n m h = refl
where_capped truth.Unknown n m h = h refl

certainly : (b : Bool) → is_unknown (truth_if b) ≡ false
certainly true = refl
certainly false = refl

module _ (v : Vocabulary) (k : KnownAtoms) (f : FormulaTree) (e : List Elem) where
  -- what counts so much where it is open
  pub is_weighed : (m : ℕ) (t : Truth) (n : ℕ) (w : Weighed)
      → open_occurrences v k f e ≡ where_open (certain_truth k f e) m → t ≡ certain_truth k f e
      → (is_unknown t ≡ true → n ≡ capped m) → w.truth ≡ t → w.count ≡ where_open t n → IsWeighed v k f e w
  is_weighed m t n w opened is counted same open' = record {
    truth = same ∙ is;
    count =
        open' ∙ (where_capped t n m counted ∙ (ap (λ u. capped (where_open u m)) is ∙ ap capped (sym opened)));
  }

  pub is_open_weighed : (m : ℕ) (t : Truth) (n : ℕ) (w : Weighed)
      → open_occurrences v k f e ≡ where_open (certain_truth k f e) m → t ≡ certain_truth k f e
      → is_unknown t ≡ true → n ≡ capped m → w.truth ≡ t → w.count ≡ n → IsWeighed v k f e w
  is_open_weighed m t n w opened is unknown counted same count =
      is_weighed m t n w opened is (λ u. counted) same (count ∙ sym (ap (λ b. if b then n else 0) unknown))

  pub is_where_weighed : (m : ℕ) (t : Truth) (w : Weighed)
      → open_occurrences v k f e ≡ where_open (certain_truth k f e) m → t ≡ certain_truth k f e
      → w.truth ≡ t → w.count ≡ capped (where_open t m) → IsWeighed v k f e w
  is_where_weighed m t w opened is same count = record {
    truth = same ∙ is;
    count = count ∙ (ap (λ u. capped (where_open u m)) is ∙ ap capped (sym opened));
  }

  pub is_certain : (w : Weighed) → w.truth ≡ certain_truth k f e → is_unknown w.truth ≡ false → w.count ≡ 0
      → IsWeighed v k f e w
  is_certain w is sure none = record {
    truth = is;
    count = none ∙ ap capped (sym (nothing_open v k f e (sym (ap is_unknown is) ∙ sure)));
  }

  -- what is ruled out changes neither what is certain of others, nor how much of them is open
  pub passed_truth : (all : Bool) (t : Truth) → certain_truth k f e ≡ truth_if all
      → joined all t (certain_truth k f e) ≡ t
  passed_truth all t is = ap (joined all t) is ∙ joined_unit all t

  pub passed_open : (all : Bool) (n : ℕ) → n ≡ capped n → certain_truth k f e ≡ truth_if all
      → capped (n + open_occurrences v k f e) ≡ n
  passed_open all n small is =
      let none = nothing_open v k f e (ap is_unknown is ∙ certainly all) in
      ap (λ m. capped (n + m)) none ∙ (let plain : n + 0 ≡ n = omega arith in ap capped plain ∙ sym small)

-- ---- where no more is looked at
pub over_settles : (joining : Joining) (t : Truth) → is_over joining t ≡ true → settles (is_all joining) t ≡ true
over_settles Conjunction t h = h
over_settles Disjunction t h = h
over_settles Survey t h = cc

pub over_stays : (joining : Joining) (t u : Truth) → is_over joining t ≡ true → joined (is_all joining) t u ≡ t
over_stays joining t u h = settled_stays (is_all joining) t u (over_settles joining t h)

-- what is open is not over
pub open_goes_on : (joining : Joining) (t : Truth) → is_unknown t ≡ true → is_over joining t ≡ false
open_goes_on Conjunction truth.Yes h = cc
open_goes_on Conjunction truth.No h = cc
open_goes_on Conjunction truth.Unknown h = refl
open_goes_on Disjunction truth.Yes h = cc
open_goes_on Disjunction truth.No h = cc
open_goes_on Disjunction truth.Unknown h = refl
open_goes_on Survey t h = refl

-- each of the two happens
pub not_both : (P : Type 0) (b : Bool) → b ≡ true → b ≡ false → P
not_both P true h g = cc
not_both P false h g = cc

pub formula_view-Iff : (f g : Box Formula Global)
    → formula_view (Iff f g) ≡ equivalence (formula_view f.value) (formula_view g.value)
formula_view-Iff f g = search (rules, the_lemmas)
