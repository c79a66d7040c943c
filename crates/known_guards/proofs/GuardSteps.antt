-- How parts settle a formula.
use Rattle.std.proofs.Common.{◌≡◌, ℕ, ◌<◌, ◌+◌, Bool, true, false, not, List, ◌∷◌, map, drop, length, get_or, Some}
use Rattle.std.proofs.Common.{refl, sym, ap, subst, ◌∙◌}
use Rattle.std.proofs.lemmas.List.{at_drop_more}
use Rattle.kb_logic.specs.declared.elements.Elem.{Elem}
use Rattle.kb_logic.specs.declared.syntax.Formula.{Formula}
use Rattle.kb_logic.specs.declared.syntax.Term.{Term}
use Rattle.kb_logic.specs.Trees.{FormulaTree, FormulaTrees, conjunction, disjunction, formulas_of, implication}
use Rattle.kb_logic.specs.Trees.{more_formulas, negation, terms_of}
use Rattle.kb_logic.specs.Views.{formula_view, term_view}
use Rattle.partial_structures.specs.KnownAtoms.{KnownAtoms}
use Rattle.partial_structures.specs.declared.truths.Truth.{Truth}
use Rattle.partial_structures.specs.declared.truths.Truth.TheVariants as truth
use Rattle.certain_truth.specs.Certainty.{certain_truth, either_certain, known_cons, known_values, not_certain}
use Rattle.certain_truth.specs.Certainty.{truth_if}
use Rattle.certain_truth.specs.Evaluation.{joined, parts_of}
use Rattle.certain_truth.proofs.Connected.{parts_more}
use Rattle.row_ranges.specs.Arguments.{argument_value}
use Rattle.known_guards.specs.declared.guards.Guard.{Guard}
use Rattle.known_guards.specs.Guards.{AreGuarded, ArePlain, IsGuarded, IsPlain, IsRuledOut}

-- what a formula settles that another one settles
pub guarded-by : (v w : Bool) (f h : FormulaTree) (g : Guard)
    → ((k : KnownAtoms) (e : List Elem) → IsRuledOut k w h e → IsRuledOut k v f e) → IsGuarded w h g → IsGuarded v f g
guarded-by v w f h g step is = record { plain = is.plain; guard = λ k e no. step k e (is.guard k e no) }

pub negated : (v : Bool) (f : FormulaTree) (k : KnownAtoms) (e : List Elem) → IsRuledOut k (not v) f e
    → IsRuledOut k v (negation f) e
negated true f k e h = ap not_certain h
negated false f k e h = ap not_certain h

pub implied : (f g : FormulaTree) (k : KnownAtoms) (e : List Elem) → IsRuledOut k false f e
    → IsRuledOut k true (implication f g) e
implied f g k e h = ap (λ t. either_certain (not_certain t) (certain_truth k g e)) h

either-yes : (t : Truth) → either_certain t truth.Yes ≡ truth.Yes
either-yes truth.Yes = refl
either-yes truth.No = refl
either-yes truth.Unknown = refl

pub following : (f g : FormulaTree) (k : KnownAtoms) (e : List Elem) → IsRuledOut k true g e
    → IsRuledOut k true (implication f g) e
following f g k e h =
    ap (either_certain (not_certain (certain_truth k f e))) h ∙ either-yes (not_certain (certain_truth k f e))

-- ---- several parts
joined-first : (v : Bool) (t : Truth) → joined (not v) (truth_if v) t ≡ truth_if v
joined-first true t = refl
joined-first false t = refl

joined-later : (v : Bool) (t : Truth) → joined (not v) t (truth_if v) ≡ truth_if v
joined-later true truth.Yes = refl
joined-later true truth.No = refl
joined-later true truth.Unknown = refl
joined-later false truth.Yes = refl
joined-later false truth.No = refl
joined-later false truth.Unknown = refl

first-part : (v : Bool) (f : FormulaTree) (fs : FormulaTrees) (g : Guard) → IsGuarded v f g
    → AreGuarded v (more_formulas f fs) g
first-part v f fs g is = record {
  plain = is.plain;
  guard = λ k e no.
      parts_more (not v) k f fs e
      ∙ (ap (λ t. joined (not v) t (parts_of (not v) k fs e)) (is.guard k e no)
      ∙ joined-first v (parts_of (not v) k fs e));
}

later-part : (v : Bool) (f : FormulaTree) (fs : FormulaTrees) (g : Guard) → AreGuarded v fs g
    → AreGuarded v (more_formulas f fs) g
later-part v f fs g are = record {
  plain = are.plain;
  guard = λ k e no.
      parts_more (not v) k f fs e
      ∙ (ap (joined (not v) (certain_truth k f e)) (are.guard k e no) ∙ joined-later v (certain_truth k f e));
}

pub part-found : (v : Bool) (fs : List Formula) (i : ℕ) (x : Formula) (g : Guard) → i < length fs → x ≡ get_or fs i x
    → IsGuarded v (formula_view x) g → AreGuarded v (formulas_of (map formula_view (drop i fs))) g
part-found v fs i x g h is found =
    subst (λ ys. AreGuarded v (formulas_of (map formula_view ys)) g)
    (sym (at_drop_more (λ ys. ys) fs i x h ∙ ap (λ y. y ∷ drop (i + 1) fs) (sym is)))
    (first-part v (formula_view x) (formulas_of (map formula_view (drop (i + 1) fs))) g found)

pub part-passed : (v : Bool) (fs : List Formula) (i : ℕ) (x : Formula) (g : Guard) → i < length fs → x ≡ get_or fs i x
    → AreGuarded v (formulas_of (map formula_view (drop (i + 1) fs))) g
    → AreGuarded v (formulas_of (map formula_view (drop i fs))) g
part-passed v fs i x g h is later =
    subst (λ ys. AreGuarded v (formulas_of (map formula_view ys)) g)
    (sym (at_drop_more (λ ys. ys) fs i x h ∙ ap (λ y. y ∷ drop (i + 1) fs) (sym is)))
    (later-part v (formula_view x) (formulas_of (map formula_view (drop (i + 1) fs))) g later)

pub all-parts : (fs : FormulaTrees) (g : Guard) → AreGuarded false fs g → IsGuarded false (conjunction fs) g
all-parts fs g are = record { plain = are.plain; guard = λ k e no. are.guard k e no }

pub any-part : (fs : FormulaTrees) (g : Guard) → AreGuarded true fs g → IsGuarded true (disjunction fs) g
any-part fs g are = record { plain = are.plain; guard = λ k e no. are.guard k e no }

-- ---- arguments
pub term-more : (ts : List Term) (i : ℕ) (x : Term) → i < length ts → x ≡ get_or ts i x → IsPlain (term_view x)
    → ArePlain (terms_of (map term_view (drop (i + 1) ts))) → ArePlain (terms_of (map term_view (drop i ts)))
term-more ts i x h is plain later =
    subst (λ ys. ArePlain (terms_of (map term_view ys)))
    (sym (at_drop_more (λ ys. ys) ts i x h ∙ ap (λ y. y ∷ drop (i + 1) ts) (sym is)))
    (λ k e.
    let rest = terms_of (map term_view (drop (i + 1) ts)) in
    ap (λ o. known_cons o (known_values k rest e)) (plain k e)
    ∙ ap (λ o. known_cons (Some (argument_value k.domains (term_view x) e)) o) (later k e))
