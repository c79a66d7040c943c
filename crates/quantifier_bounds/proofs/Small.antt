-- A theory whose terms have small static bounds fits.
use Rattle.std.proofs.Common.{ℕ, List, [], ◌∷◌, ◌++◌, Option, None, Some, sym, subst}
use Rattle.std.specs.List.{AllByRecursion, Contains}
use Rattle.std.specs.Option.{IfSome}
use Rattle.kb_logic.specs.declared.elements.Elem.{Elem}
use Rattle.kb_logic.specs.declared.vocabularies.Bound.{Bound}
use Rattle.kb_logic.specs.declared.vocabularies.Vocabulary.{Vocabulary}
use Rattle.kb_logic.specs.Bounds.{types_of, HasTypes, IsBounded, AreBounded, TermIsBounded, RuleIsBounded}
use Rattle.kb_logic.specs.Trees.{TermTree, terms_of, RuleTree}
use Rattle.kb_logic.specs.Trees.{FormulaTree, verum, falsum, atom, comparison, negation, conjunction, disjunction}
use Rattle.kb_logic.specs.Trees.{implication, equivalence, universal, existential, numbered}
use Rattle.kb_logic.specs.Trees.{FormulaTrees, no_formulas, more_formulas}
use Rattle.kb_logic.specs.Structures.{choices}
use Rattle.kb_logic.proofs.Atoms.{tuple_elements}
use Rattle.kb_logic.proofs.Members.{all_in, in_all}
use Rattle.certain_truth.specs.KnownArithmetic.{ValueFits, ValuesFit}
use Rattle.certain_truth.proofs.KnownBounds.{small_bounds_fit, small_terms_fit}
use Rattle.bound_laws.specs.Heads.{HasPlainHead}
use Rattle.quantifier_bounds.specs.Fits.{Always, Fits, AllFit, InstanceFits, RuleFits}
use Rattle.quantifier_bounds.specs.Laws.{SmallTheoriesFit}

more_types : (d : List (List Elem)) (scope types : List ℕ) (e a : List Elem) → HasTypes d scope e → HasTypes d types a
    → HasTypes d (scope ++ types) (e ++ a)
more_types d [] types [] a h i = i
more_types d [] types (x ∷ e) a h i = absurd h
more_types d (ty ∷ scope) types [] a h i = absurd h
more_types d (ty ∷ scope) types (x ∷ e) a h i = (h.0, more_types d scope types e a h.1 i)

module _ (v : Vocabulary) (d : List (List Elem)) where
  inside : (bs : List Bound) (scope : List ℕ) (e a : List Elem) → HasTypes d scope e → Contains (choices d bs) a
      → HasTypes d (scope ++ types_of bs) (e ++ a)
  inside bs scope e a h at = more_types d scope (types_of bs) e a h (tuple_elements d (types_of bs) a at)

  mutual
    formula_fits : (f : FormulaTree) (scope : List ℕ) (e : List Elem) → HasTypes d scope e → IsBounded v d f scope
        → Fits v.symbols d f e
    formula_fits verum scope e h small = tt
    formula_fits falsum scope e h small = tt
    formula_fits (atom n ts) scope e h small = λ k c s ds. small_bounds_fit v k (sym s) c (atom n ts) scope e
        (subst (λ xs. HasTypes xs scope e) (sym ds) h) (subst (λ xs. IsBounded v xs (atom n ts) scope) (sym ds) small)
    formula_fits (comparison o a b) scope e h small = (
      λ k c s ds. (small_bounds_fit v k (sym s) c (comparison o a b) scope e
          (subst (λ xs. HasTypes xs scope e) (sym ds) h)
          (subst (λ xs. IsBounded v xs (comparison o a b) scope) (sym ds) small)).0,
      λ k c s ds. (small_bounds_fit v k (sym s) c (comparison o a b) scope e
          (subst (λ xs. HasTypes xs scope e) (sym ds) h)
          (subst (λ xs. IsBounded v xs (comparison o a b) scope) (sym ds) small)).1,
    )
    formula_fits (negation f) scope e h small = formula_fits f scope e h small
    formula_fits (conjunction fs) scope e h small = formulas_fit fs scope e h small
    formula_fits (disjunction fs) scope e h small = formulas_fit fs scope e h small
    formula_fits (implication f g) scope e h small =
        (formula_fits f scope e h small.0, formula_fits g scope e h small.1)
    formula_fits (equivalence f g) scope e h small =
        (formula_fits f scope e h small.0, formula_fits g scope e h small.1)
    formula_fits (universal bs f) scope e h small = in_all (λ a. Fits v.symbols d f (e ++ a)) (choices d bs)
        (λ a at. formula_fits f (scope ++ types_of bs) (e ++ a) (inside bs scope e a h at) small)
    formula_fits (existential bs f) scope e h small = in_all (λ a. Fits v.symbols d f (e ++ a)) (choices d bs)
        (λ a at. formula_fits f (scope ++ types_of bs) (e ++ a) (inside bs scope e a h at) small)
    formula_fits (numbered o n bs f) scope e h small = in_all (λ a. Fits v.symbols d f (e ++ a)) (choices d bs)
        (λ a at. formula_fits f (scope ++ types_of bs) (e ++ a) (inside bs scope e a h at) small)

    formulas_fit : (fs : FormulaTrees) (scope : List ℕ) (e : List Elem) → HasTypes d scope e → AreBounded v d fs scope
        → AllFit v.symbols d fs e
    formulas_fit no_formulas scope e h small = tt
    formulas_fit (more_formulas f fs) scope e h small =
        (formula_fits f scope e h small.0, formulas_fit fs scope e h small.1)

  term_fits : (t : TermTree) (scope : List ℕ) (e : List Elem) → HasTypes d scope e → TermIsBounded v d t scope
      → Always v.symbols d (λ k. ValueFits k t e)
  term_fits t scope e h small = λ k c s ds. small_terms_fit v k (sym s) c t scope e
      (subst (λ xs. HasTypes xs scope e) (sym ds) h) (subst (λ xs. TermIsBounded v xs t scope) (sym ds) small)

  terms_fit : (ts : List TermTree) (scope : List ℕ) (e : List Elem) → HasTypes d scope e
      → AllByRecursion (λ t. TermIsBounded v d t scope) ts → Always v.symbols d (λ k. ValuesFit k (terms_of ts) e)
  terms_fit [] scope e h small = λ k c s ds. tt
  terms_fit (t ∷ ts) scope e h small = λ k c s ds.
      (term_fits t scope e h small.0 k c s ds, terms_fit ts scope e h small.1 k c s ds)

  value_fits : (t : Option TermTree) (scope : List ℕ) (e : List Elem) → HasTypes d scope e
      → IfSome t (λ u. TermIsBounded v d u scope) → IfSome t (λ u. Always v.symbols d (λ k. ValueFits k u e))
  value_fits None scope e h small = tt
  value_fits (Some t) scope e h small = term_fits t scope e h small

  rule_fits : (r : RuleTree) → HasPlainHead r → RuleIsBounded v d r → RuleFits v.symbols d r
  rule_fits r plain small = record {
    plain = plain;
    instances = in_all (InstanceFits v.symbols d r) (choices d r.vars) (λ e at.
        let h = inside r.vars [] [] e tt at in
        record {
          args = terms_fit r.args (types_of r.vars) e h small.args;
          value = value_fits r.value (types_of r.vars) e h small.value;
          body = formula_fits r.body (types_of r.vars) e h small.body;
        });
  }

pub small_theories_fit : SmallTheoriesFit
small_theories_fit v d t plain small = record {
  sentences = in_all _ t.sentences (λ f at. formula_fits v d f [] [] tt (all_in _ t.sentences small.sentences f at));
  definitions = in_all _ t.definitions (λ g at. in_all _ g.rules (λ r there. rule_fits v d r
      (all_in _ g.rules (all_in _ t.definitions plain g at) r there)
      (all_in _ g.rules (all_in _ t.definitions small.definitions g at) r there)));
}
