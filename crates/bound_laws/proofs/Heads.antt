-- The head of a rule, as what makes every atom known knows it, is its head in the structure.
use Rattle.std.proofs.Common.{◌≡◌, List, [], ◌∷◌, map, Option, None, Some, option_map, refl, sym, ap, ◌∙◌, subst}
use Rattle.std.specs.List.{AllByRecursion}
use Rattle.std.specs.Option.{IfSome}
use Rattle.kb_logic.specs.declared.elements.Elem.{Elem}
use Rattle.kb_logic.specs.declared.vocabularies.Vocabulary.{Vocabulary}
use Rattle.kb_logic.specs.declared.structures.Structure.{Structure}
use Rattle.kb_logic.specs.Trees.{TermTree, variable, integer, constructed, application, summation, product, aggregate}
use Rattle.kb_logic.specs.Trees.{TermTrees, no_terms, more_terms, RuleTree, terms_of}
use Rattle.kb_logic.specs.Structures.{IsStructure}
use Rattle.kb_logic.specs.Denotations.{Denotation, denotation_of}
use Rattle.kb_logic.specs.Meaning.{value_of, values_of}
use Rattle.kb_logic.specs.Models.{GroundAtom, IsHead}
use Rattle.kb_logic.specs.KnownAtoms.{known_of}
use Rattle.certain_truth.specs.Certainty.{known_cons, known_value, known_values}
use Rattle.certain_truth.specs.WellApplied.{AppliesWell, OperandsApplyWell}
use Rattle.certain_truth.proofs.Soundness.{certainty_is_sound}
use Rattle.certain_truth.proofs.Total.{structures_know_all}
use Rattle.certain_truth.proofs.Totality.{certainty_is_truth}
use Rattle.bound_laws.specs.Heads.{IsHeadTerm, HasPlainHead}
use Rattle.bound_laws.specs.Closures.{IsNamed}

cons_known : (o : Option Denotation) (p : Option (List Denotation)) (x : Denotation) (xs vs : List Denotation)
    → ((d : Denotation) → o ≡ Some d → x ≡ d) → ((ds : List Denotation) → p ≡ Some ds → xs ≡ ds)
    → known_cons o p ≡ Some vs → (x ∷ xs) ≡ vs
cons_known None p x xs vs f g h = absurd (cc)
cons_known (Some d) None x xs vs f g h = absurd (cc)
cons_known (Some d) (Some ds) x xs vs f g h = let a = f d refl in let b = g ds refl in cc

module _ (v : Vocabulary) (m : Structure) (is : IsStructure v m) where
  sound : (t : TermTree) (e : List Elem) (d : Denotation) → known_value (known_of v.symbols m) t e ≡ Some d
      → value_of m t e ≡ d
  sound = (certainty_is_sound m (known_of v.symbols m) (v, refl, is) (structures_know_all v m is).2).1

  values_are : (ts : TermTrees) (e : List Elem) (vs : List Denotation)
      → known_values (known_of v.symbols m) ts e ≡ Some vs
      → values_of m ts e ≡ vs
  values_are no_terms e vs h = cc
  values_are (more_terms t ts) e vs h =
      cons_known (known_value (known_of v.symbols m) t e) (known_values (known_of v.symbols m) ts e) (value_of m t e)
      (values_of m ts e) vs (sound t e) (values_are ts e) h

  value_is : (o : Option TermTree) (e : List Elem) (u : Option Elem)
      → option_map (λ t. known_value (known_of v.symbols m) t e) o ≡ option_map (λ x. Some (denotation_of x)) u
      → option_map (λ t. value_of m t e) o ≡ option_map denotation_of u
  value_is None e None h = refl
  value_is None e (Some x) h = absurd (cc)
  value_is (Some t) e None h = absurd (cc)
  value_is (Some t) e (Some x) h = ap Some (sound t e (denotation_of x) (cc))

  pub head_of : (r : RuleTree) (e : List Elem) (a : GroundAtom)
      → IsNamed (known_of v.symbols m) r.symbol (terms_of r.args) r.value e a → IsHead m r e a
  head_of r e a h = record {
    symbol = h.symbol;
    args = values_are (terms_of r.args) e (map denotation_of a.args) h.args;
    value = value_is r.value e a.value h.value;
  }

  applies : (t : TermTree) (e : List Elem) → IsHeadTerm t → AppliesWell v.symbols m t e
  applies (variable n) e h = tt
  applies (integer z) e h = tt
  applies (constructed ty n) e h = tt
  applies (application s ts) e h = absurd h
  applies (summation ss) e h = subst (λ us. OperandsApplyWell v.symbols m us e) (sym h.1) (tt, tt)
  applies (product ts) e h = absurd h
  applies (aggregate k bs f t) e h = absurd h

  known : (t : TermTree) (e : List Elem) → IsHeadTerm t → known_value (known_of v.symbols m) t e ≡ Some (value_of m t e)
  known t e h =
      let all = structures_know_all v m is in
      (certainty_is_truth m (known_of v.symbols m) (v, refl, is) all.2 all.0).1 t e (applies t e h)

  values_known : (ts : List TermTree) (e : List Elem) → AllByRecursion IsHeadTerm ts
      → known_values (known_of v.symbols m) (terms_of ts) e ≡ Some (values_of m (terms_of ts) e)
  values_known [] e h = refl
  values_known (t ∷ ts) e h =
      ap (λ o. known_cons o (known_values (known_of v.symbols m) (terms_of ts) e)) (known t e h.0)
      ∙ ap (known_cons (Some (value_of m t e))) (values_known ts e h.1)

  value_known : (o : Option TermTree) (e : List Elem) (u : Option Elem) → IfSome o IsHeadTerm
      → option_map (λ t. value_of m t e) o ≡ option_map denotation_of u
      → option_map (λ t. known_value (known_of v.symbols m) t e) o ≡ option_map (λ x. Some (denotation_of x)) u
  value_known None e None h i = refl
  value_known None e (Some x) h i = absurd (cc)
  value_known (Some t) e None h i = absurd (cc)
  value_known (Some t) e (Some x) h i = ap Some (known t e h ∙ i)

  pub named_by : (r : RuleTree) (e : List Elem) (a : GroundAtom) → HasPlainHead r → IsHead m r e a
      → IsNamed (known_of v.symbols m) r.symbol (terms_of r.args) r.value e a
  named_by r e a plain h = record {
    symbol = h.symbol;
    args = values_known r.args e plain.args ∙ ap Some h.args;
    value = value_known r.value e a.value plain.value h.value;
  }
