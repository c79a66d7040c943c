-- What is derived, and models of small definitions.
use Rattle.std.proofs.Common.{◌≡◌, ℕ, pos, List, [], ◌∷◌, map, true, ◌&&◌, ◌==◌, Option, Some, None, option_map, IsTrue}
use Rattle.std.proofs.Common.{refl, sym, ap, ◌∙◌, subst, inl, inr, slice_get}
use Rattle.std.specs.List.{Contains, list_any}
use Rattle.std.proofs.lemmas.Bool.{and_parts, and_from, eqb-true, eq-eqb, true≢false}
use Rattle.kb_logic.specs.declared.elements.Elem.{Elem}
use Rattle.kb_logic.specs.declared.vocabularies.Symbol.{Symbol}
use Rattle.kb_logic.specs.declared.structures.Structure.{Structure}
use Rattle.kb_logic.specs.Trees.{RuleTree, DefinitionTree, integer, terms_of}
use Rattle.kb_logic.specs.Structures.{tuples_of}
use Rattle.kb_logic.specs.Denotations.{Denotation, denotation_of, same_value}
use Rattle.kb_logic.specs.Meaning.{assignments, value_of, values_of, truth_of}
use Rattle.kb_logic.specs.Models.{GroundAtom, IsAtomOf, IsHead, IsDerived, IsDefined, AtomHolds, HasValueIn}
use Rattle.logic_laws.specs.Derivations.{same_values, same_optional_value, is_head, is_derived, DerivedIsDecided}
use Rattle.logic_laws.specs.Derivations.{DefinitionExamples, words, world, yes, constant_one, p_if_q, p_if, said, f_is}
use Rattle.logic_laws.specs.Derivations.{p_holds, f_at_one, one, two, both_values}
use Rattle.kb_logic.proofs.Atoms.{same_is, is_same, some_same, in_rows}
use Rattle.kb_logic.proofs.Members.{first, later, none_in, member_cases, some_one, one_is_some}

values_are : (us vs : List Denotation) → same_values us vs ≡ true → us ≡ vs
values_are [] [] h = refl
values_are [] (v ∷ vs) h = cc
values_are (u ∷ us) [] h = cc
values_are (u ∷ us) (v ∷ vs) h =
    let both = and_parts (same_value u v) (same_values us vs) h in
    ap (λ w. w ∷ us) (same_is u v both.0) ∙ ap (λ ws. v ∷ ws) (values_are us vs both.1)

are_values : (us : List Denotation) → same_values us us ≡ true
are_values [] = refl
are_values (u ∷ us) = and_from (same_value u u) (same_values us us) (is_same u) (are_values us)

optional_is : (o u : Option Denotation) → same_optional_value o u ≡ true → o ≡ u
optional_is None None h = refl
optional_is None (Some v) h = cc
optional_is (Some u) None h = cc
optional_is (Some u) (Some v) h = ap Some (same_is u v h)

is_optional : (o : Option Denotation) → same_optional_value o o ≡ true
is_optional None = refl
is_optional (Some u) = is_same u

module _ (m : Structure) (a : GroundAtom) where
  head_is : (r : RuleTree) (e : List Elem) → is_head m r a e ≡ true → IsHead m r e a
  head_is r e h =
      let value = option_map (λ t. value_of m t e) r.value in
      let test = same_optional_value value (option_map denotation_of a.value) in
      let symbol = and_parts (r.symbol == a.symbol) (same_values (values_of m (terms_of r.args) e)
      (map denotation_of a.args) && test) h in
      let rest = and_parts (same_values (values_of m (terms_of r.args) e) (map denotation_of a.args)) test symbol.1 in
      record {
        symbol = eqb-true r.symbol a.symbol symbol.0;
        args = values_are (values_of m (terms_of r.args) e) (map denotation_of a.args) rest.0;
        value = optional_is value (option_map denotation_of a.value) rest.1;
      }

  is_the_head : (r : RuleTree) (e : List Elem) → IsHead m r e a → is_head m r a e ≡ true
  is_the_head r e h =
      let value = option_map (λ t. value_of m t e) r.value in
      let wanted = option_map denotation_of a.value in
      and_from (r.symbol == a.symbol) (same_values (values_of m (terms_of r.args) e) (map denotation_of a.args) &&
      same_optional_value value wanted) (eq-eqb r.symbol a.symbol h.symbol)
      (and_from (same_values (values_of m (terms_of r.args) e) (map denotation_of a.args))
      (same_optional_value value wanted)
      (ap (λ us. same_values us (map denotation_of a.args)) h.args ∙ are_values (map denotation_of a.args))
      (ap (λ o. same_optional_value o wanted) h.value ∙ is_optional wanted))

  derived_is : (d : DefinitionTree) → IsTrue (is_derived m d a) → IsDerived m d a
  derived_is d h =
      let r = some_one (λ (q : RuleTree). list_any (λ e. is_head m q a e && truth_of m q.body e)
      (assignments m q.vars)) d.rules h in
      let e = some_one (λ f. is_head m r.0 a f && truth_of m r.0.body f) (assignments m r.0.vars) r.2 in
      let both = and_parts (is_head m r.0 a e.0) (truth_of m r.0.body e.0) e.2 in
      (r.0, r.1, (e.0, e.1, head_is r.0 e.0 both.0, both.1))

  is_the_derived : (d : DefinitionTree) → IsDerived m d a → IsTrue (is_derived m d a)
  is_the_derived d h =
      let r = h.0 in
      let e = h.2.0 in
      one_is_some (λ (q : RuleTree). list_any (λ f. is_head m q a f && truth_of m q.body f) (assignments m q.vars))
      d.rules r h.1
      (one_is_some (λ f. is_head m r a f && truth_of m r.body f) (assignments m r.vars) e h.2.1
      (and_from (is_head m r a e) (truth_of m r.body e) (is_the_head r e h.2.2) h.2.3))

pub derived_is_decided : DerivedIsDecided
derived_is_decided m d a = (derived_is m a d, is_the_derived m a d)

p_defined : IsDefined p_if_q 0
p_defined = (p_if [] (said 1), first (p_if [] (said 1)) [], refl)

only_p_defined : (n : ℕ) → IsDefined p_if_q n → n ≡ 0
only_p_defined n (r, at, is) = elim (member_cases (p_if [] (said 1)) r [] at) [
  | inl e ↦ sym is
      ∙ ap (λ (q : RuleTree). q.symbol) (sym e)
  | inr more ↦ absurd (none_in r more)
]

sole_row : (xs : List Elem) → Contains ([] ∷ []) xs → [] ≡ xs
sole_row xs h = elim (member_cases [] xs [] h) [ inl e ↦ e | inr more ↦ absurd (none_in xs more) ]

no_value : (domains : List (List Elem)) (o : Option Elem) → HasValueIn domains None o → o ≡ None
no_value domains None h = refl
no_value domains (Some x) h = absurd h

-- the only atom of p
only_p : (domains : List (List Elem)) (a : GroundAtom) → IsAtomOf words domains a → a.symbol ≡ 0 → p_holds ≡ a
only_p domains a over zero_ =
    let plain : Symbol = record { name = []; args = []; value = None } in
    let symbol : plain ≡ over.0 = some_same plain over.0 (ap (slice_get words.symbols) (sym zero_) ∙ over.1) in
    let args : [] ≡ a.args = sole_row a.args (subst (λ (t : Symbol). Contains (tuples_of domains t.args) a.args)
    (sym symbol) over.2) in
    let none : a.value ≡ None = no_value domains a.value (subst (λ (t : Symbol). HasValueIn domains t.value a.value)
    (sym symbol) over.3) in
    λ i. record { symbol = sym zero_ i; args = args i; value = sym none i }

p_over : (domains : List (List Elem)) → IsAtomOf words domains p_holds
p_over domains = (record { name = []; args = []; value = None }, refl, first [] [], tt)

f_over : IsAtomOf words ((one ∷ two ∷ []) ∷ [] ∷ []) (f_at_one two)
f_over = (
  record { name = []; args = 0 ∷ []; value = Some 0 },
  refl,
  first (one ∷ []) ((two ∷ []) ∷ []),
  later one two (two ∷ []) (first two []),
)

f_defined : IsDefined both_values 3
f_defined = (f_is (integer (pos 1)), first (f_is (integer (pos 1))) (f_is (integer (pos 2)) ∷ []), refl)

pub definition_examples : DefinitionExamples
definition_examples = record {
  model = λ a over defined.
      let same = only_p ((one ∷ two ∷ []) ∷ [] ∷ []) a over (only_p_defined a.symbol defined) in
      let m = world yes yes [] constant_one in (
        λ holds. derived_is m a p_if_q (subst (λ b. IsTrue (is_derived m p_if_q b)) same refl),
        λ derived. subst (AtomHolds m) same (first [] []),
      );
  not_closed = λ h. none_in [] ((h p_holds (p_over ((one ∷ two ∷ []) ∷ [] ∷ [])) p_defined).1
      (derived_is (world [] yes [] constant_one) p_holds p_if_q refl));
  not_founded = λ h.
      true≢false (sym (is_the_derived (world yes [] [] constant_one) p_holds p_if_q
      ((h p_holds (p_over ((one ∷ two ∷ []) ∷ [] ∷ [])) p_defined).0 (first [] []))));
  second_rule = refl;
  fact = refl;
  some_instance = refl;
  empty_type = refl;
  value_outside = (refl, refl);
  two_values = λ h.
      true≢false (sym (in_rows constant_one (one ∷ two ∷ []) ((h (f_at_one two) f_over f_defined).1
      (derived_is (world [] [] [] constant_one) (f_at_one two) both_values refl))));
}
