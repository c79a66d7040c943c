-- What the instances of rules say of an atom.
use Rattle.std.proofs.Common.{◌≡◌, ℕ, suc, ◌==◌, List, [], ◌∷◌, map, length, fold, Bool, true, false, ◌&&◌}
use Rattle.std.proofs.Common.{if◌then◌else◌}
use Rattle.std.proofs.Common.{Result, Option, None, Some, option_map, refl, sym, ap, ◌∙◌, subst, inl, inr}
use Rattle.std.specs.List.{AllByRecursion, Contains}
use Rattle.std.specs.Option.{IfSome}
use Rattle.std.proofs.lemmas.Bool.{true≢false, cases_Bool, and_parts, and_from, eqb-true, eq-eqb}
use Rattle.kb_logic.specs.declared.elements.Elem.{Elem}
use Rattle.kb_logic.specs.Trees.{TermTree, variable, integer, constructed, application, summation, product, aggregate}
use Rattle.kb_logic.specs.Trees.{terms_of, RuleTree, DefinitionTree}
use Rattle.kb_logic.specs.Structures.{choices}
use Rattle.kb_logic.specs.Denotations.{Denotation, denotation_of, same_value}
use Rattle.kb_logic.specs.Models.{GroundAtom}
use Rattle.kb_logic.specs.KnownAtoms.{KnownAtoms}
use Rattle.kb_logic.proofs.Has.{Has, has_from, contains_from}
use Rattle.kb_logic.proofs.Members.{all_in}
use Rattle.kb_logic.proofs.Atoms.{same_is}
use Rattle.partial_structures.specs.KnownAtoms.{same_row, value_at}
use Rattle.partial_structures.specs.declared.truths.Truth.{Truth}
use Rattle.partial_structures.specs.declared.truths.Truth.TheVariants.{Yes, No, Unknown}
use Rattle.partial_structures.proofs.Sames.{row_itself, element_itself}
use Rattle.partial_structures.proofs.Walks.{row_denotes}
use Rattle.certain_truth.specs.Certainty.{truth_if, either_certain, any_certain, known_cons, known_value, known_values}
use Rattle.certain_truth.specs.Certainty.{certain_truth}
use Rattle.plain_evaluation.proofs.Folds.{fold_stays}
use Rattle.certain_truth.proofs.Connected.{fold_either}
use Rattle.certain_truth.proofs.Monotony.{certainty_is_monotone}
use Rattle.bound_laws.specs.Heads.{IsHeadTerm, HasPlainHead}
use Rattle.bound_laws.specs.Closures.{IsNamed, IsInstance}
use Rattle.quantifier_bounds.specs.Rules.{is_known, is_row, is_value, is_head, instance_truth, told_by, Derives}
use Rattle.quantifier_bounds.specs.Steps.{IsStep, Narrows}
use Rattle.quantifier_bounds.specs.declared.fault.BoundFault.{BoundFault}
use Rattle.quantifier_bounds.proofs.Made.{nothing}
use Rattle.quantifier_bounds.proofs.Naming.{named_stays}
use Rattle.quantifier_bounds.proofs.Steps.{Follow, narrows_by}

-- ---- rows

and_false : (b : Bool) → (b && false) ≡ false
and_false true = refl
and_false false = refl

pub row_cons : (o : Option Denotation) (p : Option (List Denotation)) (x : Elem) (xs : List Elem)
    → is_row (known_cons o p) (x ∷ xs) ≡ (is_known o x && is_row p xs)
row_cons None p x xs = refl
row_cons (Some d) None x xs = sym (and_false (same_value (denotation_of x) d))
row_cons (Some d) (Some ds) x xs = refl

same_lengths : (xs : List Elem) (vs : List Denotation) → same_row xs vs ≡ true → length xs ≡ length vs
same_lengths [] [] h = refl
same_lengths [] (v ∷ vs) h = absurd (true≢false (sym h))
same_lengths (x ∷ xs) [] h = absurd (true≢false (sym h))
same_lengths (x ∷ xs) (v ∷ vs) h = ap suc (same_lengths xs vs (and_parts (same_value (denotation_of x) v) (same_row xs
    vs) h).1)

module _ (k : KnownAtoms) (e : List Elem) where
  cons_length : (o : Option Denotation) (p : Option (List Denotation)) (vs : List Denotation) (n : ℕ)
      → ((ws : List Denotation) → p ≡ Some ws → length ws ≡ n) → known_cons o p ≡ Some vs → length vs ≡ suc n
  cons_length None p vs n h i = absurd (cc)
  cons_length (Some d) None vs n h i = absurd (cc)
  cons_length (Some d) (Some ds) vs n h i = subst (λ us. length us ≡ suc n) (one i) (ap suc (h ds refl))
    where
      one : {A : Type 0} {x y : A} → Some x ≡ Some y → x ≡ y
      one h = cc

  values_length : (ts : List TermTree) (vs : List Denotation) → known_values k (terms_of ts) e ≡ Some vs
      → length vs ≡ length ts
  values_length [] vs h = subst (λ us. length us ≡ 0) (one h) refl
    where
      one : {A : Type 0} {x y : A} → Some x ≡ Some y → x ≡ y
      one h = cc
  values_length (t ∷ ts) vs h = cons_length (known_value k t e) (known_values k (terms_of ts) e) vs (length ts)
      (values_length ts) h

  row_long : (ts : List TermTree) (xs : List Elem) (o : Option (List Denotation)) → known_values k (terms_of ts) e ≡ o
      → is_row o xs ≡ true → length ts ≡ length xs
  row_long ts xs None h i = absurd (true≢false (sym i))
  row_long ts xs (Some vs) h i = sym (values_length ts vs h) ∙ sym (same_lengths xs vs i)

  pub row_short : (ts : List TermTree) (xs : List Elem) → (length ts ≡ length xs → ⊥)
      → false ≡ is_row (known_values k (terms_of ts) e) xs
  row_short ts xs differ = elim (cases_Bool (is_row (known_values k (terms_of ts) e) xs)) [
    | inl h ↦ absurd (differ (row_long ts xs (known_values k (terms_of ts) e) refl h))
    | inr h ↦ sym h
  ]

-- ---- heads

row_named : (o : Option (List Denotation)) (xs : List Elem) → is_row o xs ≡ true → o ≡ Some (map denotation_of xs)
row_named None xs h = absurd (true≢false (sym h))
row_named (Some vs) xs h = ap Some (sym (row_denotes xs vs h))

value_named : (o : Option (Option Denotation)) (x : Option Elem) → is_value o x ≡ true
    → o ≡ option_map (λ y. Some (denotation_of y)) x
value_named None None h = refl
value_named None (Some x) h = absurd (true≢false (sym h))
value_named (Some o) None h = absurd (true≢false (sym h))
value_named (Some None) (Some x) h = absurd (true≢false (sym h))
value_named (Some (Some d)) (Some x) h = ap (λ u. Some (Some u)) (sym (same_is (denotation_of x) d h))

value_is : (x : Option Elem) → is_value (option_map (λ y. Some (denotation_of y)) x) x ≡ true
value_is None = refl
value_is (Some x) = element_itself x

module _ (k : KnownAtoms) (r : RuleTree) (e : List Elem) (a : GroundAtom) where
  pub head_named : is_head k r e a ≡ true → IsNamed k r.symbol (terms_of r.args) r.value e a
  head_named h =
      let row = is_row (known_values k (terms_of r.args) e) a.args in
      let value = is_value (option_map (λ t. known_value k t e) r.value) a.value in
      let p = and_parts (r.symbol == a.symbol) (row && value) h in
      let q = and_parts row value p.1 in
      record {
        symbol = eqb-true r.symbol a.symbol p.0;
        args = row_named (known_values k (terms_of r.args) e) a.args q.0;
        value = value_named (option_map (λ t. known_value k t e) r.value) a.value q.1;
      }

  pub named_head : IsNamed k r.symbol (terms_of r.args) r.value e a → is_head k r e a ≡ true
  named_head n =
      let row = is_row (known_values k (terms_of r.args) e) a.args in
      let value = is_value (option_map (λ t. known_value k t e) r.value) a.value in
      and_from (r.symbol == a.symbol) (row && value) (eq-eqb r.symbol a.symbol n.symbol)
      (and_from row value (ap (λ o. is_row o a.args) n.args ∙ row_itself a.args)
      (ap (λ o. is_value o a.value) n.value ∙ value_is a.value))

-- ---- what all say

module _ {X : Type 0} (T : X → Truth) where
  one_yes : (x : X) (xs : List X) (t u : Truth) → T x ≡ t → either_certain t u ≡ Yes
      → (u ≡ Yes → (y : X) × Has xs y × (T y ≡ Yes)) → (y : X) × Has (x ∷ xs) y × (T y ≡ Yes)
  one_yes x xs Yes u is e go = (x, inl refl, is)
  one_yes x xs No u is e go = let r = go e in (r.0, inr r.1, r.2)
  one_yes x xs Unknown Yes is e go = let r = go refl in (r.0, inr r.1, r.2)
  one_yes x xs Unknown No is e go = absurd (cc)
  one_yes x xs Unknown Unknown is e go = absurd (cc)

  some_yes : (xs : List X) → any_certain T xs ≡ Yes → (x : X) × Has xs x × (T x ≡ Yes)
  some_yes [] h = absurd (cc)
  some_yes (x ∷ xs) h = one_yes x xs (T x) (any_certain T xs) refl h (some_yes xs)

any_no : {X : Type 0} (T : X → Truth) (xs : List X) → any_certain T xs ≡ No → (x : X) → Has xs x → T x ≡ No
any_no T [] h x m = absurd m
any_no T (y ∷ xs) h x m = by (T y) (any_certain T xs) refl h (λ i. any_no T xs i x) m
  where
    by : (t u : Truth) → T y ≡ t → either_certain t u ≡ No → (u ≡ No → Has xs x → T x ≡ No) → Has (y ∷ xs) x → T x ≡ No
    by Yes u is e go n = absurd (cc)
    by No u is e go (inl s) = ap T (sym s) ∙ is
    by No u is e go (inr n) = go e n
    by Unknown Yes is e go n = absurd (cc)
    by Unknown No is e go n = absurd (cc)
    by Unknown Unknown is e go n = absurd (cc)

all_no : {X : Type 0} (T : X → Truth) (xs : List X) → ((x : X) → Has xs x → T x ≡ No) → any_certain T xs ≡ No
all_no T [] h = refl
all_no T (x ∷ xs) h = ap (λ t. either_certain t (any_certain T xs)) (h x (inl refl)) ∙ all_no T xs (λ y m. h y (inr m))

yes_any : {X : Type 0} (T : X → Truth) (xs : List X) (x : X) → Has xs x → T x ≡ Yes → any_certain T xs ≡ Yes
yes_any T [] x m h = absurd m
yes_any T (y ∷ xs) x (inl s) h = ap (λ t. either_certain t (any_certain T xs)) (ap T s ∙ h)
yes_any T (y ∷ xs) x (inr m) h = by (T y) (yes_any T xs x m h)
  where
    by : (t : Truth) → any_certain T xs ≡ Yes → either_certain t (any_certain T xs) ≡ Yes
    by Yes i = refl
    by No i = i
    by Unknown i = ap (either_certain Unknown) i

either_twice : (t u w : Truth) → either_certain (either_certain t u) w ≡ either_certain t (either_certain u w)
either_twice Yes u w = refl
either_twice No u w = refl
either_twice Unknown Yes w = refl
either_twice Unknown No w = refl
either_twice Unknown Unknown Yes = refl
either_twice Unknown Unknown No = refl
either_twice Unknown Unknown Unknown = refl

pub either_no : (t : Truth) → either_certain t No ≡ t
either_no Yes = refl
either_no No = refl
either_no Unknown = refl

module _ (k : KnownAtoms) (a : GroundAtom) where
  abbrev rule_truth : RuleTree → Truth
  rule_truth r = any_certain (λ e. instance_truth k r a e) (choices k.domains r.vars)

  -- a rule for another symbol says nothing
  pub told_other : (t : Truth) (r : RuleTree) → (r.symbol ≡ a.symbol → ⊥) → told_by k a t r ≡ t
  told_other t r other = fold_stays (λ u e. either_certain u (instance_truth k r a e)) (choices k.domains r.vars) t
      (λ e. ap (either_certain t) (no_ e) ∙ either_no t)
    where
      no_ : (e : List Elem) → instance_truth k r a e ≡ No
      no_ e = elim (cases_Bool (r.symbol == a.symbol)) [
        | inl h ↦ absurd (other (eqb-true r.symbol a.symbol h))
        | inr h ↦ ap (λ b. if b && (is_row (known_values k (terms_of r.args) e) a.args && is_value
            (option_map (λ t. known_value k t e) r.value) a.value) then certain_truth k r.body e else No) h
      ]

  rules_fold : (rs : List RuleTree) (t : Truth) → fold (told_by k a) t rs ≡ either_certain t (any_certain rule_truth rs)
  rules_fold [] t = sym (either_no t)
  rules_fold (r ∷ rs) t =
      ap (λ u. fold (told_by k a) u rs) (fold_either (λ e. instance_truth k r a e) (choices k.domains r.vars) t)
      ∙ rules_fold rs (either_certain t (rule_truth r)) ∙ either_twice t (rule_truth r) (any_certain rule_truth rs)

  module _ (d : DefinitionTree) where
    pub told_yes : fold (told_by k a) No d.rules ≡ Yes
        → (r : RuleTree) × (e : List Elem) × IsInstance k d a r e × (certain_truth k r.body e ≡ Yes)
    told_yes h =
        let r = some_yes rule_truth d.rules (sym (rules_fold d.rules No) ∙ h) in
        let e = some_yes (λ c. instance_truth k r.0 a c) (choices k.domains r.0.vars) r.2 in
        by r.0 e.0 r.1 e.1 (is_head k r.0 e.0 a) refl e.2
      where
        by : (r : RuleTree) (e : List Elem) → Has d.rules r → Has (choices k.domains r.vars) e → (b : Bool)
            → is_head k r e a ≡ b → (if b then certain_truth k r.body e else No) ≡ Yes
            → (r : RuleTree) × (e : List Elem) × IsInstance k d a r e × (certain_truth k r.body e ≡ Yes)
        by r e m n true is y = (
          r,
          e,
          record {
            rule = contains_from d.rules r m;
            choice = contains_from (choices k.domains r.vars) e n;
            head = head_named k r e a is;
          },
          y,
        )
        by r e m n false is y = absurd (cc)

    instance_no : fold (told_by k a) No d.rules ≡ No → (r : RuleTree) (e : List Elem) → IsInstance k d a r e
        → instance_truth k r a e ≡ No
    instance_no h r e i = any_no (λ c. instance_truth k r a c) (choices k.domains r.vars)
        (any_no rule_truth d.rules (sym (rules_fold d.rules No) ∙ h) r (has_from d.rules r i.rule)) e
        (has_from (choices k.domains r.vars) e i.choice)

    head_truth : (r : RuleTree) (e : List Elem) → IsInstance k d a r e
        → instance_truth k r a e ≡ certain_truth k r.body e
    head_truth r e i = ap (λ b. if b then certain_truth k r.body e else No) (named_head k r e a i.head)

    pub told_no : fold (told_by k a) No d.rules ≡ No → (r : RuleTree) (e : List Elem) → IsInstance k d a r e
        → certain_truth k r.body e ≡ No
    told_no h r e i = sym (head_truth r e i) ∙ instance_no h r e i

    pub yes_told : (r : RuleTree) (e : List Elem) → IsInstance k d a r e → certain_truth k r.body e ≡ Yes
        → fold (told_by k a) No d.rules ≡ Yes
    yes_told r e i y = rules_fold d.rules No ∙ yes_any rule_truth d.rules r (has_from d.rules r i.rule)
        (yes_any (λ c. instance_truth k r a c) (choices k.domains r.vars) e
        (has_from (choices k.domains r.vars) e i.choice)
        (head_truth r e i ∙ y))

    pub no_told : ((r : RuleTree) (e : List Elem) → IsInstance k d a r e → certain_truth k r.body e ≡ No)
        → fold (told_by k a) No d.rules ≡ No
    no_told h = rules_fold d.rules No ∙ all_no rule_truth d.rules (λ r m.
        all_no (λ c. instance_truth k r a c) (choices k.domains r.vars) (λ e n. by r e m n (is_head k r e a) refl))
      where
        by : (r : RuleTree) (e : List Elem) → Has d.rules r → Has (choices k.domains r.vars) e → (b : Bool)
            → is_head k r e a ≡ b → (if b then certain_truth k r.body e else No) ≡ No
        by r e m n true is = h r e (record {
          rule = contains_from d.rules r m;
          choice = contains_from (choices k.domains r.vars) e n;
          head = head_named k r e a is;
        })
        by r e m n false is = refl

-- ---- plain heads are known alike

module _ (k q : KnownAtoms) (same : k.domains ≡ q.domains) (e : List Elem) where
  term_alike : (t : TermTree) → IsHeadTerm t → known_value k t e ≡ known_value q t e
  term_alike (variable n) h = refl
  term_alike (integer z) h = refl
  term_alike (constructed ty n) h = ap (λ ds. known_value (record k { domains = ds }) (constructed ty n) e) same
  term_alike (application s ts) h = absurd h
  term_alike (summation ss) h =
      ap (λ us. known_value k (summation us) e) h.1 ∙ ap (λ us. known_value q (summation us) e) (sym h.1)
  term_alike (product ts) h = absurd h
  term_alike (aggregate c bs f t) h = absurd h

  terms_alike : (ts : List TermTree) → AllByRecursion IsHeadTerm ts
      → known_values k (terms_of ts) e ≡ known_values q (terms_of ts) e
  terms_alike [] h = refl
  terms_alike (t ∷ ts) h =
      ap (λ o. known_cons o (known_values k (terms_of ts) e)) (term_alike t h.0)
      ∙ ap (known_cons (known_value q t e)) (terms_alike ts h.1)

  value_alike : (t : Option TermTree) → IfSome t IsHeadTerm
      → option_map (λ u. known_value k u e) t ≡ option_map (λ u. known_value q u e) t
  value_alike None h = refl
  value_alike (Some t) h = ap Some (term_alike t h)

  named_back : (r : RuleTree) (a : GroundAtom) → HasPlainHead r → IsNamed q r.symbol (terms_of r.args) r.value e a
      → IsNamed k r.symbol (terms_of r.args) r.value e a
  named_back r a plain h = record {
    symbol = h.symbol;
    args = terms_alike r.args plain.args ∙ h.args;
    value = value_alike r.value plain.value ∙ h.value;
  }

-- ---- a step by what the rules say

module _ (k : KnownAtoms) (d : DefinitionTree) (a : GroundAtom) (plain : AllByRecursion HasPlainHead d.rules) where
  yes_down : fold (told_by k a) No d.rules ≡ Yes → Follow k (λ q. Derives q d a) (λ q. value_at q a ≡ truth_if true)
  yes_down h q c l m w =
      let r = told_yes k a d h in
      w.0 r.0 r.1 (record {
        rule = r.2.rule;
        choice = subst (λ ds. Contains (choices ds r.0.vars) r.1) (sym m.domains) r.2.choice;
        head = named_stays k q c m r.0.symbol (terms_of r.0.args) r.0.value r.1 a r.2.head;
      }) (((certainty_is_monotone k q c m).0 r.0.body r.1).0 r.3)

  no_down : fold (told_by k a) No d.rules ≡ No → Follow k (λ q. Derives q d a) (λ q. value_at q a ≡ truth_if false)
  no_down h q c l m w = w.1 (λ r e i. ((certainty_is_monotone k q c m).0 r.body e).1 (told_no k a d h r e (record {
    rule = i.rule;
    choice = subst (λ ds. Contains (choices ds r.vars) e) m.domains i.choice;
    head = named_back k q (sym m.domains) e r a (all_in HasPlainHead d.rules plain r i.rule) i.head;
  })))

  differ : (t : Truth) → t ≡ Yes → t ≡ No → ⊥
  differ t x y = cc

  open_yes : (t : Truth) → t ≡ Unknown → t ≡ Yes → ⊥
  open_yes t x y = cc

  open_no : (t : Truth) → t ≡ Unknown → t ≡ No → ⊥
  open_no t x y = cc

  pub derives_yes : (new : KnownAtoms) (o : Result Bool BoundFault) → fold (told_by k a) No d.rules ≡ Yes
      → Narrows k new o (λ q. value_at q a ≡ truth_if true) → Narrows k new o (λ q. Derives q d a)
  derives_yes new o h n = narrows_by k new o (λ q. value_at q a ≡ truth_if true) (λ q. Derives q d a) (yes_down h)
      (λ same v. subst (λ j. Derives j d a) (sym same) (
        λ r e i y. subst (λ j. value_at j a ≡ Yes) same v,
        λ none. absurd (differ (fold (told_by k a) No d.rules) h (no_told k a d none)),
      )) n

  pub derives_no : (new : KnownAtoms) (o : Result Bool BoundFault) → fold (told_by k a) No d.rules ≡ No
      → Narrows k new o (λ q. value_at q a ≡ truth_if false) → Narrows k new o (λ q. Derives q d a)
  derives_no new o h n = narrows_by k new o (λ q. value_at q a ≡ truth_if false) (λ q. Derives q d a) (no_down h)
      (λ same v. subst (λ j. Derives j d a) (sym same) (
        λ r e i y. absurd (differ (fold (told_by k a) No d.rules) (yes_told k a d r e i y) h),
        λ none. subst (λ j. value_at j a ≡ No) same v,
      )) n

  pub derives_open : fold (told_by k a) No d.rules ≡ Unknown → IsStep k k false (λ q. Derives q d a)
  derives_open h = nothing k (λ q. Derives q d a) (
    λ r e i y. absurd (open_yes (fold (told_by k a) No d.rules) h (yes_told k a d r e i y)),
    λ none. absurd (open_no (fold (told_by k a) No d.rules) h (no_told k a d none)),
  )
