-- What is certain stays certain where more is known.
use Rattle.std.proofs.Common.{◌≡◌, ℕ, ℤ, pos, List, [], ◌∷◌, ◌++◌, map, Bool, true, false, ◌&&◌, ◌==◌, cond}
use Rattle.std.proofs.Common.{if◌then◌else◌, Option, None, Some, is_some, refl, sym, ap, ◌∙◌, subst, slice_get}
use Rattle.std.specs.List.{list_any, Contains}
use Rattle.std.specs.Option.{option_map}
use Rattle.std.proofs.lemmas.Bool.{true≢false, false_from_ne_true, and_parts, and_from, eqb-true, eq-eqb}
use Rattle.kb_logic.specs.declared.elements.Elem.{Elem}
use Rattle.kb_logic.specs.declared.vocabularies.Symbol.{Symbol}
use Rattle.kb_logic.specs.declared.syntax.Cmp.{Cmp}
use Rattle.kb_logic.specs.declared.syntax.Cmp.TheVariants as cmp
use Rattle.kb_logic.specs.Trees.{TermTree, variable, integer, constructed, application, summation, product, aggregate}
use Rattle.kb_logic.specs.Trees.{TermTrees, no_terms, more_terms, SummandTrees, no_summands, more_summands, FormulaTree}
use Rattle.kb_logic.specs.Trees.{verum, falsum, atom, comparison, negation, conjunction, disjunction, implication}
use Rattle.kb_logic.specs.Trees.{equivalence, universal, existential, numbered, FormulaTrees, no_formulas}
use Rattle.kb_logic.specs.Trees.{more_formulas}
use Rattle.kb_logic.specs.Structures.{domain_at, choices}
use Rattle.kb_logic.specs.Denotations.{Denotation, denotation_of, same_value, as_number, aggregate_value}
use Rattle.kb_logic.specs.Meaning.{element_value, summand_plus, number_value, product_from}
use Rattle.kb_logic.specs.Models.{GroundAtom, HasValueIn}
use Rattle.kb_logic.proofs.Atoms.{same_is}
use Rattle.kb_logic.proofs.Members.{all_in, some_one, one_is_some}
use Rattle.partial_structures.specs.KnownAtoms.{KnownAtoms, is_atom, same_row, same_option, value_of_row}
use Rattle.certain_truth.specs.Certainty.{truth_if, not_certain, both_certain, either_certain, alike_certain}
use Rattle.certain_truth.specs.Certainty.{all_certain, any_certain, counted, known_count, known_cons, chosen}
use Rattle.certain_truth.specs.Certainty.{known_weights, compared_known, or_else, comparison_certain, known_truth}
use Rattle.certain_truth.specs.Certainty.{known_value, known_values, known_sum, equation_certain, certain_truth}
use Rattle.certain_truth.specs.Certainty.{all_parts, any_part}
use Rattle.partial_structures.specs.Applications.{given_value, applied_known, are_typed, arguments_typed, value_typed}
use Rattle.partial_structures.specs.Applications.{result_typed, outside_value, atom_certain, value_certain}
use Rattle.partial_structures.specs.Consistency.{IsConsistent, KnowsMore}
use Rattle.certain_truth.specs.Laws.{CertaintyIsMonotone}
use Rattle.partial_structures.specs.declared.truths.Truth.{Truth}
use Rattle.partial_structures.specs.declared.truths.Truth.TheVariants.{Yes, No, Unknown}
use Rattle.kb_logic.proofs.Has.{has_from, contains_from}
use Rattle.partial_structures.proofs.Sames.{row_itself, atom_by}
use Rattle.partial_structures.proofs.Walks.{given_found, given_some, row_denotes, stands_is}
use Rattle.certain_truth.proofs.Soundness.{same_sym, denotes, rows_same}

-- u is certain where t is, and the same
abbrev pub Above : Truth → Truth → Type 0
Above Yes u = u ≡ Yes
Above No u = u ≡ No
Above Unknown u = Unit {0}

-- what is known before is known after
abbrev KnownAbove : {X : Type 0} → Option X → Option X → Type 0
KnownAbove None p = Unit {0}
KnownAbove (Some v) p = p ≡ Some v

above_by : (t u v : Truth) → t ≡ u → Above u v → Above t v
above_by t u v e h = subst (λ w. Above w v) (sym e) h

above_map : {X Y : Type 0} (f : X → Y) (o p : Option X) → KnownAbove o p → KnownAbove (option_map f o) (option_map f p)
above_map f None p h = h
above_map f (Some v) p h = ap (option_map f) h

above_not : (t u : Truth) → Above t u → Above (not_certain t) (not_certain u)
above_not Yes u h = ap not_certain h
above_not No u h = ap not_certain h
above_not Unknown u h = h

both_no_right : (t : Truth) → both_certain t No ≡ No
both_no_right Yes = refl
both_no_right No = refl
both_no_right Unknown = refl

either_yes_right : (t : Truth) → either_certain t Yes ≡ Yes
either_yes_right Yes = refl
either_yes_right No = refl
either_yes_right Unknown = refl

above_both : (t u v w : Truth) → Above t v → Above u w → Above (both_certain t u) (both_certain v w)
above_both Yes Yes v w h k = ap (λ x. both_certain x w) h ∙ k
above_both Yes No v w h k = ap (λ x. both_certain x w) h ∙ k
above_both Yes Unknown v w h k = k
above_both No u v w h k = ap (λ x. both_certain x w) h
above_both Unknown Yes v w h k = h
above_both Unknown No v w h k = ap (both_certain v) k ∙ both_no_right v
above_both Unknown Unknown v w h k = h

above_either : (t u v w : Truth) → Above t v → Above u w → Above (either_certain t u) (either_certain v w)
above_either Yes u v w h k = ap (λ x. either_certain x w) h
above_either No Yes v w h k = ap (λ x. either_certain x w) h ∙ k
above_either No No v w h k = ap (λ x. either_certain x w) h ∙ k
above_either No Unknown v w h k = k
above_either Unknown Yes v w h k = ap (either_certain v) k ∙ either_yes_right v
above_either Unknown No v w h k = h
above_either Unknown Unknown v w h k = h

above_alike : (t u v w : Truth) → Above t v → Above u w → Above (alike_certain t u) (alike_certain v w)
above_alike Yes Yes v w h k = ap (λ x. alike_certain x w) h ∙ k
above_alike Yes No v w h k = ap (λ x. alike_certain x w) h ∙ k
above_alike Yes Unknown v w h k = k
above_alike No Yes v w h k = ap (λ x. alike_certain x w) h ∙ ap not_certain k
above_alike No No v w h k = ap (λ x. alike_certain x w) h ∙ ap not_certain k
above_alike No Unknown v w h k = k
above_alike Unknown u v w h k = h

above_same : (t u : Truth) → u ≡ t → Above t u
above_same Yes u h = h
above_same No u h = h
above_same Unknown u h = tt

-- ---- lists

module _ {X : Type 0} (P Q : X → Truth) (above : (x : X) → Above (P x) (Q x)) where
  above_all : (xs : List X) → Above (all_certain P xs) (all_certain Q xs)
  above_all [] = refl
  above_all (x ∷ xs) = above_both (P x) (all_certain P xs) (Q x) (all_certain Q xs) (above x) (above_all xs)

  above_any : (xs : List X) → Above (any_certain P xs) (any_certain Q xs)
  above_any [] = refl
  above_any (x ∷ xs) = above_either (P x) (any_certain P xs) (Q x) (any_certain Q xs) (above x) (above_any xs)

  count_one : (t u : Truth) (o p : Option ℕ) → Above t u → KnownAbove o p → KnownAbove (counted t o) (counted u p)
  count_one Yes u None p h k = tt
  count_one Yes u (Some n) p h k = ap (λ x. counted x p) h ∙ ap (counted Yes) k
  count_one No u None p h k = tt
  count_one No u (Some n) p h k = ap (λ x. counted x p) h ∙ k
  count_one Unknown u o p h k = h

  above_count : (xs : List X) → KnownAbove (known_count P xs) (known_count Q xs)
  above_count [] = refl
  above_count (x ∷ xs) = count_one (P x) (Q x) (known_count P xs) (known_count Q xs) (above x) (above_count xs)

  module _ (V W : X → Option Denotation) (known : (x : X) → KnownAbove (V x) (W x)) where
    weigh : (t u : Truth) (v w : Option Denotation) (o p : Option (List Denotation)) → Above t u → KnownAbove v w
        → KnownAbove o p → KnownAbove (chosen t v o) (chosen u w p)
    weigh Yes u None w o p h k r = tt
    weigh Yes u (Some d) w None p h k r = tt
    weigh Yes u (Some d) w (Some ds) p h k r = ap (λ x. chosen x w p) h ∙ ap (λ x. known_cons x p) k
        ∙ ap (known_cons (Some d)) r
    weigh No u v w None p h k r = tt
    weigh No u v w (Some ds) p h k r = ap (λ x. chosen x w p) h ∙ r
    weigh Unknown u v w o p h k r = tt

    above_weights : (xs : List X) → KnownAbove (known_weights P V xs) (known_weights Q W xs)
    above_weights [] = refl
    above_weights (x ∷ xs) = weigh (P x) (Q x) (V x) (W x) (known_weights P V xs) (known_weights Q W xs) (above x)
        (known x) (above_weights xs)

-- ---- terms and comparisons

above_choice : (b c : Bool) (t u v w : Truth) → c ≡ b → Above t u → Above v w
    → Above (if b then t else v) (if c then u else w)
above_choice true c t u v w e h i = subst (λ x. Above t (cond x u w)) (sym e) h
above_choice false c t u v w e h i = subst (λ x. Above v (cond x u w)) (sym e) i

above_itself : (t : Truth) → Above t t
above_itself Yes = refl
above_itself No = refl
above_itself Unknown = tt

above_trans : (t u v : Truth) → Above t u → Above u v → Above t v
above_trans Yes u v h i = subst (λ x. Above x v) h i
above_trans No u v h i = subst (λ x. Above x v) h i
above_trans Unknown u v h i = tt

above_cons : (o p : Option Denotation) (u w : Option (List Denotation)) → KnownAbove o p → KnownAbove u w
    → KnownAbove (known_cons o u) (known_cons p w)
above_cons None p u w h i = tt
above_cons (Some d) p None w h i = tt
above_cons (Some d) p (Some ds) w h i = ap (λ q. known_cons q w) h ∙ ap (known_cons (Some d)) i

above_plus : (minus : Bool) (o p : Option Denotation) (u w : Option (Option ℤ)) → KnownAbove o p → KnownAbove u w
    → KnownAbove (elim o [ None ↦ None | Some v ↦ option_map (summand_plus minus v) u ])
    (elim p [ None ↦ None | Some v ↦ option_map (summand_plus minus v) w ])
above_plus minus None p u w h i = tt
above_plus minus (Some d) p None w h i = tt
above_plus minus (Some d) p (Some z) w h i = ap (λ q. elim q [
  | None ↦ None
  | Some v ↦ option_map (summand_plus minus v)
      w
]) h ∙ ap (option_map (summand_plus minus d)) i

above_number : (c : Cmp) (z : ℤ) (o p : Option ℕ) → KnownAbove o p → Above (known_truth c z o) (known_truth c z p)
above_number c z None p h = tt
above_number c z (Some n) p h = above_same (known_truth c z (Some n)) (known_truth c z p) (ap (known_truth c z) h)

above_compared : (c : Cmp) (o p u w : Option Denotation) → KnownAbove o p → KnownAbove u w
    → Above (compared_known c o u) (compared_known c p w)
above_compared c None p u w h i = tt
above_compared c (Some a) p None w h i = tt
above_compared c (Some a) p (Some b) w h i = above_same (compared_known c (Some a) (Some b)) (compared_known c p w)
    (ap (λ q. compared_known c q w) h ∙ ap (compared_known c (Some a)) i)

-- ---- the ways of an equation: both agree with the values, where these are known

or_else_both : (t u v : Truth) → Above t v → Above u v → Above (or_else t u) v
or_else_both Yes u v h i = h
or_else_both No u v h i = h
or_else_both Unknown u v h i = i

-- with all ways below a certain truth that comes last, this is the whole
pub or_else_last : (t u : Truth) (b : Bool) → Above t (truth_if b) → Above u (truth_if b)
    → or_else t (or_else u (truth_if b)) ≡ truth_if b
or_else_last Yes u b h i = sym h
or_else_last No u b h i = sym h
or_else_last Unknown Yes b h i = sym i
or_else_last Unknown No b h i = sym i
or_else_last Unknown Unknown b h i = refl

first_only : (t u r s : Truth) → Above t u → r ≡ Unknown → Above (or_else t r) (or_else u s)
first_only Yes u r s h e = ap (λ x. or_else x s) h
first_only No u r s h e = ap (λ x. or_else x s) h
first_only Unknown u r s h e = above_by r Unknown (or_else u s) e tt

second_only : (t u r s : Truth) → t ≡ Unknown → u ≡ Unknown → Above r s → Above (or_else t r) (or_else u s)
second_only t u r s e f h = subst (λ x. Above (or_else x r) (or_else u s)) (sym e)
    (subst (λ x. Above r (or_else x s)) (sym f) h)

-- what is certain of the equation of a value v with a term of the value w, where both are known, is whether they are
-- equal
abbrev pub Agrees : Truth → Option Denotation → Option Denotation → Type 0
Agrees t None w = Unit {0}
Agrees t (Some v) None = Unit {0}
Agrees t (Some v) (Some w) = Above t (truth_if (same_value w v))

agrees_unknown : (v w : Option Denotation) → Agrees Unknown v w
agrees_unknown None w = tt
agrees_unknown (Some v) None = tt
agrees_unknown (Some v) (Some w) = tt

compared_unknown : (o : Option Denotation) → compared_known cmp.Eq o None ≡ Unknown
compared_unknown None = refl
compared_unknown (Some a) = refl

-- the two sides of an equation: what each is certain of, given the other's value, and their values, before and after
above_equation : (P Q R S : Option Denotation → Truth) (a p b q : Option Denotation) → P None ≡ Unknown
    → Q None ≡ Unknown → R None ≡ Unknown
    → Above (P b) (Q q) → Above (R a) (S p) → KnownAbove a p → KnownAbove b q → Agrees (Q q) q p → Agrees (S p) p q
    → Above (or_else (P b) (or_else (R a) (compared_known cmp.Eq a b)))
    (or_else (Q q) (or_else (S p) (compared_known cmp.Eq p q)))
above_equation P Q R S a (Some x) b (Some y) np nq nr left right ha hb al ar =
    let both = subst (λ c. Above (S (Some x)) (truth_if c)) (same_sym y x) ar in
    subst (Above (or_else (P b) (or_else (R a) (compared_known cmp.Eq a b))))
    (sym (or_else_last (Q (Some y)) (S (Some x)) (same_value x y) al both))
    (or_else_both (P b) (or_else (R a) (compared_known cmp.Eq a b)) (truth_if (same_value x y))
    (above_trans (P b) (Q (Some y)) (truth_if (same_value x y)) left al)
    (or_else_both (R a) (compared_known cmp.Eq a b) (truth_if (same_value x y))
    (above_trans (R a) (S (Some x)) (truth_if (same_value x y)) right both)
    (above_compared cmp.Eq a (Some x) b (Some y) ha hb)))
above_equation P Q R S (Some z) None b q np nq nr left right ha hb al ar = cc
above_equation P Q R S None None b q np nq nr left right ha hb al ar = first_only (P b) (Q q) (or_else (R None) Unknown)
    (or_else (S None) Unknown) left (ap (λ x. or_else x Unknown) nr)
above_equation P Q R S a (Some x) (Some z) None np nq nr left right ha hb al ar = cc
above_equation P Q R S a (Some x) None None np nq nr left right ha hb al ar =
    second_only (P None) (Q None) (or_else (R a) (compared_known cmp.Eq a None)) (or_else (S (Some x)) Unknown) np nq
    (first_only (R a) (S (Some x)) (compared_known cmp.Eq a None) Unknown right (compared_unknown a))

above_comparison : (c : Cmp) (P Q R S : Option Denotation → Truth) (a p b q : Option Denotation) → P None ≡ Unknown
    → Q None ≡ Unknown → R None ≡ Unknown
    → Above (P b) (Q q) → Above (R a) (S p) → KnownAbove a p → KnownAbove b q → Agrees (Q q) q p → Agrees (S p) p q
    → Above (comparison_certain c (P b) (R a) a b) (comparison_certain c (Q q) (S p) p q)
above_comparison cmp.Eq P Q R S a p b q np nq nr left right ha hb al ar =
    above_equation P Q R S a p b q np nq nr left right ha hb al ar
above_comparison cmp.Ne P Q R S a p b q np nq nr left right ha hb al ar = above_compared cmp.Ne a p b q ha hb
above_comparison cmp.Lt P Q R S a p b q np nq nr left right ha hb al ar = above_compared cmp.Lt a p b q ha hb
above_comparison cmp.Gt P Q R S a p b q np nq nr left right ha hb al ar = above_compared cmp.Gt a p b q ha hb
above_comparison cmp.Le P Q R S a p b q np nq nr left right ha hb al ar = above_compared cmp.Le a p b q ha hb
above_comparison cmp.Ge P Q R S a p b q np nq nr left right ha hb al ar = above_compared cmp.Ge a p b q ha hb

value_none : (k : KnownAtoms) (s : ℕ) (o : Option (List Denotation)) → value_certain k s o None ≡ Unknown
value_none k s None = refl
value_none k s (Some vs) = refl

pub equation_none : (k : KnownAtoms) (t : TermTree) (e : List Elem) → equation_certain k t None e ≡ Unknown
equation_none k (variable n) e = refl
equation_none k (integer z) e = refl
equation_none k (constructed ty n) e = refl
equation_none k (application s ts) e = value_none k s (known_values k ts e)
equation_none k (summation ss) e = refl
equation_none k (product ts) e = refl
equation_none k (aggregate kind bs f t) e = refl

-- ---- lists of atoms

options_same : (o p : Option Elem) (v : Option Denotation) → same_option o v ≡ true → same_option p v ≡ true → o ≡ p
options_same None None v h i = refl
options_same None (Some y) None h i = cc
options_same None (Some y) (Some d) h i = cc
options_same (Some x) p None h i = cc
options_same (Some x) None (Some d) h i = cc
options_same (Some x) (Some y) (Some d) h i = ap Some (denotes x y (same_is (denotation_of x) d h
    ∙ sym (same_is (denotation_of y) d i)))

atom_parts : (s : ℕ) (vs : List Denotation) (v : Option Denotation) (a : GroundAtom) → is_atom s vs v a ≡ true
    → (a.symbol ≡ s) × (map denotation_of a.args ≡ vs) × (same_option a.value v ≡ true)
atom_parts s vs v a h =
    let both = and_parts (a.symbol == s) (same_row a.args vs && same_option a.value v) h in
    let rest = and_parts (same_row a.args vs) (same_option a.value v) both.1 in
    (eqb-true a.symbol s both.0, row_denotes a.args vs rest.0, rest.1)

is_that_atom : (s : ℕ) (vs : List Denotation) (v : Option Denotation) (a : GroundAtom) → a.symbol ≡ s
    → map denotation_of a.args ≡ vs → same_option a.value v ≡ true → is_atom s vs v a ≡ true
is_that_atom s vs v a e r h =
    and_from (a.symbol == s) (same_row a.args vs && same_option a.value v) (eq-eqb a.symbol s e)
    (and_from (same_row a.args vs) (same_option a.value v) (subst (λ us. same_row a.args us ≡ true) r
    (row_itself a.args)) h)

atoms_same : (s : ℕ) (vs : List Denotation) (v : Option Denotation) (a b : GroundAtom) → is_atom s vs v a ≡ true
    → is_atom s vs v b ≡ true → a ≡ b
atoms_same s vs v a b h i =
    let x = atom_parts s vs v a h in
    let y = atom_parts s vs v b i in
    atom_by a b (x.0 ∙ sym y.0) (rows_same a.args b.args (x.1 ∙ sym y.1)) (options_same a.value b.value v x.2 y.2)

still : (T : GroundAtom → Bool) (xs ys : List GroundAtom) → ((a : GroundAtom) → Contains xs a → Contains ys a)
    → list_any T xs ≡ true → list_any T ys ≡ true
still T xs ys sub h = let r = some_one T xs h in one_is_some T ys r.0 (sub r.0 r.1) r.2

module _ (j : KnownAtoms) (whole : IsConsistent j) where
  -- a value that is given is of the function's value type
  in_type : (o : Option ℕ) (x : Elem) → HasValueIn j.domains o (Some x) → value_typed j o (denotation_of x) ≡ true
  in_type None x h = absurd h
  in_type (Some ty) x h = stands_is (domain_at j.domains ty) x (has_from (domain_at j.domains ty) x h)

  pub given_result : (s : ℕ) (vs : List Denotation) (x : Elem) → given_value s vs j.true_atoms ≡ Some x
      → (d : Symbol) × (slice_get j.symbols s ≡ Some d) × HasValueIn j.domains d.value (Some x)
  given_result s vs x e =
      let g = given_found s vs j.true_atoms x e in
      let over = all_in _ j.true_atoms whole.over g.0 (contains_from j.true_atoms g.0 g.1) in
      (over.0, ap (slice_get j.symbols) (sym g.2) ∙ over.1, subst (HasValueIn j.domains over.0.value) g.4 over.3)

  given_typed : (s : ℕ) (vs : List Denotation) (x : Elem) → given_value s vs j.true_atoms ≡ Some x
      → result_typed j (slice_get j.symbols s) (denotation_of x) ≡ true
  given_typed s vs x e = let r = given_result s vs x e in ap (λ o. result_typed j o (denotation_of x)) r.1
      ∙ in_type r.0.value x r.2

  given_is_true : (s : ℕ) (vs : List Denotation) (x : Elem) (v : Denotation) → given_value s vs j.true_atoms ≡ Some x
      → same_value (denotation_of x) v ≡ true → list_any (is_atom s vs (Some v)) j.true_atoms ≡ true
  given_is_true s vs x v e h =
      let g = given_found s vs j.true_atoms x e in
      one_is_some (is_atom s vs (Some v)) j.true_atoms g.0 (contains_from j.true_atoms g.0 g.1)
      (is_that_atom s vs (Some v) g.0 g.2 g.3 (ap (λ o. same_option o (Some v)) g.4 ∙ h))

  true_is_given : (s : ℕ) (vs : List Denotation) (x : Elem) (v : Denotation) → given_value s vs j.true_atoms ≡ Some x
      → list_any (is_atom s vs (Some v)) j.true_atoms ≡ true → same_value (denotation_of x) v ≡ true
  true_is_given s vs x v e h =
      let g = given_found s vs j.true_atoms x e in
      let r = some_one (is_atom s vs (Some v)) j.true_atoms h in
      let p = atom_parts s vs (Some v) r.0 r.2 in
      let same : r.0 ≡ g.0 = whole.single r.0 g.0 r.1 (contains_from j.true_atoms g.0 g.1) (p.0 ∙ sym g.2)
      (rows_same r.0.args g.0.args (p.1 ∙ sym g.3)) in
      ap (λ o. same_option o (Some v)) (sym g.4 ∙ ap (λ (a : GroundAtom). a.value) (sym same)) ∙ p.2

  row_agrees : (s : ℕ) (vs : List Denotation) (x : Elem) (v : Denotation) → given_value s vs j.true_atoms ≡ Some x
      → Above (value_of_row j s vs (Some v)) (truth_if (same_value (denotation_of x) v))
  row_agrees s vs x v e = by (list_any (is_atom s vs (Some v)) j.true_atoms) refl
      (list_any (is_atom s vs (Some v)) j.false_atoms)
    where
      by : (t : Bool) → list_any (is_atom s vs (Some v)) j.true_atoms ≡ t → (f : Bool)
          → Above (if t then Yes else (if f then No else Unknown)) (truth_if (same_value (denotation_of x) v))
      by true h f = ap truth_if (true_is_given s vs x v e h)
      by false h true = ap truth_if (false_from_ne_true (same_value (denotation_of x) v)
          (λ i. true≢false (sym (given_is_true s vs x v e i) ∙ h)))
      by false h false = tt

  outside_agrees : (s : ℕ) (vs : List Denotation) (x : Elem) (v : Denotation) (o : Option Symbol)
      → given_value s vs j.true_atoms ≡ Some x → result_typed j (slice_get j.symbols s) v ≡ false
      → Above (outside_value o) (truth_if (same_value (denotation_of x) v))
  outside_agrees s vs x v None e h = tt
  outside_agrees s vs x v (Some d) e h = by (is_some d.value)
    where
      by : (b : Bool) → Above (if b then No else Unknown) (truth_if (same_value (denotation_of x) v))
      by true = ap truth_if (false_from_ne_true (same_value (denotation_of x) v) (λ i.
          true≢false (sym (given_typed s vs x e) ∙ ap (result_typed j (slice_get j.symbols s))
          (same_is (denotation_of x) v i) ∙ h)))
      by false = tt

  value_agrees : (s : ℕ) (vs : List Denotation) (x : Elem) (v : Denotation) → given_value s vs j.true_atoms ≡ Some x
      → Above (value_certain j s (Some vs) (Some v)) (truth_if (same_value (denotation_of x) v))
  value_agrees s vs x v e = by (arguments_typed j (slice_get j.symbols s) vs)
      (result_typed j (slice_get j.symbols s) v) refl
    where
      by : (b r : Bool) → result_typed j (slice_get j.symbols s) v ≡ r
          → Above (if b then (if r then value_of_row j s vs (Some v) else outside_value (slice_get j.symbols s)) else
          Unknown) (truth_if (same_value (denotation_of x) v))
      by false r h = tt
      by true true h = row_agrees s vs x v e
      by true false h = outside_agrees s vs x v (slice_get j.symbols s) e h

  applied_agrees : (s : ℕ) (o : Option (List Denotation)) (v : Option Denotation) → Agrees (value_certain j s o v) v
      (applied_known j s o)
  applied_agrees s None v = agrees_unknown v None
  applied_agrees s (Some vs) None = tt
  applied_agrees s (Some vs) (Some v) = by (given_value s vs j.true_atoms) refl
    where
      by : (o : Option Elem) → given_value s vs j.true_atoms ≡ o → Agrees (value_certain j s (Some vs) (Some v))
          (Some v) (option_map denotation_of o)
      by None e = tt
      by (Some x) e = value_agrees s vs x v e

  pub equation_agrees : (t : TermTree) (v : Option Denotation) (e : List Elem) → Agrees (equation_certain j t v e) v
      (known_value j t e)
  equation_agrees (variable n) v e = agrees_unknown v (known_value j (variable n) e)
  equation_agrees (integer z) v e = agrees_unknown v (known_value j (integer z) e)
  equation_agrees (constructed ty n) v e = agrees_unknown v (known_value j (constructed ty n) e)
  equation_agrees (application s ts) v e = applied_agrees s (known_values j ts e) v
  equation_agrees (summation ss) v e = agrees_unknown v (known_value j (summation ss) e)
  equation_agrees (product ts) v e = agrees_unknown v (known_value j (product ts) e)
  equation_agrees (aggregate kind bs f t) v e = agrees_unknown v (known_value j (aggregate kind bs f t) e)

  module _ (k : KnownAtoms) (more : KnowsMore k j) where
    row_above : (s : ℕ) (vs : List Denotation) (v : Option Denotation) → Above (value_of_row k s vs v)
        (value_of_row j s vs v)
    row_above s vs v = by (list_any (is_atom s vs v) k.true_atoms) refl (list_any (is_atom s vs v) k.false_atoms) refl
      where
        by : (t : Bool) → list_any (is_atom s vs v) k.true_atoms ≡ t → (f : Bool)
            → list_any (is_atom s vs v) k.false_atoms ≡ f → Above (if t then Yes else (if f then No else Unknown))
            (value_of_row j s vs v)
        by true h f i = ap (λ b. if b then Yes else (if list_any (is_atom s vs v) j.false_atoms then No else Unknown))
            (still (is_atom s vs v) k.true_atoms j.true_atoms more.true_atoms h)
        by false h true i =
            let there = still (is_atom s vs v) k.false_atoms j.false_atoms more.false_atoms i in
            let none : list_any (is_atom s vs v) j.true_atoms ≡ false =
            false_from_ne_true (list_any (is_atom s vs v) j.true_atoms) (λ e.
            let a = some_one (is_atom s vs v) j.true_atoms e in
            let b = some_one (is_atom s vs v) j.false_atoms there in
            whole.apart a.0 a.1 (subst (Contains j.false_atoms) (atoms_same s vs v b.0 a.0 b.2 a.2) b.1)) in
            ap (λ b. if b then Yes else (if list_any (is_atom s vs v) j.false_atoms then No else Unknown)) none
            ∙ ap (λ b. if b then No else Unknown) there
        by false h false i = tt

    typed_by : (o : Option Symbol) (vs : List Denotation) → arguments_typed j o vs ≡ arguments_typed k o vs
    typed_by None vs = refl
    typed_by (Some d) vs = ap (λ ds. are_typed ds d.args vs) more.domains

    typed_same : (s : ℕ) (vs : List Denotation) → arguments_typed j (slice_get j.symbols s) vs ≡ arguments_typed k
        (slice_get k.symbols s) vs
    typed_same s vs = ap (λ (ss : List Symbol). arguments_typed j (slice_get ss s) vs) more.symbols
        ∙ typed_by (slice_get k.symbols s) vs

    value_by : (o : Option ℕ) (v : Denotation) → value_typed j o v ≡ value_typed k o v
    value_by None v = refl
    value_by (Some ty) v = ap (λ ds. value_typed (record j { domains = ds }) (Some ty) v) more.domains

    result_by : (o : Option Symbol) (v : Denotation) → result_typed j o v ≡ result_typed k o v
    result_by None v = refl
    result_by (Some d) v = value_by d.value v

    result_same : (s : ℕ) (v : Denotation) → result_typed j (slice_get j.symbols s) v ≡ result_typed k
        (slice_get k.symbols s) v
    result_same s v = ap (λ (ss : List Symbol). result_typed j (slice_get ss s) v) more.symbols
        ∙ result_by (slice_get k.symbols s) v

    outside_above : (s : ℕ) → Above (outside_value (slice_get k.symbols s)) (outside_value (slice_get j.symbols s))
    outside_above s = above_same (outside_value (slice_get k.symbols s)) (outside_value (slice_get j.symbols s))
        (ap (λ (ss : List Symbol). outside_value (slice_get ss s)) more.symbols)

    atom_above : (s : ℕ) (o p : Option (List Denotation)) → KnownAbove o p
        → Above (atom_certain k s o) (atom_certain j s p)
    atom_above s None p h = tt
    atom_above s (Some vs) p h =
        subst (λ q. Above (atom_certain k s (Some vs)) (atom_certain j s q)) (sym h)
        (above_choice (arguments_typed k (slice_get k.symbols s) vs) (arguments_typed j (slice_get j.symbols s) vs)
        (value_of_row k s vs None) (value_of_row j s vs None) No No (typed_same s vs) (row_above s vs None) refl)

    value_row_above : (s : ℕ) (vs : List Denotation) (v : Denotation) → Above (value_certain k s (Some vs) (Some v))
        (value_certain j s (Some vs) (Some v))
    value_row_above s vs v =
        above_choice (arguments_typed k (slice_get k.symbols s) vs) (arguments_typed j (slice_get j.symbols s) vs)
        (if result_typed k (slice_get k.symbols s) v then value_of_row k s vs (Some v) else
        outside_value (slice_get k.symbols s))
        (if result_typed j (slice_get j.symbols s) v then value_of_row j s vs (Some v) else
        outside_value (slice_get j.symbols s)) Unknown Unknown (typed_same s vs)
        (above_choice (result_typed k (slice_get k.symbols s) v) (result_typed j (slice_get j.symbols s) v)
        (value_of_row k s vs (Some v)) (value_of_row j s vs (Some v)) (outside_value (slice_get k.symbols s))
        (outside_value (slice_get j.symbols s))
        (result_same s v) (row_above s vs (Some v)) (outside_above s)) tt

    value_above_at : (s : ℕ) (o p : Option (List Denotation)) (u w : Option Denotation) → KnownAbove o p
        → KnownAbove u w → Above (value_certain k s o u) (value_certain j s p w)
    value_above_at s None p u w h i = tt
    value_above_at s (Some vs) p None w h i = tt
    value_above_at s (Some vs) p (Some v) w h i =
        subst (λ q. Above (value_certain k s (Some vs) (Some v)) (value_certain j s q w)) (sym h)
        (subst (λ q. Above (value_certain k s (Some vs) (Some v)) (value_certain j s (Some vs) q)) (sym i)
        (value_row_above s vs v))

    given_above : (s : ℕ) (vs : List Denotation) → KnownAbove (given_value s vs k.true_atoms)
        (given_value s vs j.true_atoms)
    given_above s vs = by (given_value s vs k.true_atoms) refl
      where
        by : (o : Option Elem) → given_value s vs k.true_atoms ≡ o → KnownAbove o (given_value s vs j.true_atoms)
        by None e = tt
        by (Some x) e =
            let g = given_found s vs k.true_atoms x e in
            let at = more.true_atoms g.0 (contains_from k.true_atoms g.0 g.1) in
            let r = given_some s vs j.true_atoms g.0 x (has_from j.true_atoms g.0 at) g.2 g.3 g.4 in
            let q = given_found s vs j.true_atoms r.0 r.1 in
            let same : q.0 ≡ g.0 = whole.single q.0 g.0 (contains_from j.true_atoms q.0 q.1) at (q.2 ∙ sym g.2)
            (rows_same q.0.args g.0.args (q.3 ∙ sym g.3)) in
            r.1 ∙ sym q.4 ∙ ap (λ (a : GroundAtom). a.value) same ∙ g.4

    applied_above : (s : ℕ) (o p : Option (List Denotation)) → KnownAbove o p → KnownAbove (applied_known k s o)
        (applied_known j s p)
    applied_above s None p h = tt
    applied_above s (Some vs) p h =
        subst (λ q. KnownAbove (applied_known k s (Some vs)) (applied_known j s q)) (sym h)
        (above_map denotation_of (given_value s vs k.true_atoms) (given_value s vs j.true_atoms) (given_above s vs))

    mutual
      value_above : (t : TermTree) (e : List Elem) → KnownAbove (known_value k t e) (known_value j t e)
      value_above (variable n) e = refl
      value_above (integer z) e = refl
      value_above (constructed ty n) e = ap (λ ds. Some (element_value (slice_get (domain_at ds ty) n))) more.domains
      value_above (application s ts) e = applied_above s (known_values k ts e) (known_values j ts e) (values_above ts e)
      value_above (summation ss) e = above_map number_value (known_sum k ss e) (known_sum j ss e) (sum_above ss e)
      value_above (product ts) e = above_map (λ vs. number_value (product_from (pos 1) vs)) (known_values k ts e)
          (known_values j ts e) (values_above ts e)
      value_above (aggregate kind bs f t) e =
          above_map (aggregate_value kind) (known_weights (λ a. certain_truth k f (e ++ a))
          (λ a. option_map as_number (known_value k t (e ++ a))) (choices k.domains bs))
          (known_weights (λ a. certain_truth j f (e ++ a)) (λ a. option_map as_number (known_value j t (e ++ a)))
          (choices j.domains bs))
          (subst (λ ds. KnownAbove (known_weights (λ a. certain_truth k f (e ++ a))
          (λ a. option_map as_number (known_value k t (e ++ a))) (choices k.domains bs))
          (known_weights (λ a. certain_truth j f (e ++ a)) (λ a. option_map as_number (known_value j t (e ++ a)))
          (choices ds bs))) (sym more.domains)
          (above_weights (λ a. certain_truth k f (e ++ a)) (λ a. certain_truth j f (e ++ a))
          (λ a. formula_above f (e ++ a))
          (λ a. option_map as_number (known_value k t (e ++ a))) (λ a. option_map as_number (known_value j t (e ++ a)))
          (λ a. above_map as_number (known_value k t (e ++ a)) (known_value j t (e ++ a)) (value_above t (e ++ a)))
          (choices k.domains bs)))

      values_above : (ts : TermTrees) (e : List Elem) → KnownAbove (known_values k ts e) (known_values j ts e)
      values_above no_terms e = refl
      values_above (more_terms t ts) e = above_cons (known_value k t e) (known_value j t e) (known_values k ts e)
          (known_values j ts e) (value_above t e) (values_above ts e)

      sum_above : (ss : SummandTrees) (e : List Elem) → KnownAbove (known_sum k ss e) (known_sum j ss e)
      sum_above no_summands e = refl
      sum_above (more_summands minus t ss) e = above_plus minus (known_value k t e) (known_value j t e)
          (known_sum k ss e) (known_sum j ss e) (value_above t e) (sum_above ss e)

      equation_above : (t : TermTree) (u w : Option Denotation) (e : List Elem) → KnownAbove u w
          → Above (equation_certain k t u e) (equation_certain j t w e)
      equation_above (variable n) u w e h = tt
      equation_above (integer z) u w e h = tt
      equation_above (constructed ty n) u w e h = tt
      equation_above (application s ts) u w e h = value_above_at s (known_values k ts e) (known_values j ts e) u w
          (values_above ts e) h
      equation_above (summation ss) u w e h = tt
      equation_above (product ts) u w e h = tt
      equation_above (aggregate kind bs f t) u w e h = tt

      formula_above : (f : FormulaTree) (e : List Elem) → Above (certain_truth k f e) (certain_truth j f e)
      formula_above verum e = refl
      formula_above falsum e = refl
      formula_above (atom s ts) e = atom_above s (known_values k ts e) (known_values j ts e) (values_above ts e)
      formula_above (comparison c a b) e =
          above_comparison c (λ u. equation_certain k a u e) (λ u. equation_certain j a u e)
          (λ u. equation_certain k b u e) (λ u. equation_certain j b u e)
          (known_value k a e) (known_value j a e) (known_value k b e) (known_value j b e) (equation_none k a e)
          (equation_none j a e) (equation_none k b e)
          (equation_above a (known_value k b e) (known_value j b e) e (value_above b e))
          (equation_above b (known_value k a e) (known_value j a e) e (value_above a e)) (value_above a e)
          (value_above b e)
          (equation_agrees a (known_value j b e) e) (equation_agrees b (known_value j a e) e)
      formula_above (negation f) e = above_not (certain_truth k f e) (certain_truth j f e) (formula_above f e)
      formula_above (conjunction fs) e = all_above fs e
      formula_above (disjunction fs) e = any_above fs e
      formula_above (implication f g) e =
          above_either (not_certain (certain_truth k f e)) (certain_truth k g e) (not_certain (certain_truth j f e))
          (certain_truth j g e) (above_not (certain_truth k f e) (certain_truth j f e) (formula_above f e))
          (formula_above g e)
      formula_above (equivalence f g) e = above_alike (certain_truth k f e) (certain_truth k g e) (certain_truth j f e)
          (certain_truth j g e) (formula_above f e) (formula_above g e)
      formula_above (universal bs f) e =
          subst (λ ds. Above (all_certain (λ a. certain_truth k f (e ++ a)) (choices k.domains bs))
          (all_certain (λ a. certain_truth j f (e ++ a)) (choices ds bs))) (sym more.domains)
          (above_all (λ a. certain_truth k f (e ++ a)) (λ a. certain_truth j f (e ++ a)) (λ a. formula_above f (e ++ a))
          (choices k.domains bs))
      formula_above (existential bs f) e =
          subst (λ ds. Above (any_certain (λ a. certain_truth k f (e ++ a)) (choices k.domains bs))
          (any_certain (λ a. certain_truth j f (e ++ a)) (choices ds bs))) (sym more.domains)
          (above_any (λ a. certain_truth k f (e ++ a)) (λ a. certain_truth j f (e ++ a)) (λ a. formula_above f (e ++ a))
          (choices k.domains bs))
      formula_above (numbered c n bs f) e =
          above_number c n (known_count (λ a. certain_truth k f (e ++ a)) (choices k.domains bs))
          (known_count (λ a. certain_truth j f (e ++ a)) (choices j.domains bs))
          (subst (λ ds. KnownAbove (known_count (λ a. certain_truth k f (e ++ a)) (choices k.domains bs))
          (known_count (λ a. certain_truth j f (e ++ a)) (choices ds bs))) (sym more.domains)
          (above_count (λ a. certain_truth k f (e ++ a)) (λ a. certain_truth j f (e ++ a))
          (λ a. formula_above f (e ++ a)) (choices k.domains bs)))

      all_above : (fs : FormulaTrees) (e : List Elem) → Above (all_parts k fs e) (all_parts j fs e)
      all_above no_formulas e = refl
      all_above (more_formulas f fs) e = above_both (certain_truth k f e) (all_parts k fs e) (certain_truth j f e)
          (all_parts j fs e) (formula_above f e) (all_above fs e)

      any_above : (fs : FormulaTrees) (e : List Elem) → Above (any_part k fs e) (any_part j fs e)
      any_above no_formulas e = refl
      any_above (more_formulas f fs) e = above_either (certain_truth k f e) (any_part k fs e) (certain_truth j f e)
          (any_part j fs e) (formula_above f e) (any_above fs e)

pub certainty_is_monotone : CertaintyIsMonotone
certainty_is_monotone k j whole more = (
  λ f e. (
    λ h. subst (λ t. Above t (certain_truth j f e)) h (formula_above j whole k more f e),
    λ h. subst (λ t. Above t (certain_truth j f e)) h (formula_above j whole k more f e),
  ),
  λ t e v h. subst (λ o. KnownAbove o (known_value j t e)) h (value_above j whole k more t e),
)
