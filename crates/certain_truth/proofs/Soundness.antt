-- What is certain is so in every structure that extends the data.
use Rattle.std.proofs.Common.{◌≡◌, ℕ, suc, ◌+◌, ℤ, pos, List, [], ◌∷◌, ◌++◌, map, filter, length, Bool, true, false}
use Rattle.std.proofs.Common.{◌&&◌, ◌||◌, ◌==◌, not, cond, if◌then◌else◌, Option, None, Some, is_some, IfSome, refl}
use Rattle.std.proofs.Common.{sym, ap, ◌∙◌, subst, slice_get, arith, inl, inr}
use Rattle.std.specs.List.{list_any, list_all, count_by, Contains}
use Rattle.std.specs.Option.{option_map}
use Rattle.std.proofs.lemmas.Bool.{cases_Bool, true≢false, false_from_ne_true, and_parts, eqb-true, or_cases}
use Rattle.std.proofs.lemmas.List.Sums.{sum_by-cons}
use Rattle.kb_logic.specs.declared.elements.Elem.{Elem}
use Rattle.kb_logic.specs.declared.elements.Elem.TheVariants.{Named, Num}
use Rattle.kb_logic.specs.declared.vocabularies.Symbol.{Symbol}
use Rattle.kb_logic.specs.declared.vocabularies.Vocabulary.{Vocabulary}
use Rattle.kb_logic.specs.declared.structures.Structure.{Structure}
use Rattle.kb_logic.specs.declared.syntax.Cmp.{Cmp}
use Rattle.kb_logic.specs.declared.syntax.Cmp.TheVariants as cmp
use Rattle.kb_logic.specs.Trees.{TermTree, variable, integer, constructed, application, summation, product, aggregate}
use Rattle.kb_logic.specs.Trees.{TermTrees, no_terms, more_terms, SummandTrees, no_summands, more_summands, FormulaTree}
use Rattle.kb_logic.specs.Trees.{verum, falsum, atom, comparison, negation, conjunction, disjunction, implication}
use Rattle.kb_logic.specs.Trees.{equivalence, universal, existential, numbered, FormulaTrees, no_formulas}
use Rattle.kb_logic.specs.Trees.{more_formulas}
use Rattle.kb_logic.specs.Structures.{IsDistinct, EachWith, IsRowFor, IsFunction, IsStructure, domain_at, tuples_of}
use Rattle.kb_logic.specs.Structures.{choices, functions_of}
use Rattle.kb_logic.specs.Denotations.{Denotation, named, number, minus_infinity, plus_infinity, undefined}
use Rattle.kb_logic.specs.Denotations.{denotation_of, same_value, compared, as_number, aggregate_value}
use Rattle.kb_logic.specs.Meaning.{rows_of, behind, last_value, applied, element_value, summand_plus, number_value}
use Rattle.kb_logic.specs.Meaning.{product_from, same_truth, values_where, value_of, values_of, sum_of, truth_of}
use Rattle.kb_logic.specs.Meaning.{all_true, any_true}
use Rattle.kb_logic.specs.Models.{GroundAtom, AtomHolds}
use Rattle.kb_logic.proofs.Atoms.{same_is, atom_is_membership, tuple_elements}
use Rattle.kb_logic.proofs.Members.{from_filter, all_in}
use Rattle.partial_structures.specs.KnownAtoms.{KnownAtoms, is_atom, same_row, same_option, value_of_row}
use Rattle.partial_structures.specs.Extension.{ExtendsData}
use Rattle.certain_truth.specs.Certainty.{truth_if, not_certain, both_certain, either_certain, alike_certain}
use Rattle.certain_truth.specs.Certainty.{all_certain, any_certain, counted, known_count, known_cons, chosen}
use Rattle.certain_truth.specs.Certainty.{known_weights, compared_known, or_else, comparison_certain, known_truth}
use Rattle.certain_truth.specs.Certainty.{known_value, known_values, known_sum, equation_certain, certain_truth}
use Rattle.certain_truth.specs.Certainty.{all_parts, any_part}
use Rattle.partial_structures.specs.Applications.{given_value, applied_known, stands_in, are_typed, arguments_typed}
use Rattle.partial_structures.specs.Applications.{value_typed, result_typed, outside_value, atom_certain, value_certain}
use Rattle.certain_truth.specs.Laws.{CertaintyIsSound}
use Rattle.partial_structures.specs.declared.truths.Truth.{Truth}
use Rattle.partial_structures.specs.declared.truths.Truth.TheVariants.{Yes, No, Unknown}
use Rattle.kb_logic.proofs.Has.{Has, has_from, contains_from}
use Rattle.partial_structures.proofs.Sames.{row_is, same_element, element_itself, row_itself}
use Rattle.kb_logic.proofs.DistinctAtoms.{tuples_distinct}
use Rattle.partial_structures.proofs.Tallies.{parts_are}
use Rattle.partial_structures.specs.Tally.{parts_of}
use Rattle.kb_logic.proofs.Tables.{each_left, each_right, rows_at, row_table, function_symbols, relation_of}
use Rattle.kb_logic.proofs.Tables.{function_of, function_has}
use Rattle.partial_structures.proofs.Walks.{given_found, row_denotes, typed_tuple, tuple_from, stands_is}

-- ---- what is known, where it is known

abbrev pub Sound : Truth → Bool → Type 0
Sound Yes b = b ≡ true
Sound No b = b ≡ false
Sound Unknown b = Unit {0}

abbrev pub KnownIs : {X : Type 0} → Option X → X → Type 0
KnownIs None v = Unit {0}
KnownIs (Some u) v = v ≡ u

known_map : {X Y : Type 0} (f : X → Y) (o : Option X) (v : X) → KnownIs o v → KnownIs (option_map f o) (f v)
known_map f None v h = h
known_map f (Some u) v h = ap f h

sound_not : (t : Truth) (b : Bool) → Sound t b → Sound (not_certain t) (not b)
sound_not Yes b h = ap not h
sound_not No b h = ap not h
sound_not Unknown b h = h

and_false : (b : Bool) → (b && false) ≡ false
and_false true = refl
and_false false = refl

or_true : (b : Bool) → (b || true) ≡ true
or_true true = refl
or_true false = refl

sound_both : (t u : Truth) (b c : Bool) → Sound t b → Sound u c → Sound (both_certain t u) (b && c)
sound_both Yes Yes b c h k = ap (λ x. x && c) h ∙ k
sound_both Yes No b c h k = ap (λ x. x && c) h ∙ k
sound_both Yes Unknown b c h k = k
sound_both No u b c h k = ap (λ x. x && c) h
sound_both Unknown Yes b c h k = h
sound_both Unknown No b c h k = ap (λ x. b && x) k ∙ and_false b
sound_both Unknown Unknown b c h k = h

sound_either : (t u : Truth) (b c : Bool) → Sound t b → Sound u c → Sound (either_certain t u) (b || c)
sound_either Yes u b c h k = ap (λ x. x || c) h
sound_either No Yes b c h k = ap (λ x. x || c) h ∙ k
sound_either No No b c h k = ap (λ x. x || c) h ∙ k
sound_either No Unknown b c h k = k
sound_either Unknown Yes b c h k = ap (λ x. b || x) k ∙ or_true b
sound_either Unknown No b c h k = h
sound_either Unknown Unknown b c h k = h

sound_alike : (t u : Truth) (b c : Bool) → Sound t b → Sound u c → Sound (alike_certain t u) (same_truth b c)
sound_alike Yes Yes b c h k = ap (λ x. same_truth x c) h ∙ k
sound_alike Yes No b c h k = ap (λ x. same_truth x c) h ∙ k
sound_alike Yes Unknown b c h k = k
sound_alike No Yes b c h k = ap (λ x. same_truth x c) h ∙ ap not k
sound_alike No No b c h k = ap (λ x. same_truth x c) h ∙ ap not k
sound_alike No Unknown b c h k = k
sound_alike Unknown u b c h k = h

sound_if : (b c : Bool) → c ≡ b → Sound (truth_if b) c
sound_if true c h = h
sound_if false c h = h

sound_or_else : (t u : Truth) (b : Bool) → Sound t b → Sound u b → Sound (or_else t u) b
sound_or_else Yes u b h k = h
sound_or_else No u b h k = h
sound_or_else Unknown u b h k = k

module _ {X : Type 0} (P : X → Truth) (T : X → Bool) (sound : (x : X) → Sound (P x) (T x)) where
  sound_all : (xs : List X) → Sound (all_certain P xs) (list_all T xs)
  sound_all [] = refl
  sound_all (x ∷ xs) = sound_both (P x) (all_certain P xs) (T x) (list_all T xs) (sound x) (sound_all xs)

  sound_any : (xs : List X) → Sound (any_certain P xs) (list_any T xs)
  sound_any [] = refl
  sound_any (x ∷ xs) = sound_either (P x) (any_certain P xs) (T x) (list_any T xs) (sound x) (sound_any xs)

  count_by_one : (t : Truth) (b : Bool) (o : Option ℕ) (n : ℕ) → Sound t b → KnownIs o n
      → KnownIs (counted t o) (cond b 1 0 + n)
  count_by_one Yes b None n h k = k
  count_by_one Yes b (Some m) n h k = ap (λ x. cond x 1 0 + n) h ∙ omega (arith, k)
  count_by_one No b None n h k = k
  count_by_one No b (Some m) n h k = ap (λ x. cond x 1 0 + n) h ∙ omega (arith, k)
  count_by_one Unknown b o n h k = h

  sound_count : (xs : List X) → KnownIs (known_count P xs) (count_by T xs)
  sound_count [] = refl
  sound_count (x ∷ xs) =
      subst (KnownIs (counted (P x) (known_count P xs))) (sym (sum_by-cons (λ y. cond (T y) 1 0) x xs))
      (count_by_one (P x) (T x) (known_count P xs) (count_by T xs) (sound x) (sound_count xs))

  module _ (V : X → Option Denotation) (W : X → Denotation) (known : (x : X) → KnownIs (V x) (W x)) where
    weigh_one : (t : Truth) (b : Bool) (v : Option Denotation) (w : Denotation) (o : Option (List Denotation)) (x : X)
        (xs : List X) → Sound t b → KnownIs v w → w ≡ W x → KnownIs o (map W (filter T xs))
        → KnownIs (chosen t v o) (map W (cond b (x ∷ filter T xs) (filter T xs)))
    weigh_one Yes b None w o x xs h k e r = tt
    weigh_one Yes b (Some u) w None x xs h k e r = tt
    weigh_one Yes b (Some u) w (Some vs) x xs h k e r =
        ap (λ c. map W (cond c (x ∷ filter T xs) (filter T xs))) h ∙ ap (λ d. d ∷ map W (filter T xs)) (sym e ∙ k)
        ∙ ap (λ ds. u ∷ ds) r
    weigh_one No b v w None x xs h k e r = tt
    weigh_one No b v w (Some vs) x xs h k e r = ap (λ c. map W (cond c (x ∷ filter T xs) (filter T xs))) h ∙ r
    weigh_one Unknown b v w o x xs h k e r = tt

    sound_weights : (xs : List X) → KnownIs (known_weights P V xs) (map W (filter T xs))
    sound_weights [] = refl
    sound_weights (x ∷ xs) = weigh_one (P x) (T x) (V x) (W x) (known_weights P V xs) x xs (sound x) (known x) refl
        (sound_weights xs)

-- ---- values

pub same_refl : (v : Denotation) → same_value v v ≡ true
same_refl (named q) = element_itself (Named q)
same_refl (number z) = element_itself (Num z)
same_refl minus_infinity = refl
same_refl plus_infinity = refl
same_refl undefined = refl

same_other : (u v : Denotation) → (u ≡ v → ⊥) → same_value u v ≡ false
same_other u v ne = false_from_ne_true (same_value u v) (λ e. ne (same_is u v e))

pub same_sym : (u v : Denotation) → same_value u v ≡ same_value v u
same_sym u v = elim (cases_Bool (same_value v u)) [
  | inl e ↦ ap (λ w. same_value u w) (same_is v u e) ∙ same_refl u ∙ sym e
  | inr e ↦ same_other u v (λ f. true≢false (sym (ap (λ w. same_value w u) (sym f) ∙ same_refl u) ∙ e)) ∙ sym e
]

pub denotes : (x y : Elem) → denotation_of x ≡ denotation_of y → x ≡ y
denotes x y e = same_element x y (ap (λ d. same_value d (denotation_of y)) e ∙ same_refl (denotation_of y))

pub rows_same : (xs ys : List Elem) → map denotation_of xs ≡ map denotation_of ys → xs ≡ ys
rows_same xs ys e = row_is xs ys (ap (same_row xs) (sym e) ∙ row_itself xs)

no_element : (x : Elem) → denotation_of x ≡ undefined → ⊥
no_element (Named q) e = cc
no_element (Num z) e = cc

-- ---- a function's rows

each_length : {A B : Type 0} (R : A → B → Type 0) (xs : List A) (ys : List B) → EachWith R xs ys → length ys ≡ length xs
each_length R [] [] h = refl
each_length R [] (y ∷ ys) h = absurd h
each_length R (x ∷ xs) [] h = absurd h
each_length R (x ∷ xs) (y ∷ ys) h = ap suc (each_length R xs ys h.1)

tuple_length : (domains : List (List Elem)) (types : List ℕ) (xs : List Elem) → Contains (tuples_of domains types) xs
    → length xs ≡ length types
tuple_length domains types xs h = each_length (λ ty x. Contains (domain_at domains ty) x) types xs
    (tuple_elements domains types xs h)

behind_same : (xs : List Elem) (y : Elem) → behind (xs ++ y ∷ []) (map denotation_of xs) ≡ Some (y ∷ [])
behind_same [] y = refl
behind_same (x ∷ xs) y = ap (λ b. cond b (behind (xs ++ y ∷ []) (map denotation_of xs)) None) (element_itself x)
    ∙ behind_same xs y

behind_other : (a xs : List Elem) (y : Elem) → length a ≡ length xs → (a ≡ xs → ⊥)
    → behind (a ++ y ∷ []) (map denotation_of xs) ≡ None
behind_other [] [] y e ne = absurd (ne refl)
behind_other [] (x ∷ xs) y e ne = absurd (omega (arith, e))
behind_other (p ∷ a) [] y e ne = absurd (omega (arith, e))
behind_other (p ∷ a) (x ∷ xs) y e ne = elim (cases_Bool (same_value (denotation_of p) (denotation_of x))) [
  | inl h ↦
      let first : p ≡ x = same_element p x h in
      let short : length a ≡ length xs = omega (arith, e) in
      ap (λ b. cond b (behind (a ++ y ∷ []) (map denotation_of xs)) None) h
      ∙ behind_other a xs y short (λ f. ne (ap (λ z. z ∷ a) first ∙ ap (λ zs. x ∷ zs) f))
  | inr h ↦ ap (λ b. cond b (behind (a ++ y ∷ []) (map denotation_of xs)) None) h
]

some_pair : (p q : List Elem × Elem) → Some p ≡ Some q → p ≡ q
some_pair p q e = cc

last_parts : (a xs : List Elem) (y x : Elem) → a ++ y ∷ [] ≡ xs ++ x ∷ [] → a ≡ xs
last_parts a xs y x e = let f : Some (a, y) ≡ Some (xs, x) = sym (parts_are a y) ∙ ap parts_of e ∙ parts_are xs x in
    ap (λ (p : List Elem × Elem). p.0) (some_pair (a, y) (xs, x) f)

row_tuple : (dom : List Elem) (tuples rows : List (List Elem)) (xs : List Elem) (x : Elem)
    → EachWith (IsRowFor dom) tuples rows → Has rows (xs ++ x ∷ []) → Has tuples xs
row_tuple dom tuples rows xs x h m =
    let q = each_left (IsRowFor dom) tuples rows (xs ++ x ∷ []) h m in
    subst (Has tuples) (last_parts q.0 xs q.2.0 x (sym q.2.2)) q.1

pub applied_at : (dom : List Elem) (n : ℕ) (tuples rows : List (List Elem)) (xs : List Elem) (x : Elem)
    → IsDistinct tuples → ((a : List Elem) → Has tuples a → length a ≡ n) → length xs ≡ n
    → EachWith (IsRowFor dom) tuples rows
    → Has rows (xs ++ x ∷ []) → applied rows (map denotation_of xs) ≡ denotation_of x
applied_at dom n [] [] xs x d long size h m = absurd m
applied_at dom n [] (r ∷ rows) xs x d long size h m = absurd h
applied_at dom n (a ∷ tuples) [] xs x d long size h m = absurd h
applied_at dom n (a ∷ tuples) (r ∷ rows) xs x d long size h (inl e) =
    ap (λ o. elim o [ None ↦ applied rows (map denotation_of xs) | Some rest ↦ last_value (Some rest) ])
    (ap (λ row. behind row (map denotation_of xs)) e ∙ behind_same xs x)
applied_at dom n (a ∷ tuples) (r ∷ rows) xs x d long size h (inr m) =
    let other : a ≡ xs → ⊥ = λ e. d.0 (subst (Contains tuples) (sym e)
    (contains_from tuples xs (row_tuple dom tuples rows xs x h.1 m))) in
    let short : length a ≡ length xs = long a (inl refl) ∙ sym size in
    ap (λ o. elim o [ None ↦ applied rows (map denotation_of xs) | Some rest ↦ last_value (Some rest) ])
    (ap (λ row. behind row (map denotation_of xs)) h.0.2 ∙ behind_other a xs h.0.0 short other)
    ∙ applied_at dom n tuples rows xs x d.1 (λ b at. long b (inr at)) size h.1 m

-- ---- a structure that extends the data

module _ (m : Structure) (k : KnownAtoms) (v : Vocabulary) (symbols : v.symbols ≡ k.symbols) (is : IsStructure v m)
    (extends : ExtendsData m k) where
  declared_at : (s : ℕ) (o : Option Symbol) → slice_get k.symbols s ≡ o → slice_get v.symbols s ≡ o
  declared_at s o e = ap (λ (ss : List Symbol). slice_get ss s) symbols ∙ e

  typed_in : (types : List ℕ) (vs : List Denotation) → are_typed k.domains types vs ≡ true
      → are_typed m.domains types vs ≡ true
  typed_in types vs h = subst (λ ds. are_typed ds types vs ≡ true) (sym extends.domains) h

  -- ---- predicates

  row_typed : (s : ℕ) (row : List Elem) → Contains (rows_of s m.relations) row
      → arguments_typed k (slice_get k.symbols s) (map denotation_of row) ≡ true
  row_typed s row at =
      let t = row_table m.relations s row (has_from (rows_of s m.relations) row at) in
      let q = relation_of v m is t.0 t.1 in
      let tuple : Contains (tuples_of m.domains q.0.args) row = from_filter q.3.rows.0 (tuples_of m.domains q.0.args)
      row (subst (λ rows. Contains rows row) q.3.rows.1 (contains_from t.0.rows row t.3)) in
      let typed : are_typed k.domains q.0.args (map denotation_of row) ≡ true =
      subst (λ ds. are_typed ds q.0.args (map denotation_of row) ≡ true) extends.domains
      (typed_tuple m.domains q.0.args row (tuple_elements m.domains q.0.args row tuple)) in
      let at_k : slice_get k.symbols s ≡ Some q.0 = sym (ap (λ (ss : List Symbol). slice_get ss s) symbols)
      ∙ ap (slice_get v.symbols) (sym t.2) ∙ q.1 in
      ap (λ o. arguments_typed k o (map denotation_of row)) at_k ∙ typed

  no_value : (o : Option Elem) → same_option o None ≡ true → o ≡ None
  no_value None h = refl
  no_value (Some x) h = cc

  some_value : (o : Option Elem) (d : Denotation) → same_option o (Some d) ≡ true → (x : Elem) × (o ≡ Some x)
      × (denotation_of x ≡ d)
  some_value None d h = cc
  some_value (Some x) d h = (x, refl, same_is (denotation_of x) d h)

  found_atom : (s : ℕ) (vs : List Denotation) (w : Option Denotation) (xs : List GroundAtom)
      → list_any (is_atom s vs w) xs ≡ true
      → (a : GroundAtom) × Has xs a × (a.symbol ≡ s) × (map denotation_of a.args ≡ vs) × (same_option a.value w ≡ true)
  found_atom s vs w [] h = cc
  found_atom s vs w (x ∷ xs) h = elim (or_cases (is_atom s vs w x) (list_any (is_atom s vs w) xs) h) [
    | inl e ↦
        let both = and_parts (x.symbol == s) (same_row x.args vs && same_option x.value w) e in
        let rest = and_parts (same_row x.args vs) (same_option x.value w) both.1 in
        (x, inl refl, eqb-true x.symbol s both.0, row_denotes x.args vs rest.0, rest.1)
    | inr more ↦ let r = found_atom s vs w xs more in (r.0, inr r.1, r.2, r.3, r.4)
  ]

  holds : (a : GroundAtom) (o : Option Elem) → a.value ≡ o → AtomHolds m a
      → AtomHolds m (record { symbol = a.symbol; args = a.args; value = o })
  holds a o e h = subst (λ p. AtomHolds m (record { symbol = a.symbol; args = a.args; value = p })) e h

  unholds : (a : GroundAtom) (o : Option Elem) → a.value ≡ o → (AtomHolds m a → ⊥)
      → AtomHolds m (record { symbol = a.symbol; args = a.args; value = o }) → ⊥
  unholds a o e none h = none (subst (λ p. AtomHolds m (record { symbol = a.symbol; args = a.args; value = p }))
      (sym e) h)

  by_lists : (s : ℕ) (vs : List Denotation) (w : Option Denotation) (b : Bool)
      → (list_any (is_atom s vs w) k.true_atoms ≡ true → b ≡ true) → (list_any (is_atom s vs w) k.false_atoms ≡ true
      → b ≡ false) → Sound (value_of_row k s vs w) b
  by_lists s vs w b yes_ no_ = by (list_any (is_atom s vs w) k.true_atoms)
      (list_any (is_atom s vs w) k.false_atoms) refl refl
    where
      by : (t f : Bool) → list_any (is_atom s vs w) k.true_atoms ≡ t → list_any (is_atom s vs w) k.false_atoms ≡ f
          → Sound (if t then Yes else (if f then No else Unknown)) b
      by true f e g = yes_ e
      by false true e g = no_ g
      by false false e g = tt

  true_row : (s : ℕ) (ts : TermTrees) (e : List Elem) → list_any (is_atom s (values_of m ts e) None) k.true_atoms ≡ true
      → truth_of m (atom s ts) e ≡ true
  true_row s ts e h =
      let r = found_atom s (values_of m ts e) None k.true_atoms h in
      let held = holds r.0 None (no_value r.0.value r.4) (all_in (AtomHolds m) k.true_atoms extends.true_atoms r.0
      (contains_from k.true_atoms r.0 r.1)) in
      (atom_is_membership m s ts e).1 (r.0.args, subst (λ n. Contains (rows_of n m.relations) r.0.args) r.2 held, r.3)

  false_row : (s : ℕ) (ts : TermTrees) (e : List Elem) → list_any (is_atom s (values_of m ts e) None) k.false_atoms
      ≡ true → truth_of m (atom s ts) e ≡ false
  false_row s ts e h =
      let r = found_atom s (values_of m ts e) None k.false_atoms h in
      let none = unholds r.0 None (no_value r.0.value r.4) (all_in (λ a. AtomHolds m a → ⊥) k.false_atoms
      extends.false_atoms r.0 (contains_from k.false_atoms r.0 r.1)) in
      false_from_ne_true (truth_of m (atom s ts) e) (λ t.
      let row = (atom_is_membership m s ts e).0 t in
      let same : row.0 ≡ r.0.args = rows_same row.0 r.0.args (row.2 ∙ sym r.3) in
      none (subst (λ n. Contains (rows_of n m.relations) r.0.args) (sym r.2)
      (subst (Contains (rows_of s m.relations)) same row.1)))

  atom_typed : (s : ℕ) (ts : TermTrees) (e : List Elem) (b : Bool) → arguments_typed k (slice_get k.symbols s)
      (values_of m ts e) ≡ b
      → Sound (if b then value_of_row k s (values_of m ts e) None else No) (truth_of m (atom s ts) e)
  atom_typed s ts e true h = by_lists s (values_of m ts e) None (truth_of m (atom s ts) e) (true_row s ts e)
      (false_row s ts e)
  atom_typed s ts e false h = false_from_ne_true (truth_of m (atom s ts) e) (λ t.
      let row = (atom_is_membership m s ts e).0 t in
      true≢false (sym (subst (λ us. arguments_typed k (slice_get k.symbols s) us ≡ true) row.2
      (row_typed s row.0 row.1)) ∙ h))

  atom_sound : (s : ℕ) (ts : TermTrees) (e : List Elem) (o : Option (List Denotation)) → KnownIs o (values_of m ts e)
      → Sound (atom_certain k s o) (truth_of m (atom s ts) e)
  atom_sound s ts e None h = tt
  atom_sound s ts e (Some us) h =
      subst (λ ws. Sound (if arguments_typed k (slice_get k.symbols s) ws then value_of_row k s ws None else No)
      (truth_of m (atom s ts) e)) h
      (atom_typed s ts e (arguments_typed k (slice_get k.symbols s) (values_of m ts e)) refl)

  -- ---- functions

  pub held_value : (s : ℕ) (xs : List Elem) (x : Elem) → Contains (rows_of s m.functions) (xs ++ x ∷ [])
      → applied (rows_of s m.functions) (map denotation_of xs) ≡ denotation_of x
  held_value s xs x at =
      let t = row_table m.functions s (xs ++ x ∷ []) (has_from (rows_of s m.functions) (xs ++ x ∷ []) at) in
      let q = function_of v m is t.0 t.1 in
      let dom = domain_at m.domains q.1 in
      let tuples = tuples_of m.domains q.0.args in
      let size = λ (a : List Elem) (h : Has tuples a). tuple_length m.domains q.0.args a (contains_from tuples a h) in
      subst (λ n. applied (rows_of n m.functions) (map denotation_of xs) ≡ denotation_of x) t.2
      (subst (λ rows. applied rows (map denotation_of xs) ≡ denotation_of x)
      (sym (rows_at m.functions t.0 (function_symbols v m is) t.1))
      (applied_at dom (length q.0.args) tuples t.0.rows xs x (tuples_distinct m.domains q.0.args is.distinct) size
      (size xs (row_tuple dom tuples t.0.rows xs x q.4 t.3)) q.4 t.3))

  given_by_one : (s : ℕ) (us : List Denotation) (o : Option Elem) → given_value s us k.true_atoms ≡ o
      → KnownIs (option_map denotation_of o) (applied (rows_of s m.functions) us)
  given_by_one s us None e = tt
  given_by_one s us (Some x) e =
      let g = given_found s us k.true_atoms x e in
      let held = holds g.0 (Some x) g.4 (all_in (AtomHolds m) k.true_atoms extends.true_atoms g.0
      (contains_from k.true_atoms g.0 g.1)) in
      subst (λ ws. applied (rows_of s m.functions) ws ≡ denotation_of x) g.3
      (held_value s g.0.args x (subst (λ n. Contains (rows_of n m.functions) (g.0.args ++ x ∷ [])) g.2 held))

  applied_sound : (s : ℕ) (o : Option (List Denotation)) (vs : List Denotation) → KnownIs o vs
      → KnownIs (applied_known k s o) (applied (rows_of s m.functions) vs)
  applied_sound s None vs h = tt
  applied_sound s (Some us) vs h = subst (λ ws. KnownIs (option_map denotation_of (given_value s us k.true_atoms))
      (applied (rows_of s m.functions) ws)) (sym h) (given_by_one s us (given_value s us k.true_atoms) refl)

  -- the row of a function at arguments of its types
  pub row_at : (s : ℕ) (d : Symbol) (ty : ℕ) (xs : List Elem) → slice_get k.symbols s ≡ Some d → d.value ≡ Some ty
      → Contains (tuples_of k.domains d.args) xs
      → (y : Elem) × Contains (domain_at k.domains ty) y × Contains (rows_of s m.functions) (xs ++ y ∷ [])
  row_at s d ty xs at value tuple =
      let here : Has (functions_of v) (s, d) = function_has v s d ty (declared_at s (Some d) at) value in
      let t = each_right (IsFunction m.domains) (functions_of v) m.functions (s, d) is.functions here in
      let rows = subst (λ o. IfSome o (λ ty. EachWith (IsRowFor (domain_at m.domains ty)) (tuples_of m.domains d.args)
      t.0.rows)) value t.2.rows in
      let r = each_right (IsRowFor (domain_at m.domains ty)) (tuples_of m.domains d.args) t.0.rows xs rows
      (has_from (tuples_of m.domains d.args) xs (subst (λ ds. Contains (tuples_of ds d.args) xs)
      (sym extends.domains) tuple)) in
      let row : Contains t.0.rows (xs ++ r.2.0 ∷ []) = subst (Contains t.0.rows) r.2.2
      (contains_from t.0.rows r.0 r.1) in (
        r.2.0,
        subst (λ ds. Contains (domain_at ds ty) r.2.0) extends.domains r.2.1,
        subst (λ n. Contains (rows_of n m.functions) (xs ++ r.2.0 ∷ [])) t.2.symbol
            (subst (λ rs. Contains rs (xs ++ r.2.0 ∷ [])) (sym (rows_at m.functions t.0 (function_symbols v m is) t.1))
            row),
      )

  -- f(us) = w: what the lists say
  true_value : (s : ℕ) (us : List Denotation) (w : Denotation) → list_any (is_atom s us (Some w)) k.true_atoms ≡ true
      → same_value (applied (rows_of s m.functions) us) w ≡ true
  true_value s us w h =
      let r = found_atom s us (Some w) k.true_atoms h in
      let x = some_value r.0.value w r.4 in
      let held = holds r.0 (Some x.0) x.1 (all_in (AtomHolds m) k.true_atoms extends.true_atoms r.0
      (contains_from k.true_atoms r.0 r.1)) in
      let value : applied (rows_of s m.functions) us ≡ denotation_of x.0 =
      subst (λ ws. applied (rows_of s m.functions) ws ≡ denotation_of x.0) r.3
      (held_value s r.0.args x.0 (subst (λ n. Contains (rows_of n m.functions) (r.0.args ++ x.0 ∷ [])) r.2 held)) in
      ap (λ d. same_value d w) (value ∙ x.2) ∙ same_refl w

  false_value : (s : ℕ) (us : List Denotation) (w : Denotation) (d : Symbol) (ty : ℕ) (xs : List Elem)
      → slice_get k.symbols s ≡ Some d → d.value ≡ Some ty → Contains (tuples_of k.domains d.args) xs
      → map denotation_of xs ≡ us
      → list_any (is_atom s us (Some w)) k.false_atoms ≡ true → same_value
      (applied (rows_of s m.functions) us) w ≡ false
  false_value s us w d ty xs at value tuple is_us h =
      let r = found_atom s us (Some w) k.false_atoms h in
      let x = some_value r.0.value w r.4 in
      let none = unholds r.0 (Some x.0) x.1 (all_in (λ a. AtomHolds m a → ⊥) k.false_atoms extends.false_atoms r.0
      (contains_from k.false_atoms r.0 r.1)) in
      let y = row_at s d ty xs at value tuple in
      let here : applied (rows_of s m.functions) us ≡ denotation_of y.0 =
      subst (λ ws. applied (rows_of s m.functions) ws ≡ denotation_of y.0) is_us (held_value s xs y.0 y.2) in
      ap (λ d. same_value d w) here ∙ same_other (denotation_of y.0) w (λ e.
      let same : y.0 ≡ x.0 = denotes y.0 x.0 (e ∙ sym x.2) in
      let args : xs ≡ r.0.args = rows_same xs r.0.args (is_us ∙ sym r.3) in
      none (subst (λ n. Contains (rows_of n m.functions) (r.0.args ++ x.0 ∷ [])) (sym r.2)
      (subst (λ as'. Contains (rows_of s m.functions) (as' ++ x.0 ∷ [])) args
      (subst (λ z. Contains (rows_of s m.functions) (xs ++ z ∷ [])) same y.2))))

  outside : (s : ℕ) (us : List Denotation) (w : Denotation) (d : Symbol) (o : Option ℕ) (xs : List Elem)
      → slice_get k.symbols s ≡ Some d → d.value ≡ o → Contains (tuples_of k.domains d.args) xs
      → map denotation_of xs ≡ us
      → value_typed k o w ≡ false → Sound (if is_some o then No else Unknown)
      (same_value (applied (rows_of s m.functions) us) w)
  outside s us w d None xs at value tuple is_us h = tt
  outside s us w d (Some ty) xs at value tuple is_us h =
      let y = row_at s d ty xs at value tuple in
      let here : applied (rows_of s m.functions) us ≡ denotation_of y.0 =
      subst (λ ws. applied (rows_of s m.functions) ws ≡ denotation_of y.0) is_us (held_value s xs y.0 y.2) in
      ap (λ d. same_value d w) here ∙ same_other (denotation_of y.0) w (λ e.
      true≢false (sym (subst (λ u. stands_in (domain_at k.domains ty) u ≡ true) e
      (stands_is (domain_at k.domains ty) y.0 (has_from (domain_at k.domains ty) y.0 y.1))) ∙ h))

  inside : (s : ℕ) (us : List Denotation) (w : Denotation) (d : Symbol) (o : Option ℕ) (xs : List Elem)
      → slice_get k.symbols s ≡ Some d → d.value ≡ o → Contains (tuples_of k.domains d.args) xs
      → map denotation_of xs ≡ us
      → value_typed k o w ≡ true → Sound (value_of_row k s us (Some w))
      (same_value (applied (rows_of s m.functions) us) w)
  inside s us w d None xs at value tuple is_us h = cc
  inside s us w d (Some ty) xs at value tuple is_us h = by_lists s us (Some w)
      (same_value (applied (rows_of s m.functions) us) w) (true_value s us w)
      (false_value s us w d ty xs at value tuple is_us)

  result_sound : (s : ℕ) (us : List Denotation) (w : Denotation) (d : Symbol) (xs : List Elem) (b : Bool)
      → slice_get k.symbols s ≡ Some d → Contains (tuples_of k.domains d.args) xs → map denotation_of xs ≡ us
      → value_typed k d.value w ≡ b
      → Sound (if b then value_of_row k s us (Some w) else outside_value (Some d))
      (same_value (applied (rows_of s m.functions) us) w)
  result_sound s us w d xs true at tuple is_us h = inside s us w d d.value xs at refl tuple is_us h
  result_sound s us w d xs false at tuple is_us h = outside s us w d d.value xs at refl tuple is_us h

  arguments_sound : (s : ℕ) (us : List Denotation) (w : Denotation) (o : Option Symbol) (b : Bool)
      → slice_get k.symbols s ≡ o → arguments_typed k o us ≡ b
      → Sound (if b then (if result_typed k o w then value_of_row k s us (Some w) else outside_value o) else Unknown)
      (same_value (applied (rows_of s m.functions) us) w)
  arguments_sound s us w o false at h = tt
  arguments_sound s us w None true at h = cc
  arguments_sound s us w (Some d) true at h = let t = tuple_from k.domains d.args us h in
      result_sound s us w d t.0 (value_typed k d.value w) at t.1 t.2 refl

  value_sound_at : (s : ℕ) (o : Option (List Denotation)) (vs : List Denotation) (p : Option Denotation)
      (w : Denotation) → KnownIs o vs → KnownIs p w → Sound (value_certain k s o p)
      (same_value (applied (rows_of s m.functions) vs) w)
  value_sound_at s None vs p w h i = tt
  value_sound_at s (Some us) vs None w h i = tt
  value_sound_at s (Some us) vs (Some u) w h i =
      subst (λ d. Sound (value_certain k s (Some us) (Some u)) (same_value (applied (rows_of s m.functions) vs) d))
      (sym i)
      (subst (λ ws. Sound (value_certain k s (Some us) (Some u)) (same_value (applied (rows_of s m.functions) ws) u))
      (sym h)
      (arguments_sound s us u (slice_get k.symbols s) (arguments_typed k (slice_get k.symbols s) us) refl refl))

  compared_sound : (c : Cmp) (o p : Option Denotation) (a b : Denotation) → KnownIs o a → KnownIs p b
      → Sound (compared_known c o p) (compared c a b)
  compared_sound c None p a b h i = tt
  compared_sound c (Some u) None a b h i = tt
  compared_sound c (Some u) (Some w) a b h i = sound_if (compared c u w) (compared c a b) (ap (λ d. compared c d b) h
      ∙ ap (compared c u) i)

  comparison_sound : (c : Cmp) (left right : Truth) (o p : Option Denotation) (a b : Denotation)
      → Sound left (same_value a b) → Sound right (same_value b a) → KnownIs o a → KnownIs p b
      → Sound (comparison_certain c left right o p) (compared c a b)
  comparison_sound cmp.Eq left right o p a b l r h i =
      sound_or_else left (or_else right (compared_known cmp.Eq o p)) (same_value a b) l
      (sound_or_else right (compared_known cmp.Eq o p) (same_value a b) (subst (Sound right) (same_sym b a) r)
      (compared_sound cmp.Eq o p a b h i))
  comparison_sound cmp.Ne left right o p a b l r h i = compared_sound cmp.Ne o p a b h i
  comparison_sound cmp.Lt left right o p a b l r h i = compared_sound cmp.Lt o p a b h i
  comparison_sound cmp.Gt left right o p a b l r h i = compared_sound cmp.Gt o p a b h i
  comparison_sound cmp.Le left right o p a b l r h i = compared_sound cmp.Le o p a b h i
  comparison_sound cmp.Ge left right o p a b l r h i = compared_sound cmp.Ge o p a b h i

  cons_sound : (o : Option Denotation) (w : Denotation) (p : Option (List Denotation)) (ws : List Denotation)
      → KnownIs o w → KnownIs p ws → KnownIs (known_cons o p) (w ∷ ws)
  cons_sound None w p ws h i = tt
  cons_sound (Some u) w None ws h i = tt
  cons_sound (Some u) w (Some us) ws h i = ap (λ d. d ∷ ws) h ∙ ap (λ ds. u ∷ ds) i

  plus_sound : (minus : Bool) (o : Option Denotation) (w : Denotation) (p : Option (Option ℤ)) (z : Option ℤ)
      → KnownIs o w → KnownIs p z
      → KnownIs (elim o [ None ↦ None | Some u ↦ option_map (summand_plus minus u) p ]) (summand_plus minus w z)
  plus_sound minus None w p z h i = tt
  plus_sound minus (Some u) w None z h i = tt
  plus_sound minus (Some u) w (Some y) z h i = ap (λ d. summand_plus minus d z) h ∙ ap (summand_plus minus u) i

  number_sound : (c : Cmp) (z : ℤ) (o : Option ℕ) (n : ℕ) → KnownIs o n
      → Sound (known_truth c z o) (compared c (number (pos n)) (number z))
  number_sound c z None n h = tt
  number_sound c z (Some i) n h = sound_if (compared c (number (pos i)) (number z))
      (compared c (number (pos n)) (number z)) (ap (λ j. compared c (number (pos j)) (number z)) h)

  mutual
    pub value_sound : (t : TermTree) (e : List Elem) → KnownIs (known_value k t e) (value_of m t e)
    value_sound (variable n) e = refl
    value_sound (integer z) e = refl
    value_sound (constructed ty n) e = ap (λ ds. element_value (slice_get (domain_at ds ty) n)) extends.domains
    value_sound (application s ts) e = applied_sound s (known_values k ts e) (values_of m ts e) (values_sound ts e)
    value_sound (summation ss) e = known_map number_value (known_sum k ss e) (sum_of m ss e) (sum_sound ss e)
    value_sound (product ts) e = known_map (λ vs. number_value (product_from (pos 1) vs)) (known_values k ts e)
        (values_of m ts e) (values_sound ts e)
    value_sound (aggregate kind bs f t) e =
        known_map (aggregate_value kind) (known_weights (λ a. certain_truth k f (e ++ a))
        (λ a. option_map as_number (known_value k t (e ++ a))) (choices k.domains bs))
        (values_where (λ a. truth_of m f (e ++ a)) (λ a. as_number (value_of m t (e ++ a))) (choices m.domains bs))
        (subst (λ ds. KnownIs (known_weights (λ a. certain_truth k f (e ++ a))
        (λ a. option_map as_number (known_value k t (e ++ a))) (choices ds bs))
        (values_where (λ a. truth_of m f (e ++ a)) (λ a. as_number (value_of m t (e ++ a))) (choices m.domains bs)))
        extends.domains
        (sound_weights (λ a. certain_truth k f (e ++ a)) (λ a. truth_of m f (e ++ a)) (λ a. formula_sound f (e ++ a))
        (λ a. option_map as_number (known_value k t (e ++ a))) (λ a. as_number (value_of m t (e ++ a)))
        (λ a. known_map as_number (known_value k t (e ++ a)) (value_of m t (e ++ a)) (value_sound t (e ++ a)))
        (choices m.domains bs)))

    pub values_sound : (ts : TermTrees) (e : List Elem) → KnownIs (known_values k ts e) (values_of m ts e)
    values_sound no_terms e = refl
    values_sound (more_terms t ts) e = cons_sound (known_value k t e) (value_of m t e) (known_values k ts e)
        (values_of m ts e) (value_sound t e) (values_sound ts e)

    sum_sound : (ss : SummandTrees) (e : List Elem) → KnownIs (known_sum k ss e) (sum_of m ss e)
    sum_sound no_summands e = refl
    sum_sound (more_summands minus t ss) e = plus_sound minus (known_value k t e) (value_of m t e) (known_sum k ss e)
        (sum_of m ss e) (value_sound t e) (sum_sound ss e)

    equation_sound : (t : TermTree) (p : Option Denotation) (w : Denotation) (e : List Elem) → KnownIs p w
        → Sound (equation_certain k t p e) (same_value (value_of m t e) w)
    equation_sound (variable n) p w e h = tt
    equation_sound (integer z) p w e h = tt
    equation_sound (constructed ty n) p w e h = tt
    equation_sound (application s ts) p w e h = value_sound_at s (known_values k ts e) (values_of m ts e) p w
        (values_sound ts e) h
    equation_sound (summation ss) p w e h = tt
    equation_sound (product ts) p w e h = tt
    equation_sound (aggregate kind bs f t) p w e h = tt

    pub formula_sound : (f : FormulaTree) (e : List Elem) → Sound (certain_truth k f e) (truth_of m f e)
    formula_sound verum e = refl
    formula_sound falsum e = refl
    formula_sound (atom s ts) e = atom_sound s ts e (known_values k ts e) (values_sound ts e)
    formula_sound (comparison c a b) e =
        comparison_sound c (equation_certain k a (known_value k b e) e) (equation_certain k b (known_value k a e) e)
        (known_value k a e) (known_value k b e) (value_of m a e) (value_of m b e)
        (equation_sound a (known_value k b e) (value_of m b e) e (value_sound b e))
        (equation_sound b (known_value k a e) (value_of m a e) e (value_sound a e)) (value_sound a e)
        (value_sound b e)
    formula_sound (negation f) e = sound_not (certain_truth k f e) (truth_of m f e) (formula_sound f e)
    formula_sound (conjunction fs) e = all_sound fs e
    formula_sound (disjunction fs) e = any_sound fs e
    formula_sound (implication f g) e =
        sound_either (not_certain (certain_truth k f e)) (certain_truth k g e) (not (truth_of m f e)) (truth_of m g e)
        (sound_not (certain_truth k f e) (truth_of m f e) (formula_sound f e)) (formula_sound g e)
    formula_sound (equivalence f g) e = sound_alike (certain_truth k f e) (certain_truth k g e) (truth_of m f e)
        (truth_of m g e) (formula_sound f e) (formula_sound g e)
    formula_sound (universal bs f) e =
        subst (λ ds. Sound (all_certain (λ a. certain_truth k f (e ++ a)) (choices ds bs))
        (list_all (λ a. truth_of m f (e ++ a)) (choices m.domains bs))) extends.domains
        (sound_all (λ a. certain_truth k f (e ++ a)) (λ a. truth_of m f (e ++ a)) (λ a. formula_sound f (e ++ a))
        (choices m.domains bs))
    formula_sound (existential bs f) e =
        subst (λ ds. Sound (any_certain (λ a. certain_truth k f (e ++ a)) (choices ds bs))
        (list_any (λ a. truth_of m f (e ++ a)) (choices m.domains bs))) extends.domains
        (sound_any (λ a. certain_truth k f (e ++ a)) (λ a. truth_of m f (e ++ a)) (λ a. formula_sound f (e ++ a))
        (choices m.domains bs))
    formula_sound (numbered c n bs f) e =
        number_sound c n (known_count (λ a. certain_truth k f (e ++ a)) (choices k.domains bs))
        (count_by (λ a. truth_of m f (e ++ a)) (choices m.domains bs))
        (subst (λ ds. KnownIs (known_count (λ a. certain_truth k f (e ++ a)) (choices ds bs))
        (count_by (λ a. truth_of m f (e ++ a)) (choices m.domains bs))) extends.domains
        (sound_count (λ a. certain_truth k f (e ++ a)) (λ a. truth_of m f (e ++ a)) (λ a. formula_sound f (e ++ a))
        (choices m.domains bs)))

    all_sound : (fs : FormulaTrees) (e : List Elem) → Sound (all_parts k fs e) (all_true m fs e)
    all_sound no_formulas e = refl
    all_sound (more_formulas f fs) e = sound_both (certain_truth k f e) (all_parts k fs e) (truth_of m f e)
        (all_true m fs e) (formula_sound f e) (all_sound fs e)

    any_sound : (fs : FormulaTrees) (e : List Elem) → Sound (any_part k fs e) (any_true m fs e)
    any_sound no_formulas e = refl
    any_sound (more_formulas f fs) e = sound_either (certain_truth k f e) (any_part k fs e) (truth_of m f e)
        (any_true m fs e) (formula_sound f e) (any_sound fs e)

pub certainty_is_sound : CertaintyIsSound
certainty_is_sound m k over extends = (
  λ f e. (
    λ h. subst (λ t. Sound t (truth_of m f e)) h (formula_sound m k over.0 over.1 over.2 extends f e),
    λ h. subst (λ t. Sound t (truth_of m f e)) h (formula_sound m k over.0 over.1 over.2 extends f e),
  ),
  λ t e w h. subst (λ o. KnownIs o (value_of m t e)) h (value_sound m k over.0 over.1 over.2 extends t e),
)
