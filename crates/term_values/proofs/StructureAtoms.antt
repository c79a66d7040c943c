-- The atoms that are true in the structure of a valuation are those whose variables are true.
use Rattle.std.proofs.Common.{◌≡◌, ℕ, suc, ◌+◌, ◌*◌, List, [], ◌∷◌, ◌++◌, map, length, Bool, true, inl, inr, filter}
use Rattle.std.proofs.Common.{is_some, is_none}
use Rattle.std.proofs.Common.{Option, Some, None, slice_get, refl, sym, ap, subst, ◌∙◌, arith}
use Rattle.std.specs.List.{Contains, flat_map}
use Rattle.kb_logic.specs.declared.elements.Elem.{Elem}
use Rattle.kb_logic.specs.declared.vocabularies.Symbol.{Symbol}
use Rattle.kb_logic.specs.Structures.{IsDistinct, domain_at, tuples_of}
use Rattle.kb_logic.specs.Denotations.{denotation_of}
use Rattle.kb_logic.specs.Bounds.{domain_if}
use Rattle.kb_logic.specs.Meaning.{rows_of}
use Rattle.kb_logic.specs.Models.{GroundAtom, AtomHolds}
use Rattle.kb_logic.specs.KnownAtoms.{atoms_over}
use Rattle.kb_logic.proofs.Choices.{domain_is_distinct}
use Rattle.kb_logic.proofs.DistinctAtoms.{tuples_distinct}
use Rattle.kb_logic.proofs.Has.{Has, has_get, has_from, contains_from, has_map, map_has, has_flat_map, flat_map_has}
use Rattle.kb_logic.proofs.Tables.{has_filter, passes_filter}
use Rattle.term_values.specs.GroundBases.{GroundBase, tuples_at, values_at, first_var, row_index, bit_at, true_values}
use Rattle.term_values.specs.GroundBases.{rows_for, predicate_table, function_table, structure_of}
use Rattle.term_values.specs.KnownBases.{IsGroundBase}
use Rattle.term_values.proofs.RowFacts.{table-found}
use Rattle.term_values.proofs.Offsets.{some-same}
use Rattle.term_values.proofs.Places.{PredicateVar, FunctionVar, variable-of}
use Rattle.term_values.proofs.Chosen.{has-index, index-is, value-true, true-value}

pub push-same : (r t : List Elem) (y x : Elem) → r ++ y ∷ [] ≡ t ++ x ∷ [] → (r ≡ t) × (y ≡ x)
push-same [] [] y x h = (refl, (let e : y ≡ x = cc in e))
push-same [] (z ∷ []) y x h = cc
push-same [] (z ∷ w ∷ t) y x h = cc
push-same (z ∷ []) [] y x h = cc
push-same (z ∷ w ∷ r) [] y x h = cc
push-same (z ∷ r) (w ∷ t) y x h =
    let here : z ≡ w = cc in
    let rest : r ++ y ∷ [] ≡ t ++ x ∷ [] = cc in
    let both = push-same r t y x rest in
    (ap (λ k. k ∷ r) here ∙ ap (λ k. w ∷ k) both.0, both.1)

-- the tables of the structure
module _ (b : GroundBase) (s : ℕ) (d : Symbol) (at : slice_get b.vocabulary.symbols s ≡ Some d) where
  pub tuples-are : tuples_at b s ≡ tuples_of b.domains d.args
  tuples-are = ap (λ (o : Option Symbol). elim o [ None ↦ [] | Some c ↦ tuples_of b.domains c.args ]) at

  pub values-are : (ty : ℕ) → d.value ≡ Some ty → values_at b s ≡ domain_at b.domains ty
  values-are ty e =
      ap (λ (o : Option Symbol). domain_if b.domains (elim o [ None ↦ None | Some c ↦ c.value ])) at
      ∙ ap (domain_if b.domains) e

  pub relation-rows : (v : ℕ → Bool) → d.value ≡ None → rows_of s (structure_of b v).relations ≡ predicate_table b v s
  relation-rows v e =
      table-found (predicate_table b v) (λ (x : ℕ × Symbol). is_none x.1.value) b.vocabulary.symbols 0 s s d
      (let z : s ≡ 0 + s = omega arith in z) at (ap is_none e)

  pub function-rows : (v : ℕ → Bool) (ty : ℕ) → d.value ≡ Some ty
      → rows_of s (structure_of b v).functions ≡ function_table b v s
  function-rows v ty e =
      table-found (function_table b v) (λ (x : ℕ × Symbol). is_some x.1.value) b.vocabulary.symbols 0 s s d
      (let z : s ≡ 0 + s = omega arith in z) at (ap is_some e)

-- rows of a predicate
module _ (v : ℕ → Bool) (first : ℕ) (rs : List (List Elem)) (i : ℕ) (t : List Elem) (d : IsDistinct rs)
    (at : slice_get rs i ≡ Some t) where
  test : List Elem → Bool
  test = λ r. bit_at v first (row_index rs (map denotation_of r))

  bit-is : bit_at v first (row_index rs (map denotation_of t)) ≡ v (first + i)
  bit-is = ap (bit_at v first) (index-is rs i t d at)

  pub plain-true : Contains (filter (λ r. bit_at v first (row_index rs (map denotation_of r))) rs) t
      → v (first + i) ≡ true
  plain-true m =
      sym bit-is ∙ passes_filter (λ r. bit_at v first (row_index rs (map denotation_of r))) rs t
      (has_from (filter (λ r. bit_at v first (row_index rs (map denotation_of r))) rs) t m)

  pub true-plain : v (first + i) ≡ true
      → Contains (filter (λ r. bit_at v first (row_index rs (map denotation_of r))) rs) t
  true-plain h =
      contains_from (filter (λ r. bit_at v first (row_index rs (map denotation_of r))) rs) t
      (has_filter (λ r. bit_at v first (row_index rs (map denotation_of r))) rs t (has_get rs i t at) (bit-is ∙ h))

-- rows of a function
module _ (v : ℕ → Bool) (first : ℕ) (values : List Elem) (rs : List (List Elem)) (i j : ℕ) (t : List Elem) (x : Elem)
    (d : IsDistinct rs) (at : slice_get rs i ≡ Some t) (e : IsDistinct values)
    (value : slice_get values j ≡ Some x) where
  abbrev rows-of : List Elem → List (List Elem)
  rows-of r = rows_for v first values r (row_index rs (map denotation_of r))

  pub valued-true : Contains (flat_map rows-of rs) (t ++ x ∷ []) → v (first + i * length values + j) ≡ true
  valued-true m =
      let p = flat_map_has rows-of rs (t ++ x ∷ []) (has_from (flat_map rows-of rs) (t ++ x ∷ []) m) in
      let k = has-index rs p.0 p.1 in
      let rows : rows-of p.0 ≡ rows_for v first values p.0 (Some k.0) = ap (rows_for v first values p.0)
      (index-is rs k.0 p.0 d k.1) in
      let q = map_has (λ y. p.0 ++ y ∷ []) (true_values v (first + k.0 * length values) values) (t ++ x ∷ [])
      (subst (λ ws. Has ws (t ++ x ∷ [])) rows p.2) in
      let same = push-same p.0 t q.0 x q.2 in
      let index : k.0 ≡ i = some-same k.0 i
      (sym (index-is rs k.0 p.0 d k.1) ∙ ap (λ r. row_index rs (map denotation_of r)) same.0 ∙ index-is rs i t d at) in
      true-value v (first + i * length values) values j x e value
      (subst (λ n. Has (true_values v (first + n * length values) values) x) index
      (subst (Has (true_values v (first + k.0 * length values) values)) same.1 q.1))

  pub true-valued : v (first + i * length values + j) ≡ true → Contains (flat_map rows-of rs) (t ++ x ∷ [])
  true-valued h =
      let m = value-true v (first + i * length values) values j x value h in
      let here = has_map (λ y. t ++ y ∷ []) (true_values v (first + i * length values) values) x m in
      let rows : rows-of t ≡ rows_for v first values t (Some i) = ap (rows_for v first values t)
      (index-is rs i t d at) in
      contains_from (flat_map rows-of rs) (t ++ x ∷ [])
      (has_flat_map rows-of rs t (t ++ x ∷ []) (has_get rs i t at) (subst (λ ws. Has ws (t ++ x ∷ [])) (sym rows) here))

module _ (b : GroundBase) (is : IsGroundBase b) (v : ℕ → Bool) where
  pub predicate-true : (n : ℕ) (a : GroundAtom) (p : PredicateVar b n a)
      → (AtomHolds (structure_of b v) a → v n ≡ true) × (v n ≡ true → AtomHolds (structure_of b v) a)
  predicate-true n a p =
      let rs = tuples_of b.domains p.d.args in
      let rows : rows_of p.s (structure_of b v).relations ≡ filter
      (λ r. bit_at v (first_var b p.s) (row_index rs (map denotation_of r))) rs =
      relation-rows b p.s p.d p.declared v p.plain
      ∙ ap (λ ts. filter (λ r. bit_at v (first_var b p.s) (row_index ts (map denotation_of r))) ts)
      (tuples-are b p.s p.d p.declared) in
      let d = tuples_distinct b.domains p.d.args is.distinct in (
        λ h. ap v p.number ∙ plain-true v (first_var b p.s) rs p.i p.t d p.tuple
            (subst (λ ws. Contains ws p.t) rows (subst (AtomHolds (structure_of b v)) p.atom h)),
        λ h. subst (AtomHolds (structure_of b v)) (sym p.atom)
            (subst (λ ws. Contains ws p.t) (sym rows)
            (true-plain v (first_var b p.s) rs p.i p.t d p.tuple (sym (ap v p.number) ∙ h))),
      )

  pub function-true : (n : ℕ) (a : GroundAtom) (p : FunctionVar b n a)
      → (AtomHolds (structure_of b v) a → v n ≡ true) × (v n ≡ true → AtomHolds (structure_of b v) a)
  function-true n a p =
      let rs = tuples_of b.domains p.d.args in
      let values = domain_at b.domains p.ty in
      let first = first_var b p.s in
      let rows : rows_of p.s (structure_of b v).functions ≡ flat_map
      (λ r. rows_for v first values r (row_index rs (map denotation_of r))) rs =
      function-rows b p.s p.d p.declared v p.ty p.valued
      ∙ ap (λ ts. flat_map (λ r. rows_for v first (values_at b p.s) r (row_index ts (map denotation_of r))) ts)
      (tuples-are b p.s p.d p.declared)
      ∙ ap (λ xs. flat_map (λ r. rows_for v first xs r (row_index rs (map denotation_of r))) rs)
      (values-are b p.s p.d p.declared p.ty p.valued) in
      let d = tuples_distinct b.domains p.d.args is.distinct in
      let e = domain_is_distinct b.domains p.ty is.distinct in (
        λ h. ap v p.number ∙ valued-true v first values rs p.i p.j p.t p.x d p.tuple e p.value
            (subst (λ ws. Contains ws (p.t ++ p.x ∷ [])) rows (subst (AtomHolds (structure_of b v)) p.atom h)),
        λ h. subst (AtomHolds (structure_of b v)) (sym p.atom)
            (subst (λ ws. Contains ws (p.t ++ p.x ∷ [])) (sym rows)
            (true-valued v first values rs p.i p.j p.t p.x d p.tuple e p.value (sym (ap v p.number) ∙ h))),
      )

  -- an atom is true in the structure exactly where its variable is
  pub atom-true : (n : ℕ) (a : GroundAtom) → slice_get (atoms_over b.vocabulary.symbols b.domains) n ≡ Some a
      → (AtomHolds (structure_of b v) a → v (suc n) ≡ true) × (v (suc n) ≡ true → AtomHolds (structure_of b v) a)
  atom-true n a h =
      elim (variable-of b n a h) [ inl p ↦ predicate-true (suc n) a p | inr p ↦ function-true (suc n) a p ]
