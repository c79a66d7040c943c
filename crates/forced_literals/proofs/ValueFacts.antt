-- A value that a function has in the structure of a valuation is one of its value type.
use Rattle.std.proofs.Common.{◌≡◌, ℕ, ◌+◌, ◌*◌, Bool, Option, Some, None, List, [], ◌∷◌, ◌++◌, map, length, slice_get}
use Rattle.std.proofs.Common.{refl, sym, subst, Contains}
use Rattle.kb_logic.specs.declared.elements.Elem.{Elem}
use Rattle.kb_logic.specs.declared.vocabularies.Symbol.{Symbol}
use Rattle.kb_logic.specs.Denotations.{denotation_of}
use Rattle.kb_logic.specs.Models.{GroundAtom, AtomHolds, HasValueIn, IsAtomOver}
use Rattle.kb_logic.specs.Structures.{domain_at}
use Rattle.kb_logic.proofs.Has.{Has, has_from, contains_from, flat_map_has, map_has}
use Rattle.term_values.specs.GroundBases.{GroundBase, structure_of, rows_for, row_index, function_table, first_var}
use Rattle.term_values.specs.GroundBases.{tuples_at, values_at, true_values}
use Rattle.term_values.proofs.Chosen.{true-among}
use Rattle.term_values.proofs.StructureAtoms.{push-same, function-rows, values-are}

-- the atom with another value
abbrev pub valued_with : GroundAtom → Elem → GroundAtom
valued_with a x = record { symbol = a.symbol; args = a.args; value = Some x }

-- the values in rows are among all values
row-value : (v : ℕ → Bool) (first : ℕ) (values : List Elem) (r : List Elem) (o : Option ℕ) (t : List Elem) (x : Elem)
    → Has (rows_for v first values r o) (t ++ x ∷ []) → Has values x
row-value v first values r None t x m = absurd m
row-value v first values r (Some i) t x m =
    let q = map_has (λ y. r ++ y ∷ []) (true_values v (first + i * length values) values) (t ++ x ∷ []) m in
    let same = push-same r t q.0 x q.2 in
    true-among v (first + i * length values) values x
    (subst (Has (true_values v (first + i * length values) values)) same.1 q.1)

module _ (b : GroundBase) (v : ℕ → Bool) (a : GroundAtom) (x : Elem) where
  in-table : (s : Symbol) (ty : ℕ) → slice_get b.vocabulary.symbols a.symbol ≡ Some s → s.value ≡ Some ty
      → AtomHolds (structure_of b v) (valued_with a x) → Contains (domain_at b.domains ty) x
  in-table s ty at valued holds =
      let all = tuples_at b a.symbol in
      let values = values_at b a.symbol in
      let first = first_var b a.symbol in
      let here : Contains (function_table b v a.symbol) (a.args ++ x ∷ []) =
      subst (λ (rs : List (List Elem)). Contains rs (a.args ++ x ∷ []))
      (function-rows b a.symbol s at v ty valued) holds in
      let p = flat_map_has (λ r. rows_for v first values r (row_index all (map denotation_of r))) all
      (a.args ++ x ∷ []) (has_from (function_table b v a.symbol) (a.args ++ x ∷ []) here) in
      contains_from (domain_at b.domains ty) x
      (subst (λ (xs : List Elem). Has xs x) (values-are b a.symbol s at ty valued)
      (row-value v first values p.0 (row_index all (map denotation_of p.0)) a.args x p.2))

  -- an atom that is over the domains and has a value is so with each value that the function has
  pub value-over : IsAtomOver b.vocabulary.symbols b.domains a → (y : Elem) → a.value ≡ Some y
      → AtomHolds (structure_of b v) (valued_with a x) → IsAtomOver b.vocabulary.symbols b.domains (valued_with a x)
  value-over over y valued holds = (over.0, over.1, over.2, by over.0.value refl)
    where
      by : (o : Option ℕ) → over.0.value ≡ o → HasValueIn b.domains over.0.value (Some x)
      by None e = absurd (subst (λ (o : Option ℕ). HasValueIn b.domains o (Some y)) e
          (subst (HasValueIn b.domains over.0.value) valued over.3))
      by (Some ty) e = subst (λ (o : Option ℕ). HasValueIn b.domains o (Some x)) (sym e)
          (in-table over.0 ty over.1 e holds)
