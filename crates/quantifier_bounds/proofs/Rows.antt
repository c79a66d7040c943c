-- Tuples of elements that terms are known to be.
use Rattle.std.proofs.Common.{◌≡◌, ℕ, List, [], ◌∷◌, ◌++◌, map, length, Option, None, Some}
use Rattle.std.proofs.Common.{refl, sym, ap, ◌∙◌, subst, append_assoc, arith}
use Rattle.std.specs.List.{Contains}
use Rattle.std.proofs.lemmas.List.{append-nil}
use Rattle.kb_logic.specs.declared.elements.Elem.{Elem}
use Rattle.kb_logic.specs.Trees.{TermTree, terms_of}
use Rattle.kb_logic.specs.Structures.{EachWith, domain_at}
use Rattle.kb_logic.specs.Denotations.{Denotation, denotation_of}
use Rattle.kb_logic.specs.KnownAtoms.{KnownAtoms}
use Rattle.kb_logic.proofs.Atoms.{denotes_one, tuple_elements, elements_tuple}
use Rattle.certain_truth.specs.Certainty.{known_cons, known_value, known_values}
use Rattle.quantifier_bounds.specs.Places.{IsKnownElement, IsKnownRow}

module _ (k : KnownAtoms) (e : List Elem) where
  -- each term is known to be the element, which is of the type
  abbrev pub RowIs : List ℕ → List TermTree → List Elem → Type 0
  RowIs [] [] [] = Unit {0}
  RowIs [] [] (x ∷ xs) = ⊥
  RowIs [] (t ∷ ts) xs = ⊥
  RowIs (ty ∷ types) [] xs = ⊥
  RowIs (ty ∷ types) (t ∷ ts) [] = ⊥
  RowIs (ty ∷ types) (t ∷ ts) (x ∷ xs) =
      (Contains (domain_at k.domains ty) x × (known_value k t e ≡ Some (denotation_of x))) × RowIs types ts xs

  row_typed : (types : List ℕ) (ts : List TermTree) (xs : List Elem) → RowIs types ts xs
      → EachWith (λ ty x. Contains (domain_at k.domains ty) x) types xs
  row_typed [] [] [] h = tt
  row_typed [] [] (x ∷ xs) h = absurd h
  row_typed [] (t ∷ ts) xs h = absurd h
  row_typed (ty ∷ types) [] xs h = absurd h
  row_typed (ty ∷ types) (t ∷ ts) [] h = absurd h
  row_typed (ty ∷ types) (t ∷ ts) (x ∷ xs) h = (h.0.0, row_typed types ts xs h.1)

  row_known : (types : List ℕ) (ts : List TermTree) (xs : List Elem) → RowIs types ts xs
      → known_values k (terms_of ts) e ≡ Some (map denotation_of xs)
  row_known [] [] [] h = refl
  row_known [] [] (x ∷ xs) h = absurd h
  row_known [] (t ∷ ts) xs h = absurd h
  row_known (ty ∷ types) [] xs h = absurd h
  row_known (ty ∷ types) (t ∷ ts) [] h = absurd h
  row_known (ty ∷ types) (t ∷ ts) (x ∷ xs) h =
      ap (λ o. known_cons o (known_values k (terms_of ts) e)) h.0.1
      ∙ ap (known_cons (Some (denotation_of x))) (row_known types ts xs h.1)

  pub cons_parts : (o : Option Denotation) (p : Option (List Denotation)) (d : Denotation) (ds : List Denotation)
      → known_cons o p ≡ Some (d ∷ ds) → (o ≡ Some d) × (p ≡ Some ds)
  cons_parts None p d ds h = absurd (cc)
  cons_parts (Some a) None d ds h = absurd (cc)
  cons_parts (Some a) (Some more) d ds h = (cc, cc)

  cons_none : (o : Option Denotation) (p : Option (List Denotation)) → known_cons o p ≡ Some [] → ⊥
  cons_none None p h = cc
  cons_none (Some a) None h = cc
  cons_none (Some a) (Some more) h = cc

  row_from : (types : List ℕ) (ts : List TermTree) (xs : List Elem)
      → EachWith (λ ty x. Contains (domain_at k.domains ty) x) types xs
      → known_values k (terms_of ts) e ≡ Some (map denotation_of xs) → RowIs types ts xs
  row_from [] [] [] h i = tt
  row_from [] [] (x ∷ xs) h i = absurd h
  row_from [] (t ∷ ts) [] h i = absurd (cons_none (known_value k t e) (known_values k (terms_of ts) e) i)
  row_from [] (t ∷ ts) (x ∷ xs) h i = absurd h
  row_from (ty ∷ types) ts [] h i = absurd h
  row_from (ty ∷ types) [] (x ∷ xs) h i = absurd (cc)
  row_from (ty ∷ types) (t ∷ ts) (x ∷ xs) h i =
      let b = cons_parts (known_value k t e) (known_values k (terms_of ts) e) (denotation_of x) (map denotation_of xs)
      i in
      ((h.0, b.0), row_from types ts xs h.1 b.1)

  row_lengths : (types : List ℕ) (ts : List TermTree) (xs : List Elem) → RowIs types ts xs → length types ≡ length ts
  row_lengths [] [] xs h = refl
  row_lengths [] (t ∷ ts) xs h = absurd h
  row_lengths (ty ∷ types) [] xs h = absurd h
  row_lengths (ty ∷ types) (t ∷ ts) [] h = absurd h
  row_lengths (ty ∷ types) (t ∷ ts) (x ∷ xs) h = omega (arith, row_lengths types ts xs h.1)

  -- what is left gives the whole, and the whole what is left
  pub record RowSoFar (types : List ℕ) (ts : List TermTree) (types_left : List ℕ) (ts_left : List TermTree)
      (row : List Elem) : Type 0 where
    pub gives : (ys : List Elem) → RowIs types_left ts_left ys → RowIs types ts (row ++ ys)
    pub takes : (xs : List Elem) → RowIs types ts xs → (ys : List Elem) × RowIs types_left ts_left ys × (xs ≡ row ++ ys)

  pub row_start : (types : List ℕ) (ts : List TermTree) → RowSoFar types ts types ts []
  row_start types ts = record { gives = λ ys h. h; takes = λ xs h. (xs, h, refl) }

  module _ (types types_left types_next : List ℕ) (ts ts_left ts_next : List TermTree) (ty : ℕ) (t : TermTree)
      (row : List Elem) (is : types_left ≡ ty ∷ types_next) (is_term : ts_left ≡ t ∷ ts_next)
      (s : RowSoFar types ts types_left ts_left row) where
    first_of : (xs : List Elem) → RowIs (ty ∷ types_next) (t ∷ ts_next) xs
        → (z : Elem) × (zs : List Elem) × (xs ≡ z ∷ zs) × Contains (domain_at k.domains ty) z
        × (known_value k t e ≡ Some (denotation_of z)) × RowIs types_next ts_next zs
    first_of [] h = absurd h
    first_of (z ∷ zs) h = (z, zs, refl, h.0.0, h.0.1, h.1)

    taken : (xs : List Elem) → RowIs types ts xs → (ys : List Elem) × RowIs (ty ∷ types_next) (t ∷ ts_next) ys
        × (xs ≡ row ++ ys)
    taken xs h =
        let r = s.takes xs h in
        (r.0, subst (λ us. RowIs us (t ∷ ts_next) r.0) is (subst (λ us. RowIs types_left us r.0) is_term r.1), r.2)

    given : (ys : List Elem) → RowIs (ty ∷ types_next) (t ∷ ts_next) ys → RowIs types ts (row ++ ys)
    given ys h = s.gives ys (subst (λ us. RowIs types_left us ys) (sym is_term)
        (subst (λ us. RowIs us (t ∷ ts_next) ys) (sym is) h))

    one : {a b : Denotation} → Some a ≡ Some b → a ≡ b
    one h = cc

    pub row_more : (x : Elem) → IsKnownElement (domain_at k.domains ty) (known_value k t e) (Some x)
        → RowSoFar types ts types_next ts_next (row ++ x ∷ [])
    row_more x found = record {
      gives = λ ys h. subst (RowIs types ts) (sym (append_assoc row (x ∷ []) ys))
          (given (x ∷ ys) ((found.0, found.1), h));
      takes = λ xs h.
          let r = taken xs h in
          let f = first_of r.0 r.1 in
          let same : f.0 ≡ x = denotes_one f.0 x (one (sym f.4 ∙ found.1)) in (
            f.1,
            f.5,
            r.2 ∙ ap (λ us. row ++ us) (f.2 ∙ ap (λ z. z ∷ f.1) same) ∙ sym (append_assoc row (x ∷ []) f.1),
          );
    }

    pub row_none : IsKnownElement (domain_at k.domains ty) (known_value k t e) None
        → IsKnownRow k.domains types (known_values k (terms_of ts) e) None
    row_none none r tuple known =
        let left = taken r (row_from types ts r (tuple_elements k.domains types r tuple) known) in
        let f = first_of left.0 left.1 in
        none f.0 f.3 f.4

  pub row_done : (types types_left : List ℕ) (ts ts_left : List TermTree) (row : List Elem) → types_left ≡ []
      → ts_left ≡ [] → RowSoFar types ts types_left ts_left row
      → IsKnownRow k.domains types (known_values k (terms_of ts) e) (Some row)
  row_done types types_left ts ts_left row past over s =
      let nothing : RowIs types_left ts_left [] = subst (λ us. RowIs types_left us []) (sym over)
      (subst (λ us. RowIs us [] []) (sym past) tt) in
      let whole = subst (RowIs types ts) (append-nil row) (s.gives [] nothing) in
      (elements_tuple k.domains types row (row_typed types ts row whole), row_known types ts row whole)

  pub row_short : (types : List ℕ) (ts : List TermTree) → (length types ≡ length ts → ⊥)
      → IsKnownRow k.domains types (known_values k (terms_of ts) e) None
  row_short types ts differ r tuple known =
      differ (row_lengths types ts r (row_from types ts r (tuple_elements k.domains types r tuple) known))
