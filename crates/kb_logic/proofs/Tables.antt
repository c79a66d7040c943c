-- The atoms that a structure's tables say to be true.
use Rattle.std.proofs.Common.{◌≡◌, ◌∙◌, ℕ, arith, sym, ap, refl, subst, List, [], ◌∷◌, map, filter, Bool, true, false}
use Rattle.std.proofs.Common.{cond, ◌==◌, Option, Some, None, IfSome, ◌⊎◌, inl, inr, slice_get, is_some, is_none}
use Rattle.std.specs.List.{enumerate_from, Contains}
use Rattle.std.proofs.lemmas.Bool.{cases_Bool, true≢false, eqb-true, eq-eqb}
use Rattle.kb_logic.specs.declared.elements.Elem.{Elem}
use Rattle.kb_logic.specs.declared.vocabularies.Symbol.{Symbol}
use Rattle.kb_logic.specs.declared.vocabularies.Vocabulary.{Vocabulary}
use Rattle.kb_logic.specs.declared.structures.Table.{Table}
use Rattle.kb_logic.specs.declared.structures.Structure.{Structure}
use Rattle.kb_logic.specs.Structures.{IsDistinct, EachWith, IsRelation, IsRowFor, IsFunction, IsStructure, domain_at}
use Rattle.kb_logic.specs.Structures.{tuples_of, predicates_of, functions_of}
use Rattle.kb_logic.specs.Meaning.{rows_of}
use Rattle.kb_logic.proofs.Atoms.{numbered_at}
use Rattle.kb_logic.proofs.Members.{from_filter}
use Rattle.kb_logic.proofs.Has.{Has, has_from, contains_from, has_enumerated}
use Rattle.kb_logic.proofs.DistinctAtoms.{map-itself, mapped, numbers_distinct}

-- ---- lists item by item

pub each_left : {A B : Type 0} (R : A → B → Type 0) (xs : List A) (ys : List B) (y : B) → EachWith R xs ys → Has ys y
    → (x : A) × Has xs x × R x y
each_left R [] [] y h m = absurd m
each_left R [] (z ∷ ys) y h m = absurd h
each_left R (x ∷ xs) [] y h m = absurd m
each_left R (x ∷ xs) (z ∷ ys) y h (inl e) = (x, inl refl, subst (R x) e h.0)
each_left R (x ∷ xs) (z ∷ ys) y h (inr m) = let r = each_left R xs ys y h.1 m in (r.0, inr r.1, r.2)

pub each_right : {A B : Type 0} (R : A → B → Type 0) (xs : List A) (ys : List B) (x : A) → EachWith R xs ys → Has xs x
    → (y : B) × Has ys y × R x y
each_right R [] [] x h m = absurd m
each_right R [] (z ∷ ys) x h m = absurd h
each_right R (w ∷ xs) [] x h m = absurd h
each_right R (w ∷ xs) (z ∷ ys) x h (inl e) = (z, inl refl, subst (λ v. R v z) e h.0)
each_right R (w ∷ xs) (z ∷ ys) x h (inr m) = let r = each_right R xs ys x h.1 m in (r.0, inr r.1, r.2)

each_map : {A B K : Type 0} (R : A → B → Type 0) (f : A → K) (g : B → K) (xs : List A) (ys : List B)
    → ((x : A) (y : B) → R x y → g y ≡ f x) → EachWith R xs ys → map g ys ≡ map f xs
each_map R f g [] [] is h = refl
each_map R f g [] (y ∷ ys) is h = absurd h
each_map R f g (x ∷ xs) [] is h = absurd h
each_map R f g (x ∷ xs) (y ∷ ys) is h = ap (λ k. k ∷ map g ys) (is x y h.0)
    ∙ ap (λ ks. f x ∷ ks) (each_map R f g xs ys is h.1)

kept_by : {X K : Type 0} (f : X → K) (b : Bool) (x : X) (ys xs : List X) (k : K) → (Has (map f ys) k → Has (map f xs) k)
    → Has (map f (cond b (x ∷ ys) ys)) k → Has (map f (x ∷ xs)) k
kept_by f true x ys xs k h (inl e) = inl e
kept_by f true x ys xs k h (inr more) = inr (h more)
kept_by f false x ys xs k h more = inr (h more)

kept_in : {X K : Type 0} (f : X → K) (p : X → Bool) (xs : List X) (k : K) → Has (map f (filter p xs)) k
    → Has (map f xs) k
kept_in f p [] k m = m
kept_in f p (x ∷ xs) k m = kept_by f (p x) x (filter p xs) xs k (kept_in f p xs k) m

distinct_by : {X K : Type 0} (f : X → K) (b : Bool) (x : X) (ys : List X) → (Contains (map f ys) (f x) → ⊥)
    → IsDistinct (map f ys) → IsDistinct (map f (cond b (x ∷ ys) ys))
distinct_by f true x ys none d = (none, d)
distinct_by f false x ys none d = d

pub distinct_kept : {X K : Type 0} (f : X → K) (p : X → Bool) (xs : List X) → IsDistinct (map f xs)
    → IsDistinct (map f (filter p xs))
distinct_kept f p [] d = tt
distinct_kept f p (x ∷ xs) d =
    distinct_by f (p x) x (filter p xs) (λ c. d.0 (contains_from (map f xs) (f x)
    (kept_in f p xs (f x) (has_from (map f (filter p xs)) (f x) c)))) (distinct_kept f p xs d.1)

pub distinct_filter : {X : Type 0} (p : X → Bool) (xs : List X) → IsDistinct xs → IsDistinct (filter p xs)
distinct_filter p xs d = subst IsDistinct (map-itself (filter p xs))
    (distinct_kept (λ x. x) p xs (subst IsDistinct (sym (map-itself xs)) d))

-- ---- tables

pub rows_at : (ts : List Table) (t : Table) → IsDistinct (map (λ (u : Table). u.symbol) ts) → Has ts t
    → rows_of t.symbol ts ≡ t.rows
rows_at [] t d m = absurd m
rows_at (u ∷ ts) t d (inl e) = ap (λ b. cond b u.rows (rows_of t.symbol ts))
    (eq-eqb u.symbol t.symbol (ap (λ (v : Table). v.symbol) e)) ∙ ap (λ (v : Table). v.rows) e
rows_at (u ∷ ts) t d (inr m) = elim (cases_Bool (u.symbol == t.symbol)) [
  | inl e ↦ absurd (d.0 (contains_from (map (λ (v : Table). v.symbol) ts) u.symbol
      (subst (Has (map (λ (v : Table). v.symbol) ts)) (sym (eqb-true u.symbol t.symbol e))
      (mapped (λ (v : Table). v.symbol) ts t m))))
  | inr e ↦ ap (λ b. cond b u.rows (rows_of t.symbol ts)) e ∙ rows_at ts t d.1 m
]

pub row_table : (ts : List Table) (s : ℕ) (row : List Elem) → Has (rows_of s ts) row → (t : Table) × Has ts t
    × (t.symbol ≡ s) × Has t.rows row
row_table [] s row m = absurd m
row_table (u ∷ ts) s row m = elim (cases_Bool (u.symbol == s)) [
  | inl e ↦ (u, inl refl, eqb-true u.symbol s e, subst (λ b. Has (cond b u.rows (rows_of s ts)) row) e m)
  | inr e ↦ let r = row_table ts s row (subst (λ b. Has (cond b u.rows (rows_of s ts)) row) e m) in
      (r.0, inr r.1, r.2, r.3)
]

-- a numbered symbol is the one with its number
pub symbol_at : (symbols : List Symbol) (p : (ℕ × Symbol) → Bool) (s : ℕ × Symbol)
    → Has (filter p (enumerate_from 0 symbols)) s → slice_get symbols s.0 ≡ Some s.1
symbol_at symbols p s m =
    let r = numbered_at symbols 0 s.0 s.1 (from_filter p (enumerate_from 0 symbols) s
    (contains_from (filter p (enumerate_from 0 symbols)) s m)) in
    let place : r.0 ≡ s.0 = omega (arith, r.1) in
    sym (ap (slice_get symbols) place) ∙ r.2

passed : {X : Type 0} (b : Bool) (p : X → Bool) (x y : X) (ys : List X) → p x ≡ b → (Has ys y → p y ≡ true)
    → Has (cond b (x ∷ ys) ys) y → p y ≡ true
passed true p x y ys e h (inl f) = ap p (sym f) ∙ e
passed true p x y ys e h (inr m) = h m
passed false p x y ys e h m = h m

pub passes_filter : {X : Type 0} (p : X → Bool) (xs : List X) (y : X) → Has (filter p xs) y → p y ≡ true
passes_filter p [] y m = absurd m
passes_filter p (x ∷ xs) y m = passed (p x) p x y (filter p xs) refl (passes_filter p xs y) m

module _ (v : Vocabulary) (m : Structure) (is : IsStructure v m) where
  pub relation_symbols : IsDistinct (map (λ (t : Table). t.symbol) m.relations)
  relation_symbols =
      subst IsDistinct (sym (each_map (IsRelation m.domains) (λ (s : ℕ × Symbol). s.0) (λ (t : Table). t.symbol)
      (predicates_of v) m.relations (λ s t r. r.symbol) is.relations))
      (distinct_kept (λ (s : ℕ × Symbol). s.0) (λ (s : ℕ × Symbol). is_none s.1.value) (enumerate_from 0 v.symbols)
      (numbers_distinct 0 v.symbols))

  pub function_symbols : IsDistinct (map (λ (t : Table). t.symbol) m.functions)
  function_symbols =
      subst IsDistinct (sym (each_map (IsFunction m.domains) (λ (s : ℕ × Symbol). s.0) (λ (t : Table). t.symbol)
      (functions_of v) m.functions (λ s t r. r.symbol) is.functions))
      (distinct_kept (λ (s : ℕ × Symbol). s.0) (λ (s : ℕ × Symbol). is_some s.1.value) (enumerate_from 0 v.symbols)
      (numbers_distinct 0 v.symbols))

  -- the declaration of a predicate's table
  pub relation_of : (t : Table) → Has m.relations t → (s : Symbol) × (slice_get v.symbols t.symbol ≡ Some s)
      × (s.value ≡ None) × IsRelation m.domains (t.symbol, s) t
  relation_of t at =
      let r = each_left (IsRelation m.domains) (predicates_of v) m.relations t is.relations at in
      let same : r.0.0 ≡ t.symbol = sym r.2.symbol in
      let value : r.0.1.value ≡ None = no_value r.0.1.value (passes_filter (λ (s : ℕ × Symbol). is_none s.1.value)
      (enumerate_from 0 v.symbols) r.0 r.1) in (
        r.0.1,
        sym (ap (slice_get v.symbols) same) ∙ symbol_at v.symbols (λ (s : ℕ × Symbol). is_none s.1.value) r.0 r.1,
        value,
        record { symbol = refl; rows = r.2.rows },
      )
    where
      no_value : (o : Option ℕ) → is_none o ≡ true → o ≡ None
      no_value None e = refl
      no_value (Some ty) e = absurd (true≢false (sym e))

  -- the declaration of a function's table, and its value type
  pub function_of : (t : Table) → Has m.functions t → (s : Symbol) × (ty : ℕ) × (slice_get v.symbols t.symbol ≡ Some s)
      × (s.value ≡ Some ty) × EachWith (IsRowFor (domain_at m.domains ty)) (tuples_of m.domains s.args) t.rows
  function_of t at =
      let r = each_left (IsFunction m.domains) (functions_of v) m.functions t is.functions at in
      let same : r.0.0 ≡ t.symbol = sym r.2.symbol in
      let value = a_value r.0.1.value (passes_filter (λ (s : ℕ × Symbol). is_some s.1.value)
      (enumerate_from 0 v.symbols) r.0 r.1) in
      let rows = subst (λ o. IfSome o (λ ty. EachWith (IsRowFor (domain_at m.domains ty))
      (tuples_of m.domains r.0.1.args) t.rows)) value.1 r.2.rows in (
        r.0.1,
        value.0,
        sym (ap (slice_get v.symbols) same) ∙ symbol_at v.symbols (λ (s : ℕ × Symbol). is_some s.1.value)
            r.0 r.1,
        value.1,
        rows,
      )
    where
      a_value : (o : Option ℕ) → is_some o ≡ true → (ty : ℕ) × (o ≡ Some ty)
      a_value None e = absurd (true≢false (sym e))
      a_value (Some ty) e = (ty, refl)

kept_at : {X : Type 0} (p : X → Bool) (b : Bool) (x y : X) (ys : List X) → p x ≡ b → p y ≡ true → (Has ys y) ⊎ (x ≡ y)
    → Has (cond b (x ∷ ys) ys) y
kept_at p true x y ys e f (inl m) = inr m
kept_at p true x y ys e f (inr same) = inl same
kept_at p false x y ys e f (inl m) = m
kept_at p false x y ys e f (inr same) = absurd (true≢false (sym f ∙ ap p (sym same) ∙ e))

pub has_filter : {X : Type 0} (p : X → Bool) (xs : List X) (y : X) → Has xs y → p y ≡ true → Has (filter p xs) y
has_filter p [] y m f = absurd m
has_filter p (x ∷ xs) y (inl same) f = kept_at p (p x) x y (filter p xs) refl f (inr same)
has_filter p (x ∷ xs) y (inr m) f = kept_at p (p x) x y (filter p xs) refl f (inl (has_filter p xs y m f))

-- a function is among the functions
pub function_has : (v : Vocabulary) (s : ℕ) (d : Symbol) (ty : ℕ) → slice_get v.symbols s ≡ Some d → d.value ≡ Some ty
    → Has (functions_of v) (s, d)
function_has v s d ty at value =
    has_filter (λ (p : ℕ × Symbol). is_some p.1.value) (enumerate_from 0 v.symbols) (s, d)
    (subst (λ n. Has (enumerate_from 0 v.symbols) (n, d)) (omega arith) (has_enumerated 0 s v.symbols d at))
    (ap is_some value)
