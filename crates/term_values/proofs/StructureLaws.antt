-- Valuations make structures, and structures make valuations.
use Rattle.std.proofs.Common.{◌≡◌, ℕ, zero, suc, ◌+◌, ◌*◌, ◌<◌, ◌≤◌, List, [], ◌∷◌, ◌++◌, map, length, Bool, true}
use Rattle.std.proofs.Common.{false, inl, inr}
use Rattle.std.proofs.Common.{filter, is_some, is_none, IsSome, IfSome, Option, Some, None, slice_get, get_or, refl}
use Rattle.std.proofs.Common.{sym, ap, subst, ◌∙◌, arith}
use Rattle.std.specs.Option.{option_and_then}
use Rattle.std.specs.List.{Contains, flat_map, enumerate_from}
use Rattle.std.proofs.lemmas.Bool.{cases_Bool, true≢false}
use Rattle.std.proofs.lemmas.Option.{slice_get_within, slice_get-get_or}
use Rattle.kb_logic.specs.declared.elements.Elem.{Elem}
use Rattle.kb_logic.specs.declared.vocabularies.Symbol.{Symbol}
use Rattle.kb_logic.specs.declared.structures.Table.{Table}
use Rattle.kb_logic.specs.declared.structures.Structure.{Structure}
use Rattle.kb_logic.specs.Structures.{IsDistinct, EachWith, IsRelation, IsRowFor, IsFunction, IsStructure, domain_at}
use Rattle.kb_logic.specs.Structures.{tuples_of, predicates_of, functions_of}
use Rattle.kb_logic.specs.Denotations.{denotation_of}
use Rattle.kb_logic.specs.Bounds.{value_type_of}
use Rattle.kb_logic.specs.Meaning.{rows_of, has_row}
use Rattle.kb_logic.specs.Models.{GroundAtom}
use Rattle.kb_logic.specs.KnownAtoms.{atoms_over}
use Rattle.kb_logic.proofs.Atoms.{row_in, in_rows}
use Rattle.kb_logic.proofs.Choices.{domain_is_distinct}
use Rattle.kb_logic.proofs.DistinctAtoms.{tuples_distinct}
use Rattle.kb_logic.proofs.Has.{Has, has_get, has_from, contains_from, filter-same}
use Rattle.kb_logic.proofs.Tables.{each_right, has_filter, passes_filter, symbol_at, rows_at, relation_symbols}
use Rattle.kb_logic.proofs.Tables.{function_symbols, function_has}
use Rattle.term_values.specs.GroundBases.{GroundBase, tuples_at, values_at, first_var, row_index, bit_at, true_values}
use Rattle.term_values.specs.GroundBases.{rows_for, function_rows, predicate_table, function_table, structure_of}
use Rattle.term_values.specs.GroundBases.{OneValueEach}
use Rattle.term_values.specs.KnownBases.{IsGroundBase}
use Rattle.term_values.proofs.Offsets.{some-same}
use Rattle.term_values.proofs.Places.{plain-atom, valued-atom, predicate-variable, function-variable}
use Rattle.term_values.proofs.Chosen.{has-index, row-same, index-is, true-among, same-true, only-true, index-of}
use Rattle.term_values.proofs.StructureAtoms.{push-same, tuples-are, values-are}

-- lists item by item
each-mapped : {A B : Type 0} (R : A → B → Type 0) (f : A → B) (xs : List A) → ((x : A) → Has xs x → R x (f x))
    → EachWith R xs (map f xs)
each-mapped R f [] h = tt
each-mapped R f (x ∷ xs) h = (h x (inl refl), each-mapped R f xs (λ y m. h y (inr m)))

mapped-each : {A B : Type 0} (R : A → B → Type 0) (f : A → B) (xs : List A) (ys : List B) → EachWith R xs ys
    → ((x : A) (y : B) → Has xs x → Has ys y → R x y → f x ≡ y) → map f xs ≡ ys
mapped-each R f [] [] e h = refl
mapped-each R f [] (y ∷ ys) e h = absurd e
mapped-each R f (x ∷ xs) [] e h = absurd e
mapped-each R f (x ∷ xs) (y ∷ ys) e h =
    ap (λ z. z ∷ map f xs) (h x y (inl refl) (inl refl) e.0)
    ∙ ap (λ zs. y ∷ zs) (mapped-each R f xs ys e.1 (λ z w m n. h z w (inr m) (inr n)))

pub same-mapped : {A B : Type 0} (f g : A → B) (xs : List A) → ((x : A) → Has xs x → f x ≡ g x) → map f xs ≡ map g xs
same-mapped f g [] h = refl
same-mapped f g (x ∷ xs) h =
    ap (λ y. y ∷ map f xs) (h x (inl refl)) ∙ ap (λ ys. g x ∷ ys) (same-mapped f g xs (λ y m. h y (inr m)))

same-parts : {A B : Type 0} (f g : A → List B) (xs : List A) → ((x : A) → Has xs x → f x ≡ g x)
    → flat_map f xs ≡ flat_map g xs
same-parts f g [] h = refl
same-parts f g (x ∷ xs) h =
    ap (λ ys. ys ++ flat_map f xs) (h x (inl refl)) ∙ ap (λ ys. g x ++ ys) (same-parts f g xs (λ y m. h y (inr m)))

pub each-at : {A B : Type 0} (R : A → B → Type 0) (xs : List A) (ys : List B) (k : ℕ) (x : A) → EachWith R xs ys
    → slice_get xs k ≡ Some x → (y : B) × (slice_get ys k ≡ Some y) × R x y
each-at R [] [] k x e at = cc
each-at R [] (y ∷ ys) k x e at = absurd e
each-at R (z ∷ xs) [] k x e at = absurd e
each-at R (z ∷ xs) (y ∷ ys) zero x e at = (y, refl, subst (λ w. R w y) (some-same z x at) e.0)
each-at R (z ∷ xs) (y ∷ ys) (suc k) x e at = each-at R xs ys k x e.1 at

each-of : {A B : Type 0} (R : A → B → Type 0) (xs : List A) (ys : List B) (k : ℕ) (y : B) → EachWith R xs ys
    → slice_get ys k ≡ Some y → (x : A) × (slice_get xs k ≡ Some x) × R x y
each-of R [] [] k y e at = cc
each-of R [] (w ∷ ys) k y e at = absurd e
each-of R (z ∷ xs) [] k y e at = absurd e
each-of R (z ∷ xs) (w ∷ ys) zero y e at = (z, refl, subst (R z) (some-same w y at) e.0)
each-of R (z ∷ xs) (w ∷ ys) (suc k) y e at = each-of R xs ys k y e.1 at

flat-rows : {A B : Type 0} (R : A → B → Type 0) (f : A → List B) (xs : List A) (ys : List B) → EachWith R xs ys
    → ((k : ℕ) (x : A) (y : B) → slice_get xs k ≡ Some x → slice_get ys k ≡ Some y → f x ≡ y ∷ []) → flat_map f xs ≡ ys
flat-rows R f [] [] e h = refl
flat-rows R f [] (y ∷ ys) e h = absurd e
flat-rows R f (x ∷ xs) [] e h = absurd e
flat-rows R f (x ∷ xs) (y ∷ ys) e h =
    ap (λ zs. zs ++ flat_map f xs) (h 0 x y refl refl)
    ∙ ap (λ zs. y ∷ zs) (flat-rows R f xs ys e.1 (λ k z w at to. h (suc k) z w at to))

both-ways : (c e : Bool) → (c ≡ true → e ≡ true) → (e ≡ true → c ≡ true) → c ≡ e
both-ways true e f g = sym (f refl)
both-ways false true f g = g refl
both-ways false false f g = refl

-- a symbol of a kind
kind-at : (o : Option ℕ) → is_none o ≡ true → o ≡ None
kind-at None e = refl
kind-at (Some ty) e = absurd (true≢false (sym e))

some-at : (o : Option ℕ) → is_some o ≡ true → (ty : ℕ) × (o ≡ Some ty)
some-at None e = absurd (true≢false (sym e))
some-at (Some ty) e = (ty, refl)

pub declared-function : (o : Option Symbol) → IsSome (option_and_then (λ (t : Symbol). t.value) o)
    → (d : Symbol) × (ty : ℕ) × (o ≡ Some d) × (d.value ≡ Some ty)
declared-function None h = cc
declared-function (Some d) h = let r = some-at d.value h in (d, r.0, refl, r.1)

abbrev predicate : ℕ × Symbol → Bool
predicate s = is_none s.1.value

abbrev function : ℕ × Symbol → Bool
function s = is_some s.1.value

module _ (b : GroundBase) where
  predicate-of : (s : ℕ × Symbol) → Has (predicates_of b.vocabulary) s
      → (slice_get b.vocabulary.symbols s.0 ≡ Some s.1) × (s.1.value ≡ None)
  predicate-of s m = (
    symbol_at b.vocabulary.symbols predicate s m,
    kind-at s.1.value
        (passes_filter predicate (enumerate_from 0 b.vocabulary.symbols) s m),
  )

  pub function-of : (s : ℕ × Symbol) → Has (functions_of b.vocabulary) s
      → (slice_get b.vocabulary.symbols s.0 ≡ Some s.1) × ((ty : ℕ) × (s.1.value ≡ Some ty))
  function-of s m = (
    symbol_at b.vocabulary.symbols function s m,
    some-at s.1.value
        (passes_filter function (enumerate_from 0 b.vocabulary.symbols) s m),
  )

  pub is-function : (s : ℕ) (d : Symbol) (ty : ℕ) → slice_get b.vocabulary.symbols s ≡ Some d → d.value ≡ Some ty
      → IsSome (value_type_of b.vocabulary s)
  is-function s d ty at e = ap is_some (ap (λ (o : Option Symbol). elim o [ None ↦ None | Some c ↦ c.value ]) at ∙ e)

-- the rows of a function with one value at each tuple
module _ (v : ℕ → Bool) (first : ℕ) (values : List Elem) (all : List (List Elem)) (d : IsDistinct all)
    (one : (i : ℕ) → i < length all → (x : Elem) × (true_values v (first + i * length values) values ≡ x ∷ [])) where
  rows-each : (rs : List (List Elem)) → ((r : List Elem) → Has rs r → Has all r)
      → EachWith (IsRowFor values) rs (function_rows v first values all rs)
  rows-each [] within = tt
  rows-each (r ∷ rs) within =
      let k = has-index all r (within r (inl refl)) in
      let here = one k.0 (slice_get_within all k.0 r k.1) in
      let row : rows_for v first values r (row_index all (map denotation_of r)) ≡ (r ++ here.0 ∷ []) ∷ [] =
      ap (rows_for v first values r) (index-is all k.0 r d k.1) ∙ ap (map (λ x. r ++ x ∷ [])) here.1 in
      let among = true-among v (first + k.0 * length values) values here.0
      (subst (λ ys. Has ys here.0) (sym here.1) (inl refl)) in
      subst (λ ws. EachWith (IsRowFor values) (r ∷ rs) (ws ++ function_rows v first values all rs)) (sym row)
      ((here.0, contains_from values here.0 among, refl), rows-each rs (λ q m. within q (inr m)))

module _ (b : GroundBase) (is : IsGroundBase b) (v : ℕ → Bool) (one : OneValueEach b v) where
  a-relation : (s : ℕ × Symbol) → Has (predicates_of b.vocabulary) s
      → IsRelation b.domains s (record { symbol = s.0; rows = predicate_table b v s.0 })
  a-relation s m =
      let p = predicate-of b s m in
      let test : List Elem → Bool = λ r. bit_at v (first_var b s.0)
      (row_index (tuples_at b s.0) (map denotation_of r)) in
      record { symbol = refl; rows = (test, ap (filter test) (tuples-are b s.0 s.1 p.0)) }

  a-function : (s : ℕ × Symbol) → Has (functions_of b.vocabulary) s
      → IsFunction b.domains s (record { symbol = s.0; rows = function_table b v s.0 })
  a-function s m =
      let p = function-of b s m in
      let ty = p.1.0 in
      let rs = tuples_of b.domains s.1.args in
      let values = domain_at b.domains ty in
      let first = first_var b s.0 in
      let tuples = tuples-are b s.0 s.1 p.0 in
      let of-type = values-are b s.0 s.1 p.0 ty p.1.1 in
      let table : function_table b v s.0 ≡ function_rows v first values rs rs =
      ap (λ ts. function_rows v first (values_at b s.0) ts ts) tuples
      ∙ ap (λ xs. function_rows v first xs rs rs) of-type in
      let each = rows-each v first values rs (tuples_distinct b.domains s.1.args is.distinct)
      (λ i below. subst (λ xs. (x : Elem) × (true_values v (first + i * length xs) xs ≡ x ∷ [])) of-type
      (one s.0 i (subst (λ ts. i < length ts) (sym tuples) below) (is-function b s.0 s.1 ty p.0 p.1.1))) rs
      (λ r m. m) in
      record {
        symbol = refl;
        rows =
            subst (λ o. IfSome o (λ c. EachWith (IsRowFor (domain_at b.domains c)) rs (function_table b v s.0)))
            (sym p.1.1)
            (subst (EachWith (IsRowFor values) rs) (sym table) each);
      }

  pub structure-is : IsStructure b.vocabulary (structure_of b v)
  structure-is = record {
    types = is.types;
    distinct = is.distinct;
    relations =
        each-mapped (IsRelation b.domains)
        (λ (s : ℕ × Symbol). record { symbol = s.0; rows = predicate_table b v s.0 })
        (predicates_of b.vocabulary) a-relation;
    functions =
        each-mapped (IsFunction b.domains) (λ (s : ℕ × Symbol). record { symbol = s.0; rows = function_table b v s.0 })
        (functions_of b.vocabulary) a-function;
  }

-- the valuation of the ground atoms of a structure
abbrev atom-bit : Structure → GroundAtom → Bool
atom-bit m a = elim a.value [
  | None ↦ has_row (rows_of a.symbol m.relations) (map denotation_of a.args)
  | Some x ↦ has_row (rows_of a.symbol m.functions) (map denotation_of (a.args ++ x ∷ []))
]

abbrev bit-if : Structure → Option GroundAtom → Bool
bit-if m None = false
bit-if m (Some a) = atom-bit m a

abbrev pub valuation-of : GroundBase → Structure → ℕ → Bool
valuation-of b m zero = false
valuation-of b m (suc n) = bit-if m (slice_get (atoms_over b.vocabulary.symbols b.domains) n)

bit-of : (b : GroundBase) (m : Structure) (n k : ℕ) (a : GroundAtom) → n ≡ suc k
    → slice_get (atoms_over b.vocabulary.symbols b.domains) k ≡ Some a → valuation-of b m n ≡ atom-bit m a
bit-of b m n k a e at = ap (valuation-of b m) e ∙ ap (bit-if m) at

-- a row is among those that pass a test exactly where it passes
module _ (test : List Elem → Bool) (rs : List (List Elem)) where
  row-passes : (r : List Elem) → Has rs r → has_row (filter test rs) (map denotation_of r) ≡ test r
  row-passes r at =
      both-ways (has_row (filter test rs) (map denotation_of r)) (test r)
      (λ h.
      let found = row_in (filter test rs) (map denotation_of r) h in
      ap test (sym (row-same found.0 r found.2))
      ∙ passes_filter test rs found.0 (has_from (filter test rs) found.0 found.1))
      (λ h. in_rows (filter test rs) r (contains_from (filter test rs) r (has_filter test rs r at h)))

structure-by : (m n : Structure) → m.domains ≡ n.domains → m.relations ≡ n.relations → m.functions ≡ n.functions → m ≡ n
structure-by m n d r f = λ i. record { domains = d i; relations = r i; functions = f i }

table-by : (t u : Table) → t.symbol ≡ u.symbol → t.rows ≡ u.rows → t ≡ u
table-by t u s r = λ i. record { symbol = s i; rows = r i }

module _ (b : GroundBase) (is : IsGroundBase b) (m : Structure) (structure : IsStructure b.vocabulary m)
    (same : m.domains ≡ b.domains) where
  abbrev v : ℕ → Bool
  v = valuation-of b m

  relation-same : (s : ℕ × Symbol) (t : Table) → Has (predicates_of b.vocabulary) s → Has m.relations t
      → IsRelation m.domains s t → predicate_table b (valuation-of b m) s.0 ≡ t.rows
  relation-same s t in-s in-t r =
      let p = predicate-of b s in-s in
      let rs = tuples_of b.domains s.1.args in
      let first = first_var b s.0 in
      let test = r.rows.0 in
      let tuples = tuples-are b s.0 s.1 p.0 in
      let rows : t.rows ≡ filter test rs = r.rows.1 ∙ ap (λ ds. filter test (tuples_of ds s.1.args)) same in
      let here : rows_of s.0 m.relations ≡ filter test rs =
      ap (λ n. rows_of n m.relations) (sym r.symbol)
      ∙ rows_at m.relations t (relation_symbols b.vocabulary m structure) in-t ∙ rows in
      ap (λ ts. filter (λ q. bit_at (valuation-of b m) first (row_index ts (map denotation_of q))) ts) tuples
      ∙ filter-same (λ q. bit_at (valuation-of b m) first (row_index rs (map denotation_of q))) test rs
      (λ q at.
      let k = has-index rs q at in
      let n = predicate-variable b s.0 k.0 s.1 q p.0 p.1 k.1 in
      ap (bit_at (valuation-of b m) first) (index-is rs k.0 q (tuples_distinct b.domains s.1.args is.distinct) k.1)
      ∙ bit-of b m (first + k.0) n.0 (plain-atom s.0 q) n.1 n.2
      ∙ ap (λ ws. has_row ws (map denotation_of q)) here ∙ row-passes test rs q at)
      ∙ sym rows

  -- a function's table
  module _ (s : ℕ) (d : Symbol) (ty : ℕ) (at : slice_get b.vocabulary.symbols s ≡ Some d) (value : d.value ≡ Some ty)
      (t : Table) (in-t : Has m.functions t) (symbol : t.symbol ≡ s)
      (each : EachWith (IsRowFor (domain_at b.domains ty)) (tuples_of b.domains d.args) t.rows) where
    abbrev rs : List (List Elem)
    rs = tuples_of b.domains d.args

    abbrev values : List Elem
    values = domain_at b.domains ty

    rows-here : rows_of s m.functions ≡ t.rows
    rows-here =
        ap (λ n. rows_of n m.functions) (sym symbol)
        ∙ rows_at m.functions t (function_symbols b.vocabulary m structure) in-t

    bit-here : (i j : ℕ) (r : List Elem) (x : Elem) → slice_get rs i ≡ Some r → slice_get values j ≡ Some x
        → valuation-of b m (first_var b s + i * length values + j) ≡ has_row t.rows (map denotation_of (r ++ x ∷ []))
    bit-here i j r x tuple val =
        let n = function-variable b s i j ty d r x at value tuple val in
        bit-of b m (first_var b s + i * length values + j) n.0 (valued-atom s r x) n.1 n.2
        ∙ ap (λ ws. has_row ws (map denotation_of (r ++ x ∷ []))) rows-here

    -- the row of a tuple
    tuple-row : (i : ℕ) (r : List Elem) → slice_get rs i ≡ Some r
        → (x : Elem) × Contains values x × Has t.rows (r ++ x ∷ []) × (slice_get t.rows i ≡ Some (r ++ x ∷ []))
    tuple-row i r tuple =
        let q = each-at (IsRowFor values) rs t.rows i r each tuple in
        (q.2.0, q.2.1, subst (Has t.rows) q.2.2 (has_get t.rows i q.0 q.1), q.1 ∙ ap Some q.2.2)

    only-row : (i : ℕ) (r : List Elem) (x y : Elem) → slice_get rs i ≡ Some r → slice_get t.rows i ≡ Some (r ++ x ∷ [])
        → has_row t.rows (map denotation_of (r ++ y ∷ [])) ≡ true → x ≡ y
    only-row i r x y tuple row h =
        let found = row_in t.rows (map denotation_of (r ++ y ∷ [])) h in
        let is-row = row-same found.0 (r ++ y ∷ []) found.2 in
        let k = has-index t.rows (r ++ y ∷ []) (subst (Has t.rows) is-row (has_from t.rows found.0 found.1)) in
        let q = each-of (IsRowFor values) rs t.rows k.0 (r ++ y ∷ []) each k.1 in
        let apart = push-same r q.0 y q.2.0 q.2.2 in
        let dist = tuples_distinct b.domains d.args is.distinct in
        let index : k.0 ≡ i = some-same k.0 i
        (sym (index-is rs k.0 q.0 dist q.1) ∙ ap (λ w. row_index rs (map denotation_of w)) (sym apart.0)
        ∙ index-is rs i r dist tuple) in
        (push-same r r x y (some-same (r ++ x ∷ []) (r ++ y ∷ [])
        (sym row ∙ ap (slice_get t.rows) (sym index) ∙ k.1))).1

    tuple-value : (i : ℕ) (r : List Elem) → slice_get rs i ≡ Some r
        → (x : Elem) × (slice_get t.rows i ≡ Some (r ++ x ∷ []))
        × (true_values (valuation-of b m) (first_var b s + i * length values) values ≡ x ∷ [])
    tuple-value i r tuple =
        let q = tuple-row i r tuple in
        let x = q.0 in
        let k = has-index values x (has_from values x q.1) in (
          x,
          q.3,
          only-true (valuation-of b m) (first_var b s + i * length values) values k.0 x k.1
              (bit-here i k.0 r x tuple k.1 ∙ in_rows t.rows (r ++ x ∷ []) (contains_from t.rows (r ++ x ∷ []) q.2))
              (λ j below other.
              let y = get_or values j x in
              let val : slice_get values j ≡ Some y = slice_get-get_or values j x below in
              bit-here i j r y tuple val
              ∙ not-there i j k.0 r x y tuple q.3 val k.1 other),
        )
      where
        not-there : (i j k : ℕ) (r : List Elem) (x y : Elem) → slice_get rs i ≡ Some r
            → slice_get t.rows i ≡ Some (r ++ x ∷ []) → slice_get values j ≡ Some y → slice_get values k ≡ Some x
            → (j ≡ k → ⊥)
            → has_row t.rows (map denotation_of (r ++ y ∷ [])) ≡ false
        not-there i j k r x y tuple row val at-k other =
            elim (cases_Bool (has_row t.rows (map denotation_of (r ++ y ∷ [])))) [
              | inl h ↦ absurd (other (index-of values j k x (domain_is_distinct b.domains ty is.distinct)
                  (val ∙ ap Some (sym (only-row i r x y tuple row h))) at-k))
              | inr h ↦ h
            ]

    pub function-same : function_table b (valuation-of b m) s ≡ t.rows
    function-same =
        let first = first_var b s in
        ap (λ ts. function_rows (valuation-of b m) first (values_at b s) ts ts) (tuples-are b s d at)
        ∙ ap (λ xs. function_rows (valuation-of b m) first xs rs rs) (values-are b s d at ty value)
        ∙ flat-rows (IsRowFor values)
        (λ r. rows_for (valuation-of b m) first values r (row_index rs (map denotation_of r))) rs t.rows each
        (λ k r w tuple row.
        let q = tuple-value k r tuple in
        let is-row : r ++ q.0 ∷ [] ≡ w = some-same (r ++ q.0 ∷ []) w (sym q.1 ∙ row) in
        ap (rows_for (valuation-of b m) first values r)
        (index-is rs k r (tuples_distinct b.domains d.args is.distinct) tuple)
        ∙ ap (map (λ x. r ++ x ∷ [])) q.2 ∙ ap (λ z. z ∷ []) is-row)

  each-row : (s : ℕ × Symbol) (t : Table) (ty : ℕ) → s.1.value ≡ Some ty → IsFunction m.domains s t
      → EachWith (IsRowFor (domain_at b.domains ty)) (tuples_of b.domains s.1.args) t.rows
  each-row s t ty e r =
      subst (λ ds. EachWith (IsRowFor (domain_at ds ty)) (tuples_of ds s.1.args) t.rows) same
      (subst (λ o. IfSome o (λ c. EachWith (IsRowFor (domain_at m.domains c))
      (tuples_of m.domains s.1.args) t.rows)) e r.rows)

  pub structure-same : structure_of b (valuation-of b m) ≡ m
  structure-same =
      structure-by (structure_of b (valuation-of b m)) m (sym same)
      (mapped-each (IsRelation m.domains)
      (λ (s : ℕ × Symbol). record { symbol = s.0; rows = predicate_table b (valuation-of b m) s.0 })
      (predicates_of b.vocabulary) m.relations structure.relations
      (λ s t in-s in-t r. table-by (record { symbol = s.0; rows = predicate_table b (valuation-of b m) s.0 }) t
      (sym r.symbol) (relation-same s t in-s in-t r)))
      (mapped-each (IsFunction m.domains)
      (λ (s : ℕ × Symbol). record { symbol = s.0; rows = function_table b (valuation-of b m) s.0 })
      (functions_of b.vocabulary) m.functions structure.functions
      (λ s t in-s in-t r.
      let p = function-of b s in-s in
      table-by (record { symbol = s.0; rows = function_table b (valuation-of b m) s.0 }) t (sym r.symbol)
      (function-same s.0 s.1 p.1.0 p.0 p.1.1 t in-t r.symbol (each-row s t p.1.0 p.1.1 r))))

  pub one-value-each : OneValueEach b (valuation-of b m)
  one-value-each s i below some =
      let p = declared-function (slice_get b.vocabulary.symbols s) some in
      let d = p.0 in
      let ty = p.1 in
      let q = each_right (IsFunction m.domains) (functions_of b.vocabulary) m.functions (s, d) structure.functions
      (function_has b.vocabulary s d ty p.2 p.3) in
      let tuples = tuples-are b s d p.2 in
      let within : i < length (tuples_of b.domains d.args) = subst (λ ts. i < length ts) tuples below in
      let r = get_or (tuples_of b.domains d.args) i [] in
      let x = tuple-value s d ty p.2 p.3 q.0 q.1 q.2.symbol (each-row (s, d) q.0 ty p.3 q.2) i r
      (slice_get-get_or (tuples_of b.domains d.args) i [] within) in (
        x.0,
        subst (λ xs. true_values (valuation-of b m) (first_var b s + i * length xs) xs ≡ x.0 ∷ [])
            (sym (values-are b s d p.2 ty p.3)) x.2,
      )

-- only the variables of the atoms matter
module _ (b : GroundBase) (is : IsGroundBase b) (v w : ℕ → Bool)
    (agree : (k : ℕ) → 1 ≤ k → k ≤ length (atoms_over b.vocabulary.symbols b.domains) → v k ≡ w k) where
  at-variable : (n k : ℕ) (a : GroundAtom) → n ≡ suc k
      → slice_get (atoms_over b.vocabulary.symbols b.domains) k ≡ Some a → v n ≡ w n
  at-variable n k a e at =
      let below = slice_get_within (atoms_over b.vocabulary.symbols b.domains) k a at in
      agree n (omega (arith, e)) (omega (arith, e, below))

  same-relation : (s : ℕ × Symbol) → Has (predicates_of b.vocabulary) s
      → predicate_table b v s.0 ≡ predicate_table b w s.0
  same-relation s m =
      let p = predicate-of b s m in
      let rs = tuples_of b.domains s.1.args in
      let first = first_var b s.0 in
      let tuples = tuples-are b s.0 s.1 p.0 in
      ap (λ ts. filter (λ q. bit_at v first (row_index ts (map denotation_of q))) ts) tuples
      ∙ filter-same (λ q. bit_at v first (row_index rs (map denotation_of q)))
      (λ q. bit_at w first (row_index rs (map denotation_of q))) rs
      (λ q at.
      let k = has-index rs q at in
      let n = predicate-variable b s.0 k.0 s.1 q p.0 p.1 k.1 in
      let index = index-is rs k.0 q (tuples_distinct b.domains s.1.args is.distinct) k.1 in
      ap (bit_at v first) index ∙ at-variable (first + k.0) n.0 (plain-atom s.0 q) n.1 n.2
      ∙ ap (bit_at w first) (sym index))
      ∙ ap (λ ts. filter (λ q. bit_at w first (row_index ts (map denotation_of q))) ts) (sym tuples)

  same-function : (s : ℕ × Symbol) → Has (functions_of b.vocabulary) s → function_table b v s.0 ≡ function_table b w s.0
  same-function s m =
      let p = function-of b s m in
      let ty = p.1.0 in
      let rs = tuples_of b.domains s.1.args in
      let values = domain_at b.domains ty in
      let first = first_var b s.0 in
      let tuples = tuples-are b s.0 s.1 p.0 in
      let of-type = values-are b s.0 s.1 p.0 ty p.1.1 in
      ap (λ ts. function_rows v first (values_at b s.0) ts ts) tuples
      ∙ ap (λ xs. function_rows v first xs rs rs) of-type
      ∙ same-parts (λ r. rows_for v first values r (row_index rs (map denotation_of r)))
      (λ r. rows_for w first values r (row_index rs (map denotation_of r))) rs
      (λ r at.
      let k = has-index rs r at in
      let index = index-is rs k.0 r (tuples_distinct b.domains s.1.args is.distinct) k.1 in
      ap (rows_for v first values r) index
      ∙ ap (map (λ x. r ++ x ∷ []))
      (same-true v w (first + k.0 * length values) values
      (λ j below.
      let x = get_or values j (first-of values j below) in
      let n = function-variable b s.0 k.0 j ty s.1 r x p.0 p.1.1 k.1
      (slice_get-get_or values j (first-of values j below) below) in
      at-variable (first + k.0 * length values + j) n.0 (valued-atom s.0 r x) n.1 n.2))
      ∙ ap (rows_for w first values r) (sym index))
      ∙ ap (λ xs. function_rows w first xs rs rs) (sym of-type)
      ∙ ap (λ ts. function_rows w first (values_at b s.0) ts ts) (sym tuples)
    where
      first-of : (xs : List Elem) (j : ℕ) → j < length xs → Elem
      first-of [] j h = absurd (omega (arith, h))
      first-of (x ∷ xs) j h = x

  pub only-atoms-matter : structure_of b v ≡ structure_of b w
  only-atoms-matter =
      structure-by (structure_of b v) (structure_of b w) refl
      (same-mapped (λ (s : ℕ × Symbol). record { symbol = s.0; rows = predicate_table b v s.0 })
      (λ (s : ℕ × Symbol). record { symbol = s.0; rows = predicate_table b w s.0 }) (predicates_of b.vocabulary)
      (λ s m. table-by (record { symbol = s.0; rows = predicate_table b v s.0 })
      (record { symbol = s.0; rows = predicate_table b w s.0 }) refl (same-relation s m)))
      (same-mapped (λ (s : ℕ × Symbol). record { symbol = s.0; rows = function_table b v s.0 })
      (λ (s : ℕ × Symbol). record { symbol = s.0; rows = function_table b w s.0 }) (functions_of b.vocabulary)
      (λ s m. table-by (record { symbol = s.0; rows = function_table b v s.0 })
      (record { symbol = s.0; rows = function_table b w s.0 }) refl (same-function s m)))
