-- Tables by the places of their rows are those by the rows' values.
use Rattle.std.proofs.Common.{◌≡◌, ℕ, suc, ◌+◌, ◌*◌, ◌<◌, ◌≤◌, Bool, true, false, if◌then◌else◌, Option}
use Rattle.std.proofs.Common.{Some, None, List, [], ◌∷◌, ◌++◌, map, filter, is_none, is_some, length, take}
use Rattle.std.proofs.Common.{get_or, slice_get, refl, sym, ap, ◌∙◌, arith, inl, inr, ◌⊎◌}
use Rattle.std.specs.List.{flat_map, enumerate_from}
use Rattle.std.proofs.Math.Seq.{take-length}
use Rattle.std.proofs.lemmas.List.{append_assoc, append-nil, take_more, map-append}
use Rattle.std.proofs.lemmas.List.{length-take-le}
use Rattle.std.proofs.lemmas.List.Elements.{filter-append}
use Rattle.std.proofs.lemmas.List.FromFn.{get_or-enumerate_from, length-enumerate_from}
use Rattle.std.proofs.lemmas.Option.{slice_get_cases}
use Rattle.kb_logic.specs.declared.elements.Elem.{Elem}
use Rattle.kb_logic.specs.declared.structures.Table.{Table}
use Rattle.kb_logic.specs.declared.vocabularies.Symbol.{Symbol}
use Rattle.kb_logic.specs.Structures.{IsDistinct, domain_at, tuples_of, predicates_of, functions_of}
use Rattle.kb_logic.specs.Denotations.{denotation_of}
use Rattle.kb_logic.specs.Bounds.{domain_if}
use Rattle.kb_logic.proofs.Has.{Has}
use Rattle.kb_logic.proofs.DistinctAtoms.{tuples_distinct}
use Rattle.kb_logic.proofs.Tables.{symbol_at}
use Rattle.term_values.specs.GroundBases.{GroundBase, row_index, bit_at, true_values, predicate_rows, rows_for}
use Rattle.term_values.specs.GroundBases.{function_rows, predicate_table, function_table as table_of_function}
use Rattle.term_values.specs.GroundBases.{structure_of, tuples_at, values_at, first_var}
use Rattle.term_values.specs.KnownBases.{IsGroundBase}
use Rattle.term_values.proofs.Chosen.{index-is}
use Rattle.term_values.proofs.StructureAtoms.{tuples-are, values-are}
use Rattle.term_values.proofs.StructureLaws.{same-mapped, function-of}
use Rattle.atom_numbers.specs.Numbers.{first_of, AreNumbered}
use Rattle.atom_numbers.specs.Tables.{true_rows, valued_rows, relation_table, function_table, relation_tables}
use Rattle.atom_numbers.specs.Tables.{function_tables}

-- the item where it is wanted
abbrev one_if : {X : Type 0} → Bool → X → List X
one_if true x = x ∷ []
one_if false x = []

if-push : {X : Type 0} (b : Bool) (q : X) (xs ys : List X) → (if b then q ∷ (xs ++ ys) else (xs ++ ys))
    ≡ (if b then q ∷ xs else xs) ++ ys
if-push true q xs ys = refl
if-push false q xs ys = refl

if-one : {X : Type 0} (b c : Bool) (x : X) → b ≡ c → (if b then x ∷ [] else []) ≡ one_if c x
if-one true true x e = refl
if-one true false x e = cc
if-one false true x e = cc
if-one false false x e = refl

pub true-rows-push : (v : ℕ → Bool) (n m : ℕ) (rs : List (List Elem)) (r : List Elem) (c : Bool) → m ≡ n + length rs
    → v m ≡ c → true_rows v n (rs ++ r ∷ []) ≡ true_rows v n rs ++ one_if c r
true-rows-push v n m [] r c at is = let same : n ≡ m = omega (arith, at) in if-one (v n) c r (ap v same ∙ is)
true-rows-push v n m (q ∷ rs) r c at is =
    ap (λ (xs : List (List Elem)). if v n then q ∷ xs else xs)
    (true-rows-push v (n + 1) m rs r c (omega (arith, at)) is)
    ∙ if-push (v n) q (true_rows v (n + 1) rs) (one_if c r)

pub true-values-push : (v : ℕ → Bool) (n m : ℕ) (xs : List Elem) (x : Elem) (c : Bool) → m ≡ n + length xs → v m ≡ c
    → true_values v n (xs ++ x ∷ []) ≡ true_values v n xs ++ one_if c x
true-values-push v n m [] x c at is = let same : n ≡ m = omega (arith, at) in if-one (v n) c x (ap v same ∙ is)
true-values-push v n m (q ∷ xs) x c at is =
    ap (λ (ys : List Elem). if v n then q ∷ ys else ys) (true-values-push v (n + 1) m xs x c (omega (arith, at)) is)
    ∙ if-push (v n) q (true_values v (n + 1) xs) (one_if c x)

-- one row more, where it is true
pub row-added : (v : ℕ → Bool) (n k : ℕ) (rs : List (List Elem)) (r : List Elem) (old new : List (List Elem))
    → k < length rs → r ≡ get_or rs k [] → v (n + k) ≡ true → old ≡ true_rows v n (take k rs) → new ≡ old ++ r ∷ []
    → new ≡ true_rows v n (take (k + 1) rs)
row-added v n k rs r old new lt here is before e =
    let more = true-rows-push v n (n + k) (take k rs) (get_or rs k []) true (let l : length (take k rs) ≡ k =
    length-take-le k rs (omega (arith, lt)) in omega (arith, l)) is in
    e ∙ ap (λ (zs : List (List Elem)). zs ++ r ∷ []) before
    ∙ ap (λ (q : List Elem). true_rows v n (take k rs) ++ q ∷ []) here
    ∙ sym (ap (true_rows v n) (take_more rs k [] lt) ∙ more)

-- and none where it is false
pub row-passed : (v : ℕ → Bool) (n k : ℕ) (rs : List (List Elem)) → k < length rs → v (n + k) ≡ false
    → true_rows v n (take (k + 1) rs) ≡ true_rows v n (take k rs)
row-passed v n k rs lt is =
    let more = true-rows-push v n (n + k) (take k rs) (get_or rs k []) false (let l : length (take k rs) ≡ k =
    length-take-le k rs (omega (arith, lt)) in omega (arith, l)) is in
    ap (true_rows v n) (take_more rs k [] lt) ∙ more ∙ append-nil (true_rows v n (take k rs))

pub valued-rows-push : (v : ℕ → Bool) (n m : ℕ) (values : List Elem) (rs : List (List Elem)) (r : List Elem)
    → m ≡ n + length rs * length values → valued_rows v n values (rs ++ r ∷ []) ≡ valued_rows v n values rs ++ map
    (λ x. r ++ x ∷ []) (true_values v m values)
valued-rows-push v n m values [] r at =
    let same : n ≡ m = omega (arith, at) in
    append-nil (map (λ x. r ++ x ∷ []) (true_values v n values))
    ∙ ap (λ k. map (λ x. r ++ x ∷ []) (true_values v k values)) same
valued-rows-push v n m values (q ∷ rs) r at =
    ap (λ (xs : List (List Elem)). map (λ x. q ++ x ∷ []) (true_values v n values) ++ xs)
    (valued-rows-push v (n + length values) m values rs r (next (length rs) (length values) at))
    ∙ sym (append_assoc (map (λ x. q ++ x ∷ []) (true_values v n values)) (valued_rows v (n + length values) values rs)
    (map (λ x. r ++ x ∷ []) (true_values v m values)))
  where
    next : (a b : ℕ) → m ≡ n + suc a * b → m ≡ n + b + a * b
    next a b e = omega (arith, e)

-- one more value, where it is true
pub push-true : (v : ℕ → Bool) (n k : ℕ) (args xs : List Elem) (x : Elem) (front old new : List (List Elem))
    → k < length xs → x ≡ get_or xs k x → v (n + k) ≡ true → old ≡ front ++ map (λ y. args ++ y ∷ [])
    (true_values v n (take k xs)) → new ≡ old ++ (args ++ x ∷ []) ∷ []
    → new ≡ front ++ map (λ y. args ++ y ∷ []) (true_values v n (take (k + 1) xs))
push-true v n k args xs x front old new lt here is before e =
    let more = true-values-push v n (n + k) (take k xs) x true (let l : length (take k xs) ≡ k =
    length-take-le k xs (omega (arith, lt)) in omega (arith, l)) is in
    let taken : take (k + 1) xs ≡ take k xs ++ x ∷ [] = take_more xs k x lt ∙ ap (λ (y : Elem). take k xs ++ y ∷ [])
    (sym here) in
    e ∙ ap (λ (zs : List (List Elem)). zs ++ (args ++ x ∷ []) ∷ []) before
    ∙ append_assoc front (map (λ y. args ++ y ∷ []) (true_values v n (take k xs))) ((args ++ x ∷ []) ∷ [])
    ∙ ap (λ (zs : List (List Elem)). front ++ zs) (sym (ap (map (λ y. args ++ y ∷ [])) (ap (true_values v n) taken
    ∙ more) ∙ map-append (λ y. args ++ y ∷ []) (true_values v n (take k xs)) (x ∷ [])))

-- and none where it is false
pub push-false : (v : ℕ → Bool) (n k : ℕ) (xs : List Elem) → k < length xs → v (n + k) ≡ false
    → true_values v n (take (k + 1) xs) ≡ true_values v n (take k xs)
push-false v n k xs lt is = at (slice_get_cases xs k).1
  where
    at : ((x : Elem) × (k < length xs) × (slice_get xs k ≡ Some x) × (get_or xs k x ≡ x))
        ⊎ ((length xs ≤ k) × (slice_get xs k ≡ None)) → true_values v n (take (k + 1) xs) ≡ true_values v n (take k xs)
    at (inl s) =
        let more = true-values-push v n (n + k) (take k xs) (get_or xs k s.0) false (let l : length (take k xs) ≡ k =
        length-take-le k xs (omega (arith, lt)) in omega (arith, l)) is in
        ap (true_values v n) (take_more xs k s.0 lt) ∙ more ∙ append-nil (true_values v n (take k xs))
    at (inr s) = absurd (omega (arith, lt, s.0))

-- rows by their values
module _ (v : ℕ → Bool) (n : ℕ) (all : List (List Elem)) where
  predicate-by-place : (rs : List (List Elem)) (k m : ℕ) → m ≡ n + k
      → ((j : ℕ) (r : List Elem) → slice_get rs j ≡ Some r → row_index all (map denotation_of r) ≡ Some (k + j))
      → filter (λ r. bit_at v n (row_index all (map denotation_of r))) rs ≡ true_rows v m rs
  predicate-by-place [] k m at h = refl
  predicate-by-place (r ∷ rs) k m at h =
      let index : row_index all (map denotation_of r) ≡ Some (k + 0) = h 0 r refl in
      let place : n + (k + 0) ≡ m = omega (arith, at) in
      let bit : bit_at v n (row_index all (map denotation_of r)) ≡ v m = ap (bit_at v n) index ∙ ap v place in
      let rest = predicate-by-place rs (k + 1) (m + 1) (omega (arith, at)) (λ j q e. h (suc j) q e
      ∙ ap Some (let z : k + suc j ≡ k + 1 + j = omega arith in z)) in
      ap (λ (b : Bool). if b then r ∷ filter (λ q. bit_at v n (row_index all (map denotation_of q))) rs else
      filter (λ q. bit_at v n (row_index all (map denotation_of q))) rs) bit
      ∙ ap (λ (xs : List (List Elem)). if v m then r ∷ xs else xs) rest

  pub predicate-same : IsDistinct all → predicate_rows v n all ≡ true_rows v n all
  predicate-same d = predicate-by-place all 0 n (omega arith) (λ j r e. index-is all j r d e
      ∙ ap Some (let z : j ≡ 0 + j = omega arith in z))

  module _ (values : List Elem) where
    function-by-place : (rs : List (List Elem)) (k m : ℕ) → m ≡ n + k * length values
        → ((j : ℕ) (r : List Elem) → slice_get rs j ≡ Some r → row_index all (map denotation_of r) ≡ Some (k + j))
        → flat_map (λ r. rows_for v n values r (row_index all (map denotation_of r))) rs ≡ valued_rows v m values rs
    function-by-place [] k m at h = refl
    function-by-place (r ∷ rs) k m at h =
        let index : row_index all (map denotation_of r) ≡ Some (k + 0) = h 0 r refl in
        let zero-on : k + 0 ≡ k = omega arith in
        let place : n + (k + 0) * length values ≡ m = ap (λ i. n + i * length values) zero-on ∙ sym at in
        let here : rows_for v n values r (row_index all (map denotation_of r)) ≡ map (λ x. r ++ x ∷ [])
        (true_values v m values) =
        ap (rows_for v n values r) index ∙ ap (λ i. map (λ x. r ++ x ∷ []) (true_values v i values)) place in
        let rest = function-by-place rs (k + 1) (m + length values) (next (length values) at) (λ j q e. h (suc j) q e
        ∙ ap Some (let z : k + suc j ≡ k + 1 + j = omega arith in z)) in
        ap (λ (xs : List (List Elem)). xs ++ flat_map (λ q. rows_for v n values q (row_index all (map denotation_of q)))
        rs) here
        ∙ ap (λ (xs : List (List Elem)). map (λ x. r ++ x ∷ []) (true_values v m values) ++ xs) rest
      where
        next : (a : ℕ) → m ≡ n + k * a → m + a ≡ n + (k + 1) * a
        next a e = omega (arith, e)

    pub function-same : IsDistinct all → function_rows v n values all all ≡ valued_rows v n values all
    function-same d = function-by-place all 0 n (let z : n ≡ n + 0 * length values = omega arith in z)
        (λ j r e. index-is all j r d e ∙ ap Some (let z : j ≡ 0 + j = omega arith in z))

-- the structure by places
module _ (b : GroundBase) (v : ℕ → Bool) (fine : IsGroundBase b) where
  relation-same : (s : ℕ × Symbol) → Has (predicates_of b.vocabulary) s
      → relation_table b.domains b.vocabulary.symbols v s ≡ record { symbol = s.0; rows = predicate_table b v s.0 }
  relation-same s m =
      let at : slice_get b.vocabulary.symbols s.0 ≡ Some s.1 = symbol_at b.vocabulary.symbols
      (λ (x : ℕ × Symbol). is_none x.1.value) s m in
      let tuples : tuples_at b s.0 ≡ tuples_of b.domains s.1.args = tuples-are b s.0 s.1 at in
      sym (ap (λ (rs : List (List Elem)). record { symbol = s.0; rows = rs })
      (ap (predicate_rows v (first_var b s.0)) tuples ∙ predicate-same v (first_var b s.0)
      (tuples_of b.domains s.1.args) (tuples_distinct b.domains s.1.args fine.distinct)))

  function-table-same : (s : ℕ × Symbol) → Has (functions_of b.vocabulary) s
      → function_table b.domains b.vocabulary.symbols v s ≡ record { symbol = s.0; rows = table_of_function b v s.0 }
  function-table-same s m =
      let f = function-of b s m in
      let at : slice_get b.vocabulary.symbols s.0 ≡ Some s.1 = f.0 in
      let tuples : tuples_at b s.0 ≡ tuples_of b.domains s.1.args = tuples-are b s.0 s.1 at in
      let values : values_at b s.0 ≡ domain_if b.domains s.1.value = values-are b s.0 s.1 at f.1.0 f.1.1
      ∙ sym (ap (domain_if b.domains) f.1.1) in
      sym (ap (λ (rs : List (List Elem)). record { symbol = s.0; rows = rs })
      (ap (λ (ts : List (List Elem)). function_rows v (first_var b s.0) (values_at b s.0) ts ts) tuples
      ∙ ap (λ (xs : List Elem). function_rows v (first_var b s.0) xs (tuples_of b.domains s.1.args)
      (tuples_of b.domains s.1.args)) values
      ∙ function-same v (first_var b s.0) (tuples_of b.domains s.1.args) (domain_if b.domains s.1.value)
      (tuples_distinct b.domains s.1.args fine.distinct)))

  whole : take (length b.vocabulary.symbols) (enumerate_from 0 b.vocabulary.symbols)
      ≡ enumerate_from 0 b.vocabulary.symbols
  whole = ap (λ n. take n (enumerate_from 0 b.vocabulary.symbols)) (sym (length-enumerate_from 0 b.vocabulary.symbols))
      ∙ take-length (enumerate_from 0 b.vocabulary.symbols)

  pub relations-are : relation_tables b.domains b.vocabulary.symbols v (length b.vocabulary.symbols)
      ≡ (structure_of b v).relations
  relations-are =
      ap (λ (xs : List (ℕ × Symbol)). map (relation_table b.domains b.vocabulary.symbols v)
      (filter (λ s. is_none s.1.value) xs)) whole
      ∙ same-mapped (relation_table b.domains b.vocabulary.symbols v) (λ (s : ℕ × Symbol). record {
        symbol = s.0;
        rows =
            predicate_table b v s.0;
      }) (predicates_of b.vocabulary) relation-same

  pub functions-are : function_tables b.domains b.vocabulary.symbols v (length b.vocabulary.symbols)
      ≡ (structure_of b v).functions
  functions-are =
      ap (λ (xs : List (ℕ × Symbol)). map (function_table b.domains b.vocabulary.symbols v)
      (filter (λ s. is_some s.1.value) xs)) whole
      ∙ same-mapped (function_table b.domains b.vocabulary.symbols v) (λ (s : ℕ × Symbol). record {
        symbol = s.0;
        rows =
            table_of_function b v s.0;
      }) (functions_of b.vocabulary) function-table-same

-- one symbol more among the first
module _ (test : ℕ × Symbol → Bool) (table : ℕ × Symbol → Table) (symbols : List Symbol) (n : ℕ) (d : Symbol)
    (lt : n < length symbols) where
  abbrev tables-to : ℕ → List Table
  tables-to k = map table (filter test (take k (enumerate_from 0 symbols)))

  next-item : take (n + 1) (enumerate_from 0 symbols) ≡ take n (enumerate_from 0 symbols) ++
      (n, get_or symbols n d) ∷ []
  next-item =
      let count = length-enumerate_from 0 symbols in
      let zero-on : 0 + n ≡ n = omega arith in
      take_more (enumerate_from 0 symbols) n (n, d) (omega (arith, count, lt))
      ∙ ap (λ (p : ℕ × Symbol). take n (enumerate_from 0 symbols) ++ p ∷ [])
      (get_or-enumerate_from 0 symbols n (n, d) lt ∙ ap (λ k. (k, get_or symbols n d)) zero-on)

  pub one-passes : (tables : List Table) → test (n, get_or symbols n d) ≡ true → tables ≡ tables-to n
      → tables ++ table (n, get_or symbols n d) ∷ [] ≡ tables-to (n + 1)
  one-passes tables passes before =
      ap (λ (ts : List Table). ts ++ table (n, get_or symbols n d) ∷ []) before
      ∙ sym (map-append table (filter test (take n (enumerate_from 0 symbols))) ((n, get_or symbols n d) ∷ []))
      ∙ ap (map table) (sym (ap (filter test) next-item ∙ filter-append test (take n (enumerate_from 0 symbols))
      ((n, get_or symbols n d) ∷ []) ∙ ap (λ (b : Bool). filter test (take n (enumerate_from 0 symbols)) ++ (if b then
      (n, get_or symbols n d) ∷ [] else [])) passes))

  pub one-fails : (tables : List Table) → test (n, get_or symbols n d) ≡ false → tables ≡ tables-to n
      → tables ≡ tables-to (n + 1)
  one-fails tables fails before =
      before ∙ ap (map table) (sym (ap (filter test) next-item ∙ filter-append test (take n (enumerate_from 0 symbols))
      ((n, get_or symbols n d) ∷ [])
      ∙ ap (λ (b : Bool). filter test (take n (enumerate_from 0 symbols)) ++ (if b then
      (n, get_or symbols n d) ∷ [] else [])) fails
      ∙ append-nil (filter test (take n (enumerate_from 0 symbols)))))

-- the rows of one tuple more
pub one-function-row : (v : ℕ → Bool) (first var i : ℕ) (values : List Elem) (tuples : List (List Elem)) (r : List Elem)
    (old new : List (List Elem)) → i < length tuples → r ≡ get_or tuples i r
    → old ≡ valued_rows v first values (take i tuples) → var ≡ first + i * length values
    → new ≡ old ++ map (λ x. r ++ x ∷ []) (true_values v var values)
    → (new ≡ valued_rows v first values (take (i + 1) tuples)) × (var + length values ≡ first + (i + 1) * length values)
one-function-row v first var i values tuples r old new lt is before at e = (
  e ∙ ap (λ (xs : List (List Elem)). xs ++ map (λ x. r ++ x ∷ []) (true_values v var values)) before
      ∙ sym (ap (valued_rows v first values) (take_more tuples i r lt
      ∙ ap (λ (q : List Elem). take i tuples ++ q ∷ []) (sym is))
      ∙ valued-rows-push v first var values (take i tuples) r (at ∙ ap (λ (k : ℕ). first + k * length values)
      (sym (length-take-le i tuples (omega (arith, lt)))))),
  next (length values) at,
)
  where
    next : (a : ℕ) → var ≡ first + i * a → var + a ≡ first + (i + 1) * a
    next a h = omega (arith, h)

pub is-none : (o : Option ℕ) → is_some o ≡ false → o ≡ None
is-none None e = refl
is-none (Some x) e = cc

some-no : (o : Option ℕ) → is_some o ≡ true → is_none o ≡ false
some-no None e = cc
some-no (Some x) e = refl

none-yes : (o : Option ℕ) → o ≡ None → is_none o ≡ true
none-yes o e = ap is_none e

-- the tables of one symbol more
module _ (domains : List (List Elem)) (symbols : List Symbol) (v : ℕ → Bool) (n : ℕ) (d : Symbol)
    (lt : n < length symbols) (is : d ≡ get_or symbols n d) (tables : List Table) where
  pub relation-passed : is_some d.value ≡ true → tables ≡ relation_tables domains symbols v n
      → tables ≡ relation_tables domains symbols v (n + 1)
  relation-passed e before =
      one-fails (λ (s : ℕ × Symbol). is_none s.1.value) (relation_table domains symbols v) symbols n d lt tables
      (ap (λ (x : Symbol). is_none x.value) (sym is) ∙ some-no d.value e) before

  pub function-passed : d.value ≡ None → tables ≡ function_tables domains symbols v n
      → tables ≡ function_tables domains symbols v (n + 1)
  function-passed e before =
      one-fails (λ (s : ℕ × Symbol). is_some s.1.value) (function_table domains symbols v) symbols n d lt tables
      (ap (λ (x : Symbol). is_some x.value) (sym is) ∙ ap is_some e) before

  module _ (new : List Table) (vars : List ℕ) (h : AreNumbered domains symbols vars) where
    pub relation-added : d.value ≡ None → (table : Table) (rows : List (List Elem))
        → table ≡ record { symbol = n; rows = rows } → rows ≡ true_rows v (get_or vars n 0) (tuples_of domains d.args)
        → new ≡ tables ++ table ∷ [] → tables ≡ relation_tables domains symbols v n
        → new ≡ relation_tables domains symbols v (n + 1)
    relation-added e table rows made are pushed before =
        let whole : table ≡ relation_table domains symbols v (n, get_or symbols n d) =
        made ∙ ap (λ (rs : List (List Elem)). record { symbol = n; rows = rs })
        (are ∙ ap (λ (k : ℕ). true_rows v k (tuples_of domains d.args)) (h.firsts n 0 lt))
        ∙ ap (λ (x : Symbol). relation_table domains symbols v (n, x)) is in
        pushed ∙ ap (λ (x : Table). tables ++ x ∷ []) whole
        ∙ one-passes (λ (s : ℕ × Symbol). is_none s.1.value) (relation_table domains symbols v) symbols n d lt tables
        (ap (λ (x : Symbol). is_none x.value) (sym is) ∙ none-yes d.value e) before

    pub function-added : (ty : ℕ) → d.value ≡ Some ty → (table : Table) (rows : List (List Elem))
        → table ≡ record { symbol = n; rows = rows } → rows ≡ valued_rows v (get_or vars n 0) (domain_at domains ty)
        (tuples_of domains d.args) → new ≡ tables ++ table ∷ [] → tables ≡ function_tables domains symbols v n
        → new ≡ function_tables domains symbols v (n + 1)
    function-added ty e table rows made are pushed before =
        let whole : table ≡ function_table domains symbols v (n, get_or symbols n d) =
        made ∙ ap (λ (rs : List (List Elem)). record { symbol = n; rows = rs })
        (are ∙ ap (λ (k : ℕ). valued_rows v k (domain_at domains ty) (tuples_of domains d.args)) (h.firsts n 0 lt)
        ∙ ap (λ (xs : List Elem). valued_rows v (first_of domains symbols n) xs (tuples_of domains d.args))
        (sym (ap (domain_if domains) e)))
        ∙ ap (λ (x : Symbol). function_table domains symbols v (n, x)) is in
        pushed ∙ ap (λ (x : Table). tables ++ x ∷ []) whole
        ∙ one-passes (λ (s : ℕ × Symbol). is_some s.1.value) (function_table domains symbols v) symbols n d lt tables
        (ap (λ (x : Symbol). is_some x.value) (sym is) ∙ ap is_some e) before

pub structure-made : (b : GroundBase) (v : ℕ → Bool) → IsGroundBase b
    → (domains : List (List Elem)) (relations functions : List Table) → domains ≡ b.domains
    → relations ≡ relation_tables b.domains b.vocabulary.symbols v (length b.vocabulary.symbols)
    → functions ≡ function_tables b.domains b.vocabulary.symbols v (length b.vocabulary.symbols)
    → record { domains = domains; relations = relations; functions = functions } ≡ structure_of b v
structure-made b v fine domains relations functions d r f =
    let rs : relations ≡ (structure_of b v).relations = r ∙ relations-are b v fine in
    let fs : functions ≡ (structure_of b v).functions = f ∙ functions-are b v fine in
    ap (λ (ds : List (List Elem)). record { domains = ds; relations = relations; functions = functions }) d
    ∙ ap (λ (ts : List Table). record { domains = b.domains; relations = ts; functions = functions }) rs
    ∙ ap (λ (ts : List Table). record {
      domains = b.domains;
      relations = (structure_of b v).relations;
      functions = ts;
    }) fs
