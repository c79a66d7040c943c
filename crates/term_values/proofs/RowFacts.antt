-- The tables of a valuation's structure.
use Rattle.std.proofs.Common.{◌≡◌, ℕ, zero, suc, ◌+◌, ◌*◌, ◌<◌, List, [], ◌∷◌, ◌++◌, map, length, filter, Bool, true}
use Rattle.std.proofs.Common.{false, cond, ◌==◌, inl, inr, if◌then◌else◌, Option, Some, None, option_map, slice_get}
use Rattle.std.proofs.Common.{refl, sym, ap, ◌∙◌, arith, eq-eqb}
use Rattle.std.proofs.lemmas.Bool.{ne_eqb}
use Rattle.std.proofs.lemmas.Bool.Decides.{Decides-int_eq}
use Rattle.std.proofs.lemmas.Slice.Eq.{bytes_eq-Decides}
use Rattle.std.specs.List.{enumerate_from, AllByRecursion, Contains}
use Rattle.kb_logic.specs.declared.elements.Elem.{Elem}
use Rattle.kb_logic.specs.declared.vocabularies.Symbol.{Symbol}
use Rattle.kb_logic.specs.declared.structures.Table.{Table}
use Rattle.kb_logic.specs.Denotations.{Denotation, named, number, minus_infinity, plus_infinity, undefined}
use Rattle.kb_logic.specs.Denotations.{denotation_of, same_value}
use Rattle.kb_logic.specs.Meaning.{rows_of, behind, is_end, has_row, last_value, applied}
use Rattle.kb_logic.proofs.Atoms.{same_is}
use Rattle.kb_logic.proofs.Members.{first, later, member_cases, none_in}
use Rattle.term_values.specs.GroundBases.{row_index, true_values, rows_for, function_rows}

if-same : (m : Bool) (row : List Elem) (vs : List Denotation) → is_end (cond m (behind row vs) None) ≡ true
    → (m ≡ true) × (is_end (behind row vs) ≡ true)
if-same true row vs h = (refl, h)
if-same false row vs h = cc

pub row-is : (row : List Elem) (vs : List Denotation) → is_end (behind row vs) ≡ true → map denotation_of row ≡ vs
row-is [] [] h = refl
row-is (x ∷ row) [] h = cc
row-is [] (v ∷ vs) h = cc
row-is (x ∷ row) (v ∷ vs) h =
    let both = if-same (same_value (denotation_of x) v) row vs h in
    ap (λ d. d ∷ map denotation_of row) (same_is (denotation_of x) v both.0) ∙ ap (λ ds. v ∷ ds) (row-is row vs both.1)

is-same : (a : Denotation) → same_value a a ≡ true
is-same (named n) = (bytes_eq-Decides n n).1 refl
is-same (number z) = (Decides-int_eq z z).1 refl
is-same minus_infinity = refl
is-same plus_infinity = refl
is-same undefined = refl

pub is-row : (row : List Elem) → is_end (behind row (map denotation_of row)) ≡ true
is-row [] = refl
is-row (x ∷ row) =
    ap (λ m. is_end (cond m (behind row (map denotation_of row)) None)) (is-same (denotation_of x)) ∙ is-row row

true-first : (m c : Bool) → m ≡ true → cond m true c ≡ true
true-first m c e = ap (λ k. cond k true c) e

true-rest : (m c : Bool) → c ≡ true → cond m true c ≡ true
true-rest true c e = refl
true-rest false c e = e

pub in-rows : (rs : List (List Elem)) (r : List Elem) → Contains rs r → has_row rs (map denotation_of r) ≡ true
in-rows [] r at = absurd (none_in r at)
in-rows (q ∷ rs) r at = elim (member_cases q r rs at) [
  | inl e ↦ true-first (is_end (behind q (map denotation_of r))) (has_row rs (map denotation_of r))
      (ap (λ x. is_end (behind x (map denotation_of r))) e ∙ is-row r)
  | inr more ↦ true-rest (is_end (behind q (map denotation_of r))) (has_row rs (map denotation_of r))
      (in-rows rs r more)
]

-- the place of a row
IsPlace : ℕ → Option ℕ → Type 0
IsPlace n o = (i : ℕ) × (i < n) × (o ≡ Some i)

place-step : (m : Bool) (n : ℕ) (h : Bool) (o : Option ℕ) → (h ≡ true → (i : ℕ) × (i < n) × (o ≡ Some i))
    → cond m true h ≡ true → (i : ℕ) × (i < suc n) × (cond m (Some 0) (option_map (λ k. 1 + k) o) ≡ Some i)
place-step true n h o f e = (0, omega arith, refl)
place-step false n h o f e = let r = f e in (1 + r.0, omega (arith, r.1), ap (option_map (λ k. 1 + k)) r.2)

pub placed : (rs : List (List Elem)) (vs : List Denotation) → has_row rs vs ≡ true
    → (i : ℕ) × (i < length rs) × (row_index rs vs ≡ Some i)
placed [] vs h = cc
placed (r ∷ rs) vs h = place-step (is_end (behind r vs)) (length rs) (has_row rs vs) (row_index rs vs) (placed rs vs) h

below-step : (m : Bool) (n i : ℕ) (o : Option ℕ) → ((k : ℕ) → o ≡ Some k → k < n)
    → cond m (Some 0) (option_map (λ k. 1 + k) o) ≡ Some i → i < suc n
below-step true n i o f e = let z : 0 ≡ i = cc in omega (arith, z)
below-step false n i None f e = cc
below-step false n i (Some k) f e = let z : 1 + k ≡ i = cc in let l = f k refl in omega (arith, z, l)

pub place-below : (rs : List (List Elem)) (vs : List Denotation) (i : ℕ) → row_index rs vs ≡ Some i → i < length rs
place-below [] vs i e = cc
place-below (r ∷ rs) vs i e = below-step (is_end (behind r vs)) (length rs) i (row_index rs vs) (place-below rs vs) e

if-place : {X : Type 0} (V : Option ℕ → X) (m h : Bool) (o : Option ℕ)
    → (if h then V (option_map (λ k. 1 + k) o) else V None) ≡ V (option_map (λ k. 1 + k) o)
    → (if cond m true h then V (cond m (Some 0) (option_map (λ k. 1 + k) o)) else V None) ≡ V
    (cond m (Some 0) (option_map (λ k. 1 + k) o))
if-place V true h o e = refl
if-place V false h o e = e

-- where there is no such row there is no place
pub has-place : {X : Type 0} (rs : List (List Elem)) (vs : List Denotation) (V : Option ℕ → X)
    → (if has_row rs vs then V (row_index rs vs) else V None) ≡ V (row_index rs vs)
has-place [] vs V = refl
has-place (r ∷ rs) vs V =
    if-place V (is_end (behind r vs)) (has_row rs vs) (row_index rs vs)
    (has-place rs vs (λ o. V (option_map (λ k. 1 + k) o)))

-- the value at a place
abbrev pub first-value : List Elem → Denotation
first-value [] = undefined
first-value (x ∷ xs) = denotation_of x

abbrev pub value-at : (ℕ → Bool) → ℕ → List Elem → Option ℕ → Denotation
value-at v n values None = undefined
value-at v n values (Some i) = first-value (true_values v (n + i * length values) values)

one-step : (m : Bool) (x : Elem) (o q : Option (List Elem)) → q ≡ (if is_end o then Some (x ∷ []) else None)
    → cond m q None ≡ (if is_end (cond m o None) then Some (x ∷ []) else None)
one-step true x o q e = e
one-step false x o q e = refl

behind-one : (r : List Elem) (x : Elem) (vs : List Denotation) → length r ≡ length vs
    → behind (r ++ x ∷ []) vs ≡ (if is_end (behind r vs) then Some (x ∷ []) else None)
behind-one [] x [] e = refl
behind-one [] x (v ∷ vs) e = absurd (omega (arith, e))
behind-one (y ∷ r) x [] e = absurd (omega (arith, e))
behind-one (y ∷ r) x (v ∷ vs) e =
    one-step (same_value (denotation_of y) v) x (behind r vs) (behind (r ++ x ∷ []) vs)
    (behind-one r x vs (omega (arith, e)))

choose-row : (m : Bool) (x : Elem) (a V : Denotation) (h : Bool) → (m ≡ true → denotation_of x ≡ V)
    → a ≡ (if h then V else undefined)
    → (elim (if m then Some (x ∷ []) else None) [ None ↦ a | Some rest ↦ last_value (Some rest) ]) ≡
    (if cond m true h then V else undefined)
choose-row true x a V h f e = f refl
choose-row false x a V h f e = e

module _ (v : ℕ → Bool) (n : ℕ) (values : List Elem) (all : List (List Elem))
    (one : (i : ℕ) → i < length all → (x : Elem) × (true_values v (n + i * length values) values ≡ x ∷ []))
    (vs : List Denotation) where
  applied-part : (rs : List (List Elem)) → ((r : List Elem) → Contains rs r → Contains all r)
      → AllByRecursion (λ r. length r ≡ length vs) rs
      → applied (function_rows v n values all rs) vs ≡
      (if has_row rs vs then value-at v n values (row_index all vs) else undefined)
  applied-part [] within sizes = refl
  applied-part (r ∷ rs) within sizes =
      let place = placed all (map denotation_of r) (in-rows all r (within r (first r rs))) in
      let here = one place.0 place.1 in
      let rest = function_rows v n values all rs in
      let row : rows_for v n values r (row_index all (map denotation_of r)) ≡ (r ++ here.0 ∷ []) ∷ [] =
      ap (rows_for v n values r) place.2 ∙ ap (map (λ x. r ++ x ∷ [])) here.1 in
      let is : is_end (behind r vs) ≡ true → denotation_of here.0 ≡ value-at v n values (row_index all vs) =
      λ e. sym (ap (λ ws. value-at v n values (row_index all ws)) (sym (row-is r vs e))
      ∙ ap (value-at v n values) place.2 ∙ ap first-value here.1) in
      ap (λ rows. applied (rows ++ rest) vs) row
      ∙ ap (λ (o : Option (List Elem)). elim o [ None ↦ applied rest vs | Some more ↦ last_value (Some more) ])
      (behind-one r here.0 vs sizes.0)
      ∙ choose-row (is_end (behind r vs)) here.0 (applied rest vs) (value-at v n values (row_index all vs))
      (has_row rs vs) is (applied-part rs (λ q at. within q (later r q rs at)) sizes.1)

  pub applied-is : AllByRecursion (λ r. length r ≡ length vs) all
      → applied (function_rows v n values all all) vs ≡ value-at v n values (row_index all vs)
  applied-is sizes = applied-part all (λ r at. at) sizes ∙ has-place all vs (value-at v n values)

-- the table of a symbol, among those of the symbols with a property
abbrev table : (ℕ → List (List Elem)) → ℕ × Symbol → Table
table R s = record { symbol = s.0; rows = R s.0 }

not-same : (s n k : ℕ) → s ≡ n + suc k → (n == s) ≡ false
not-same s n k e = ne_eqb n s (λ h. omega (arith, e, h))

first-table : (R : ℕ → List (List Elem)) (s n : ℕ) (ts : List Table) → n ≡ s
    → rows_of s (record { symbol = n; rows = R n } ∷ ts) ≡ R s
first-table R s n ts e = ap (λ m. cond m (R n) (rows_of s ts)) (eq-eqb n s e) ∙ ap R e

other-table : (R : ℕ → List (List Elem)) (s n : ℕ) (ts : List Table) → (n == s) ≡ false
    → rows_of s (record { symbol = n; rows = R n } ∷ ts) ≡ rows_of s ts
other-table R s n ts e = ap (λ m. cond m (R n) (rows_of s ts)) e

pub table-found : (R : ℕ → List (List Elem)) (P : ℕ × Symbol → Bool) (xs : List Symbol) (n k s : ℕ) (d : Symbol)
    → s ≡ n + k → slice_get xs k ≡ Some d → P (s, d) ≡ true
    → rows_of s (map (table R) (filter P (enumerate_from n xs))) ≡ R s
table-found R P [] n k s d e at p = cc
table-found R P (x ∷ xs) n zero s d e at p =
    let same : s ≡ n = omega (arith, e) in
    let is : x ≡ d = cc in
    kept (P (n, x)) (ap (λ k. P (k, x)) (sym same) ∙ ap (λ y. P (s, y)) is ∙ p)
  where
    kept : (m : Bool) → m ≡ true
        → rows_of s (map (table R) (cond m ((n, x) ∷ filter P (enumerate_from (n + 1) xs))
        (filter P (enumerate_from (n + 1) xs)))) ≡ R s
    kept true h = first-table R s n (map (table R) (filter P (enumerate_from (n + 1) xs))) (omega (arith, e))
    kept false h = cc
table-found R P (x ∷ xs) n (suc k) s d e at p =
    passed (P (n, x)) (table-found R P xs (n + 1) k s d (omega (arith, e)) at p)
  where
    passed : (m : Bool) → rows_of s (map (table R) (filter P (enumerate_from (n + 1) xs))) ≡ R s
        → rows_of s (map (table R) (cond m ((n, x) ∷ filter P (enumerate_from (n + 1) xs))
        (filter P (enumerate_from (n + 1) xs)))) ≡ R s
    passed true h = other-table R s n (map (table R) (filter P (enumerate_from (n + 1) xs))) (not-same s n k e) ∙ h
    passed false h = h
