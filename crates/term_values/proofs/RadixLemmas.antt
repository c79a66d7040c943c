-- The index of a tuple is a number with a digit for each place, in the base of its domain's size.
use Rattle.std.proofs.Common.{◌≡◌, ◌≤◌, ◌<◌, ℕ, suc, ◌+◌, ◌*◌, List, [], ◌∷◌, ◌++◌, map, length, drop, get_or, Bool}
use Rattle.std.proofs.Common.{true, false, cond}
use Rattle.std.proofs.Common.{Option, Some, None, option_map, refl, sym, ap, ◌∙◌, arith, inl, inr}
use Rattle.std.specs.List.{flat_map}
use Rattle.std.proofs.lemmas.Bool.{cases_lt}
use Rattle.std.proofs.lemmas.List.{length-map, drop_more, drop_all}
use Rattle.std.proofs.Math.Nat.{mul-le-mul_left, mul-one}
use Rattle.kb_logic.specs.declared.elements.Elem.{Elem}
use Rattle.kb_logic.specs.Structures.{domain_at, tuples_of}
use Rattle.kb_logic.specs.Denotations.{Denotation, undefined, denotation_of, same_value}
use Rattle.kb_logic.specs.Meaning.{behind, is_end}
use Rattle.term_values.specs.GroundBases.{row_index}
use Rattle.term_values.specs.DomainIndexes.{elem_index}
use Rattle.term_values.specs.VariableTables.{capped}
use Rattle.term_values.proofs.CountLemmas.{tuples_split}
use Rattle.term_values.proofs.IndexLemmas.{first_of, shifted}
use Rattle.term_values.proofs.RowFacts.{place-below}

row_index_append : (rs ss : List (List Elem)) (vs : List Denotation)
    → row_index (rs ++ ss) vs ≡ first_of (row_index rs vs) (option_map (λ i. length rs + i) (row_index ss vs))
row_index_append [] ss vs = by (row_index ss vs)
  where
    by : (o : Option ℕ) → o ≡ option_map (λ i. 0 + i) o
    by None = refl
    by (Some i) = ap Some (let e : i ≡ 0 + i = omega arith in e)
row_index_append (r ∷ rs) ss vs =
    ap (λ o. cond (is_end (behind r vs)) (Some 0) (option_map (λ i. 1 + i) o)) (row_index_append rs ss vs)
    ∙ shifted (is_end (behind r vs)) (length rs) (row_index rs vs) (row_index ss vs)

row_step : (s : Bool) (o : Option (List Elem)) (p : Option ℕ)
    → cond (is_end (cond s o None)) (Some 0) (option_map (λ i. 1 + i) (cond s p None))
    ≡ cond s (cond (is_end o) (Some 0) (option_map (λ i. 1 + i) p)) None
row_step true o p = refl
row_step false o p = refl

row_index_map : (x : Elem) (rs : List (List Elem)) (v : Denotation) (vs : List Denotation)
    → row_index (map (λ a. x ∷ a) rs) (v ∷ vs) ≡ cond (same_value (denotation_of x) v) (row_index rs vs) None
row_index_map x [] v vs = by (same_value (denotation_of x) v)
  where
    by : (s : Bool) → ◌≡◌ {A = Option ℕ} None (cond s None None)
    by true = refl
    by false = refl
row_index_map x (r ∷ rs) v vs =
    ap (λ o. cond (is_end (behind (x ∷ r) (v ∷ vs))) (Some 0) (option_map (λ i. 1 + i) o)) (row_index_map x rs v vs)
    ∙ row_step (same_value (denotation_of x) v) (behind r vs) (row_index rs vs)

-- a digit before what comes next, of which there are n
abbrev pub with_digit : ℕ → Option ℕ → Option ℕ → Option ℕ
with_digit n None o = None
with_digit n (Some p) o = option_map (λ i. p * n + i) o

digit_none : (n : ℕ) (e : Option ℕ) → with_digit n e None ≡ None
digit_none n None = refl
digit_none n (Some p) = refl

digit_step : (n m : ℕ) (s : Bool) (o e : Option ℕ) → m ≡ n
    → first_of (cond s o None) (option_map (λ i. m + i) (with_digit n e o))
    ≡ with_digit n (cond s (Some 0) (option_map (λ i. 1 + i) e)) o
digit_step n m true (Some i) e h = ap Some (let z : i ≡ 0 * n + i = omega arith in z)
digit_step n m true None e h = ap (option_map (λ i. m + i)) (digit_none n e)
digit_step n m false o None h = refl
digit_step n m false None (Some p) h = refl
digit_step n m false (Some i) (Some p) h = ap Some (let z : m + (p * n + i) ≡ (1 + p) * n + i = omega (arith, h) in z)

product_index : (T : List (List Elem)) (d : List Elem) (v : Denotation) (vs : List Denotation)
    → row_index (flat_map (λ x. map (λ a. x ∷ a) T) d) (v ∷ vs)
    ≡ with_digit (length T) (elem_index d v) (row_index T vs)
product_index T [] v vs = refl
product_index T (x ∷ d) v vs =
    let n = length T in
    row_index_append (map (λ a. x ∷ a) T) (flat_map (λ y. map (λ a. y ∷ a) T) d) (v ∷ vs)
    ∙ (ap (λ o. first_of o (option_map (λ i. length (map (λ a. x ∷ a) T) + i)
    (row_index (flat_map (λ y. map (λ a. y ∷ a) T) d) (v ∷ vs)))) (row_index_map x T v vs)
    ∙ (ap (λ o. first_of (cond (same_value (denotation_of x) v) (row_index T vs) None)
    (option_map (λ i. length (map (λ a. x ∷ a) T) + i) o)) (product_index T d v vs)
    ∙ digit_step n (length (map (λ a. x ∷ a) T)) (same_value (denotation_of x) v) (row_index T vs) (elem_index d v)
    (length-map T (λ a. x ∷ a))))

-- the index by its first digit
pub index_split : (domains : List (List Elem)) (types : List ℕ) (vs : List Denotation) (i : ℕ) → i < length types
    → i < length vs
    → row_index (tuples_of domains (drop i types)) (drop i vs)
    ≡ with_digit (length (tuples_of domains (drop (i + 1) types)))
    (elem_index (domain_at domains (get_or types i 0)) (get_or vs i undefined))
    (row_index (tuples_of domains (drop (i + 1) types)) (drop (i + 1) vs))
index_split domains types vs i h k =
    ap (λ ts. row_index (tuples_of domains ts) (drop i vs)) (drop_more types i 0 h)
    ∙ (ap (row_index (tuples_of domains (get_or types i 0 ∷ drop (i + 1) types))) (drop_more vs i undefined k)
    ∙ product_index (tuples_of domains (drop (i + 1) types)) (domain_at domains (get_or types i 0))
    (get_or vs i undefined) (drop (i + 1) vs))

no_empty : (T : List (List Elem)) (x : Elem) (rest : List (List Elem)) → row_index rest [] ≡ None
    → row_index (map (λ a. x ∷ a) T ++ rest) [] ≡ None
no_empty [] x rest h = h
no_empty (t ∷ T) x rest h = ap (option_map (λ i. 1 + i)) (no_empty T x rest h)

no_empties : (T : List (List Elem)) (d : List Elem) → row_index (flat_map (λ x. map (λ a. x ∷ a) T) d) [] ≡ None
no_empties T [] = refl
no_empties T (x ∷ d) = no_empty T x (flat_map (λ y. map (λ a. y ∷ a) T) d) (no_empties T d)

-- a tuple has as many values as there are types
pub other_length : (domains : List (List Elem)) (types : List ℕ) (vs : List Denotation) → (length types ≡ length vs → ⊥)
    → row_index (tuples_of domains types) vs ≡ None
other_length domains [] [] h = absurd (h refl)
other_length domains [] (v ∷ vs) h = refl
other_length domains (ty ∷ types) [] h = no_empties (tuples_of domains types) (domain_at domains ty)
other_length domains (ty ∷ types) (v ∷ vs) h =
    product_index (tuples_of domains types) (domain_at domains ty) v vs
    ∙ (ap (with_digit (length (tuples_of domains types)) (elem_index (domain_at domains ty) v))
    (other_length domains types vs (λ e. h (ap suc e)))
    ∙ digit_none (length (tuples_of domains types)) (elem_index (domain_at domains ty) v))

-- ---- what the code keeps

-- the index of the rest, after these digits
abbrev pub index_from : List (List Elem) → List ℕ → List Denotation → ℕ → ℕ → Option ℕ
index_from domains types vs i place =
    option_map (λ k. capped (place * length (tuples_of domains (drop i types)) + k))
    (row_index (tuples_of domains (drop i types)) (drop i vs))

capped_large : (a b : ℕ) → 18446744073709551615 ≤ a → 18446744073709551615 ≤ b → capped a ≡ capped b
capped_large a b h k = omega arith

large_sum : (m n k : ℕ) → k < n → 18446744073709551615 ≤ m → 18446744073709551615 ≤ m * n + k
large_sum m n k h l =
    let one : m * 1 ≤ m * n = mul-le-mul_left m (omega (arith, h)) in
    let same : m * 1 ≡ m = mul-one m in
    omega (arith, one, same, l)

capped_sum : (m n k : ℕ) → k < n → capped (capped m * n + k) ≡ capped (m * n + k)
capped_sum m n k h = elim (cases_lt 18446744073709551615 m) [
  | inl l ↦
      let most : 18446744073709551615 ≤ capped m = omega arith in
      let above : 18446744073709551615 ≤ m = omega arith in
      capped_large (capped m * n + k) (m * n + k) (large_sum (capped m) n k h most) (large_sum m n k h above)
  | inr l ↦ let same : capped m ≡ m = omega arith in ap (λ x. capped (x * n + k)) same
]

next_number : (place size p next n k : ℕ) → k < n → next ≡ capped (capped (place * size) + p)
    → capped (next * n + k) ≡ capped (place * (size * n) + (p * n + k))
next_number place size p next n k h e =
    let stop : capped (capped (place * size) + p) ≡ capped (place * size + p) = cap_plus (place * size) p in
    let ring : (place * size + p) * n + k ≡ place * (size * n) + (p * n + k) = distribute place size p n k in
    ap (λ x. capped (x * n + k)) (e ∙ stop) ∙ (capped_sum (place * size + p) n k h ∙ ap capped ring)
  where
    cap_plus : (a b : ℕ) → capped (capped a + b) ≡ capped (a + b)
    cap_plus a b = omega arith

    distribute : (a b c n k : ℕ) → (a * b + c) * n + k ≡ a * (b * n) + (c * n + k)
    distribute a b c n k = omega arith

number_step : (place size p next n : ℕ) (o : Option ℕ) → ((k : ℕ) → o ≡ Some k → k < n)
    → next ≡ capped (capped (place * size) + p)
    → option_map (λ k. capped (next * n + k)) o
    ≡ option_map (λ k. capped (place * (size * n) + k)) (option_map (λ i. p * n + i) o)
number_step place size p next n None h e = refl
number_step place size p next n (Some k) h e = ap Some (next_number place size p next n k (h k refl) e)

-- one digit more
pub digit_more : (domains : List (List Elem)) (types : List ℕ) (vs : List Denotation) (i place p next : ℕ)
    → i < length types → i < length vs
    → elem_index (domain_at domains (get_or types i 0)) (get_or vs i undefined) ≡ Some p
    → next ≡ capped (capped (place * length (domain_at domains (get_or types i 0))) + p)
    → index_from domains types vs (i + 1) next ≡ index_from domains types vs i place
digit_more domains types vs i place p next h k digit e =
    let T = tuples_of domains (drop (i + 1) types) in
    let size = length (domain_at domains (get_or types i 0)) in
    let o = row_index T (drop (i + 1) vs) in
    number_step place size p next (length T) o (λ j at. place-below T (drop (i + 1) vs) j at) e
    ∙ (ap (λ n. option_map (λ j. capped (place * n + j)) (option_map (λ j. p * length T + j) o))
    (sym (tuples_split domains types i h))
    ∙ ap (λ q. option_map (λ j. capped (place * length (tuples_of domains (drop i types)) + j)) q)
    (sym (index_split domains types vs i h k ∙ ap (λ q. with_digit (length T) q o) digit)))

-- no digit
pub digit_missing : (domains : List (List Elem)) (types : List ℕ) (vs : List Denotation) (i place : ℕ)
    → i < length types → i < length vs
    → elem_index (domain_at domains (get_or types i 0)) (get_or vs i undefined) ≡ None
    → index_from domains types vs i place ≡ None
digit_missing domains types vs i place h k digit =
    let T = tuples_of domains (drop (i + 1) types) in
    ap (option_map (λ j. capped (place * length (tuples_of domains (drop i types)) + j)))
    (index_split domains types vs i h k ∙ ap (λ q. with_digit (length T) q (row_index T (drop (i + 1) vs))) digit)

-- before the first digit
pub digits_none : (domains : List (List Elem)) (types : List ℕ) (vs : List Denotation)
    → index_from domains types vs 0 0 ≡ option_map capped (row_index (tuples_of domains types) vs)
digits_none domains types vs = by (length (tuples_of domains types)) (row_index (tuples_of domains types) vs)
  where
    by : (n : ℕ) (o : Option ℕ) → option_map (λ k. capped (0 * n + k)) o ≡ option_map capped o
    by n None = refl
    by n (Some k) = ap (λ j. Some (capped j)) (let z : 0 * n + k ≡ k = omega arith in z)

-- after the last one
pub digits_all : (domains : List (List Elem)) (types : List ℕ) (vs : List Denotation) (i place : ℕ) → length types ≤ i
    → length types ≡ length vs → place ≤ 18446744073709551615 → index_from domains types vs i place ≡ Some place
digits_all domains types vs i place h e fits =
    ap (λ ts. option_map (λ k. capped (place * length (tuples_of domains ts) + k))
    (row_index (tuples_of domains ts) (drop i vs))) (drop_all i types h)
    ∙ (ap (λ ws. option_map (λ k. capped (place * 1 + k)) (row_index ([] ∷ []) ws))
    (drop_all i vs (omega (arith, h, e)))
    ∙ ap Some (let z : capped (place * 1 + 0) ≡ place = omega (arith, fits) in z))
