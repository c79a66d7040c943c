-- Rows with guards.
use Rattle.std.proofs.Common.{◌≡◌, ℕ, ◌+◌, ◌*◌, List, [], ◌∷◌, ◌++◌, map, length, flat_map, Bool, true, false, ◌&&◌}
use Rattle.std.proofs.Common.{if◌then◌else◌, Option, Some, None, slice_get, refl, sym, ap, subst, ◌∙◌, arith}
use Rattle.std.specs.Prelude.{pos, IsSome, is_some}
use Rattle.std.specs.Option.{option_and_then}
use Rattle.std.specs.List.{list_all, AllByRecursion}
use Rattle.kb_logic.specs.declared.vocabularies.Symbol.{Symbol}
use Rattle.kb_logic.specs.declared.structures.Structure.{Structure}
use Rattle.kb_logic.specs.Bounds.{value_type_of}
use Rattle.kb_logic.specs.Meaning.{rows_of, applied, value_of, values_of, sum_of, number_value, summand_plus}
use Rattle.kb_logic.specs.Meaning.{product_from}
use Rattle.kb_logic.specs.Trees.{TermTree, variable, integer, constructed, application, summation, product, aggregate}
use Rattle.kb_logic.specs.Trees.{TermTrees, no_terms, more_terms, SummandTrees, no_summands, more_summands}
use Rattle.std.proofs.lemmas.List.Folds.{list_all-append}
use Rattle.kb_logic.specs.declared.elements.Elem.{Elem}
use Rattle.kb_logic.specs.Denotations.{Denotation, denotation_of}
use Rattle.lit_core.specs.declared.literals.Lit.{Lit}
use Rattle.lit_core.specs.Literals.{literal_value}
use Rattle.term_values.specs.GroundBases.{GroundBase, known_of, tuples_at, values_at, first_var, row_index, true_values}
use Rattle.term_values.specs.GroundBases.{HasKnown, IsOver, structure_of, function_table}
use Rattle.term_values.specs.Rows.{positive_lit, with_row, value_rows, rows_at, pair_rows, map_rows, rows_of_term}
use Rattle.term_values.specs.Rows.{rows_of_terms, rows_of_sum, selected_values}
use Rattle.term_values.proofs.RowFacts.{value-at, first-value, place-below, applied-is, table-found}
use Rattle.term_values.specs.Laws.{RowsAreRight}
use Rattle.term_values.specs.GroundTerms.{IsGroundTerm, AreGroundTerms, AreGroundSummands, terms_number, without}
use Rattle.term_values.specs.GroundTerms.{all_without, operands_without}

append-if : {X : Type 0} (m : Bool) (x : X) (xs ys : List X)
    → ((if m then x ∷ xs else xs) ++ ys) ≡ (if m then x ∷ (xs ++ ys) else xs ++ ys)
append-if true x xs ys = refl
append-if false x xs ys = refl

pub selected-append : {X : Type 0} (v : ℕ → Bool) (xs ys : List (List Lit × X))
    → selected_values v (xs ++ ys) ≡ selected_values v xs ++ selected_values v ys
selected-append v [] ys = refl
selected-append v (x ∷ xs) ys =
    ap (λ zs. if list_all (literal_value v) x.0 then x.1 ∷ zs else zs) (selected-append v xs ys)
    ∙ sym (append-if (list_all (literal_value v) x.0) x.1 (selected_values v xs) (selected_values v ys))

flat-if : {X Y : Type 0} (m : Bool) (P : X → List Y) (x : X) (xs : List X)
    → ((if m then P x else []) ++ flat_map P xs) ≡ flat_map P (if m then x ∷ xs else xs)
flat-if true P x xs = refl
flat-if false P x xs = refl

-- rows made of rows
pub selected-flat_map : {X Y : Type 0} (v : ℕ → Bool) (E : List Lit × X → List (List Lit × Y)) (P : X → List Y)
    (xs : List (List Lit × X))
    → ((x : List Lit × X) → selected_values v (E x) ≡ (if list_all (literal_value v) x.0 then P x.1 else []))
    → selected_values v (flat_map E xs) ≡ flat_map P (selected_values v xs)
selected-flat_map v E P [] h = refl
selected-flat_map v E P (x ∷ xs) h =
    selected-append v (E x) (flat_map E xs) ∙ ap (λ zs. zs ++ selected_values v (flat_map E xs)) (h x)
    ∙ ap (λ zs. (if list_all (literal_value v) x.0 then P x.1 else []) ++ zs) (selected-flat_map v E P xs h)
    ∙ flat-if (list_all (literal_value v) x.0) P x.1 (selected_values v xs)

pair-if : {X : Type 0} (m n : Bool) (x : X) (xs : List X)
    → (if m && n then x ∷ (if m then xs else []) else (if m then xs else [])) ≡
    (if m then (if n then x ∷ xs else xs) else [])
pair-if true n x xs = refl
pair-if false n x xs = refl

map-if : {X Y : Type 0} (f : X → Y) (n : Bool) (x : X) (xs : List X)
    → (if n then f x ∷ map f xs else map f xs) ≡ map f (if n then x ∷ xs else xs)
map-if f true x xs = refl
map-if f false x xs = refl

none-if : {X : Type 0} (m : Bool) → (let none : List X = [] in none ≡ (if m then [] else []))
none-if true = refl
none-if false = refl

module _ {X Y Z : Type 0} (v : ℕ → Bool) (op : X → Y → Z) where
  selected-with : (g : List Lit) (x : X) (qs : List (List Lit × Y))
      → selected_values v (map (λ q. (g ++ q.0, op x q.1)) qs) ≡
      (if list_all (literal_value v) g then map (op x) (selected_values v qs) else [])
  selected-with g x [] = none-if (list_all (literal_value v) g)
  selected-with g x (q ∷ qs) =
      let m = list_all (literal_value v) g in
      let n = list_all (literal_value v) q.0 in
      let here = list_all-append (literal_value v) g q.0 in
      ap (λ c. if c then op x q.1 ∷ selected_values v (map (λ p. (g ++ p.0, op x p.1)) qs) else selected_values v
      (map (λ p. (g ++ p.0, op x p.1)) qs)) here
      ∙ ap (λ zs. if m && n then op x q.1 ∷ zs else zs) (selected-with g x qs)
      ∙ pair-if m n (op x q.1) (map (op x) (selected_values v qs))
      ∙ ap (λ zs. if m then zs else []) (map-if (op x) n q.1 (selected_values v qs))

  -- one row of each: one pair
  pub selected-paired : (xs : List (List Lit × X)) (ys : List (List Lit × Y)) (x : X) (y : Y)
      → selected_values v xs ≡ x ∷ [] → selected_values v ys ≡ y ∷ []
      → selected_values v (pair_rows op xs ys) ≡ op x y ∷ []
  selected-paired xs ys x y hx hy =
      selected-flat_map v (λ p. map (λ q. (p.0 ++ q.0, op p.1 q.1)) ys) (λ z. map (op z) (selected_values v ys)) xs
      (λ p. selected-with p.0 p.1 ys)
      ∙ ap (flat_map (λ z. map (op z) (selected_values v ys))) hx
      ∙ ap (λ zs. map (op x) zs ++ []) hy

pub selected-mapped : {X Y : Type 0} (v : ℕ → Bool) (f : X → Y) (xs : List (List Lit × X))
    → selected_values v (map_rows f xs) ≡ map f (selected_values v xs)
selected-mapped v f [] = refl
selected-mapped v f (x ∷ xs) =
    ap (λ zs. if list_all (literal_value v) x.0 then f x.1 ∷ zs else zs) (selected-mapped v f xs)
    ∙ map-if f (list_all (literal_value v) x.0) x.1 (selected_values v xs)

and-true : (c : Bool) → (c && true) ≡ c
and-true true = refl
and-true false = refl

guard-value : (v : ℕ → Bool) (g : List Lit) (n : ℕ)
    → list_all (literal_value v) (g ++ positive_lit n ∷ []) ≡ (list_all (literal_value v) g && v n)
guard-value v g n =
    list_all-append (literal_value v) g (positive_lit n ∷ [])
    ∙ ap (λ c. list_all (literal_value v) g && c) (and-true (v n))

open-row : {X : Type 0} (m c : Bool) (x : X) (zs ys : List X) → zs ≡ (if m then ys else [])
    → (if m && c then x ∷ zs else zs) ≡ (if m then (if c then x ∷ ys else ys) else [])
open-row true c x zs ys e = ap (λ ws. if c then x ∷ ws else ws) e
open-row false c x zs ys e = e

sure-row : {X : Type 0} (m : Bool) (x : X) (zs ys : List X) → zs ≡ (if m then ys else [])
    → (if m then x ∷ zs else zs) ≡ (if m then x ∷ ys else [])
sure-row true x zs ys e = ap (λ ws. x ∷ ws) e
sure-row false x zs ys e = e

row-selected : (v : ℕ → Bool) (o : Option Bool) (n : ℕ) (g : List Lit) (x : Denotation)
    (rows : List (List Lit × Denotation)) (ys : List Denotation) → ((c : Bool) → o ≡ Some c → v n ≡ c)
    → selected_values v rows ≡ (if list_all (literal_value v) g then ys else [])
    → selected_values v (with_row o n g x rows) ≡
    (if list_all (literal_value v) g then (if v n then x ∷ ys else ys) else [])
row-selected v None n g x rows ys known e =
    ap (λ c. if c then x ∷ selected_values v rows else selected_values v rows) (guard-value v g n)
    ∙ open-row (list_all (literal_value v) g) (v n) x (selected_values v rows) ys e
row-selected v (Some true) n g x rows ys known e =
    sure-row (list_all (literal_value v) g) x (selected_values v rows) ys e
    ∙ ap (λ c. if list_all (literal_value v) g then (if c then x ∷ ys else ys) else []) (sym (known true refl))
row-selected v (Some false) n g x rows ys known e =
    e ∙ ap (λ c. if list_all (literal_value v) g then (if c then x ∷ ys else ys) else []) (sym (known false refl))

pub selected-value_rows : (b : GroundBase) (v : ℕ → Bool) (known : HasKnown b v) (g : List Lit) (n : ℕ) (xs : List Elem)
    → selected_values v (value_rows b g n xs) ≡
    (if list_all (literal_value v) g then map denotation_of (true_values v n xs) else [])
selected-value_rows b v known g n [] = none-if (list_all (literal_value v) g)
selected-value_rows b v known g n (x ∷ xs) =
    row-selected v (known_of b n) n g (denotation_of x) (value_rows b g (n + 1) xs)
    (map denotation_of (true_values v (n + 1) xs)) (known n) (selected-value_rows b v known g (n + 1) xs)
    ∙ ap (λ zs. if list_all (literal_value v) g then zs else [])
    (map-if denotation_of (v n) x (true_values v (n + 1) xs))

pub selected-at : (b : GroundBase) (v : ℕ → Bool) (known : HasKnown b v) (s : ℕ) (g : List Lit) (o : Option ℕ)
    → ((i : ℕ) → o ≡ Some i → (x : Elem)
    × (true_values v (first_var b s + i * length (values_at b s)) (values_at b s) ≡ x ∷ []))
    → selected_values v (rows_at b s g o) ≡
    (if list_all (literal_value v) g then value-at v (first_var b s) (values_at b s) o ∷ [] else [])
selected-at b v known s g None one = refl
selected-at b v known s g (Some i) one =
    let x = one i refl in
    selected-value_rows b v known g (first_var b s + i * length (values_at b s)) (values_at b s)
    ∙ ap (λ zs. if list_all (literal_value v) g then map denotation_of zs else []) x.1
    ∙ ap (λ zs. if list_all (literal_value v) g then first-value zs ∷ [] else []) (sym x.1)

symbol-of : (o : Option Symbol) → IsSome (option_and_then (λ (t : Symbol). t.value) o)
    → (d : Symbol) × (o ≡ Some d) × (is_some d.value ≡ true)
symbol-of None h = cc
symbol-of (Some d) h = (d, refl, h)

pub function-rows-at : (b : GroundBase) (v : ℕ → Bool) (s : ℕ) → IsSome (value_type_of b.vocabulary s)
    → rows_of s (structure_of b v).functions ≡ function_table b v s
function-rows-at b v s h =
    let d = symbol-of (slice_get b.vocabulary.symbols s) h in
    table-found (function_table b v) (λ (x : ℕ × Symbol). is_some x.1.value) b.vocabulary.symbols 0 s s d.0
    (let z : s ≡ 0 + s = omega arith in z) d.1 d.2

value-selected : (b : GroundBase) (v : ℕ → Bool) (t : TermTree) (e : List Elem) → Type 0
value-selected b v t e = selected_values v (rows_of_term b t e) ≡ value_of (structure_of b v) t e ∷ []

number-of-values : (m : Structure) (ts : TermTrees) (e : List Elem) → terms_number ts ≡ length (values_of m ts e)
number-of-values m no_terms e = refl
number-of-values m (more_terms t ts) e = let r = number-of-values m ts e in omega (arith, r)

sizes-are : (rs : List (List Elem)) (m n : ℕ) → m ≡ n → AllByRecursion (λ r. length r ≡ m) rs
    → AllByRecursion (λ r. length r ≡ n) rs
sizes-are rs m n e h = subst (λ k. AllByRecursion (λ r. length r ≡ k) rs) e h

module _ (b : GroundBase) (v : ℕ → Bool) (over : IsOver b v) (e : List Elem) where
  abbrev m : Structure
  m = structure_of b v

  mutual
    pub term-right : (t : TermTree) → IsGroundTerm b t → selected_values v (rows_of_term b t e) ≡ value_of m t e ∷ []
    term-right (variable n) h = refl
    term-right (integer z) h = refl
    term-right (constructed ty n) h = refl
    term-right (application s ts) h =
        let P : List Denotation → List Denotation = λ vs. value-at v (first_var b s) (values_at b s)
        (row_index (tuples_at b s) vs) ∷ [] in
        let vs = values_of m ts e in
        selected-flat_map v (λ t. rows_at b s t.0 (row_index (tuples_at b s) t.1)) P (rows_of_terms b ts e)
        (λ t. selected-at b v over.known s t.0 (row_index (tuples_at b s) t.1)
        (λ i is. over.one s i (place-below (tuples_at b s) t.1 i is) h.0.value))
        ∙ ap (flat_map P) (terms-right ts h.1)
        ∙ ap (λ d. d ∷ []) (sym (ap (λ rows. applied rows vs) (function-rows-at b v s h.0.value)
        ∙ applied-is v (first_var b s) (values_at b s) (tuples_at b s) (λ i below. over.one s i below h.0.value) vs
        (sizes-are (tuples_at b s) (terms_number ts) (length vs) (number-of-values m ts e) h.0.arity)))
    term-right (summation ss) h =
        selected-mapped v number_value (rows_of_sum b ss e) ∙ ap (map number_value) (sum-right ss h)
    term-right (product ts) h =
        selected-mapped v (λ vs. number_value (product_from (pos 1) vs)) (rows_of_terms b ts e)
        ∙ ap (map (λ vs. number_value (product_from (pos 1) vs))) (terms-right ts h)
    term-right (aggregate k bs f t) h = absurd h

    pub terms-right : (ts : TermTrees) → AreGroundTerms b ts
        → selected_values v (rows_of_terms b ts e) ≡ values_of m ts e ∷ []
    terms-right no_terms h = refl
    terms-right (more_terms t ts) h =
        selected-paired v (λ x xs. x ∷ xs) (rows_of_term b t e) (rows_of_terms b ts e) (value_of m t e)
        (values_of m ts e) (term-right t h.0) (terms-right ts h.1)

    sum-right : (ss : SummandTrees) → AreGroundSummands b ss
        → selected_values v (rows_of_sum b ss e) ≡ sum_of m ss e ∷ []
    sum-right no_summands h = refl
    sum-right (more_summands minus t ss) h =
        selected-paired v (summand_plus minus) (rows_of_term b t e) (rows_of_sum b ss e) (value_of m t e)
        (sum_of m ss e) (term-right t h.0) (sum-right ss h.1)

pub rows-are-right : RowsAreRight
rows-are-right b v t e over h = term-right b v over e t h

-- an aggregate has the row of 0
module _ (b : GroundBase) (e : List Elem) where
  mutual
    pub plain-rows : (t : TermTree) → rows_of_term b t e ≡ rows_of_term b (without t) e
    plain-rows (variable n) = refl
    plain-rows (integer z) = refl
    plain-rows (constructed ty n) = refl
    plain-rows (application s ts) =
        ap (flat_map (λ t. rows_at b s t.0 (row_index (tuples_at b s) t.1))) (plain-tuples ts)
    plain-rows (summation ss) = ap (map_rows number_value) (plain-sums ss)
    plain-rows (product ts) = ap (map_rows (λ vs. number_value (product_from (pos 1) vs))) (plain-tuples ts)
    plain-rows (aggregate k bs f t) = refl

    pub plain-tuples : (ts : TermTrees) → rows_of_terms b ts e ≡ rows_of_terms b (all_without ts) e
    plain-tuples no_terms = refl
    plain-tuples (more_terms t ts) =
        ap (λ rs. pair_rows (λ x xs. x ∷ xs) rs (rows_of_terms b ts e)) (plain-rows t)
        ∙ ap (pair_rows (λ x xs. x ∷ xs) (rows_of_term b (without t) e)) (plain-tuples ts)

    pub plain-sums : (ss : SummandTrees) → rows_of_sum b ss e ≡ rows_of_sum b (operands_without ss) e
    plain-sums no_summands = refl
    plain-sums (more_summands minus t ss) =
        ap (λ rs. pair_rows (summand_plus minus) rs (rows_of_sum b ss e)) (plain-rows t)
        ∙ ap (pair_rows (summand_plus minus) (rows_of_term b (without t) e)) (plain-sums ss)

-- exactly one row has true guards, and its value is the term's with 0 in the place of each aggregate
pub plain-right : (b : GroundBase) (v : ℕ → Bool) (t : TermTree) (e : List Elem) → IsOver b v → IsGroundTerm b (without t)
    → selected_values v (rows_of_term b t e) ≡ value_of (structure_of b v) (without t) e ∷ []
plain-right b v t e over h = ap (selected_values v) (plain-rows b e t) ∙ term-right b v over e (without t) h
