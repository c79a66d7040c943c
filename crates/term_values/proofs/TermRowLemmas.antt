-- The rows of values, of lists of terms, and of sums, step by step.
use Rattle.std.proofs.Common.{◌≡◌, ◌<◌, ℕ, zero, suc, ◌+◌, ℤ, List, [], ◌∷◌, ◌++◌, map, length, drop, get_or, Bool}
use Rattle.std.proofs.Common.{true, false}
use Rattle.std.proofs.Common.{Option, Some, None, refl, sym, ap, ◌∙◌, arith, rules, subst, IfSome, FitsSigned, w64}
use Rattle.std.specs.List.{AllByRecursion}
use Rattle.std.proofs.lemmas.List.{at_drop_more, append_assoc, drop_more, map-append}
use Rattle.kb_logic.specs.declared.elements.Elem.{Elem}
use Rattle.kb_logic.specs.declared.syntax.Term.{Term}
use Rattle.kb_logic.specs.declared.syntax.Signed.{Signed}
use Rattle.kb_logic.specs.declared.syntax.Formula.{the_lemmas}
use Rattle.kb_logic.specs.Denotations.{Denotation, denotation_of}
use Rattle.kb_logic.specs.Meaning.{summand_plus, number_value}
use Rattle.kb_logic.specs.Trees.{TermTree, terms_of, summands_of}
use Rattle.kb_logic.specs.Views.{term_view, signed_view}
use Rattle.kb_logic.proofs.TupleLists.{map-map}
use Rattle.lit_core.specs.declared.literals.Lit.{Lit}
use Rattle.term_values.specs.GroundBases.{GroundBase, known_of}
use Rattle.term_values.specs.Rows.{with_row, value_rows, pair_rows, map_rows, rows_of_term, rows_of_terms, rows_of_sum}
use Rattle.term_values.specs.RowArithmetic.{RowsFit, TupleRowsFit, OperandRowsFit, RowSumFits}
use Rattle.term_values.specs.RowSums.{sum_values, signs_of, operands_of}

abbrev ValueRows : Type 0
ValueRows = List (List Lit × Denotation)

row_first : (o : Option Bool) (n : ℕ) (g : List Lit) (x : Denotation) (rows : ValueRows)
    → with_row o n g x rows ≡ with_row o n g x [] ++ rows
row_first None n g x rows = refl
row_first (Some true) n g x rows = refl
row_first (Some false) n g x rows = refl

-- one value more of a function
pub value_more : (b : GroundBase) (g : List Lit) (first i : ℕ) (xs : List Elem) (x : Elem) (d : Denotation)
    (now next whole : ValueRows) → i < length xs → x ≡ get_or xs i x → d ≡ denotation_of x
    → next ≡ now ++ with_row (known_of b (first + i)) (first + i) g d []
    → now ++ value_rows b g (first + i) (drop i xs) ≡ whole
    → next ++ value_rows b g (first + (i + 1)) (drop (i + 1) xs) ≡ whole
value_more b g first i xs x d now next whole h at den n e =
    let v = first + i in
    let rest = value_rows b g (first + (i + 1)) (drop (i + 1) xs) in
    let row = with_row (known_of b v) v g d [] in
    let step : first + (i + 1) ≡ v + 1 = omega arith in
    let all : value_rows b g v (drop i xs) ≡ row ++ rest =
    ap (value_rows b g v) (drop_more xs i x h)
    ∙ (ap (λ y. with_row (known_of b v) v g (denotation_of y) (value_rows b g (v + 1) (drop (i + 1) xs))) (sym at)
    ∙ (ap (λ y. with_row (known_of b v) v g y (value_rows b g (v + 1) (drop (i + 1) xs))) (sym den)
    ∙ (row_first (known_of b v) v g d (value_rows b g (v + 1) (drop (i + 1) xs))
    ∙ ap (λ k. row ++ value_rows b g k (drop (i + 1) xs)) (sym step)))) in
    ap (λ l. l ++ rest) n ∙ (append_assoc now row rest ∙ (ap (λ l. now ++ l) (sym all) ∙ e))

-- ---- lists of terms

pub fit_at : (b : GroundBase) (e : List Elem) (terms : List Term) (i : ℕ) (t : Term) → i < length terms
    → t ≡ get_or terms i t → TupleRowsFit b (terms_of (map term_view terms)) e → RowsFit b (term_view t) e
fit_at b e [] i t h at fits = absurd (omega (arith, h))
fit_at b e (u ∷ ts) zero t h at fits = subst (λ (w : Term). RowsFit b (term_view w) e) (sym at) fits.0
fit_at b e (u ∷ ts) (suc i) t h at fits = fit_at b e ts i t (omega (arith, h)) at fits.1

-- one term more before the others
pub terms_next : (b : GroundBase) (e : List Elem) (terms : List Term) (k left : ℕ) (t : Term)
    (out next : List (List Lit × List Denotation)) → k < length terms → left ≡ k + 1
    → out ≡ rows_of_terms b (terms_of (map term_view (drop left terms))) e
    → next ≡ pair_rows (λ x xs. x ∷ xs) (rows_of_term b (term_view (get_or terms k t)) e) out
    → next ≡ rows_of_terms b (terms_of (map term_view (drop k terms))) e
terms_next b e terms k left t out next h step is n =
    n
    ∙ (ap (λ l. pair_rows (λ x xs. x ∷ xs) (rows_of_term b (term_view (get_or terms k t)) e) l)
    (is ∙ ap (λ j. rows_of_terms b (terms_of (map term_view (drop j terms))) e) step)
    ∙ sym (at_drop_more (λ ts. rows_of_terms b (terms_of (map term_view ts)) e) terms k t h))

signed_view_is : (s : Signed) → signed_view s ≡ (s.minus, term_view s.term)
signed_view_is s = search (rules, the_lemmas)

pub operand_fit_at : (b : GroundBase) (e : List Elem) (parts : List Signed) (i : ℕ) (p : Signed) → i < length parts
    → p ≡ get_or parts i p → OperandRowsFit b (summands_of (map signed_view parts)) e → RowsFit b (term_view p.term) e
operand_fit_at b e [] i p h at fits = absurd (omega (arith, h))
operand_fit_at b e (s ∷ ss) zero p h at fits =
    subst (λ (w : Signed). RowsFit b (term_view w.term) e) (sym at)
    (subst (λ (v : Bool × TermTree). RowsFit b v.1 e) (signed_view_is s) fits.0)
operand_fit_at b e (s ∷ ss) (suc i) p h at fits = operand_fit_at b e ss i p (omega (arith, h)) at fits.1

pub operands_next : (b : GroundBase) (e : List Elem) (parts : List Signed) (k left : ℕ) (s : Signed)
    (out next : List (List Lit × List Denotation)) → k < length parts → left ≡ k + 1
    → out ≡ rows_of_terms b (operands_of (map signed_view (drop left parts))) e
    → next ≡ pair_rows (λ x xs. x ∷ xs) (rows_of_term b (term_view (get_or parts k s).term) e) out
    → next ≡ rows_of_terms b (operands_of (map signed_view (drop k parts))) e
operands_next b e parts k left s out next h step is n =
    let p = get_or parts k s in
    n
    ∙ (ap (λ l. pair_rows (λ x xs. x ∷ xs) (rows_of_term b (term_view p.term) e) l)
    (is ∙ ap (λ j. rows_of_terms b (operands_of (map signed_view (drop j parts))) e) step)
    ∙ (ap (λ (v : Bool × TermTree). pair_rows (λ x xs. x ∷ xs) (rows_of_term b v.1 e)
    (rows_of_terms b (operands_of (map signed_view (drop (k + 1) parts))) e)) (sym (signed_view_is p))
    ∙ sym (at_drop_more (λ ps. rows_of_terms b (operands_of (map signed_view ps)) e) parts k s h)))

-- ---- sums

module _ {Z : Type 0} (op : Denotation → Z → Z) (k h : List Denotation → Z)
    (same : (x : Denotation) (vs : List Denotation) → h (x ∷ vs) ≡ op x (k vs)) where
  paired_one : (x : List Lit × Denotation) (ys : List (List Lit × List Denotation))
      → map_rows h (map (λ (y : List Lit × List Denotation). (x.0 ++ y.0, x.1 ∷ y.1)) ys)
      ≡ map (λ (y : List Lit × Z). (x.0 ++ y.0, op x.1 y.1)) (map_rows k ys)
  paired_one x [] = refl
  paired_one x (y ∷ ys) =
      ap {A = Z} {B = List (List Lit × Z)}
      (λ z. (x.0 ++ y.0, z) ∷ map_rows h (map (λ (w : List Lit × List Denotation). (x.0 ++ w.0, x.1 ∷ w.1)) ys))
      (same x.1 y.1)
      ∙ ap {A = List (List Lit × Z)} {B = List (List Lit × Z)} (λ l. (x.0 ++ y.0, op x.1 (k y.1)) ∷ l) (paired_one x ys)

  paired_map : (xs : ValueRows) (ys : List (List Lit × List Denotation))
      → map_rows h (pair_rows (λ x vs. x ∷ vs) xs ys) ≡ pair_rows op xs (map_rows k ys)
  paired_map [] ys = refl
  paired_map (x ∷ xs) ys =
      map-append (λ (r : List Lit × List Denotation). (r.0, h r.1))
      (map (λ (y : List Lit × List Denotation). (x.0 ++ y.0, x.1 ∷ y.1)) ys) (pair_rows (λ x vs. x ∷ vs) xs ys)
      ∙ (ap (λ l. l ++ map_rows h (pair_rows (λ x vs. x ∷ vs) xs ys)) (paired_one x ys)
      ∙ ap (λ l. map (λ (y : List Lit × Z). (x.0 ++ y.0, op x.1 y.1)) (map_rows k ys) ++ l) (paired_map xs ys))

sum_rows_by : (b : GroundBase) (e : List Elem) (ss : List (Bool × TermTree))
    → rows_of_sum b (summands_of ss) e ≡ map_rows (sum_values (map (λ (s : Bool × TermTree). s.0) ss))
    (rows_of_terms b (operands_of ss) e)
sum_rows_by b e [] = refl
sum_rows_by b e (s ∷ ss) =
    let ms = map (λ (r : Bool × TermTree). r.0) ss in
    ap (pair_rows (summand_plus s.0) (rows_of_term b s.1 e)) (sum_rows_by b e ss)
    ∙ sym (paired_map (summand_plus s.0) (sum_values ms) (sum_values (s.0 ∷ ms)) (λ x vs. refl) (rows_of_term b s.1 e)
    (rows_of_terms b (operands_of ss) e))

signs_are : (parts : List Signed) → map (λ (s : Bool × TermTree). s.0) (map signed_view parts) ≡ signs_of parts
signs_are [] = refl
signs_are (s ∷ ss) =
    ap (λ (v : Bool × TermTree). v.0 ∷ map (λ (r : Bool × TermTree). r.0) (map signed_view ss)) (signed_view_is s)
    ∙ ap (λ l. s.minus ∷ l) (signs_are ss)

-- the rows of a sum are those of its operands, each with the sum of its values
pub sum_rows : (b : GroundBase) (e : List Elem) (parts : List Signed)
    → rows_of_sum b (summands_of (map signed_view parts)) e
    ≡ map_rows (sum_values (signs_of parts)) (rows_of_terms b (operands_of (map signed_view parts)) e)
sum_rows b e parts =
    sum_rows_by b e (map signed_view parts)
    ∙ ap (λ ms. map_rows (sum_values ms) (rows_of_terms b (operands_of (map signed_view parts)) e)) (signs_are parts)

pub sum_values_rows : (b : GroundBase) (e : List Elem) (parts : List Signed)
    (tuples : List (List Lit × List Denotation))
    → tuples ≡ rows_of_terms b (operands_of (map signed_view parts)) e
    → map_rows (λ vs. number_value (sum_values (signs_of parts) vs)) tuples
    ≡ map_rows number_value (rows_of_sum b (summands_of (map signed_view parts)) e)
sum_values_rows b e parts tuples is =
    sym (map-map (λ (r : List Lit × Option ℤ). (r.0, number_value r.1))
    (λ (r : List Lit × List Denotation). (r.0, sum_values (signs_of parts) r.1)) tuples)
    ∙ ap (map_rows number_value) (ap (map_rows (sum_values (signs_of parts))) is ∙ sym (sum_rows b e parts))

all_map : {X Y : Type 0} (P : Y → Type 0) (f : X → Y) (xs : List X) → AllByRecursion P (map f xs)
    → AllByRecursion (λ x. P (f x)) xs
all_map P f [] h = tt
all_map P f (x ∷ xs) h = (h.0, all_map P f xs h.1)

pub sums_fit : (b : GroundBase) (e : List Elem) (parts : List Signed) (tuples : List (List Lit × List Denotation))
    → tuples ≡ rows_of_terms b (operands_of (map signed_view parts)) e
    → AllByRecursion RowSumFits (rows_of_sum b (summands_of (map signed_view parts)) e)
    → AllByRecursion (λ (r : List Lit × List Denotation). IfSome (sum_values (signs_of parts) r.1)
    (λ z. FitsSigned w64 z)) tuples
sums_fit b e parts tuples is fits =
    all_map RowSumFits (λ (r : List Lit × List Denotation). (r.0, sum_values (signs_of parts) r.1)) tuples
    (subst (λ l. AllByRecursion RowSumFits l) (sum_rows b e parts
    ∙ ap (map_rows (sum_values (signs_of parts))) (sym is)) fits)
