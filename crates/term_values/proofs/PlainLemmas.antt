-- Terms that have one row without guards, one after another.
use Rattle.std.proofs.Common.{◌≡◌, ◌<◌, ◌≤◌, ℕ, ◌+◌, ℤ, pos, ◌+ℤ◌, List, [], ◌∷◌, ◌++◌, map, length, drop, get_or, sym}
use Rattle.std.proofs.Common.{ap, ◌∙◌, Some, arith, rules}
use Rattle.std.proofs.lemmas.Int.{ints}
use Rattle.std.proofs.lemmas.List.{append-nil, append_assoc, at_drop_all, at_drop_more, map-append}
use Rattle.kb_logic.specs.declared.elements.Elem.{Elem}
use Rattle.kb_logic.specs.declared.syntax.Term.{Term}
use Rattle.kb_logic.specs.declared.syntax.Formula.{the_lemmas}
use Rattle.kb_logic.specs.declared.syntax.Signed.{Signed}
use Rattle.kb_logic.specs.Denotations.{Denotation, number}
use Rattle.kb_logic.specs.Meaning.{signed_of, summand_plus, number_value}
use Rattle.kb_logic.specs.Trees.{SummandTrees, terms_of, summands_of, summation}
use Rattle.kb_logic.specs.Views.{term_view, signed_view}
use Rattle.lit_core.specs.declared.literals.Lit.{Lit}
use Rattle.term_values.specs.GroundBases.{GroundBase}
use Rattle.term_values.specs.declared.rows.RowValue.{RowValue}
use Rattle.term_values.specs.RowValues.{row_value}
use Rattle.term_values.specs.Rows.{pair_rows, map_rows, rows_of_term, rows_of_terms, rows_of_sum}

-- the one row of some terms, without guards
abbrev pub one_row : List Denotation → List (List Lit × List Denotation)
one_row xs = ([], xs) ∷ []

-- where the terms from a place on have one row, all terms have the values before it, too
abbrev pub ArePlain : GroundBase → List Elem → List Term → ℕ → List RowValue → Type 0
ArePlain b e terms k values =
    (ws : List Denotation) → rows_of_terms b (terms_of (map term_view (drop k terms))) e ≡ one_row ws
    → rows_of_terms b (terms_of (map term_view terms)) e ≡ one_row (map row_value values ++ ws)

pub plain_more : (b : GroundBase) (e : List Elem) (terms : List Term) (k : ℕ) (t : Term) (x : RowValue)
    (values next : List RowValue) → k < length terms → t ≡ get_or terms k t
    → rows_of_term b (term_view t) e ≡ ([], row_value x) ∷ [] → next ≡ values ++ x ∷ [] → ArePlain b e terms k values
    → ArePlain b e terms (k + 1) next
plain_more b e terms k t x values next h at row is all ws rest =
    let front : rows_of_terms b (terms_of (map term_view (drop k terms))) e ≡ one_row (row_value x ∷ ws) =
    at_drop_more (λ ts. rows_of_terms b (terms_of (map term_view ts)) e) terms k t h
    ∙ ap (λ u. pair_rows (λ y ys. y ∷ ys) (rows_of_term b (term_view u) e)
    (rows_of_terms b (terms_of (map term_view (drop (k + 1) terms))) e)) (sym at)
    ∙ ap (λ r. pair_rows (λ y ys. y ∷ ys) r
    (rows_of_terms b (terms_of (map term_view (drop (k + 1) terms))) e)) row
    ∙ ap (λ r. pair_rows (λ y ys. y ∷ ys) (one_value x) r) rest in
    all (row_value x ∷ ws) front
    ∙ ap one_row
    (sym
    (ap (λ l. map row_value l ++ ws) is
    ∙ ap (λ l. l ++ ws) (map-append row_value values (x ∷ []))
    ∙ append_assoc (map row_value values) (row_value x ∷ []) ws))
  where
    one_value : RowValue → List (List Lit × Denotation)
    one_value y = ([], row_value y) ∷ []

-- at the end they have just the values
pub plain_all : (b : GroundBase) (e : List Elem) (terms : List Term) (k : ℕ) (values : List RowValue) → length terms ≤ k
    → ArePlain b e terms k values
    → rows_of_terms b (terms_of (map term_view terms)) e ≡ one_row (map row_value values)
plain_all b e terms k values le all =
    all [] (at_drop_all (λ ts. rows_of_terms b (terms_of (map term_view ts)) e) terms k le)
    ∙ ap one_row (append-nil (map row_value values))

-- ---- sums

-- where the operands from a place on come to a sum, all operands come to the total before it and that
abbrev pub IsPlainSum : GroundBase → List Elem → List Signed → ℕ → ℤ → Type 0
IsPlainSum b e parts k total =
    (w : ℤ) → rows_of_sum b (summands_of (map signed_view (drop k parts))) e ≡ ([], Some w) ∷ []
    → rows_of_sum b (summands_of (map signed_view parts)) e ≡ ([], Some (total +ℤ w)) ∷ []

pub sum_begins : (b : GroundBase) (e : List Elem) (parts : List Signed) → IsPlainSum b e parts 0 (pos 0)
sum_begins b e parts w is = is ∙ ap (λ z. ([], Some z) ∷ []) (omega (arith, ints))

signed_view_is : (s : Signed) → signed_view s ≡ (s.minus, term_view s.term)
signed_view_is s = search (rules, the_lemmas)

pub sum_more : (b : GroundBase) (e : List Elem) (parts : List Signed) (k : ℕ) (s : Signed) (n total next : ℤ)
    → k < length parts → s ≡ get_or parts k s → rows_of_term b (term_view s.term) e ≡ ([], number n) ∷ []
    → next ≡ total +ℤ signed_of s.minus n → IsPlainSum b e parts k total → IsPlainSum b e parts (k + 1) next
sum_more b e parts k s n total next h at row is all w rest =
    let others = rows_of_sum b (summands_of (map signed_view (drop (k + 1) parts))) e in
    let first : rows_of_sum b (summands_of (map signed_view (drop k parts))) e ≡ (
      [],
      Some
          (signed_of s.minus n +ℤ w),
    ) ∷ [] =
    at_drop_more (λ ps. rows_of_sum b (summands_of (map signed_view ps)) e) parts k s h
    ∙ ap (λ u. pair_rows (summand_plus (signed_view u).0) (rows_of_term b (signed_view u).1 e) others) (sym at)
    ∙ ap (λ v. pair_rows (summand_plus v.0) (rows_of_term b v.1 e) others) (signed_view_is s)
    ∙ ap (λ r. pair_rows (summand_plus s.minus) r others) row
    ∙ ap (λ r. pair_rows (summand_plus s.minus) (one_number n) r) rest in
    all (signed_of s.minus n +ℤ w) first ∙ ap (λ z. ([], Some z) ∷ []) (turned total (signed_of s.minus n) w next is)
  where
    one_number : ℤ → List (List Lit × Denotation)
    one_number z = ([], number z) ∷ []

    turned : (a c d m : ℤ) → m ≡ a +ℤ c → a +ℤ (c +ℤ d) ≡ m +ℤ d
    turned a c d m e = omega (arith, ints, e)

-- at the end they come to the total
pub sum_all : (b : GroundBase) (e : List Elem) (parts : List Signed) (k : ℕ) (total : ℤ) → length parts ≤ k
    → IsPlainSum b e parts k total → rows_of_sum b (summands_of (map signed_view parts)) e ≡ ([], Some total) ∷ []
sum_all b e parts k total le all =
    all (pos 0) (at_drop_all (λ ps. rows_of_sum b (summands_of (map signed_view ps)) e) parts k le)
    ∙ ap (λ z. ([], Some z) ∷ []) (omega (arith, ints))

-- the rows of a term that is a sum, by those of its operands
pub sum_value : (b : GroundBase) (e : List Elem) (t : Term) (ss : SummandTrees) (z : ℤ) → term_view t ≡ summation ss
    → rows_of_sum b ss e ≡ ([], Some z) ∷ [] → rows_of_term b (term_view t) e ≡ ([], number z) ∷ []
sum_value b e t ss z is row = ap (λ u. rows_of_term b u e) is ∙ ap (map_rows number_value) row
