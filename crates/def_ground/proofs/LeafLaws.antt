-- Atoms and comparisons by their rows.
use Rattle.std.proofs.Common.{◌≡◌, ℕ, ◌+◌, Bool, true, false, not, ◌&&◌, ◌||◌, List, [], ◌∷◌, map, filter, cond}
use Rattle.std.proofs.Common.{if◌then◌else◌, Option, Some, None, IsSome, IsNone, is_none, slice_get, refl, sym, ap, ◌∙◌}
use Rattle.std.proofs.Common.{arith}
use Rattle.std.specs.List.{list_all, list_any}
use Rattle.std.specs.Option.{option_and_then}
use Rattle.std.proofs.lemmas.Bool.{and_parts}
use Rattle.kb_logic.specs.declared.elements.Elem.{Elem}
use Rattle.kb_logic.specs.declared.vocabularies.Symbol.{Symbol}
use Rattle.kb_logic.specs.Denotations.{Denotation, denotation_of}
use Rattle.kb_logic.specs.Meaning.{rows_of, behind, is_end, has_row}
use Rattle.lit_core.specs.declared.literals.Lit.{Lit}
use Rattle.lit_core.specs.Literals.{literal_value, negated}
use Rattle.lit_core.proofs.Soundness.{value-negated}
use Rattle.def_ground.specs.declared.answers.Answer.{Answer}
use Rattle.def_ground.specs.declared.answers.Answer.TheVariants.{Constant, Literal}
use Rattle.term_values.specs.GroundBases.{GroundBase, structure_of, first_var, known_of, row_index, bit_at}
use Rattle.term_values.specs.GroundBases.{predicate_rows, predicate_table, HasKnown}
use Rattle.term_values.specs.Rows.{selected_values}
use Rattle.def_ground.specs.Cases.{Case, case_of, side_value}
use Rattle.def_ground.specs.Answers.{answer_value}
use Rattle.def_ground.specs.Comparisons.{or_literal, any_where, side_where}
use Rattle.def_ground.specs.Forms.{answer_of_atom, atom_answer}
use Rattle.def_ground.specs.Meanings.{selected_cases}
use Rattle.def_ground.specs.GroundForms.{IsPredicateOf}
use Rattle.term_values.proofs.RowFacts.{row-is, has-place, table-found}

filter-row : (t : Bool) (r : List Elem) (rs : List (List Elem)) (vs : List Denotation)
    → has_row (cond t (r ∷ rs) rs) vs ≡ cond t (cond (is_end (behind r vs)) true (has_row rs vs)) (has_row rs vs)
filter-row true r rs vs = refl
filter-row false r rs vs = refl

row-step : (m t h B : Bool) → (m ≡ true → t ≡ B) → cond t (cond m true (h && B)) (h && B) ≡ (cond m true h && B)
row-step true true h B f = f refl
row-step true false true B f = sym (f refl) ∙ f refl
row-step true false false B f = f refl
row-step false true h B f = refl
row-step false false h B f = refl

module _ (v : ℕ → Bool) (first : ℕ) (all : List (List Elem)) (vs : List Denotation) where
  predicate-part : (rs : List (List Elem))
      → has_row (filter (λ r. bit_at v first (row_index all (map denotation_of r))) rs) vs ≡
      (has_row rs vs && bit_at v first (row_index all vs))
  predicate-part [] = refl
  predicate-part (r ∷ rs) =
      let t = bit_at v first (row_index all (map denotation_of r)) in
      let B = bit_at v first (row_index all vs) in
      filter-row t r (filter (λ r. bit_at v first (row_index all (map denotation_of r))) rs) vs
      ∙ ap (λ c. cond t (cond (is_end (behind r vs)) true c) c) (predicate-part rs)
      ∙ row-step (is_end (behind r vs)) t (has_row rs vs) B
      (λ e. ap (λ ws. bit_at v first (row_index all ws)) (row-is r vs e))

  both-ways : (h x : Bool) → (h && x) ≡ (if h then x else false)
  both-ways true x = refl
  both-ways false x = refl

  -- the atom's bit
  pub predicate-is : has_row (predicate_rows v first all) vs ≡ bit_at v first (row_index all vs)
  predicate-is =
      predicate-part all ∙ both-ways (has_row all vs) (bit_at v first (row_index all vs))
      ∙ has-place all vs (bit_at v first)

symbol-of : (o : Option Symbol) → IsSome o → IsNone (option_and_then (λ (t : Symbol). t.value) o)
    → (d : Symbol) × (o ≡ Some d) × (is_none d.value ≡ true)
symbol-of None h k = cc
symbol-of (Some d) h k = (d, refl, ap not k)

pub predicate-rows-at : (b : GroundBase) (v : ℕ → Bool) (s : ℕ) → IsPredicateOf b s
    → rows_of s (structure_of b v).relations ≡ predicate_table b v s
predicate-rows-at b v s h =
    let d = symbol-of (slice_get b.vocabulary.symbols s) h.declared h.value in
    table-found (predicate_table b v) (λ (x : ℕ × Symbol). is_none x.1.value) b.vocabulary.symbols 0 s s d.0
    (let z : s ≡ 0 + s = omega arith in z) d.1 d.2

known-answer : (v : ℕ → Bool) (o : Option Bool) (n : ℕ) → ((c : Bool) → o ≡ Some c → v n ≡ c)
    → answer_value v (answer_of_atom o n) ≡ v n
known-answer v None n h = refl
known-answer v (Some c) n h = sym (h c refl)

pub atom-value : (b : GroundBase) (v : ℕ → Bool) (known : HasKnown b v) (s : ℕ) (o : Option ℕ)
    → answer_value v (atom_answer b s o) ≡ bit_at v (first_var b s) o
atom-value b v known s None = refl
atom-value b v known s (Some i) =
    known-answer v (known_of b (first_var b s + i)) (first_var b s + i) (known (first_var b s + i))

-- the selected_values row's case
module _ {X : Type 0} (v : ℕ → Bool) (C : List Lit × X → Case) (guards : (r : List Lit × X) → (C r).guards ≡ r.0) where
  none-selected : (m k : Bool) (c : Case) (x : X) (xs : List X) (cs : List Case) → k ≡ m → (xs ≡ [] → cs ≡ [])
      → (if m then x ∷ xs else xs) ≡ [] → (if k then c ∷ cs else cs) ≡ []
  none-selected true k c x xs cs e f h = cc
  none-selected false true c x xs cs e f h = cc
  none-selected false false c x xs cs e f h = f h

  no-case : (rs : List (List Lit × X)) → selected_values v rs ≡ [] → selected_cases v (map C rs) ≡ []
  no-case [] h = refl
  no-case (r ∷ rs) h =
      none-selected (list_all (literal_value v) r.0) (list_all (literal_value v) (C r).guards) (C r) r.1
      (selected_values v rs) (selected_cases v (map C rs)) (ap (list_all (literal_value v)) (guards r)) (no-case rs) h

  one-selected : (m k : Bool) (r : List Lit × X) (x : X) (xs : List X) (cs : List Case) → k ≡ m → (xs ≡ [] → cs ≡ [])
      → (xs ≡ x ∷ [] → (q : List Lit × X) × (q.1 ≡ x) × (cs ≡ C q ∷ []))
      → (if m then r.1 ∷ xs else xs) ≡ x ∷ [] → (q : List Lit × X) × (q.1 ≡ x)
      × ((if k then C r ∷ cs else cs) ≡ C q ∷ [])
  one-selected true true r x xs cs e f g h =
      (r, (let i : r.1 ≡ x = cc in i), ap (λ ds. C r ∷ ds) (f (let j : xs ≡ [] = cc in j)))
  one-selected true false r x xs cs e f g h = cc
  one-selected false true r x xs cs e f g h = cc
  one-selected false false r x xs cs e f g h = g h

  pub case-selected : (rs : List (List Lit × X)) (x : X) → selected_values v rs ≡ x ∷ []
      → (q : List Lit × X) × (q.1 ≡ x) × (selected_cases v (map C rs) ≡ C q ∷ [])
  case-selected [] x h = cc
  case-selected (r ∷ rs) x h =
      one-selected (list_all (literal_value v) r.0) (list_all (literal_value v) (C r).guards) r x
      (selected_values v rs) (selected_cases v (map C rs)) (ap (list_all (literal_value v)) (guards r)) (no-case rs)
      (case-selected rs x) h

pub case-yes : (v : ℕ → Bool) (g : List Lit) (a : Answer) → side_value v (case_of g a).yes ≡ answer_value v a
case-yes v g (Constant true) = refl
case-yes v g (Constant false) = refl
case-yes v g (Literal l) = last (literal_value v l)
  where
    last : (c : Bool) → (c || false) ≡ c
    last true = refl
    last false = refl

pub case-no : (v : ℕ → Bool) (g : List Lit) (a : Answer) → side_value v (case_of g a).no ≡ not (answer_value v a)
case-no v g (Constant true) = refl
case-no v g (Constant false) = refl
case-no v g (Literal l) = last (literal_value v (negated l)) ∙ value-negated v l
  where
    last : (c : Bool) → (c || false) ≡ c
    last true = refl
    last false = refl

pub case-guards : (g : List Lit) (a : Answer) → (case_of g a).guards ≡ g
case-guards g (Constant true) = refl
case-guards g (Constant false) = refl
case-guards g (Literal l) = refl

-- the values of the rows whose answer is true
abbrev pub chosen-answers : (ℕ → Bool) → List (Answer × Denotation) → List Denotation
chosen-answers v [] = []
chosen-answers v (r ∷ rs) = if answer_value v r.0 then r.1 ∷ chosen-answers v rs else chosen-answers v rs

or-one-value : (v : ℕ → Bool) (a : Answer) (o : Option (List Lit))
    → side_value v (or_literal a o) ≡ (answer_value v a || side_value v o)
or-one-value v (Constant true) o = refl
or-one-value v (Constant false) o = refl
or-one-value v (Literal l) None = last (literal_value v l)
  where
    last : (c : Bool) → true ≡ (c || true)
    last true = refl
    last false = refl
or-one-value v (Literal l) (Some ls) = refl

side-if : (v : ℕ → Bool) (t : Bool) (o q : Option (List Lit))
    → side_value v (if t then o else q) ≡ (if t then side_value v o else side_value v q)
side-if v true o q = refl
side-if v false o q = refl

any-step : (t c : Bool) (test : Denotation → Bool) (y : Denotation) (ys : List Denotation) → test y ≡ t
    → (if t then (c || list_any test ys) else list_any test ys) ≡ list_any test (if c then y ∷ ys else ys)
any-step true true test y ys e = ap (λ k. k || list_any test ys) (sym e)
any-step true false test y ys e = refl
any-step false true test y ys e = ap (λ k. k || list_any test ys) (sym e)
any-step false false test y ys e = refl

any-where-value : (v : ℕ → Bool) (test : Denotation → Bool) (rs : List (Answer × Denotation))
    → side_value v (any_where test rs) ≡ list_any test (chosen-answers v rs)
any-where-value v test [] = refl
any-where-value v test (r ∷ rs) =
    side-if v (test r.1) (or_literal r.0 (any_where test rs)) (any_where test rs)
    ∙ ap (λ c. if test r.1 then c else side_value v (any_where test rs)) (or-one-value v r.0 (any_where test rs))
    ∙ ap (λ c. if test r.1 then (answer_value v r.0 || c) else c) (any-where-value v test rs)
    ∙ any-step (test r.1) (answer_value v r.0) test r.1 (chosen-answers v rs) refl

passes : (test : Denotation → Bool) (c : Bool) (x y : Denotation) (ys : List Denotation) → test x ≡ true
    → (ys ≡ y ∷ [] → test y ≡ true) → (if c then x ∷ ys else ys) ≡ y ∷ [] → test y ≡ true
passes test true x y ys h f e = let is : x ≡ y = cc in ap test (sym is) ∙ h
passes test false x y ys h f e = f e

chosen-passes : (v : ℕ → Bool) (test : Denotation → Bool) (rs : List (Answer × Denotation)) (y : Denotation)
    → list_all (λ (r : Answer × Denotation). test r.1) rs ≡ true → chosen-answers v rs ≡ y ∷ [] → test y ≡ true
chosen-passes v test [] y h e = cc
chosen-passes v test (r ∷ rs) y h e =
    let both = and_parts (test r.1) (list_all (λ (r : Answer × Denotation). test r.1) rs) h in
    passes test (answer_value v r.0) r.1 y (chosen-answers v rs) both.0 (chosen-passes v test rs y both.1) e

-- where exactly one row is true, a side says whether its value passes
pub side-right : (v : ℕ → Bool) (test : Denotation → Bool) (rs : List (Answer × Denotation)) (y : Denotation)
    → chosen-answers v rs ≡ y ∷ [] → side_value v (side_where test rs) ≡ test y
side-right v test rs y one = by (list_all (λ (r : Answer × Denotation). test r.1) rs) refl
  where
    last : (c : Bool) → (c || false) ≡ c
    last true = refl
    last false = refl

    by : (a : Bool) → list_all (λ (r : Answer × Denotation). test r.1) rs ≡ a
        → side_value v (if a then None else any_where test rs) ≡ test y
    by true e = sym (chosen-passes v test rs y e one)
    by false e = any-where-value v test rs ∙ ap (list_any test) one ∙ last (test y)
