-- Steps over the rows of atoms and comparisons.
use Rattle.std.proofs.Common.{◌≡◌, ℕ, zero, suc, ◌+◌, ◌<◌, ◌≤◌, Bool, true, false, not, if◌then◌else◌, List, [], ◌∷◌}
use Rattle.std.proofs.Common.{◌++◌, map, length, take}
use Rattle.std.proofs.Common.{OnOk, Result, Ok, Err, drop, Option, Some, None, slice_get, refl, sym, ap, subst, ◌∙◌}
use Rattle.std.proofs.Common.{ℤ, pos, arith}
use Rattle.std.proofs.lemmas.Int.{ints}
use Rattle.std.specs.Option.{option_map}
use Rattle.std.specs.List.{AllByRecursion}
use Rattle.kb_logic.specs.declared.elements.Elem.{Elem}
use Rattle.kb_logic.specs.declared.syntax.Cmp.{Cmp}
use Rattle.kb_logic.specs.Denotations.{Denotation, number, named, minus_infinity, plus_infinity, undefined, compared}
use Rattle.kb_logic.specs.Trees.{TermTree, TermTrees}
use Rattle.lit_core.specs.declared.literals.Lit.{Lit}
use Rattle.ground_core.specs.declared.parts.Part.{Part}
use Rattle.ground_core.specs.Problems.{ProblemState, AreLitsOf}
use Rattle.term_values.specs.GroundBases.{GroundBase, first_var, known_of, row_index, tuples_at}
use Rattle.term_values.specs.KnownBases.{IsGroundBase}
use Rattle.term_values.specs.Rows.{map_rows, rows_of_term, rows_of_terms}
use Rattle.term_values.proofs.RowFacts.{place-below}
use Rattle.def_ground.specs.declared.answers.Answer.{Answer}
use Rattle.def_ground.specs.declared.answers.Answer.TheVariants.{Constant, Literal}
use Rattle.def_ground.specs.Answers.{AnswerWithin, opposite_of, gate_of}
use Rattle.def_ground.specs.Cases.{Case, case_of, cases_of, answer_without, answer_or_cases}
use Rattle.def_ground.specs.CaseSentences.{or_clause, answer_or_clauses, assert_cases, assert_comparison}
use Rattle.def_ground.specs.Comparisons.{guard_answers, comparison_case, comparison_of}
use Rattle.def_ground.specs.Forms.{answer_of_atom, atom_answer, atom_case, signed_result}
use Rattle.def_ground.specs.Problems.{start_problem}
use Rattle.def_ground.specs.GroundForms.{IsPredicateOf}
use Rattle.def_ground.specs.Linear.{Linear}
use Rattle.def_ground.specs.Meanings.{HasRoom, IsCaseOf}
use Rattle.def_ground.specs.SumSides.{raised, compared_by_parts, compared_sums}
use Rattle.def_ground.proofs.AssertLaws.{room-grown}
use Rattle.def_ground.proofs.Growing.{lits-more}
use Rattle.def_ground.proofs.Leaves.{first-above, known-in, case-in, cases-in, term-in, terms-in, rows-more}
use Rattle.def_ground.proofs.Leaves.{answer-more, side-in}
use Rattle.def_ground.proofs.StartLaws.{start-room}
use Rattle.ground_walk.specs.Groundable.{HasVars, HaveLits}

-- the ground atoms have variables of each problem that has theirs
pub room-of : (b : GroundBase) (p : ProblemState) → IsGroundBase b → HasVars b p → HasRoom b p
room-of b p is vars = room-grown b (start_problem b) p vars (start-room b is)

-- the answer at a variable, and where there is none
pub answer-at : (b : GroundBase) (s v : ℕ) (o : Option ℕ) → Some v ≡ option_map (λ i. first_var b s + i) o
    → answer_of_atom (known_of b v) v ≡ atom_answer b s o
answer-at b s v None h = cc
answer-at b s v (Some i) h =
    let is : v ≡ first_var b s + i = cc in ap (λ n. answer_of_atom (known_of b n) n) is

pub answer-nowhere : (b : GroundBase) (s : ℕ) (o : Option ℕ) → None ≡ option_map (λ i. first_var b s + i) o
    → Constant false ≡ atom_answer b s o
answer-nowhere b s None h = refl
answer-nowhere b s (Some i) h = cc

-- one more row
pub next-row : {X Y : Type 0} (C : List Lit × X → Y) (rs : List (List Lit × X)) (k : ℕ) (g : List Lit) (x : X)
    → option_map (λ r. r.0) (slice_get rs k) ≡ Some g → option_map (λ r. r.1) (slice_get rs k) ≡ Some x
    → map C (take (k + 1) rs) ≡ map C (take k rs) ++ C (g, x) ∷ []
next-row C [] k g x hg hx = cc
next-row C (r ∷ rs) zero g x hg hx =
    let guards : r.0 ≡ g = cc in
    let value : r.1 ≡ x = cc in
    ap (λ l. C (l, r.1) ∷ []) guards ∙ ap (λ y. C (g, y) ∷ []) value
next-row C (r ∷ rs) (suc k) g x hg hx =
    let next : suc k + 1 ≡ suc (k + 1) = omega arith in
    ap (λ n. map C (take n (r ∷ rs))) next ∙ ap (λ cs. C r ∷ cs) (next-row C rs k g x hg hx)

-- and where the values are raised
pub next-raised : {Y : Type 0} (C : List Lit × Denotation → Y) (w : ℤ) (rs : List (List Lit × Denotation)) (k : ℕ)
    (g : List Lit) (x : Denotation) → option_map (λ r. r.0) (slice_get rs k) ≡ Some g
    → option_map (λ r. r.1) (slice_get rs k) ≡ Some x
    → map C (map_rows (raised w) (take (k + 1) rs))
    ≡ map C (map_rows (raised w) (take k rs)) ++ C (g, raised w x) ∷ []
next-raised C w [] k g x hg hx = cc
next-raised C w (r ∷ rs) zero g x hg hx =
    let guards : r.0 ≡ g = cc in
    let value : r.1 ≡ x = cc in
    ap (λ l. C (l, raised w r.1) ∷ []) guards ∙ ap (λ y. C (g, raised w y) ∷ []) value
next-raised C w (r ∷ rs) (suc k) g x hg hx =
    let next : suc k + 1 ≡ suc (k + 1) = omega arith in
    ap (λ n. map C (map_rows (raised w) (take n (r ∷ rs)))) next
    ∙ ap (λ cs. C (r.0, raised w r.1) ∷ cs) (next-raised C w rs k g x hg hx)

-- a value raised by 0
raised-zero : (d : Denotation) → raised (pos 0) d ≡ d
raised-zero (number z) = ap number (omega (arith, ints))
raised-zero (named n) = refl
raised-zero minus_infinity = refl
raised-zero plus_infinity = refl
raised-zero undefined = refl

pub none-raised : (rs : List (List Lit × Denotation)) → map_rows (raised (pos 0)) rs ≡ rs
none-raised [] = refl
none-raised (r ∷ rs) =
    ap (λ d. (r.0, d) ∷ map_rows (raised (pos 0)) rs) (raised-zero r.1) ∙ ap (λ qs. r ∷ qs) (none-raised rs)

-- the row that is next of those that are left
pub row-left : {X : Type 0} (rs : List (List Lit × X)) (k : ℕ) (g : List Lit) (x : X)
    → option_map (λ r. r.0) (slice_get rs k) ≡ Some g → option_map (λ r. r.1) (slice_get rs k) ≡ Some x
    → drop k rs ≡ (g, x) ∷ drop (k + 1) rs
row-left [] k g x hg hx = cc
row-left (r ∷ rs) zero g x hg hx =
    let guards : r.0 ≡ g = cc in
    let value : r.1 ≡ x = cc in
    ap (λ l. (l, r.1) ∷ rs) guards ∙ ap (λ y. (g, y) ∷ rs) value
row-left (r ∷ rs) (suc k) g x hg hx =
    let next : suc (k + 1) ≡ suc k + 1 = omega arith in
    row-left rs k g x hg hx ∙ ap (λ n. (g, x) ∷ drop n (r ∷ rs)) next

one-case : (a : Answer) → answer_without (case_of [] a ∷ []) ≡ Some a
one-case (Constant true) = refl
one-case (Constant false) = refl
one-case (Literal l) = refl

-- an atom with one row without guards is its answer
pub single-row : (b : GroundBase) (s : ℕ) (rs : List (List Lit × List Denotation)) (g : List Lit) (vs : List Denotation)
    → length rs ≡ 1 → option_map (λ r. r.0) (slice_get rs 0) ≡ Some g → g ≡ []
    → option_map (λ r. r.1) (slice_get rs 0) ≡ Some vs
    → answer_without (map (atom_case b s) rs) ≡ Some (atom_answer b s (row_index (tuples_at b s) vs))
single-row b s [] g vs one hg none hx = absurd (omega (arith, one))
single-row b s (r ∷ q ∷ rs) g vs one hg none hx = absurd (omega (arith, one))
single-row b s (r ∷ []) g vs one hg none hx =
    let guards : r.0 ≡ g = cc in
    let value : r.1 ≡ vs = cc in
    let A : List Denotation → Answer = λ ws. atom_answer b s (row_index (tuples_at b s) ws) in
    ap (λ l. answer_without (case_of l (A r.1) ∷ [])) (guards ∙ none)
    ∙ ap (λ ws. answer_without (case_of [] (A ws) ∷ [])) value ∙ one-case (A vs)

-- what cases come to where no variable is needed, and what is asserted by them
pub without-made : (cs : List Case) (a : Answer) (p : ProblemState) → answer_without cs ≡ Some a
    → cases_of cs p ≡ record { answer = a; problem = p }
without-made cs a p h = ap (λ o. answer_or_cases o cs p) h

pub without-said : (sign : Bool) (ls : List Lit) (cs : List Case) (a : Answer) (p : ProblemState)
    → answer_without cs ≡ Some a
    → or_clause ls (signed_result sign (record { answer = a; problem = p })) ≡ assert_cases sign ls cs p
without-said sign ls cs a p h = sym (ap (λ o. answer_or_clauses o sign ls cs p) h)

-- an answer with its sign
pub signed-is : (sign : Bool) (ls : List Lit) (a : Answer) (p : ProblemState)
    → or_clause ls (record { answer = (if sign then a else opposite_of a); problem = p }) ≡
    or_clause ls (signed_result sign (record { answer = a; problem = p }))
signed-is true ls a p = refl
signed-is false ls a p = refl

-- the cases of an atom are over the problem's variables
pub atom-cases-in : (b : GroundBase) (s : ℕ) (ts : TermTrees) (e : List Elem) (p : ProblemState) → IsGroundBase b
    → HasVars b p → IsPredicateOf b s → AllByRecursion (IsCaseOf p.vars) (map (atom_case b s) (rows_of_terms b ts e))
atom-cases-in b s ts e p is vars h =
    let room = room-of b p is vars in
    let A : List Denotation → Answer = λ vs. atom_answer b s (row_index (tuples_at b s) vs) in
    cases-in p.vars p.vars (atom_case b s) (rows_of_terms b ts e)
    (λ r g. case-in p.vars r.0 (A r.1) g (inside (row_index (tuples_at b s) r.1) (place-below (tuples_at b s) r.1)))
    (terms-in b p room e ts)
  where
    inside : (o : Option ℕ) → ((i : ℕ) → o ≡ Some i → i < length (tuples_at b s))
        → AnswerWithin p.vars (atom_answer b s o)
    inside None f = tt
    inside (Some i) f =
        let low = first-above b s in
        let room = room-of b p is vars in
        known-in p.vars (first_var b s + i) (known_of b (first_var b s + i)) (omega (arith, low))
        (room.predicates s i h.value (f i refl))

-- the rows of a term are over the problem's variables
pub rows-in : (b : GroundBase) (t : TermTree) (e : List Elem) (p : ProblemState) → IsGroundBase b → HasVars b p
    → HaveLits p.vars (rows_of_term b t e)
rows-in b t e p is vars = term-in b p (room-of b p is vars) e t

-- the answers in place of guards are over the variables of the problem that grew
pub record GuardsGrow (p q : ProblemState) (rs : List (Answer × Denotation)) : Type 0 where
  pub vars : p.vars ≤ q.vars
  pub within : AllByRecursion (λ r. AnswerWithin q.vars r.0) rs

gate-grows : (p : ProblemState) (g : List Lit) → AreLitsOf p.vars g → p.vars ≤ (gate_of true g p).problem.vars
    × AnswerWithin (gate_of true g p).problem.vars (gate_of true g p).answer
gate-grows p [] h = (omega arith, tt)
gate-grows p (l ∷ []) h = (omega arith, h 0 l (omega arith))
gate-grows p (l ∷ m ∷ ls) h = (omega arith, (omega arith, omega arith))

pub guards-grow : (p : ProblemState) (rs : List (List Lit × Denotation)) → HaveLits p.vars rs
    → GuardsGrow p (guard_answers rs p).problem (guard_answers rs p).rows
guards-grow p [] h = record { vars = omega arith; within = tt }
guards-grow p (r ∷ rs) h =
    let g = gate_of true r.0 p in
    let one = gate-grows p r.0 h.0 in
    let later = guards-grow g.problem rs (rows-more p.vars g.problem.vars one.0 rs h.1) in
    let q = (guard_answers rs g.problem).problem in
    record {
      vars = omega (arith, one.0, later.vars);
      within = (answer-more g.problem.vars q.vars g.answer later.vars one.1, later.within);
    }

-- the cases of a comparison are over the variables of the problem that grew
pub comparison-cases-in : (c : Cmp) (p : ProblemState) (xs ys : List (List Lit × Denotation)) → HaveLits p.vars xs
    → HaveLits p.vars ys
    → AllByRecursion (IsCaseOf (guard_answers ys p).problem.vars) (map (comparison_case c (guard_answers ys p).rows) xs)
comparison-cases-in c p xs ys hx hy =
    let g = guards-grow p ys hy in
    let q = (guard_answers ys p).problem in
    let rs = (guard_answers ys p).rows in
    cases-in q.vars p.vars (comparison_case c rs) xs (λ r h. record {
      guards = lits-more p.vars q.vars g.vars r.0 h;
      yes =
          side-in q.vars (λ d. compared c r.1 d) rs g.within;
      no =
          side-in q.vars (λ d. not (compared c r.1 d)) rs g.within;
    }) hx

-- a comparison whose left term has a row
pub comparison-by-rows : (c : Cmp) (p : ProblemState) (w : ℤ) (xs ys : List (List Lit × Denotation)) → 1 ≤ length xs
    → (let zs = map_rows (raised w) xs in
    comparison_of c zs ys p
    ≡ cases_of (map (comparison_case c (guard_answers ys p).rows) zs) (guard_answers ys p).problem)
comparison-by-rows c p w [] ys h = absurd (omega (arith, h))
comparison-by-rows c p w (x ∷ xs) ys h = refl

-- a sum without parts is compared by rows
pub no-parts : (c : Cmp) (st : Linear) (xs ys : List (List Lit × Denotation)) → length st.parts ≡ 0
    → compared_sums c st xs ys ≡ comparison_of c (map_rows (raised st.base) xs) ys st.problem
no-parts c st xs ys h = by st.parts h
  where
    by : (ps : List Part) → length ps ≡ 0
        → compared_by_parts ps c st xs ys ≡ comparison_of c (map_rows (raised st.base) xs) ys st.problem
    by [] none = refl
    by (p ∷ ps) none = absurd (omega (arith, none))

-- the guards of the next row are over the first n variables
pub guards-within : {X : Type 0} (n : ℕ) (rs : List (List Lit × X)) (k : ℕ) (g : List Lit)
    → option_map (λ r. r.0) (slice_get rs k) ≡ Some g → HaveLits n (drop k rs) → AreLitsOf n g
guards-within n [] k g e h = cc
guards-within n (r ∷ rs) zero g e h = let is : r.0 ≡ g = cc in subst (AreLitsOf n) is h.0
guards-within n (r ∷ rs) (suc k) g e h = guards-within n rs k g e h

-- the answers of the rows from the next one on
module _ (rs : List (List Lit × Denotation)) (k : ℕ) (g : List Lit) (x : Denotation) (p q : ProblemState) (a : Answer)
    (left : drop k rs ≡ (g, x) ∷ drop (k + 1) rs) (answer : a ≡ (gate_of true g p).answer)
    (problem : q ≡ (gate_of true g p).problem) where
  pub next-answers : (guard_answers (drop k rs) p).rows ≡ (a, x) ∷ (guard_answers (drop (k + 1) rs) q).rows
  next-answers =
      ap (λ ys. (guard_answers ys p).rows) left
      ∙ ap (λ b. (b, x) ∷ (guard_answers (drop (k + 1) rs) (gate_of true g p).problem).rows) (sym answer)
      ∙ ap (λ r. (a, x) ∷ (guard_answers (drop (k + 1) rs) r).rows) (sym problem)

  pub next-problem : (guard_answers (drop k rs) p).problem ≡ (guard_answers (drop (k + 1) rs) q).problem
  next-problem =
      ap (λ ys. (guard_answers ys p).problem) left
      ∙ ap (λ r. (guard_answers (drop (k + 1) rs) r).problem) (sym problem)

  pub next-within : HaveLits p.vars (drop k rs) → HaveLits q.vars (drop (k + 1) rs)
  next-within h =
      let all : HaveLits p.vars ((g, x) ∷ drop (k + 1) rs) = subst (HaveLits p.vars) left h in
      let one = gate-grows p g all.0 in
      rows-more p.vars q.vars (subst (λ (r : ProblemState). p.vars ≤ r.vars) (sym problem) one.0)
      (drop (k + 1) rs) all.1

-- a comparison that is asserted, whose left term has a row
pub asserted-by-rows : (sign : Bool) (c : Cmp) (ls : List Lit) (p : ProblemState) (w : ℤ)
    (xs ys : List (List Lit × Denotation)) → 1 ≤ length xs
    → (let zs = map_rows (raised w) xs in
    assert_comparison sign c zs ys ls p
    ≡ assert_cases sign ls (map (comparison_case c (guard_answers ys p).rows) zs) (guard_answers ys p).problem)
asserted-by-rows sign c ls p w [] ys h = absurd (omega (arith, h))
asserted-by-rows sign c ls p w (x ∷ xs) ys h = refl

-- what an Ok promises gives what it gives
pub on-ok : {A E : Type 0} {P Q : Type 0} (r : Result A E) → (P → Q) → OnOk r P → OnOk r Q
on-ok (Ok x) f h = f h
on-ok (Err e) f h = h
