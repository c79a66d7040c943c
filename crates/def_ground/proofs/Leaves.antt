-- Atoms and comparisons.
use Rattle.std.proofs.Common.{◌≡◌, ℕ, ◌+◌, ◌*◌, ◌<◌, ◌≤◌, Bool, true, false, not, ◌||◌, List, [], ◌∷◌, ◌++◌, map}
use Rattle.std.proofs.Common.{flat_map}
use Rattle.std.proofs.Common.{length, if◌then◌else◌, Option, Some, None, refl, sym, ap, ◌∙◌, arith}
use Rattle.std.specs.List.{list_all, AllByRecursion}
use Rattle.std.proofs.lemmas.List.Elements.{All-append, All-cons, All-nil, All-push}
use Rattle.std.specs.Prelude.{pos}
use Rattle.kb_logic.specs.declared.elements.Elem.{Elem}
use Rattle.kb_logic.specs.declared.syntax.Cmp.{Cmp}
use Rattle.kb_logic.specs.Trees.{TermTree, variable, integer, constructed, application, summation, product, aggregate}
use Rattle.kb_logic.specs.Trees.{TermTrees, no_terms, more_terms, SummandTrees, no_summands, more_summands, atom}
use Rattle.kb_logic.specs.Trees.{comparison}
use Rattle.kb_logic.specs.Denotations.{Denotation, denotation_of, compared}
use Rattle.kb_logic.specs.Meaning.{has_row, value_of, values_of, truth_of, number_value, summand_plus, product_from}
use Rattle.lit_core.specs.declared.literals.Lit.{Lit}
use Rattle.lit_core.specs.Literals.{literal_value, negated}
use Rattle.ground_core.specs.Problems.{ProblemState, IsProblem, IsLitOf, AreLitsOf}
use Rattle.ground_core.specs.Meaning.{Satisfies}
use Rattle.ground_core.specs.More.{DefinesMore, Agree}
use Rattle.ground_core.proofs.Mores.{more-trans}
use Rattle.def_ground.specs.declared.answers.Answer.{Answer}
use Rattle.def_ground.specs.declared.answers.Answer.TheVariants.{Constant, Literal}
use Rattle.term_values.specs.GroundBases.{GroundBase, structure_of, tuples_at, values_at, first_var, known_of}
use Rattle.term_values.specs.GroundBases.{row_index}
use Rattle.term_values.specs.Rows.{positive_lit, with_row, value_rows, rows_at, pair_rows, map_rows, rows_of_term}
use Rattle.term_values.specs.Rows.{rows_of_terms, rows_of_sum, selected_values}
use Rattle.def_ground.specs.Comparisons.{comparison_of, guard_answers, or_literal, any_where, side_where}
use Rattle.def_ground.specs.Comparisons.{comparison_case}
use Rattle.def_ground.specs.Cases.{Case, case_of}
use Rattle.def_ground.specs.CaseSentences.{assert_comparison}
use Rattle.def_ground.specs.Sentences.{assert_of}
use Rattle.def_ground.specs.GroundForms.{IsPredicateOf}
use Rattle.def_ground.specs.Answers.{answer_value, gate_of, AnswerWithin}
use Rattle.def_ground.specs.Forms.{answer_of_atom, atom_answer, atom_case, form_of, signed_result}
use Rattle.def_ground.specs.Meanings.{Means, AssertsMore, HasAtoms, HasRoom, IsCaseOf, SideWithin}
use Rattle.term_values.specs.GroundTerms.{IsGroundTerm, AreGroundTerms}
use Rattle.term_values.proofs.RowFacts.{place-below}
use Rattle.term_values.proofs.RowLaws.{term-right, terms-right}
use Rattle.def_ground.proofs.Growing.{more-refl, lit-more, lits-more}
use Rattle.def_ground.proofs.FormSteps.{gate-right}
use Rattle.def_ground.proofs.AssertSteps.{any-of, signed-truth, signed-means, clause-right}
use Rattle.def_ground.proofs.ReadyCases.{AreReady, ready-means, ready-asserts}
use Rattle.def_ground.proofs.LeafLaws.{predicate-is, predicate-rows-at, atom-value, case-selected, case-yes, case-no}
use Rattle.def_ground.proofs.LeafLaws.{case-guards, chosen-answers, side-right}

abbrev pub RowsIn : {X : Type 0} → ℕ → List (List Lit × X) → Type 0
RowsIn n rs = AllByRecursion (λ r. AreLitsOf n r.0) rs

pub rows-append : {X : Type 0} (n : ℕ) (xs ys : List (List Lit × X)) → RowsIn n xs → RowsIn n ys → RowsIn n (xs ++ ys)
rows-append n [] ys h k = k
rows-append n (x ∷ xs) ys h k = (h.0, rows-append n xs ys h.1 k)

rows-with : {X Y Z : Type 0} (n : ℕ) (op : X → Y → Z) (g : List Lit) (x : X) (ys : List (List Lit × Y)) → AreLitsOf n g
    → RowsIn n ys → RowsIn n (map (λ y. (g ++ y.0, op x y.1)) ys)
rows-with n op g x [] h k = tt
rows-with n op g x (y ∷ ys) h k = (All-append (IsLitOf n) g y.0 h k.0, rows-with n op g x ys h k.1)

pub rows-paired : {X Y Z : Type 0} (n : ℕ) (op : X → Y → Z) (xs : List (List Lit × X)) (ys : List (List Lit × Y))
    → RowsIn n xs → RowsIn n ys → RowsIn n (pair_rows op xs ys)
rows-paired n op [] ys h k = tt
rows-paired n op (x ∷ xs) ys h k =
    rows-append n (map (λ y. (x.0 ++ y.0, op x.1 y.1)) ys) (pair_rows op xs ys) (rows-with n op x.0 x.1 ys h.0 k)
    (rows-paired n op xs ys h.1 k)

rows-mapped : {X Y : Type 0} (n : ℕ) (f : X → Y) (xs : List (List Lit × X)) → RowsIn n xs → RowsIn n (map_rows f xs)
rows-mapped n f [] h = tt
rows-mapped n f (x ∷ xs) h = (h.0, rows-mapped n f xs h.1)

rows-flat : {X Y : Type 0} (n : ℕ) (E : List Lit × X → List (List Lit × Y)) (xs : List (List Lit × X)) → RowsIn n xs
    → ((x : List Lit × X) → AreLitsOf n x.0 → RowsIn n (E x)) → RowsIn n (flat_map E xs)
rows-flat n E [] h f = tt
rows-flat n E (x ∷ xs) h f = rows-append n (E x) (flat_map E xs) (f x h.0) (rows-flat n E xs h.1 f)

row-in : (n k : ℕ) (o : Option Bool) (g : List Lit) (x : Denotation) (rows : List (List Lit × Denotation)) → 1 ≤ k
    → k ≤ n → AreLitsOf n g → RowsIn n rows → RowsIn n (with_row o k g x rows)
row-in n k None g x rows low high h r = (All-push (IsLitOf n) g (positive_lit k) h (low, high), r)
row-in n k (Some true) g x rows low high h r = (h, r)
row-in n k (Some false) g x rows low high h r = r

values-in : (b : GroundBase) (n k : ℕ) (g : List Lit) (xs : List Elem) → 1 ≤ k → ((j : ℕ) → j < length xs → k + j ≤ n)
    → AreLitsOf n g → RowsIn n (value_rows b g k xs)
values-in b n k g [] low high h = tt
values-in b n k g (x ∷ xs) low high h =
    row-in n k (known_of b k) g (denotation_of x) (value_rows b g (k + 1) xs) low
    (let z = high 0 (omega arith) in omega (arith, z)) h
    (values-in b n (k + 1) g xs (omega (arith, low))
    (λ j below. let z = high (1 + j) (omega (arith, below)) in omega (arith, z)) h)

pub first-above : (b : GroundBase) (s : ℕ) → 1 ≤ first_var b s
first-above b s = omega arith

module _ (b : GroundBase) (p : ProblemState) (room : HasRoom b p) (e : List Elem) where
  at-in : (s : ℕ) (g : List Lit) (o : Option ℕ) → ((i : ℕ) → o ≡ Some i → i < length (tuples_at b s))
      → AreLitsOf p.vars g → RowsIn p.vars (rows_at b s g o)
  at-in s g None f h = (h, tt)
  at-in s g (Some i) f h =
      let low = first-above b s in
      values-in b p.vars (first_var b s + i * length (values_at b s)) g (values_at b s) (omega (arith, low))
      (λ j below. room.functions s i j (f i refl) below) h

  mutual
    pub term-in : (t : TermTree) → RowsIn p.vars (rows_of_term b t e)
    term-in (variable n) = (All-nil (IsLitOf p.vars), tt)
    term-in (integer z) = (All-nil (IsLitOf p.vars), tt)
    term-in (constructed ty n) = (All-nil (IsLitOf p.vars), tt)
    term-in (application s ts) =
        rows-flat p.vars (λ t. rows_at b s t.0 (row_index (tuples_at b s) t.1)) (rows_of_terms b ts e) (terms-in ts)
        (λ t h. at-in s t.0 (row_index (tuples_at b s) t.1) (place-below (tuples_at b s) t.1) h)
    term-in (summation ss) = rows-mapped p.vars number_value (rows_of_sum b ss e) (sum-in ss)
    term-in (product ts) =
        rows-mapped p.vars (λ vs. number_value (product_from (pos 1) vs)) (rows_of_terms b ts e) (terms-in ts)
    term-in (aggregate k bs f t) = (All-nil (IsLitOf p.vars), tt)

    pub terms-in : (ts : TermTrees) → RowsIn p.vars (rows_of_terms b ts e)
    terms-in no_terms = (All-nil (IsLitOf p.vars), tt)
    terms-in (more_terms t ts) =
        rows-paired p.vars (λ x xs. x ∷ xs) (rows_of_term b t e) (rows_of_terms b ts e) (term-in t) (terms-in ts)

    sum-in : (ss : SummandTrees) → RowsIn p.vars (rows_of_sum b ss e)
    sum-in no_summands = (All-nil (IsLitOf p.vars), tt)
    sum-in (more_summands minus t ss) =
        rows-paired p.vars (summand_plus minus) (rows_of_term b t e) (rows_of_sum b ss e) (term-in t) (sum-in ss)

one-in : (n : ℕ) (l : Lit) → IsLitOf n l → AreLitsOf n (l ∷ [])
one-in n l h = All-cons (IsLitOf n) l [] h (All-nil (IsLitOf n))

pub case-in : (n : ℕ) (g : List Lit) (a : Answer) → AreLitsOf n g → AnswerWithin n a → IsCaseOf n (case_of g a)
case-in n g (Constant true) h k = record { guards = h; yes = tt; no = All-nil (IsLitOf n) }
case-in n g (Constant false) h k = record { guards = h; yes = All-nil (IsLitOf n); no = tt }
case-in n g (Literal l) h k = record { guards = h; yes = one-in n l k; no = one-in n (negated l) k }

pub known-in : (n k : ℕ) (o : Option Bool) → 1 ≤ k → k ≤ n → AnswerWithin n (answer_of_atom o k)
known-in n k None low high = (low, high)
known-in n k (Some c) low high = tt

pub cases-in : {X : Type 0} (n m : ℕ) (C : List Lit × X → Case) (rs : List (List Lit × X))
    → ((r : List Lit × X) → AreLitsOf m r.0 → IsCaseOf n (C r)) → RowsIn m rs → AllByRecursion (IsCaseOf n) (map C rs)
cases-in n m C [] f h = tt
cases-in n m C (r ∷ rs) f h = (f r h.0, cases-in n m C rs f h.1)

-- the cases of an atom say what it is
pub atom-ready : (s : ℕ) (ts : TermTrees) (b : GroundBase) (e : List Elem) (p : ProblemState) → IsProblem p
    → HasAtoms b p → HasRoom b p → IsPredicateOf b s × AreGroundTerms b ts
    → AreReady p p (map (atom_case b s) (rows_of_terms b ts e)) (λ v. truth_of (structure_of b v) (atom s ts) e)
atom-ready s ts b e p fine at room h =
    let rows = rows_of_terms b ts e in
    let A : List Denotation → Answer = λ vs. atom_answer b s (row_index (tuples_at b s) vs) in
    let C : List Lit × List Denotation → Case = λ r. case_of r.0 (A r.1) in
    let V : (ℕ → Bool) → Bool = λ v. truth_of (structure_of b v) (atom s ts) e in
    record {
      fine = fine;
      more = more-refl p;
      are =
          cases-in p.vars p.vars C rows
          (λ r g. case-in p.vars r.0 (A r.1) g
          (inside (row_index (tuples_at b s) r.1) (place-below (tuples_at b s) r.1)))
          (terms-in b p room e ts);
      local = λ v w agree. ap (λ m. truth_of m (atom s ts) e) (room.same v w agree);
      say = λ v sat.
          let over = at v sat in
          let vs = values_of (structure_of b v) ts e in
          let c = case-selected v C (λ r. case-guards r.0 (A r.1)) rows vs (terms-right b v over e ts h.1) in
          let value : answer_value v (A c.0.1) ≡ V v =
          ap (λ ws. answer_value v (A ws)) c.1 ∙ atom-value b v over.known s (row_index (tuples_at b s) vs)
          ∙ sym (predicate-is v (first_var b s) (tuples_at b s) vs)
          ∙ sym (ap (λ rs. has_row rs vs) (predicate-rows-at b v s h.0)) in
          record {
            case = C c.0;
            one = c.2;
            yes = case-yes v c.0.0 (A c.0.1) ∙ value;
            no = case-no v c.0.0 (A c.0.1) ∙ ap not value;
          };
    }
  where
    inside : (o : Option ℕ) → ((i : ℕ) → o ≡ Some i → i < length (tuples_at b s))
        → AnswerWithin p.vars (atom_answer b s o)
    inside None f = tt
    inside (Some i) f =
        let low = first-above b s in known-in p.vars (first_var b s + i) (known_of b (first_var b s + i))
        (omega (arith, low)) (room.predicates s i h.0.value (f i refl))

pub atom-right : (s : ℕ) (ts : TermTrees) (b : GroundBase) (e : List Elem) (p : ProblemState) → IsProblem p
    → HasAtoms b p → HasRoom b p → IsPredicateOf b s × AreGroundTerms b ts
    → Means p (form_of b (atom s ts) e p).problem (form_of b (atom s ts) e p).answer
    (λ v. truth_of (structure_of b v) (atom s ts) e)
atom-right s ts b e p fine at room h =
    ready-means p p (map (atom_case b s) (rows_of_terms b ts e)) (λ v. truth_of (structure_of b v) (atom s ts) e)
    (atom-ready s ts b e p fine at room h)

-- an atom that is asserted
pub atom-says : (s : ℕ) (ts : TermTrees) (b : GroundBase) (e : List Elem) (p : ProblemState) (sign : Bool)
    (ls : List Lit) → IsProblem p → HasAtoms b p → HasRoom b p → IsPredicateOf b s × AreGroundTerms b ts
    → AreLitsOf p.vars ls
    → AssertsMore p (assert_of b sign (atom s ts) e ls p)
    (λ v. any-of ls v || signed-truth sign (truth_of (structure_of b v) (atom s ts) e))
atom-says s ts b e p sign ls fine at room h within =
    ready-asserts p p (map (atom_case b s) (rows_of_terms b ts e)) (λ v. truth_of (structure_of b v) (atom s ts) e)
    sign ls (atom-ready s ts b e p fine at room h) within

-- one literal in place of each row's guards
record SinglesAre (p : ProblemState) (bs : List (List Lit × Denotation)) (q : ProblemState)
    (rs : List (Answer × Denotation)) : Type 0 where
  fine : IsProblem q
  more : DefinesMore p q
  within : AllByRecursion (λ r. AnswerWithin q.vars r.0) rs
  right : (v : ℕ → Bool) → Satisfies q v → chosen-answers v rs ≡ selected_values v bs

pub answer-more : (n m : ℕ) (a : Answer) → n ≤ m → AnswerWithin n a → AnswerWithin m a
answer-more n m (Constant c) le h = tt
answer-more n m (Literal l) le h = lit-more n m le l h

pub rows-more : {X : Type 0} (n m : ℕ) (le : n ≤ m) (rs : List (List Lit × X)) → RowsIn n rs → RowsIn m rs
rows-more n m le [] h = tt
rows-more n m le (r ∷ rs) h = (lits-more n m le r.0 h.0, rows-more n m le rs h.1)

singles-right : (bs : List (List Lit × Denotation)) (p : ProblemState) → IsProblem p → RowsIn p.vars bs
    → SinglesAre p bs (guard_answers bs p).problem (guard_answers bs p).rows
singles-right [] p fine h = record { fine = fine; more = more-refl p; within = tt; right = λ v s. refl }
singles-right (r ∷ rs) p fine h =
    let g = gate_of true r.0 p in
    let one = gate-right p true r.0 fine h.0 in
    let later = singles-right rs g.problem one.fine (rows-more p.vars g.problem.vars one.more.grows rs h.1) in
    let q = (guard_answers rs g.problem).problem in
    record {
      fine = later.fine;
      more = more-trans p g.problem q one.more later.more;
      within = (answer-more g.problem.vars q.vars g.answer later.more.grows one.within, later.within);
      right = λ v s.
          ap (λ c. if c then r.1 ∷ chosen-answers v (guard_answers rs g.problem).rows else chosen-answers v
          (guard_answers rs g.problem).rows) (one.right v (later.more.restricts v s))
          ∙ ap (λ ys. if list_all (literal_value v) r.0 then r.1 ∷ ys else ys) (later.right v s);
    }

or-in : (n : ℕ) (a : Answer) (o : Option (List Lit)) → AnswerWithin n a → SideWithin n o → SideWithin n (or_literal a o)
or-in n (Constant true) o h k = tt
or-in n (Constant false) o h k = k
or-in n (Literal l) None h k = tt
or-in n (Literal l) (Some ls) h k = All-cons (IsLitOf n) l ls h k

if-in : (n : ℕ) (t : Bool) (o q : Option (List Lit)) → SideWithin n o → SideWithin n q
    → SideWithin n (if t then o else q)
if-in n true o q h k = h
if-in n false o q h k = k

any-in : (n : ℕ) (test : Denotation → Bool) (rs : List (Answer × Denotation))
    → AllByRecursion (λ r. AnswerWithin n r.0) rs → SideWithin n (any_where test rs)
any-in n test [] h = All-nil (IsLitOf n)
any-in n test (r ∷ rs) h =
    if-in n (test r.1) (or_literal r.0 (any_where test rs)) (any_where test rs)
    (or-in n r.0 (any_where test rs) h.0 (any-in n test rs h.1)) (any-in n test rs h.1)

pub side-in : (n : ℕ) (test : Denotation → Bool) (rs : List (Answer × Denotation))
    → AllByRecursion (λ r. AnswerWithin n r.0) rs → SideWithin n (side_where test rs)
side-in n test rs h =
    if-in n (list_all (λ (r : Answer × Denotation). test r.1) rs) None (any_where test rs) tt (any-in n test rs h)

-- the cases of rows that are compared say how the values that are selected compare
rows-ready : (c : Cmp) (p : ProblemState) (xs ys : List (List Lit × Denotation)) (X Y : (ℕ → Bool) → Denotation)
    → IsProblem p → RowsIn p.vars xs → RowsIn p.vars ys
    → ((v w : ℕ → Bool) → Agree p.vars v w → compared c (X v) (Y v) ≡ compared c (X w) (Y w))
    → ((v : ℕ → Bool) → Satisfies p v → selected_values v xs ≡ X v ∷ [])
    → ((v : ℕ → Bool) → Satisfies p v → selected_values v ys ≡ Y v ∷ [])
    → (let s = guard_answers ys p in
    AreReady p s.problem (map (comparison_case c s.rows) xs) (λ v. compared c (X v) (Y v)))
rows-ready c p xs ys X Y fine within-x within-y local sel-x sel-y =
    let s = singles-right ys p fine within-y in
    let q = (guard_answers ys p).problem in
    let rs = (guard_answers ys p).rows in
    let C : List Lit × Denotation → Case = comparison_case c rs in
    record {
      fine = s.fine;
      more = s.more;
      are =
          cases-in q.vars p.vars C xs (λ r g. record {
            guards = lits-more p.vars q.vars s.more.grows r.0 g;
            yes =
                side-in q.vars (λ d. compared c r.1 d) rs s.within;
            no =
                side-in q.vars (λ d. not (compared c r.1 d)) rs s.within;
          }) within-x;
      local = local;
      say = λ v sat.
          let old = s.more.restricts v sat in
          let k = case-selected v C (λ r. refl) xs (X v) (sel-x v old) in
          let one : chosen-answers v rs ≡ Y v ∷ [] = s.right v sat ∙ sel-y v old in
          record {
            case = C k.0;
            one = k.2;
            yes = side-right v (λ d. compared c k.0.1 d) rs (Y v) one ∙ ap (λ d. compared c d (Y v)) k.1;
            no = side-right v (λ d. not (compared c k.0.1 d)) rs (Y v) one ∙ ap (λ d. not (compared c d (Y v))) k.1;
          };
    }

-- where the left rows are none, no valuation satisfies the problem
pub compared-rows-right : (c : Cmp) (p : ProblemState) (xs ys : List (List Lit × Denotation))
    (X Y : (ℕ → Bool) → Denotation) → IsProblem p → RowsIn p.vars xs → RowsIn p.vars ys
    → ((v w : ℕ → Bool) → Agree p.vars v w → compared c (X v) (Y v) ≡ compared c (X w) (Y w))
    → ((v : ℕ → Bool) → Satisfies p v → selected_values v xs ≡ X v ∷ [])
    → ((v : ℕ → Bool) → Satisfies p v → selected_values v ys ≡ Y v ∷ [])
    → (let g = comparison_of c xs ys p in Means p g.problem g.answer (λ v. compared c (X v) (Y v)))
compared-rows-right c p [] ys X Y fine within-x within-y local sel-x sel-y =
    record { fine = fine; more = more-refl p; within = tt; right = λ v s. let z = sel-x v s in cc }
compared-rows-right c p (x ∷ xs) ys X Y fine within-x within-y local sel-x sel-y =
    let s = guard_answers ys p in
    ready-means p s.problem (map (comparison_case c s.rows) (x ∷ xs)) (λ v. compared c (X v) (Y v))
    (rows-ready c p (x ∷ xs) ys X Y fine within-x within-y local sel-x sel-y)

-- the cases of a comparison say what it is
comparison-ready : (c : Cmp) (x y : TermTree) (b : GroundBase) (e : List Elem) (p : ProblemState) → IsProblem p
    → HasAtoms b p → HasRoom b p → IsGroundTerm b y
    → (xs : List (List Lit × Denotation)) → RowsIn p.vars xs
    → ((v : ℕ → Bool) → Satisfies p v → selected_values v xs ≡ value_of (structure_of b v) x e ∷ [])
    → (let s = guard_answers (rows_of_term b y e) p in
    AreReady p s.problem (map (comparison_case c s.rows) xs) (λ v. truth_of (structure_of b v) (comparison c x y) e))
comparison-ready c x y b e p fine at room h xs within sel =
    rows-ready c p xs (rows_of_term b y e) (λ v. value_of (structure_of b v) x e)
    (λ v. value_of (structure_of b v) y e) fine within (term-in b p room e y)
    (λ v w agree. ap (λ m. truth_of m (comparison c x y) e) (room.same v w agree)) sel
    (λ v s. term-right b v (at v s) e y h)

-- where the left term has no row, no valuation satisfies the problem
none-means : (c : Cmp) (x y : TermTree) (b : GroundBase) (e : List Elem) (p : ProblemState) → IsProblem p
    → ((v : ℕ → Bool) → Satisfies p v → [] ≡ value_of (structure_of b v) x e ∷ [])
    → Means p p (Constant true) (λ v. truth_of (structure_of b v) (comparison c x y) e)
none-means c x y b e p fine sel =
    record { fine = fine; more = more-refl p; within = tt; right = λ v s. let z = sel v s in cc }

comparison-by : (c : Cmp) (x y : TermTree) (b : GroundBase) (e : List Elem) (p : ProblemState) → IsProblem p
    → HasAtoms b p → HasRoom b p → IsGroundTerm b y
    → (xs : List (List Lit × Denotation)) → RowsIn p.vars xs
    → ((v : ℕ → Bool) → Satisfies p v → selected_values v xs ≡ value_of (structure_of b v) x e ∷ [])
    → (let g = comparison_of c xs (rows_of_term b y e) p in
    Means p g.problem g.answer (λ v. truth_of (structure_of b v) (comparison c x y) e))
comparison-by c x y b e p fine at room h [] within sel = none-means c x y b e p fine sel
comparison-by c x y b e p fine at room h (x1 ∷ more) within sel =
    let s = guard_answers (rows_of_term b y e) p in
    ready-means p s.problem (map (comparison_case c s.rows) (x1 ∷ more))
    (λ v. truth_of (structure_of b v) (comparison c x y) e)
    (comparison-ready c x y b e p fine at room h (x1 ∷ more) within sel)

-- a comparison of terms without aggregates
pub comparison-right : (c : Cmp) (x y : TermTree) (b : GroundBase) (e : List Elem) (p : ProblemState) → IsProblem p
    → HasAtoms b p → HasRoom b p → IsGroundTerm b x × IsGroundTerm b y
    → (let g = comparison_of c (rows_of_term b x e) (rows_of_term b y e) p in
    Means p g.problem g.answer (λ v. truth_of (structure_of b v) (comparison c x y) e))
comparison-right c x y b e p fine at room h =
    comparison-by c x y b e p fine at room h.1 (rows_of_term b x e) (term-in b p room e x)
    (λ v s. term-right b v (at v s) e x h.0)

-- a comparison that is asserted
comparison-says-by : (c : Cmp) (x y : TermTree) (b : GroundBase) (e : List Elem) (p : ProblemState) (sign : Bool)
    (ls : List Lit) → IsProblem p → HasAtoms b p → HasRoom b p → IsGroundTerm b y → AreLitsOf p.vars ls
    → (xs : List (List Lit × Denotation)) → RowsIn p.vars xs
    → ((v : ℕ → Bool) → Satisfies p v → selected_values v xs ≡ value_of (structure_of b v) x e ∷ [])
    → AssertsMore p (assert_comparison sign c xs (rows_of_term b y e) ls p)
    (λ v. any-of ls v || signed-truth sign (truth_of (structure_of b v) (comparison c x y) e))
comparison-says-by c x y b e p sign ls fine at room h inside [] within sel =
    let V : (ℕ → Bool) → Bool = λ v. truth_of (structure_of b v) (comparison c x y) e in
    clause-right p (signed_result sign (record { answer = Constant true; problem = p })) ls
    (λ v. signed-truth sign (V v)) inside
    (λ v w agree. ap (λ m. signed-truth sign (truth_of m (comparison c x y) e)) (room.same v w agree))
    (signed-means p sign (record { answer = Constant true; problem = p }) V (none-means c x y b e p fine sel))
comparison-says-by c x y b e p sign ls fine at room h inside (x1 ∷ more) within sel =
    let s = guard_answers (rows_of_term b y e) p in
    ready-asserts p s.problem (map (comparison_case c s.rows) (x1 ∷ more))
    (λ v. truth_of (structure_of b v) (comparison c x y) e) sign ls
    (comparison-ready c x y b e p fine at room h (x1 ∷ more) within sel) inside

pub comparison-says : (c : Cmp) (x y : TermTree) (b : GroundBase) (e : List Elem) (p : ProblemState) (sign : Bool)
    (ls : List Lit) → IsProblem p → HasAtoms b p → HasRoom b p → IsGroundTerm b x × IsGroundTerm b y
    → AreLitsOf p.vars ls
    → AssertsMore p (assert_comparison sign c (rows_of_term b x e) (rows_of_term b y e) ls p)
    (λ v. any-of ls v || signed-truth sign (truth_of (structure_of b v) (comparison c x y) e))
comparison-says c x y b e p sign ls fine at room h inside =
    comparison-says-by c x y b e p sign ls fine at room h.1 inside (rows_of_term b x e) (term-in b p room e x)
    (λ v s. term-right b v (at v s) e x h.0)
