-- How many variables formulas and sentences add.
use Rattle.std.proofs.Common.{inl, inr, ◌∙◌, ◌≡◌, ℕ, ◌+◌, ◌*◌, ◌≤◌, Bool, true, false, List, [], ◌∷◌, ◌++◌, map, length}
use Rattle.std.proofs.Common.{if◌then◌else◌, Option, Some, None, refl, ap, subst, arith, fold, ℤ, pos, neg_ℤ}
use Rattle.std.proofs.Common.{◌*ℤ◌, ◌||◌}
use Rattle.std.specs.List.{list_all, sum_by, AllByRecursion}
use Rattle.std.proofs.lemmas.List.Sums.{sum_by-cons}
use Rattle.std.proofs.lemmas.List.{length-map}
use Rattle.std.proofs.lemmas.Nat.{mul-le}
use Rattle.kb_logic.specs.declared.elements.Elem.{Elem}
use Rattle.kb_logic.specs.declared.syntax.AggKind.{AggKind}
use Rattle.kb_logic.specs.declared.syntax.AggKind.TheVariants as kind
use Rattle.kb_logic.specs.declared.syntax.Cmp.{Cmp}
use Rattle.kb_logic.specs.declared.vocabularies.Vocabulary.{Vocabulary}
use Rattle.kb_logic.specs.Structures.{choices}
use Rattle.kb_logic.specs.Denotations.{Denotation}
use Rattle.kb_logic.specs.Domains.{AreDomainsOf}
use Rattle.kb_logic.specs.Meaning.{signed_of}
use Rattle.kb_logic.specs.Typing.{IsIntegerIn, TermIsTyped, FactorsAreTyped, OperandsAreTyped, FormulaIsTyped}
use Rattle.kb_logic.specs.Typing.{AllAreTyped}
use Rattle.kb_logic.specs.Trees.{TermTree, variable, integer, constructed, application, summation, product, aggregate}
use Rattle.kb_logic.specs.Trees.{TermTrees, no_terms, more_terms, SummandTrees, no_summands, more_summands}
use Rattle.kb_logic.specs.Trees.{FormulaTree, verum, falsum, atom, comparison, negation, conjunction, disjunction}
use Rattle.kb_logic.specs.Trees.{implication, equivalence, universal, existential, numbered, FormulaTrees, no_formulas}
use Rattle.kb_logic.specs.Trees.{more_formulas}
use Rattle.kb_logic.specs.Weights.{application_count, applications_count, occurrences, all_occurrences}
use Rattle.kb_logic.specs.Weights.{term_occurrences, terms_occurrences, summands_occurrences}
use Rattle.kb_logic.specs.declared.vocabularies.Bound.{Bound}
use Rattle.kb_logic.specs.Bounds.{HasTypes, types_of}
use Rattle.kb_logic.proofs.Has.{Has}
use Rattle.lit_core.specs.declared.literals.Lit.{Lit}
use Rattle.ground_core.specs.declared.parts.Part.{Part}
use Rattle.ground_core.specs.Problems.{ProblemState}
use Rattle.ground_core.specs.Growth.{with_clause}
use Rattle.def_ground.specs.declared.answers.Answer.{Answer}
use Rattle.def_ground.specs.declared.answers.Answer.TheVariants.{Constant, Literal}
use Rattle.term_values.specs.GroundBases.{GroundBase}
use Rattle.term_values.specs.Rows.{map_rows, rows_of_term, rows_of_terms}
use Rattle.def_ground.specs.Cases.{answer_or_cases, answer_without, Case, is_always, plain_answer, cases_of}
use Rattle.def_ground.specs.CaseSentences.{or_clause, answer_or_clauses, assert_comparison, assert_alike}
use Rattle.def_ground.specs.Disjuncts.{own_part, disjuncts_of, all_disjuncts}
use Rattle.def_ground.specs.Answers.{GroundResult, gate_of}
use Rattle.def_ground.specs.Comparisons.{guard_answers, comparison_case, comparison_of}
use Rattle.def_ground.specs.Forms.{atom_case, signed_result, Parts, settles, with_answer, next_parts, no_more_parts}
use Rattle.def_ground.specs.Forms.{parts_each, close_parts, opposite_result, same_of, form_of, parts_of, no_parts_yet}
use Rattle.def_ground.specs.Forms.{compared_sides, sums_of, sums_of_summands, sums_of_factors}
use Rattle.def_ground.specs.Counting.{has_aggregate, have_aggregates, integer_factor, extreme_of}
use Rattle.def_ground.specs.Linear.{Linear, weighed_under, with_problem, instance_step}
use Rattle.def_ground.specs.SumSides.{raised, compared_by_parts, compared_sums}
use Rattle.def_ground.specs.Thresholds.{flipped}
use Rattle.def_ground.specs.Sentences.{are_few, parts_clause, assert_each, assert_of, assert_all, assert_any}
use Rattle.def_ground.specs.Sentences.{assert_sentences}
use Rattle.def_ground.proofs.TypedForms.{choice-types}
use Rattle.def_ground.specs.Laws.{FewVariables}
use Rattle.term_values.proofs.FewRows.{term-few, terms-few}
use Rattle.term_values.proofs.TypedLaws.{typed-term, typed-places}
use Rattle.def_ground.proofs.Counting.{linear}
use Rattle.def_ground.proofs.LinearFew.{compared-few, compared-rows-few, compared-beside-few}
use Rattle.def_ground.proofs.LinearFew.{instance-few}

gate-vars : (all : Bool) (ls : List Lit) (p : ProblemState) → (gate_of all ls p).problem.vars ≤ p.vars + 1
gate-vars all [] p = omega arith
gate-vars all (l ∷ []) p = omega arith
gate-vars all (l ∷ m ∷ ls) p = omega arith

closed-vars : (all s : Bool) (ls : List Lit) (q : ProblemState) (m n : ℕ) → q.vars ≤ m + 4 * n
    → (close_parts all (record { settled = s; lits = ls; problem = q })).problem.vars ≤ m + 4 * (1 + n)
closed-vars all true ls q m n h = omega (arith, h)
closed-vars all false ls q m n h = let g = gate-vars all ls q in omega (arith, g, h)

next-vars : (s : Bool) (ls : List Lit) (q : ProblemState) (rest : Parts) (m k n : ℕ) → q.vars ≤ m + k
    → rest.problem.vars ≤ q.vars + n
    → (if s then record { settled = true; lits = ls; problem = q } else rest).problem.vars ≤ m + (k + n)
next-vars true ls q rest m k n h r = omega (arith, h)
next-vars false ls q rest m k n h r = omega (arith, h, r)

answer-vars : (o : Option Answer) (cs : List Case) (p : ProblemState)
    → (answer_or_cases o cs p).problem.vars ≤ p.vars + 1
answer-vars (Some x) cs p = omega arith
answer-vars None cs p = omega arith

cases-vars : (cs : List Case) (p : ProblemState) → (cases_of cs p).problem.vars ≤ p.vars + 1
cases-vars cs p = answer-vars (answer_without cs) cs p

singles-vars : (bs : List (List Lit × Denotation)) (p : ProblemState)
    → (guard_answers bs p).problem.vars ≤ p.vars + length bs
singles-vars [] p = omega arith
singles-vars (r ∷ rs) p =
    let g = gate-vars true r.0 p in let h = singles-vars rs (gate_of true r.0 p).problem in omega (arith, g, h)

always-none : (c : Cmp) (xs : List (List Lit × Denotation))
    → list_all (λ (k : Case). is_always k.yes) (map (comparison_case c []) xs) ≡ true
always-none c [] = refl
always-none c (x ∷ xs) = always-none c xs

constant-vars : (a c : Bool) (o : Option Answer) (cs : List Case) (p : ProblemState) → a ≡ true
    → (answer_or_cases (if a then Some (Constant true) else (if c then Some (Constant false) else o)) cs p).problem.vars
    ≤ p.vars
constant-vars true c o cs p e = omega arith
constant-vars false c o cs p e = cc

comparison-vars : (c : Cmp) (xs ys : List (List Lit × Denotation)) (p : ProblemState) (a b : ℕ) → length xs ≤ a
    → length ys ≤ b → (comparison_of c xs ys p).problem.vars ≤ p.vars + 4 * (a * b)
comparison-vars c [] ys p a b hx hy = omega arith
comparison-vars c (x ∷ xs) [] p a b hx hy =
    let k = constant-vars (list_all (λ (c : Case). is_always c.yes) (map (comparison_case c []) (x ∷ xs)))
    (list_all (λ (c : Case). is_always c.no) (map (comparison_case c []) (x ∷ xs)))
    (plain_answer (map (comparison_case c []) (x ∷ xs))) (map (comparison_case c []) (x ∷ xs)) p
    (always-none c (x ∷ xs)) in
    omega (arith, k)
comparison-vars c (x ∷ xs) (y ∷ ys) p a b hx hy =
    let s = singles-vars (y ∷ ys) p in
    let q = (guard_answers (y ∷ ys) p) in
    let k = cases-vars (map (comparison_case c q.rows) (x ∷ xs)) q.problem in
    let one : 1 * length (y ∷ ys) ≤ a * b = mul-le 1 (length (y ∷ ys)) a b (omega (arith, hx)) hy in
    omega (arith, s, k, one)

same-vars : (x y : Answer) (p : ProblemState) → (same_of x y p).problem.vars ≤ p.vars + 1
same-vars (Constant true) y p = omega arith
same-vars (Constant false) y p = omega arith
same-vars (Literal l) (Constant true) p = omega arith
same-vars (Literal l) (Constant false) p = omega arith
same-vars (Literal l) (Literal m) p = omega arith

atom-vars : (rows : List (List Lit × List Denotation)) (C : List Lit × List Denotation → Case) (p : ProblemState)
    (a : ℕ) → length rows ≤ a → (cases_of (map C rows) p).problem.vars ≤ p.vars + 4 * a
atom-vars [] C p a h = omega arith
atom-vars (r ∷ rows) C p a h = let k = cases-vars (map C (r ∷ rows)) p in omega (arith, k, h)

each-vars : (G : List Elem → ProblemState → GroundResult) (n : ℕ) (all : Bool) (xs : List (List Elem))
    → ((a : List Elem) → Has xs a → (p : ProblemState) → (G a p).problem.vars ≤ p.vars + 4 * n)
    → (ls : List Lit) (p : ProblemState) → (parts_each G all xs ls p).problem.vars ≤ p.vars + 4 * (length xs * n)
each-vars G n all [] h ls p = omega arith
each-vars G n all (a ∷ xs) h ls p =
    let g = G a p in
    let k = next-vars (settles all g.answer) (with_answer g.answer ls) g.problem
    (parts_each G all xs (with_answer g.answer ls) g.problem) p.vars (4 * n) (4 * (length xs * n)) (h a (inl refl) p)
    (each-vars G n all xs (λ c m. h c (inr m)) (with_answer g.answer ls) g.problem) in
    let e : 4 * n + 4 * (length xs * n) ≡ 4 * (length (a ∷ xs) * n) = omega arith in
    subst (λ m. (parts_each G all (a ∷ xs) ls p).problem.vars ≤ p.vars + m) e k

-- ---- aggregates

-- a count takes no variable of its own
weighed-alone : (w : ℤ) (a : Answer) (st : Linear) → (weighed_under w a [] st).problem.vars ≤ st.problem.vars
weighed-alone w (Constant true) st = omega arith
weighed-alone w (Constant false) st = omega arith
weighed-alone w (Literal l) st = omega arith

-- an instance takes a variable for each row of its weight at most, beside those of its condition
kind-few : (k : AggKind) (z : ℤ) (F : List Elem → ProblemState → GroundResult)
    (R : List Elem → List (List Lit × Denotation)) (st : Linear) (a : List Elem) (w : ℕ) → length (R a) ≤ w
    → (instance_step k z F R st a).problem.vars ≤ (F a st.problem).problem.vars + w
kind-few kind.Count z F R st a w h =
    let g = F a st.problem in
    let few = weighed-alone (z *ℤ pos 1) g.answer (with_problem g.problem st) in omega (arith, few)
kind-few kind.Sum z F R st a w h = let few = instance-few kind.Sum z F R st a in omega (arith, few, h)
kind-few kind.Min z F R st a w h = let few = instance-few kind.Min z F R st a in omega (arith, few, h)
kind-few kind.Max z F R st a w h = let few = instance-few kind.Max z F R st a in omega (arith, few, h)

counted-vars : (k : AggKind) (z : ℤ) (F : List Elem → ProblemState → GroundResult)
    (R : List Elem → List (List Lit × Denotation)) (n w : ℕ) (as' : List (List Elem))
    → ((a : List Elem) → Has as' a → (p : ProblemState) → (F a p).problem.vars ≤ p.vars + 4 * n)
    → ((a : List Elem) → Has as' a → (st : Linear)
    → (instance_step k z F R st a).problem.vars ≤ (F a st.problem).problem.vars + w)
    → (st : Linear) → (fold (instance_step k z F R) st as').problem.vars ≤ st.problem.vars + length as' * (4 * n + w)
counted-vars k z F R n w [] few rows st = omega arith
counted-vars k z F R n w (a ∷ as') few rows st =
    let one = few a (inl refl) st.problem in
    let own = rows a (inl refl) st in
    let rest = counted-vars k z F R n w as' (λ c m. few c (inr m)) (λ c m. rows c (inr m))
    (instance_step k z F R st a) in
    let e : (4 * n + w) + length as' * (4 * n + w) ≡ length (a ∷ as') * (4 * n + w) = omega arith in
    omega (arith, one, own, rest, e)

if-few : (c : Bool) (x y : Linear) (n : ℕ) → x.problem.vars ≤ n → y.problem.vars ≤ n
    → (if c then x else y).problem.vars ≤ n
if-few true x y n h k = h
if-few false x y n h k = k

result-few : (c : Bool) (x y : GroundResult) (n : ℕ) → x.problem.vars ≤ n → y.problem.vars ≤ n
    → (if c then x else y).problem.vars ≤ n
result-few true x y n h k = h
result-few false x y n h k = k

extreme-once : (v : Vocabulary) (d : List (List Elem)) (x : TermTree) (k : AggKind) → extreme_of x ≡ Some k
    → application_count v d x ≡ 1
extreme-once v d (variable n) k h = absurd cc
extreme-once v d (integer z) k h = absurd cc
extreme-once v d (constructed ty n) k h = absurd cc
extreme-once v d (application s ts) k h = absurd cc
extreme-once v d (summation ss) k h = absurd cc
extreme-once v d (product ts) k h = absurd cc
extreme-once v d (aggregate kind bs f t) k h = refl

-- the comparison of two sides, of which these are the numbers of rows and of what they take
sides-vars : (c : Cmp) (ox oy : Option AggKind) (left right both : Linear)
    (xs ys : List (List Lit × Denotation)) (p m n a d : ℕ) → ((k : AggKind) → ox ≡ Some k → a ≡ 1)
    → ((k : AggKind) → oy ≡ Some k → d ≡ 1) → left.problem.vars ≤ p + 4 * m → right.problem.vars ≤ p + 4 * n
    → both.problem.vars ≤ p + 4 * m + 4 * n → length xs ≤ a → length ys ≤ d
    → (compared_sides ox oy c left right both xs ys).problem.vars ≤ p + 4 * (a * d + m + n)
sides-vars c (Some k) oy left right both xs ys p m n a d one_x one_y l r w hx hy =
    let few = compared-rows-few k c left ys in
    let one = one_x k refl in
    let same : a * d ≡ d = ap (λ i. i * d) one ∙ (let e : 1 * d ≡ d = omega arith in e) in
    omega (arith, few, l, hy, same)
sides-vars c None (Some k) left right both xs ys p m n a d one_x one_y l r w hx hy =
    let few = compared-rows-few k (flipped c) right xs in
    let one = one_y k refl in
    let same : a * d ≡ a = ap (λ i. a * i) one ∙ (let e : a * 1 ≡ a = omega arith in e) in
    omega (arith, few, r, hx, same)
sides-vars c None None left right both xs ys p m n a d one_x one_y l r w hx hy =
    let few : (compared_sums c both xs ys).problem.vars ≤ both.problem.vars + 4 * (a * d) = by-parts both.parts in
    omega (arith, few, w)
  where
    by-parts : (ps : List Part) → (compared_by_parts ps c both xs ys).problem.vars ≤ both.problem.vars + 4 * (a * d)
    by-parts [] =
        let f : List Lit × Denotation → List Lit × Denotation = λ r. (r.0, raised both.base r.1) in
        let same = length-map xs f in
        comparison-vars c (map_rows (raised both.base) xs) ys both.problem a d (omega (arith, same, hx)) hy
    by-parts (q ∷ ps) =
        let few = compared-beside-few c both xs ys in
        let product = mul-le (length xs) (length ys) a d hx hy in
        omega (arith, few, product)

module _ (b : GroundBase) (given : AreDomainsOf b.vocabulary b.domains) where
  compared-vars : (c : Cmp) (x y : TermTree) (scope : List ℕ) (e : List Elem) (p : ProblemState)
      → HasTypes b.domains scope e → TermIsTyped b.vocabulary (IsIntegerIn b.domains) x scope
      → TermIsTyped b.vocabulary (IsIntegerIn b.domains) y scope
      → ((z : ℤ) (st : Linear)
      → (sums_of b z x e st).problem.vars ≤ st.problem.vars + 4 * term_occurrences b.vocabulary b.domains x 1)
      → ((z : ℤ) (st : Linear)
      → (sums_of b z y e st).problem.vars ≤ st.problem.vars + 4 * term_occurrences b.vocabulary b.domains y 1)
      → (form_of b (comparison c x y) e p).problem.vars
      ≤ p.vars + 4 * occurrences b.vocabulary b.domains (comparison c x y) 1
  compared-vars c x y scope e p types tx ty sum-x sum-y =
      let a = application_count b.vocabulary b.domains x in
      let d = application_count b.vocabulary b.domains y in
      let m = term_occurrences b.vocabulary b.domains x 1 in
      let n = term_occurrences b.vocabulary b.domains y 1 in
      let xs = rows_of_term b x e in
      let ys = rows_of_term b y e in
      let few-x = term-few b scope e types x (typed-term b.vocabulary b.domains given x scope tx) in
      let few-y = term-few b scope e types y (typed-term b.vocabulary b.domains given y scope ty) in
      let left = sums_of b (pos 1) x e (no_parts_yet p) in
      let right = sums_of b (pos 1) y e (no_parts_yet p) in
      let both = sums_of b (neg_ℤ (pos 1)) y e left in
      let l : left.problem.vars ≤ p.vars + 4 * m = sum-x (pos 1) (no_parts_yet p) in
      let r : right.problem.vars ≤ p.vars + 4 * n = sum-y (pos 1) (no_parts_yet p) in
      let more = sum-y (neg_ℤ (pos 1)) left in
      let sides = sides-vars c (extreme_of x) (extreme_of y) left right both xs ys p.vars m n a d
      (λ k h. extreme-once b.vocabulary b.domains x k h) (λ k h. extreme-once b.vocabulary b.domains y k h) l r
      (omega (arith, l, more)) few-x few-y in
      let plain = comparison-vars c xs ys p a d few-x few-y in
      result-few (has_aggregate x || has_aggregate y)
      (compared_sides (extreme_of x) (extreme_of y) c left right both xs ys) (comparison_of c xs ys p)
      (p.vars + 4 * occurrences b.vocabulary b.domains (comparison c x y) 1) (omega (arith, sides))
      (omega (arith, plain))

  mutual
    pub form-vars : (f : FormulaTree) (scope : List ℕ) (e : List Elem) (p : ProblemState) → HasTypes b.domains scope e
        → FormulaIsTyped b.vocabulary (IsIntegerIn b.domains) f scope
        → (form_of b f e p).problem.vars ≤ p.vars + 4 * occurrences b.vocabulary b.domains f 1
    form-vars verum scope e p types h = omega arith
    form-vars falsum scope e p types h = omega arith
    form-vars (atom s ts) scope e p types h =
        let k = atom-vars (rows_of_terms b ts e) (atom_case b s) p (applications_count b.vocabulary b.domains ts)
        (terms-few b scope e types ts (typed-places b.vocabulary b.domains given ts h.0.args scope h.3)) in
        omega (arith, k)
    form-vars (comparison c x y) scope e p types h =
        compared-vars c x y scope e p types h.0 h.1 (λ z st. sums-vars x scope e z st types h.0)
        (λ z st. sums-vars y scope e z st types h.1)
    form-vars (negation f) scope e p types h = let k = form-vars f scope e p types h in omega (arith, k)
    form-vars (conjunction fs) scope e p types h =
        let r = parts_of b true fs e [] p in
        closed-vars true r.settled r.lits r.problem p.vars (all_occurrences b.vocabulary b.domains fs 1)
        (parts-vars true fs scope e [] p types h)
    form-vars (disjunction fs) scope e p types h =
        let r = parts_of b false fs e [] p in
        closed-vars false r.settled r.lits r.problem p.vars (all_occurrences b.vocabulary b.domains fs 1)
        (parts-vars false fs scope e [] p types h)
    form-vars (implication f g) scope e p types h =
        let x = form_of b f e p in
        let y = form_of b g e x.problem in
        let F = occurrences b.vocabulary b.domains f 1 in
        let G = occurrences b.vocabulary b.domains g 1 in
        let a = opposite_result x in
        let last = next-vars (settles false y.answer) (with_answer y.answer (with_answer a.answer [])) y.problem
        (no_more_parts (with_answer y.answer (with_answer a.answer [])) y.problem) x.problem.vars (4 * G) 0
        (form-vars g scope e x.problem types h.1) (omega arith) in
        let both = next-vars (settles false a.answer) (with_answer a.answer []) x.problem
        (next_parts false y (with_answer a.answer []) no_more_parts) p.vars (4 * F) (4 * G + 0)
        (form-vars f scope e p types h.0) last in
        let r = next_parts false a [] (λ xs q. next_parts false (form_of b g e q) xs no_more_parts) in
        let k = closed-vars false r.settled r.lits r.problem p.vars (F + G) (omega (arith, both)) in
        omega (arith, k)
    form-vars (equivalence f g) scope e p types h =
        let x = form_of b f e p in
        let y = form_of b g e x.problem in
        let one = form-vars f scope e p types h.0 in
        let two = form-vars g scope e x.problem types h.1 in
        let k = same-vars x.answer y.answer y.problem in
        omega (arith, one, two, k)
    form-vars (universal bs f) scope e p types h =
        let r = parts_each (λ a q. form_of b f (e ++ a) q) true (choices b.domains bs) [] p in
        let n = occurrences b.vocabulary b.domains f 1 in
        let l = length (choices b.domains bs) in
        let k = closed-vars true r.settled r.lits r.problem p.vars (l * n)
        (each-vars (λ a q. form_of b f (e ++ a) q) n true (choices b.domains bs)
        (λ a m q. form-vars f (scope ++ types_of bs) (e ++ a) q
        (choice-types b.domains scope bs e a types m) h.1) [] p) in
        let i = linear b.vocabulary b.domains f (1 * l) in
        omega (arith, k, i)
    form-vars (existential bs f) scope e p types h =
        let r = parts_each (λ a q. form_of b f (e ++ a) q) false (choices b.domains bs) [] p in
        let n = occurrences b.vocabulary b.domains f 1 in
        let l = length (choices b.domains bs) in
        let k = closed-vars false r.settled r.lits r.problem p.vars (l * n)
        (each-vars (λ a q. form_of b f (e ++ a) q) n false (choices b.domains bs)
        (λ a m q. form-vars f (scope ++ types_of bs) (e ++ a) q
        (choice-types b.domains scope bs e a types m) h.1) [] p) in
        let i = linear b.vocabulary b.domains f (1 * l) in
        omega (arith, k, i)
    form-vars (numbered c k bs f) scope e p types h =
        let F : List Elem → ProblemState → GroundResult = λ a q. form_of b f (e ++ a) q in
        let n = occurrences b.vocabulary b.domains f 1 in
        let l = length (choices b.domains bs) in
        let st = fold (instance_step kind.Count (pos 1) F (λ a. [])) (no_parts_yet p) (choices b.domains bs) in
        let few = counted-vars kind.Count (pos 1) F (λ a. []) n 0 (choices b.domains bs)
        (λ a m q. form-vars f (scope ++ types_of bs) (e ++ a) q (choice-types b.domains scope bs e a types m) h.1)
        (λ a m st. kind-few kind.Count (pos 1) F (λ a. []) st a 0 (omega arith)) (no_parts_yet p) in
        let last = compared-few kind.Count c st k in
        let i = linear b.vocabulary b.domains f (1 * l) in
        omega (arith, few, last, i)

    parts-vars : (all : Bool) (fs : FormulaTrees) (scope : List ℕ) (e : List Elem) (ls : List Lit) (p : ProblemState)
        → HasTypes b.domains scope e → AllAreTyped b.vocabulary (IsIntegerIn b.domains) fs scope
        → (parts_of b all fs e ls p).problem.vars ≤ p.vars + 4 * all_occurrences b.vocabulary b.domains fs 1
    parts-vars all no_formulas scope e ls p types h = omega arith
    parts-vars all (more_formulas f fs) scope e ls p types h =
        let g = form_of b f e p in
        let k = next-vars (settles all g.answer) (with_answer g.answer ls) g.problem
        (parts_of b all fs e (with_answer g.answer ls) g.problem) p.vars (4 * occurrences b.vocabulary b.domains f 1)
        (4 * all_occurrences b.vocabulary b.domains fs 1)
        (form-vars f scope e p types h.0) (parts-vars all fs scope e (with_answer g.answer ls) g.problem types h.1) in
        omega (arith, k)

    -- the aggregates of a term
    pub sums-vars : (t : TermTree) (scope : List ℕ) (e : List Elem) (z : ℤ) (st : Linear) → HasTypes b.domains scope e
        → TermIsTyped b.vocabulary (IsIntegerIn b.domains) t scope
        → (sums_of b z t e st).problem.vars ≤ st.problem.vars + 4 * term_occurrences b.vocabulary b.domains t 1
    sums-vars (variable n) scope e z st types h = omega arith
    sums-vars (integer y) scope e z st types h = omega arith
    sums-vars (constructed ty n) scope e z st types h = omega arith
    sums-vars (application s ts) scope e z st types h = omega arith
    sums-vars (summation ss) scope e z st types h = operands-vars ss scope e z st types h
    sums-vars (product ts) scope e z st types h =
        if-few (have_aggregates ts) (sums_of_factors b (z *ℤ integer_factor ts) ts e st) st
        (st.problem.vars + 4 * terms_occurrences b.vocabulary b.domains ts 1)
        (factors-vars ts scope e (z *ℤ integer_factor ts) st types h) (omega arith)
    sums-vars (aggregate k bs f t) scope e z st types h =
        let F : List Elem → ProblemState → GroundResult = λ a q. form_of b f (e ++ a) q in
        let R : List Elem → List (List Lit × Denotation) = λ a. rows_of_term b t (e ++ a) in
        let n = occurrences b.vocabulary b.domains f 1 in
        let w = application_count b.vocabulary b.domains t in
        let l = length (choices b.domains bs) in
        let few = counted-vars k z F R n w (choices b.domains bs)
        (λ a m q. form-vars f (scope ++ types_of bs) (e ++ a) q (choice-types b.domains scope bs e a types m) h.1)
        (λ a m st. kind-few k z F R st a w
        (term-few b (scope ++ types_of bs) (e ++ a) (choice-types b.domains scope bs e a types m) t
        (typed-term b.vocabulary b.domains given t (scope ++ types_of bs) h.2))) st in
        let i = linear b.vocabulary b.domains f (1 * l) in
        omega (arith, few, i)

    operands-vars : (ss : SummandTrees) (scope : List ℕ) (e : List Elem) (z : ℤ) (st : Linear)
        → HasTypes b.domains scope e → OperandsAreTyped b.vocabulary (IsIntegerIn b.domains) ss scope
        → (sums_of_summands b z ss e st).problem.vars
        ≤ st.problem.vars + 4 * summands_occurrences b.vocabulary b.domains ss 1
    operands-vars no_summands scope e z st types h = omega arith
    operands-vars (more_summands minus t ss) scope e z st types h =
        let one = sums-vars t scope e (signed_of minus z) st types h.0 in
        let more = operands-vars ss scope e z (sums_of b (signed_of minus z) t e st) types h.2 in
        omega (arith, one, more)

    factors-vars : (ts : TermTrees) (scope : List ℕ) (e : List Elem) (z : ℤ) (st : Linear)
        → HasTypes b.domains scope e → FactorsAreTyped b.vocabulary (IsIntegerIn b.domains) ts scope
        → (sums_of_factors b z ts e st).problem.vars
        ≤ st.problem.vars + 4 * terms_occurrences b.vocabulary b.domains ts 1
    factors-vars no_terms scope e z st types h = omega arith
    factors-vars (more_terms t ts) scope e z st types h =
        let one = sums-vars t scope e z st types h.0 in
        let more = factors-vars ts scope e z (sums_of b z t e st) types h.2 in
        omega (arith, one, more)

-- assertions
signed-problem : (sign : Bool) (g : GroundResult) → (signed_result sign g).problem.vars ≡ g.problem.vars
signed-problem true g = refl
signed-problem false g = refl

clause-vars : (s : Bool) (q : ProblemState) (ls : List Lit) → (if s then q else with_clause q ls).vars ≡ q.vars
clause-vars true q ls = refl
clause-vars false q ls = refl

either-vars : (few : Bool) (q r : ProblemState) (n : ℕ) → q.vars ≤ n → r.vars ≤ n → (if few then q else r).vars ≤ n
either-vars true q r n h k = h
either-vars false q r n h k = k

shown-vars : (o : Option Answer) (sign : Bool) (ls : List Lit) (cs : List Case) (p : ProblemState)
    → (answer_or_clauses o sign ls cs p).vars ≡ p.vars
shown-vars (Some a) sign ls cs p =
    let g : GroundResult = record { answer = a; problem = p } in
    let one = signed-problem sign g in
    let two = clause-vars (settles false (signed_result sign g).answer) (signed_result sign g).problem
    (with_answer (signed_result sign g).answer ls) in
    two ∙ one
shown-vars None sign ls cs p = refl

assert-comparison-vars : (sign : Bool) (c : Cmp) (xs ys : List (List Lit × Denotation)) (ls : List Lit)
    (p : ProblemState) (a b : ℕ) → length xs ≤ a → length ys ≤ b
    → (assert_comparison sign c xs ys ls p).vars ≤ p.vars + 4 * (a * b)
assert-comparison-vars sign c [] ys ls p a b hx hy =
    let k = shown-vars (Some (Constant true)) sign ls [] p in omega (arith, k)
assert-comparison-vars sign c (x ∷ xs) ys ls p a b hx hy =
    let s = singles-vars ys p in
    let q = guard_answers ys p in
    let cs = map (comparison_case c q.rows) (x ∷ xs) in
    let k = shown-vars (answer_without cs) sign ls cs q.problem in
    let one : 1 * length ys ≤ a * b = mul-le 1 (length ys) a b (omega (arith, hx)) hy in
    omega (arith, s, k, one)

folded-vars : (sign : Bool) (ls : List Lit) (g : GroundResult) (n : ℕ) → g.problem.vars ≤ n
    → (or_clause ls (signed_result sign g)).vars ≤ n
folded-vars sign ls g n h =
    let one = signed-problem sign g in
    let two = clause-vars (settles false (signed_result sign g).answer) (signed_result sign g).problem
    (with_answer (signed_result sign g).answer ls) in
    omega (arith, h, one, two)

alike-vars : (sign : Bool) (x y : Answer) (ls : List Lit) (p : ProblemState)
    → (assert_alike sign x y ls p).vars ≤ p.vars + 1
alike-vars sign (Constant c) y ls p =
    folded-vars sign ls (same_of (Constant c) y p) (p.vars + 1) (same-vars (Constant c) y p)
alike-vars sign (Literal l) (Constant c) ls p =
    folded-vars sign ls (same_of (Literal l) (Constant c) p) (p.vars + 1) (same-vars (Literal l) (Constant c) p)
alike-vars true (Literal l) (Literal m) ls p = omega arith
alike-vars false (Literal l) (Literal m) ls p = omega arith

more-vars : (s : Bool) (r t : Parts) (m k n : ℕ) → r.problem.vars ≤ m + k → t.problem.vars ≤ r.problem.vars + n
    → (if s then r else t).problem.vars ≤ m + (k + n)
more-vars true r t m k n h l = omega (arith, h)
more-vars false r t m k n h l = omega (arith, h, l)

unless-vars : (s : Bool) (q r : ProblemState) (m k n : ℕ) → q.vars ≤ m + k → r.vars ≤ q.vars + n
    → (if s then q else r).vars ≤ m + (k + n)
unless-vars true q r m k n h l = omega (arith, h)
unless-vars false q r m k n h l = omega (arith, h, l)

assert-each-vars : (A : List Elem → ProblemState → ProblemState) (n : ℕ) (xs : List (List Elem))
    → ((a : List Elem) → Has xs a → (p : ProblemState) → (A a p).vars ≤ p.vars + 4 * n)
    → (p : ProblemState) → (assert_each A xs p).vars ≤ p.vars + 4 * (length xs * n)
assert-each-vars A n [] h p = omega arith
assert-each-vars A n (a ∷ xs) h p =
    let here = h a (inl refl) p in
    let rest = assert-each-vars A n xs (λ c m. h c (inr m)) (A a p) in
    omega (arith, here, rest)

module _ (b : GroundBase) (given : AreDomainsOf b.vocabulary b.domains) where
  leaf-vars : (sign : Bool) (f : FormulaTree) (scope : List ℕ) (e : List Elem) (ls : List Lit) (p : ProblemState)
      → HasTypes b.domains scope e → FormulaIsTyped b.vocabulary (IsIntegerIn b.domains) f scope
      → (or_clause ls (signed_result sign (form_of b f e p))).vars ≤ p.vars + 4 * occurrences b.vocabulary b.domains f 1
  leaf-vars sign f scope e ls p types h =
      let g = signed_result sign (form_of b f e p) in
      let k = form-vars b given f scope e p types h in
      let one = signed-problem sign (form_of b f e p) in
      let two = clause-vars (settles false g.answer) g.problem (with_answer g.answer ls) in
      omega (arith, k, one, two)

  own-vars : (sign : Bool) (f : FormulaTree) (scope : List ℕ) (e : List Elem) (ls : List Lit) (p : ProblemState)
      → HasTypes b.domains scope e → FormulaIsTyped b.vocabulary (IsIntegerIn b.domains) f scope
      → (own_part b sign f e ls p).problem.vars ≤ p.vars + 4 * occurrences b.vocabulary b.domains f 1
  own-vars sign f scope e ls p types h =
      let g = signed_result sign (form_of b f e p) in
      let xs = with_answer g.answer ls in
      let k = form-vars b given f scope e p types h in
      let one = signed-problem sign (form_of b f e p) in
      let all = next-vars (settles false g.answer) xs g.problem (no_more_parts xs g.problem) p.vars
      (4 * occurrences b.vocabulary b.domains f 1) 0 (omega (arith, k, one)) (omega arith) in
      omega (arith, all)

  mutual
    disjuncts-vars : (sign : Bool) (f : FormulaTree) (scope : List ℕ) (e : List Elem) (ls : List Lit)
        (p : ProblemState) → HasTypes b.domains scope e → FormulaIsTyped b.vocabulary (IsIntegerIn b.domains) f scope
        → (disjuncts_of b sign f e ls p).problem.vars ≤ p.vars + 4 * occurrences b.vocabulary b.domains f 1
    disjuncts-vars sign verum scope e ls p types h = own-vars sign verum scope e ls p types h
    disjuncts-vars sign falsum scope e ls p types h = own-vars sign falsum scope e ls p types h
    disjuncts-vars sign (atom s ts) scope e ls p types h = own-vars sign (atom s ts) scope e ls p types h
    disjuncts-vars sign (comparison c x y) scope e ls p types h =
        own-vars sign (comparison c x y) scope e ls p types h
    disjuncts-vars sign (equivalence f g) scope e ls p types h =
        own-vars sign (equivalence f g) scope e ls p types h
    disjuncts-vars sign (universal bs f) scope e ls p types h = own-vars sign (universal bs f) scope e ls p types h
    disjuncts-vars sign (existential bs f) scope e ls p types h =
        own-vars sign (existential bs f) scope e ls p types h
    disjuncts-vars sign (numbered c n bs f) scope e ls p types h =
        own-vars sign (numbered c n bs f) scope e ls p types h
    disjuncts-vars true (negation f) scope e ls p types h =
        let k = disjuncts-vars false f scope e ls p types h in omega (arith, k)
    disjuncts-vars false (negation f) scope e ls p types h =
        let k = disjuncts-vars true f scope e ls p types h in omega (arith, k)
    disjuncts-vars true (conjunction fs) scope e ls p types h =
        own-vars true (conjunction fs) scope e ls p types h
    disjuncts-vars false (conjunction fs) scope e ls p types h =
        let k = all-disjuncts-vars false fs scope e ls p types h in omega (arith, k)
    disjuncts-vars true (disjunction fs) scope e ls p types h =
        let k = all-disjuncts-vars true fs scope e ls p types h in omega (arith, k)
    disjuncts-vars false (disjunction fs) scope e ls p types h =
        own-vars false (disjunction fs) scope e ls p types h
    disjuncts-vars true (implication f g) scope e ls p types h =
        let r = disjuncts_of b false f e ls p in
        let one = disjuncts-vars false f scope e ls p types h.0 in
        let two = disjuncts-vars true g scope e r.lits r.problem types h.1 in
        let k = more-vars r.settled r (disjuncts_of b true g e r.lits r.problem) p.vars
        (4 * occurrences b.vocabulary b.domains f 1) (4 * occurrences b.vocabulary b.domains g 1) one two in
        omega (arith, k)
    disjuncts-vars false (implication f g) scope e ls p types h =
        own-vars false (implication f g) scope e ls p types h

    all-disjuncts-vars : (sign : Bool) (fs : FormulaTrees) (scope : List ℕ) (e : List Elem) (ls : List Lit)
        (p : ProblemState) → HasTypes b.domains scope e → AllAreTyped b.vocabulary (IsIntegerIn b.domains) fs scope
        → (all_disjuncts b sign fs e ls p).problem.vars ≤ p.vars + 4 * all_occurrences b.vocabulary b.domains fs 1
    all-disjuncts-vars sign no_formulas scope e ls p types h = omega arith
    all-disjuncts-vars sign (more_formulas f fs) scope e ls p types h =
        let r = disjuncts_of b sign f e ls p in
        let one = disjuncts-vars sign f scope e ls p types h.0 in
        let two = all-disjuncts-vars sign fs scope e r.lits r.problem types h.1 in
        let k = more-vars r.settled r (all_disjuncts b sign fs e r.lits r.problem) p.vars
        (4 * occurrences b.vocabulary b.domains f 1) (4 * all_occurrences b.vocabulary b.domains fs 1) one two in
        omega (arith, k)

  instances-vars : (sign : Bool) (f : FormulaTree) (scope : List ℕ) (bs : List Bound) (e : List Elem) (ls : List Lit)
      (p : ProblemState) → HasTypes b.domains scope e
      → FormulaIsTyped b.vocabulary (IsIntegerIn b.domains) f (scope ++ types_of bs)
      → (parts_clause (parts_each (λ a q. signed_result sign (form_of b f (e ++ a) q)) false
      (choices b.domains bs) ls p)).vars ≤ p.vars + 4 *
      (length (choices b.domains bs) * occurrences b.vocabulary b.domains f 1)
  instances-vars sign f scope bs e ls p types h =
      let r = parts_each (λ a q. signed_result sign (form_of b f (e ++ a) q)) false (choices b.domains bs) ls p in
      let k = each-vars (λ a q. signed_result sign (form_of b f (e ++ a) q))
      (occurrences b.vocabulary b.domains f 1) false (choices b.domains bs)
      (λ a m q.
      let one = form-vars b given f (scope ++ types_of bs) (e ++ a) q (choice-types b.domains scope bs e a types m) h in
      let two = signed-problem sign (form_of b f (e ++ a) q) in
      omega (arith, one, two)) ls p in
      let two = clause-vars r.settled r.problem r.lits in
      omega (arith, k, two)

  mutual
    pub assert-vars : (sign : Bool) (f : FormulaTree) (scope : List ℕ) (e : List Elem) (ls : List Lit)
        (p : ProblemState) → HasTypes b.domains scope e → FormulaIsTyped b.vocabulary (IsIntegerIn b.domains) f scope
        → (assert_of b sign f e ls p).vars ≤ p.vars + 4 * occurrences b.vocabulary b.domains f 1
    assert-vars true verum scope e ls p types h = omega arith
    assert-vars false verum scope e ls p types h = omega arith
    assert-vars true falsum scope e ls p types h = omega arith
    assert-vars false falsum scope e ls p types h = omega arith
    assert-vars sign (atom s ts) scope e ls p types h =
        let cs = map (atom_case b s) (rows_of_terms b ts e) in
        let k = shown-vars (answer_without cs) sign ls cs p in omega (arith, k)
    assert-vars sign (comparison c x y) scope e ls p types h =
        let whole = p.vars + 4 * occurrences b.vocabulary b.domains (comparison c x y) 1 in
        let k = assert-comparison-vars sign c (rows_of_term b x e) (rows_of_term b y e) ls p
        (application_count b.vocabulary b.domains x) (application_count b.vocabulary b.domains y)
        (term-few b scope e types x (typed-term b.vocabulary b.domains given x scope h.0))
        (term-few b scope e types y (typed-term b.vocabulary b.domains given y scope h.1)) in
        either-vars (has_aggregate x || has_aggregate y)
        (or_clause ls (signed_result sign (form_of b (comparison c x y) e p)))
        (assert_comparison sign c (rows_of_term b x e) (rows_of_term b y e) ls p) whole
        (leaf-vars sign (comparison c x y) scope e ls p types h) (omega (arith, k))
    assert-vars sign (equivalence f g) scope e ls p types h =
        let x = form_of b f e p in
        let y = form_of b g e x.problem in
        let one = form-vars b given f scope e p types h.0 in
        let two = form-vars b given g scope e x.problem types h.1 in
        let k = alike-vars sign x.answer y.answer ls y.problem in
        omega (arith, one, two, k)
    assert-vars sign (numbered c n bs f) scope e ls p types h =
        leaf-vars sign (numbered c n bs f) scope e ls p types h
    assert-vars true (negation f) scope e ls p types h =
        let k = assert-vars false f scope e ls p types h in omega (arith, k)
    assert-vars false (negation f) scope e ls p types h =
        let k = assert-vars true f scope e ls p types h in omega (arith, k)
    assert-vars true (conjunction fs) scope e ls p types h =
        let k = all-vars true fs scope e ls p types h in omega (arith, k)
    assert-vars false (conjunction fs) scope e ls p types h =
        let k = any-vars false fs scope e ls p types h in omega (arith, k)
    assert-vars true (disjunction fs) scope e ls p types h =
        let k = any-vars true fs scope e ls p types h in omega (arith, k)
    assert-vars false (disjunction fs) scope e ls p types h =
        let k = all-vars false fs scope e ls p types h in omega (arith, k)
    assert-vars true (implication f g) scope e ls p types h =
        let r = disjuncts_of b false f e ls p in
        let n = 4 * occurrences b.vocabulary b.domains g 1 in
        let direct = assert_of b true g e r.lits r.problem in
        let other = or_clause r.lits (signed_result true (form_of b g e r.problem)) in
        let one = disjuncts-vars false f scope e ls p types h.0 in
        let two = either-vars (are_few r.lits) direct other (r.problem.vars + n)
        (assert-vars true g scope e r.lits r.problem types h.1) (leaf-vars true g scope e r.lits r.problem types h.1) in
        let k = unless-vars r.settled r.problem (if are_few r.lits then direct else other) p.vars
        (4 * occurrences b.vocabulary b.domains f 1) n one two in
        omega (arith, k)
    assert-vars false (implication f g) scope e ls p types h =
        let one = assert-vars true f scope e ls p types h.0 in
        let two = assert-vars false g scope e ls (assert_of b true f e ls p) types h.1 in
        omega (arith, one, two)
    assert-vars true (universal bs f) scope e ls p types h =
        let l = length (choices b.domains bs) in
        let k = assert-each-vars (λ a q. assert_of b true f (e ++ a) ls q) (occurrences b.vocabulary b.domains f 1)
        (choices b.domains bs)
        (λ a m q. assert-vars true f (scope ++ types_of bs) (e ++ a) ls q
        (choice-types b.domains scope bs e a types m) h.1) p in
        let i = linear b.vocabulary b.domains f (1 * l) in
        omega (arith, k, i)
    assert-vars false (universal bs f) scope e ls p types h =
        let l = length (choices b.domains bs) in
        let k = instances-vars false f scope bs e ls p types h.1 in
        let i = linear b.vocabulary b.domains f (1 * l) in
        omega (arith, k, i)
    assert-vars true (existential bs f) scope e ls p types h =
        let l = length (choices b.domains bs) in
        let k = instances-vars true f scope bs e ls p types h.1 in
        let i = linear b.vocabulary b.domains f (1 * l) in
        omega (arith, k, i)
    assert-vars false (existential bs f) scope e ls p types h =
        let l = length (choices b.domains bs) in
        let k = assert-each-vars (λ a q. assert_of b false f (e ++ a) ls q) (occurrences b.vocabulary b.domains f 1)
        (choices b.domains bs)
        (λ a m q. assert-vars false f (scope ++ types_of bs) (e ++ a) ls q
        (choice-types b.domains scope bs e a types m) h.1) p in
        let i = linear b.vocabulary b.domains f (1 * l) in
        omega (arith, k, i)

    all-vars : (sign : Bool) (fs : FormulaTrees) (scope : List ℕ) (e : List Elem) (ls : List Lit) (p : ProblemState)
        → HasTypes b.domains scope e → AllAreTyped b.vocabulary (IsIntegerIn b.domains) fs scope
        → (assert_all b sign fs e ls p).vars ≤ p.vars + 4 * all_occurrences b.vocabulary b.domains fs 1
    all-vars sign no_formulas scope e ls p types h = omega arith
    all-vars sign (more_formulas f fs) scope e ls p types h =
        let one = assert-vars sign f scope e ls p types h.0 in
        let two = all-vars sign fs scope e ls (assert_of b sign f e ls p) types h.1 in
        omega (arith, one, two)

    any-vars : (sign : Bool) (fs : FormulaTrees) (scope : List ℕ) (e : List Elem) (ls : List Lit) (p : ProblemState)
        → HasTypes b.domains scope e → AllAreTyped b.vocabulary (IsIntegerIn b.domains) fs scope
        → (assert_any b sign fs e ls p).vars ≤ p.vars + 4 * all_occurrences b.vocabulary b.domains fs 1
    any-vars sign no_formulas scope e ls p types h = omega arith
    any-vars sign (more_formulas f no_formulas) scope e ls p types h =
        let k = either-vars (are_few ls) (assert_of b sign f e ls p)
        (or_clause ls (signed_result sign (form_of b f e p))) (p.vars + 4 * occurrences b.vocabulary b.domains f 1)
        (assert-vars sign f scope e ls p types h.0) (leaf-vars sign f scope e ls p types h.0) in
        omega (arith, k)
    any-vars sign (more_formulas f (more_formulas g fs)) scope e ls p types h =
        let r = disjuncts_of b sign f e ls p in
        let one = disjuncts-vars sign f scope e ls p types h.0 in
        let two = any-vars sign (more_formulas g fs) scope e r.lits r.problem types h.1 in
        let k = unless-vars r.settled r.problem (assert_any b sign (more_formulas g fs) e r.lits r.problem) p.vars
        (4 * occurrences b.vocabulary b.domains f 1)
        (4 * all_occurrences b.vocabulary b.domains (more_formulas g fs) 1) one two in
        omega (arith, k)

  pub sentences-vars : (fs : List FormulaTree) (p : ProblemState)
      → AllByRecursion (λ f. FormulaIsTyped b.vocabulary (IsIntegerIn b.domains) f []) fs
      → (assert_sentences b fs p).vars ≤ p.vars + 4 * sum_by (λ f. occurrences b.vocabulary b.domains f 1) fs
  sentences-vars [] p h = omega arith
  sentences-vars (f ∷ fs) p h =
      let one = assert-vars true f [] [] [] p tt h.0 in
      let two = sentences-vars fs (assert_of b true f [] [] p) h.1 in
      let sum = sum_by-cons (λ f. occurrences b.vocabulary b.domains f 1) f fs in
      omega (arith, one, two, sum)

pub few-variables : FewVariables
few-variables b f scope e p given types typed = form-vars b given f scope e p types typed
