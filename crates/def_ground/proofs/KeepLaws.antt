-- What formulas and sentences come to keeps what is said.
use Rattle.std.proofs.Common.{ℤ, pos, neg_ℤ, ◌*ℤ◌, ◌||◌, fold}
use Rattle.std.proofs.Common.{◌+◌, Bool, true, false, List, [], ◌∷◌, ◌++◌, map, if◌then◌else◌, Option, Some}
use Rattle.std.proofs.Common.{None, refl}
use Rattle.kb_logic.specs.declared.elements.Elem.{Elem}
use Rattle.kb_logic.specs.declared.syntax.AggKind.{AggKind}
use Rattle.kb_logic.specs.declared.syntax.AggKind.TheVariants as kind
use Rattle.kb_logic.specs.declared.syntax.Cmp.{Cmp}
use Rattle.kb_logic.specs.Meaning.{signed_of}
use Rattle.kb_logic.specs.Trees.{TermTree, variable, integer, constructed, application, summation, product, aggregate}
use Rattle.kb_logic.specs.Trees.{TermTrees, no_terms, more_terms, SummandTrees, no_summands, more_summands}
use Rattle.kb_logic.specs.Structures.{choices}
use Rattle.kb_logic.specs.Denotations.{Denotation}
use Rattle.kb_logic.specs.Trees.{FormulaTree, verum, falsum, atom, comparison, negation, conjunction, disjunction}
use Rattle.kb_logic.specs.Trees.{implication, equivalence, universal, existential, numbered, FormulaTrees, no_formulas}
use Rattle.kb_logic.specs.Trees.{more_formulas}
use Rattle.lit_core.specs.declared.literals.Lit.{Lit}
use Rattle.lit_core.specs.Literals.{negated}
use Rattle.ground_core.specs.declared.parts.Part.{Part}
use Rattle.ground_core.specs.Problems.{ProblemState}
use Rattle.ground_core.specs.Growth.{next_lit, with_clause, clauses_of_same}
use Rattle.term_values.specs.GroundBases.{GroundBase}
use Rattle.term_values.specs.Rows.{map_rows, rows_of_term, rows_of_terms}
use Rattle.def_ground.specs.declared.answers.Answer.{Answer}
use Rattle.def_ground.specs.declared.answers.Answer.TheVariants.{Constant, Literal}
use Rattle.def_ground.specs.Answers.{GroundResult, gate_of}
use Rattle.def_ground.specs.Cases.{Case, answer_without, clauses_saying, cases_of}
use Rattle.def_ground.specs.Comparisons.{guard_answers, comparison_case, comparison_of}
use Rattle.def_ground.specs.Forms.{Parts, settles, with_answer, next_parts, no_more_parts, parts_each, close_parts}
use Rattle.def_ground.specs.Forms.{opposite_result, signed_result, same_of, atom_case, form_of, parts_of, no_parts_yet}
use Rattle.def_ground.specs.Forms.{compared_sides, sums_of, sums_of_summands, sums_of_factors}
use Rattle.def_ground.specs.Counting.{has_aggregate, have_aggregates, integer_factor, extreme_of}
use Rattle.def_ground.specs.Linear.{Linear, instance_step, compared_at}
use Rattle.def_ground.specs.SumSides.{raised, compared_by_parts, compared_sums}
use Rattle.def_ground.specs.Thresholds.{compared_with_rows, flipped}
use Rattle.def_ground.proofs.LinearKeeps.{compared-keeps, compared-rows-keep, compared-beside-keeps}
use Rattle.def_ground.proofs.LinearKeeps.{instances-keep}
use Rattle.def_ground.specs.CaseSentences.{or_clause, answer_or_clauses, assert_cases}
use Rattle.def_ground.specs.CaseSentences.{assert_comparison, alike_clauses, assert_alike}
use Rattle.def_ground.specs.Disjuncts.{own_part, disjuncts_of, all_disjuncts}
use Rattle.def_ground.specs.Sentences.{are_few, parts_clause, assert_each, assert_of, assert_all, assert_any}
use Rattle.def_ground.specs.Sentences.{assert_sentences}
pub use Rattle.def_ground.proofs.KeepSteps.{Keeps, keeps-all, keeps-on, keeps-clause, keeps-clauses}
use Rattle.def_ground.proofs.KeepSteps.{grown, gate-keeps, cases-keep}

close-keeps : (all s : Bool) (ls : List Lit) (p q : ProblemState) → Keeps p q
    → Keeps p (close_parts all (record { settled = s; lits = ls; problem = q })).problem
close-keeps all true ls p q h = h
close-keeps all false ls p q h = keeps-on p q (gate_of all ls q).problem h (gate-keeps all ls q)

next-keeps : (s : Bool) (ls : List Lit) (p q : ProblemState) (rest : Parts) → Keeps p q → Keeps q rest.problem
    → Keeps p (if s then record { settled = true; lits = ls; problem = q } else rest).problem
next-keeps true ls p q rest h k = h
next-keeps false ls p q rest h k = keeps-on p q rest.problem h k

guards-keep : (bs : List (List Lit × Denotation)) (p : ProblemState) → Keeps p (guard_answers bs p).problem
guards-keep [] p = keeps-all p
guards-keep (r ∷ rs) p =
    let q = (gate_of true r.0 p).problem in
    keeps-on p q (guard_answers rs q).problem (gate-keeps true r.0 p) (guards-keep rs q)

comparison-keeps : (c : Cmp) (xs ys : List (List Lit × Denotation)) (p : ProblemState)
    → Keeps p (comparison_of c xs ys p).problem
comparison-keeps c [] ys p = keeps-all p
comparison-keeps c (x ∷ xs) ys p =
    let s = guard_answers ys p in
    let cs = map (comparison_case c s.rows) (x ∷ xs) in
    keeps-on p s.problem (cases_of cs s.problem).problem (guards-keep ys p) (cases-keep cs s.problem)

same-keeps : (x y : Answer) (p : ProblemState) → Keeps p (same_of x y p).problem
same-keeps (Constant true) y p = keeps-all p
same-keeps (Constant false) y p = keeps-all p
same-keeps (Literal l) (Constant true) p = keeps-all p
same-keeps (Literal l) (Constant false) p = keeps-all p
same-keeps (Literal l) (Literal m) p =
    let more = clauses_of_same (next_lit p) l m in grown p (p.vars + 1) p.gates (p.clauses ++ more) more refl

each-keeps : (G : List Elem → ProblemState → GroundResult)
    → ((a : List Elem) (p : ProblemState) → Keeps p (G a p).problem)
    → (all : Bool) (xs : List (List Elem)) (ls : List Lit) (p : ProblemState)
    → Keeps p (parts_each G all xs ls p).problem
each-keeps G h all [] ls p = keeps-all p
each-keeps G h all (a ∷ xs) ls p =
    let g = G a p in
    next-keeps (settles all g.answer) (with_answer g.answer ls) p g.problem
    (parts_each G all xs (with_answer g.answer ls) g.problem) (h a p)
    (each-keeps G h all xs (with_answer g.answer ls) g.problem)

result-keeps : (c : Bool) (p : ProblemState) (x y : GroundResult) → Keeps p x.problem → Keeps p y.problem
    → Keeps p (if c then x else y).problem
result-keeps true p x y h k = h
result-keeps false p x y h k = k

linear-keeps : (c : Bool) (p : ProblemState) (x y : Linear) → Keeps p x.problem → Keeps p y.problem
    → Keeps p (if c then x else y).problem
linear-keeps true p x y h k = h
linear-keeps false p x y h k = k

sides-keep : (ox oy : Option AggKind) (c : Cmp) (p : ProblemState) (left right both : Linear)
    (xs ys : List (List Lit × Denotation)) → Keeps p left.problem → Keeps p right.problem → Keeps p both.problem
    → Keeps p (compared_sides ox oy c left right both xs ys).problem
sides-keep (Some k) oy c p left right both xs ys l r m =
    keeps-on p left.problem (compared_with_rows k c left ys).problem l (compared-rows-keep k c left ys)
sides-keep None (Some k) c p left right both xs ys l r m =
    keeps-on p right.problem (compared_with_rows k (flipped c) right xs).problem r
    (compared-rows-keep k (flipped c) right xs)
sides-keep None None c p left right both xs ys l r m =
    keeps-on p both.problem (compared_sums c both xs ys).problem m (by-parts both.parts)
  where
    by-parts : (ps : List Part) → Keeps both.problem (compared_by_parts ps c both xs ys).problem
    by-parts [] = comparison-keeps c (map_rows (raised both.base) xs) ys both.problem
    by-parts (q ∷ ps) = compared-beside-keeps c both xs ys

module _ (b : GroundBase) where
  mutual
    pub form-keeps : (f : FormulaTree) (e : List Elem) (p : ProblemState) → Keeps p (form_of b f e p).problem
    form-keeps verum e p = keeps-all p
    form-keeps falsum e p = keeps-all p
    form-keeps (atom s ts) e p = cases-keep (map (atom_case b s) (rows_of_terms b ts e)) p
    form-keeps (comparison c x y) e p =
        let left = sums_of b (pos 1) x e (no_parts_yet p) in
        let right = sums_of b (pos 1) y e (no_parts_yet p) in
        let both = sums_of b (neg_ℤ (pos 1)) y e left in
        let one : Keeps p left.problem = sums-keep x e (pos 1) (no_parts_yet p) in
        result-keeps (has_aggregate x || has_aggregate y) p
        (compared_sides (extreme_of x) (extreme_of y) c left right both (rows_of_term b x e) (rows_of_term b y e))
        (comparison_of c (rows_of_term b x e) (rows_of_term b y e) p)
        (sides-keep (extreme_of x) (extreme_of y) c p left right both (rows_of_term b x e) (rows_of_term b y e) one
        (sums-keep y e (pos 1) (no_parts_yet p))
        (keeps-on p left.problem both.problem one (sums-keep y e (neg_ℤ (pos 1)) left)))
        (comparison-keeps c (rows_of_term b x e) (rows_of_term b y e) p)
    form-keeps (negation f) e p = form-keeps f e p
    form-keeps (conjunction fs) e p =
        let r = parts_of b true fs e [] p in close-keeps true r.settled r.lits p r.problem (parts-keep true fs e [] p)
    form-keeps (disjunction fs) e p =
        let r = parts_of b false fs e [] p in
        close-keeps false r.settled r.lits p r.problem (parts-keep false fs e [] p)
    form-keeps (implication f g) e p =
        let x = form_of b f e p in
        let a = opposite_result x in
        let ls = with_answer a.answer [] in
        let y = form_of b g e x.problem in
        let last = next-keeps (settles false y.answer) (with_answer y.answer ls) x.problem y.problem
        (no_more_parts (with_answer y.answer ls) y.problem) (form-keeps g e x.problem) (keeps-all y.problem) in
        let both = next-keeps (settles false a.answer) ls p x.problem (next_parts false y ls no_more_parts)
        (form-keeps f e p) last in
        let r = next_parts false a [] (λ xs q. next_parts false (form_of b g e q) xs no_more_parts) in
        close-keeps false r.settled r.lits p r.problem both
    form-keeps (equivalence f g) e p =
        let x = form_of b f e p in
        let y = form_of b g e x.problem in
        keeps-on p x.problem (same_of x.answer y.answer y.problem).problem (form-keeps f e p)
        (keeps-on x.problem y.problem (same_of x.answer y.answer y.problem).problem (form-keeps g e x.problem)
        (same-keeps x.answer y.answer y.problem))
    form-keeps (universal bs f) e p =
        let r = parts_each (λ a q. form_of b f (e ++ a) q) true (choices b.domains bs) [] p in
        close-keeps true r.settled r.lits p r.problem
        (each-keeps (λ a q. form_of b f (e ++ a) q) (λ a q. form-keeps f (e ++ a) q) true (choices b.domains bs) [] p)
    form-keeps (existential bs f) e p =
        let r = parts_each (λ a q. form_of b f (e ++ a) q) false (choices b.domains bs) [] p in
        close-keeps false r.settled r.lits p r.problem
        (each-keeps (λ a q. form_of b f (e ++ a) q) (λ a q. form-keeps f (e ++ a) q) false (choices b.domains bs) [] p)
    form-keeps (numbered c n bs f) e p =
        let F : List Elem → ProblemState → GroundResult = λ a q. form_of b f (e ++ a) q in
        let st = fold (instance_step kind.Count (pos 1) F (λ a. [])) (no_parts_yet p) (choices b.domains bs) in
        keeps-on p st.problem (compared_at kind.Count c st n).problem
        (instances-keep kind.Count (pos 1) F (λ a. []) (λ a q. form-keeps f (e ++ a) q) (choices b.domains bs)
        (no_parts_yet p)) (compared-keeps kind.Count c st n)

    parts-keep : (all : Bool) (fs : FormulaTrees) (e : List Elem) (ls : List Lit) (p : ProblemState)
        → Keeps p (parts_of b all fs e ls p).problem
    parts-keep all no_formulas e ls p = keeps-all p
    parts-keep all (more_formulas f fs) e ls p =
        let g = form_of b f e p in
        next-keeps (settles all g.answer) (with_answer g.answer ls) p g.problem
        (parts_of b all fs e (with_answer g.answer ls) g.problem) (form-keeps f e p)
        (parts-keep all fs e (with_answer g.answer ls) g.problem)

    -- the aggregates of a term
    pub sums-keep : (t : TermTree) (e : List Elem) (z : ℤ) (st : Linear) → Keeps st.problem (sums_of b z t e st).problem
    sums-keep (variable n) e z st = keeps-all st.problem
    sums-keep (integer y) e z st = keeps-all st.problem
    sums-keep (constructed ty n) e z st = keeps-all st.problem
    sums-keep (application s ts) e z st = keeps-all st.problem
    sums-keep (summation ss) e z st = operands-keep ss e z st
    sums-keep (product ts) e z st =
        linear-keeps (have_aggregates ts) st.problem (sums_of_factors b (z *ℤ integer_factor ts) ts e st) st
        (factors-keep ts e (z *ℤ integer_factor ts) st) (keeps-all st.problem)
    sums-keep (aggregate k bs f t) e z st =
        instances-keep k z (λ a q. form_of b f (e ++ a) q) (λ a. rows_of_term b t (e ++ a))
        (λ a q. form-keeps f (e ++ a) q) (choices b.domains bs) st

    operands-keep : (ss : SummandTrees) (e : List Elem) (z : ℤ) (st : Linear)
        → Keeps st.problem (sums_of_summands b z ss e st).problem
    operands-keep no_summands e z st = keeps-all st.problem
    operands-keep (more_summands minus t ss) e z st =
        let next = sums_of b (signed_of minus z) t e st in
        keeps-on st.problem next.problem (sums_of_summands b z ss e next).problem
        (sums-keep t e (signed_of minus z) st) (operands-keep ss e z next)

    factors-keep : (ts : TermTrees) (e : List Elem) (z : ℤ) (st : Linear)
        → Keeps st.problem (sums_of_factors b z ts e st).problem
    factors-keep no_terms e z st = keeps-all st.problem
    factors-keep (more_terms t ts) e z st =
        let next = sums_of b z t e st in
        keeps-on st.problem next.problem (sums_of_factors b z ts e next).problem (sums-keep t e z st)
        (factors-keep ts e z next)

-- assertions
signed-keeps : (sign : Bool) (p : ProblemState) (g : GroundResult) → Keeps p g.problem
    → Keeps p (signed_result sign g).problem
signed-keeps true p g h = h
signed-keeps false p g h = h

unless-keeps : (s : Bool) (p q r : ProblemState) → Keeps p q → Keeps q r → Keeps p (if s then q else r)
unless-keeps true p q r h k = h
unless-keeps false p q r h k = keeps-on p q r h k

or-keeps : (ls : List Lit) (p : ProblemState) (g : GroundResult) → Keeps p g.problem → Keeps p (or_clause ls g)
or-keeps ls p g h =
    unless-keeps (settles false g.answer) p g.problem (with_clause g.problem (with_answer g.answer ls)) h
    (keeps-clause g.problem (with_answer g.answer ls))

parts-clause-keeps : (p : ProblemState) (r : Parts) → Keeps p r.problem → Keeps p (parts_clause r)
parts-clause-keeps p r h =
    unless-keeps r.settled p r.problem (with_clause r.problem r.lits) h (keeps-clause r.problem r.lits)

either-keeps : (few : Bool) (p q r : ProblemState) → Keeps p q → Keeps p r → Keeps p (if few then q else r)
either-keeps true p q r h k = h
either-keeps false p q r h k = k

shown-keeps : (o : Option Answer) (sign : Bool) (ls : List Lit) (cs : List Case) (p : ProblemState)
    → Keeps p (answer_or_clauses o sign ls cs p)
shown-keeps (Some a) sign ls cs p =
    let g : GroundResult = record { answer = a; problem = p } in
    or-keeps ls p (signed_result sign g) (signed-keeps sign p g (keeps-all p))
shown-keeps None sign ls cs p =
    let more = clauses_saying sign ls cs in grown p p.vars p.gates (p.clauses ++ more) more refl

assert-cases-keep : (sign : Bool) (ls : List Lit) (cs : List Case) (p : ProblemState)
    → Keeps p (assert_cases sign ls cs p)
assert-cases-keep sign ls cs p = shown-keeps (answer_without cs) sign ls cs p

assert-comparison-keeps : (sign : Bool) (c : Cmp) (xs ys : List (List Lit × Denotation)) (ls : List Lit)
    (p : ProblemState) → Keeps p (assert_comparison sign c xs ys ls p)
assert-comparison-keeps sign c [] ys ls p =
    let g : GroundResult = record { answer = Constant true; problem = p } in
    or-keeps ls p (signed_result sign g) (signed-keeps sign p g (keeps-all p))
assert-comparison-keeps sign c (x ∷ xs) ys ls p =
    let s = guard_answers ys p in
    let cs = map (comparison_case c s.rows) (x ∷ xs) in
    keeps-on p s.problem (assert_cases sign ls cs s.problem) (guards-keep ys p)
    (assert-cases-keep sign ls cs s.problem)

alike-keeps : (sign : Bool) (x y : Answer) (ls : List Lit) (p : ProblemState)
    → Keeps p (assert_alike sign x y ls p)
alike-keeps sign (Constant c) y ls p =
    let g = same_of (Constant c) y p in
    or-keeps ls p (signed_result sign g) (signed-keeps sign p g (same-keeps (Constant c) y p))
alike-keeps sign (Literal l) (Constant c) ls p =
    let g = same_of (Literal l) (Constant c) p in
    or-keeps ls p (signed_result sign g) (signed-keeps sign p g (same-keeps (Literal l) (Constant c) p))
alike-keeps true (Literal l) (Literal m) ls p =
    let more = alike_clauses ls l m in grown p p.vars p.gates (p.clauses ++ more) more refl
alike-keeps false (Literal l) (Literal m) ls p =
    let more = alike_clauses ls l (negated m) in grown p p.vars p.gates (p.clauses ++ more) more refl

more-keep : (s : Bool) (p : ProblemState) (r t : Parts) → Keeps p r.problem → Keeps r.problem t.problem
    → Keeps p (if s then r else t).problem
more-keep true p r t h k = h
more-keep false p r t h k = keeps-on p r.problem t.problem h k

assert-each-keeps : (A : List Elem → ProblemState → ProblemState)
    → ((a : List Elem) (p : ProblemState) → Keeps p (A a p)) → (xs : List (List Elem)) (p : ProblemState)
    → Keeps p (assert_each A xs p)
assert-each-keeps A h [] p = keeps-all p
assert-each-keeps A h (a ∷ xs) p =
    keeps-on p (A a p) (assert_each A xs (A a p)) (h a p) (assert-each-keeps A h xs (A a p))

module _ (b : GroundBase) where
  leaf-keeps : (sign : Bool) (f : FormulaTree) (e : List Elem) (ls : List Lit) (p : ProblemState)
      → Keeps p (or_clause ls (signed_result sign (form_of b f e p)))
  leaf-keeps sign f e ls p =
      or-keeps ls p (signed_result sign (form_of b f e p)) (signed-keeps sign p (form_of b f e p) (form-keeps b f e p))

  own-keeps : (sign : Bool) (f : FormulaTree) (e : List Elem) (ls : List Lit) (p : ProblemState)
      → Keeps p (own_part b sign f e ls p).problem
  own-keeps sign f e ls p =
      let g = signed_result sign (form_of b f e p) in
      let xs = with_answer g.answer ls in
      next-keeps (settles false g.answer) xs p g.problem (no_more_parts xs g.problem)
      (signed-keeps sign p (form_of b f e p) (form-keeps b f e p)) (keeps-all g.problem)

  mutual
    disjuncts-keep : (sign : Bool) (f : FormulaTree) (e : List Elem) (ls : List Lit) (p : ProblemState)
        → Keeps p (disjuncts_of b sign f e ls p).problem
    disjuncts-keep sign verum e ls p = own-keeps sign verum e ls p
    disjuncts-keep sign falsum e ls p = own-keeps sign falsum e ls p
    disjuncts-keep sign (atom s ts) e ls p = own-keeps sign (atom s ts) e ls p
    disjuncts-keep sign (comparison c x y) e ls p = own-keeps sign (comparison c x y) e ls p
    disjuncts-keep sign (equivalence f g) e ls p = own-keeps sign (equivalence f g) e ls p
    disjuncts-keep sign (universal bs f) e ls p = own-keeps sign (universal bs f) e ls p
    disjuncts-keep sign (existential bs f) e ls p = own-keeps sign (existential bs f) e ls p
    disjuncts-keep sign (numbered c n bs f) e ls p = own-keeps sign (numbered c n bs f) e ls p
    disjuncts-keep true (negation f) e ls p = disjuncts-keep false f e ls p
    disjuncts-keep false (negation f) e ls p = disjuncts-keep true f e ls p
    disjuncts-keep true (conjunction fs) e ls p = own-keeps true (conjunction fs) e ls p
    disjuncts-keep false (conjunction fs) e ls p = all-disjuncts-keep false fs e ls p
    disjuncts-keep true (disjunction fs) e ls p = all-disjuncts-keep true fs e ls p
    disjuncts-keep false (disjunction fs) e ls p = own-keeps false (disjunction fs) e ls p
    disjuncts-keep true (implication f g) e ls p =
        let r = disjuncts_of b false f e ls p in
        more-keep r.settled p r (disjuncts_of b true g e r.lits r.problem) (disjuncts-keep false f e ls p)
        (disjuncts-keep true g e r.lits r.problem)
    disjuncts-keep false (implication f g) e ls p = own-keeps false (implication f g) e ls p

    all-disjuncts-keep : (sign : Bool) (fs : FormulaTrees) (e : List Elem) (ls : List Lit) (p : ProblemState)
        → Keeps p (all_disjuncts b sign fs e ls p).problem
    all-disjuncts-keep sign no_formulas e ls p = keeps-all p
    all-disjuncts-keep sign (more_formulas f fs) e ls p =
        let r = disjuncts_of b sign f e ls p in
        more-keep r.settled p r (all_disjuncts b sign fs e r.lits r.problem) (disjuncts-keep sign f e ls p)
        (all-disjuncts-keep sign fs e r.lits r.problem)

  parts-each-keep : (sign : Bool) (f : FormulaTree) (e : List Elem) (ls : List Lit) (xs : List (List Elem))
      (p : ProblemState)
      → Keeps p (parts_clause (parts_each (λ a q. signed_result sign (form_of b f (e ++ a) q)) false xs ls p))
  parts-each-keep sign f e ls xs p =
      parts-clause-keeps p (parts_each (λ a q. signed_result sign (form_of b f (e ++ a) q)) false xs ls p)
      (each-keeps (λ a q. signed_result sign (form_of b f (e ++ a) q))
      (λ a q. signed-keeps sign q (form_of b f (e ++ a) q) (form-keeps b f (e ++ a) q)) false xs ls p)

  mutual
    assert-keeps : (sign : Bool) (f : FormulaTree) (e : List Elem) (ls : List Lit) (p : ProblemState)
        → Keeps p (assert_of b sign f e ls p)
    assert-keeps true verum e ls p = keeps-all p
    assert-keeps false verum e ls p = keeps-clause p ls
    assert-keeps true falsum e ls p = keeps-clause p ls
    assert-keeps false falsum e ls p = keeps-all p
    assert-keeps sign (atom s ts) e ls p =
        assert-cases-keep sign ls (map (atom_case b s) (rows_of_terms b ts e)) p
    assert-keeps sign (comparison c x y) e ls p =
        either-keeps (has_aggregate x || has_aggregate y) p
        (or_clause ls (signed_result sign (form_of b (comparison c x y) e p)))
        (assert_comparison sign c (rows_of_term b x e) (rows_of_term b y e) ls p)
        (leaf-keeps sign (comparison c x y) e ls p)
        (assert-comparison-keeps sign c (rows_of_term b x e) (rows_of_term b y e) ls p)
    assert-keeps sign (equivalence f g) e ls p =
        let x = form_of b f e p in
        let y = form_of b g e x.problem in
        keeps-on p x.problem (assert_alike sign x.answer y.answer ls y.problem) (form-keeps b f e p)
        (keeps-on x.problem y.problem (assert_alike sign x.answer y.answer ls y.problem) (form-keeps b g e x.problem)
        (alike-keeps sign x.answer y.answer ls y.problem))
    assert-keeps sign (numbered c n bs f) e ls p = leaf-keeps sign (numbered c n bs f) e ls p
    assert-keeps true (negation f) e ls p = assert-keeps false f e ls p
    assert-keeps false (negation f) e ls p = assert-keeps true f e ls p
    assert-keeps true (conjunction fs) e ls p = all-keep true fs e ls p
    assert-keeps false (conjunction fs) e ls p = any-keep false fs e ls p
    assert-keeps true (disjunction fs) e ls p = any-keep true fs e ls p
    assert-keeps false (disjunction fs) e ls p = all-keep false fs e ls p
    assert-keeps true (implication f g) e ls p =
        let r = disjuncts_of b false f e ls p in
        let one = assert_of b true g e r.lits r.problem in
        let two = or_clause r.lits (signed_result true (form_of b g e r.problem)) in
        unless-keeps r.settled p r.problem (if are_few r.lits then one else two) (disjuncts-keep false f e ls p)
        (either-keeps (are_few r.lits) r.problem one two (assert-keeps true g e r.lits r.problem)
        (leaf-keeps true g e r.lits r.problem))
    assert-keeps false (implication f g) e ls p =
        let q = assert_of b true f e ls p in
        keeps-on p q (assert_of b false g e ls q) (assert-keeps true f e ls p) (assert-keeps false g e ls q)
    assert-keeps true (universal bs f) e ls p =
        assert-each-keeps (λ a q. assert_of b true f (e ++ a) ls q) (λ a q. assert-keeps true f (e ++ a) ls q)
        (choices b.domains bs) p
    assert-keeps false (universal bs f) e ls p = parts-each-keep false f e ls (choices b.domains bs) p
    assert-keeps true (existential bs f) e ls p = parts-each-keep true f e ls (choices b.domains bs) p
    assert-keeps false (existential bs f) e ls p =
        assert-each-keeps (λ a q. assert_of b false f (e ++ a) ls q) (λ a q. assert-keeps false f (e ++ a) ls q)
        (choices b.domains bs) p

    all-keep : (sign : Bool) (fs : FormulaTrees) (e : List Elem) (ls : List Lit) (p : ProblemState)
        → Keeps p (assert_all b sign fs e ls p)
    all-keep sign no_formulas e ls p = keeps-all p
    all-keep sign (more_formulas f fs) e ls p =
        let q = assert_of b sign f e ls p in
        keeps-on p q (assert_all b sign fs e ls q) (assert-keeps sign f e ls p) (all-keep sign fs e ls q)

    any-keep : (sign : Bool) (fs : FormulaTrees) (e : List Elem) (ls : List Lit) (p : ProblemState)
        → Keeps p (assert_any b sign fs e ls p)
    any-keep sign no_formulas e ls p = keeps-clause p ls
    any-keep sign (more_formulas f no_formulas) e ls p =
        either-keeps (are_few ls) p (assert_of b sign f e ls p) (or_clause ls (signed_result sign (form_of b f e p)))
        (assert-keeps sign f e ls p) (leaf-keeps sign f e ls p)
    any-keep sign (more_formulas f (more_formulas g fs)) e ls p =
        let r = disjuncts_of b sign f e ls p in
        unless-keeps r.settled p r.problem (assert_any b sign (more_formulas g fs) e r.lits r.problem)
        (disjuncts-keep sign f e ls p) (any-keep sign (more_formulas g fs) e r.lits r.problem)

  pub sentences-keep : (fs : List FormulaTree) (p : ProblemState) → Keeps p (assert_sentences b fs p)
  sentences-keep [] p = keeps-all p
  sentences-keep (f ∷ fs) p =
      let q = assert_of b true f [] [] p in
      keeps-on p q (assert_sentences b fs q) (assert-keeps true f [] [] p) (sentences-keep fs q)
