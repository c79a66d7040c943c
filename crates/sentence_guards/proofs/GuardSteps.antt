-- Steps over the parts of disjunctions, of which some settle the whole.
use Rattle.std.proofs.Common.{◌≡◌, ℕ, ◌+◌, ◌<◌, ◌≤◌, Bool, true, false, ◌&&◌, ◌||◌, not, if◌then◌else◌, List, []}
use Rattle.std.proofs.Common.{◌∷◌, ◌++◌, map, drop, length, get_or, Some, refl, sym, ap, subst, ◌∙◌, pos, neg_ℤ}
use Rattle.std.proofs.lemmas.List.{at_drop_more, drop_all}
use Rattle.kb_logic.specs.declared.elements.Elem.{Elem}
use Rattle.kb_logic.specs.declared.syntax.Cmp.{Cmp}
use Rattle.kb_logic.specs.declared.syntax.Formula.{Formula}
use Rattle.kb_logic.specs.Denotations.{Denotation, compared}
use Rattle.kb_logic.specs.Trees.{TermTree, variable, integer, constructed, application, summation, product, aggregate}
use Rattle.kb_logic.specs.Trees.{TermTrees, no_terms, more_terms, FormulaTree}
use Rattle.kb_logic.specs.Trees.{atom, comparison, negation, implication}
use Rattle.kb_logic.specs.Trees.{terms_of, formulas_of}
use Rattle.kb_logic.specs.Views.{formula_view, term_view}
use Rattle.lit_core.specs.declared.literals.Lit.{Lit}
use Rattle.ground_core.specs.Problems.{ProblemState}
use Rattle.term_values.specs.GroundBases.{GroundBase, row_index, tuples_at}
use Rattle.term_values.specs.Rows.{pair_rows, rows_of_term, rows_of_terms}
use Rattle.row_ranges.specs.Arguments.{argument_value, argument_values}
use Rattle.def_ground.specs.declared.answers.Answer.{Answer}
use Rattle.def_ground.specs.declared.answers.Answer.TheVariants.{Constant, Literal}
use Rattle.def_ground.specs.Answers.{GroundResult, opposite_of}
use Rattle.def_ground.specs.Cases.{answer_or_cases, answer_without, case_of, cases_of}
use Rattle.def_ground.specs.Comparisons.{comparison_of, side_where}
use Rattle.def_ground.specs.Counting.{extreme_of, has_aggregate}
use Rattle.def_ground.specs.Disjuncts.{all_disjuncts, disjuncts_of, more_parts}
use Rattle.def_ground.specs.Forms.{Parts, atom_answer, atom_case, form_of, next_parts, no_more_parts, opposite_result}
use Rattle.def_ground.specs.Forms.{compared_sides, no_parts_yet, settles, signed_result, sums_of, with_answer}
use Rattle.def_ground.specs.Sentences.{are_few, assert_any, assert_of, unless_settled}
use Rattle.def_ground.specs.CaseSentences.{or_clause}
use Rattle.sentence_guards.specs.declared.guards.Guard.{Guard}
use Rattle.sentence_guards.specs.declared.guards.Part.{Part}
use Rattle.sentence_guards.specs.declared.guards.Part.TheVariants.{Found, Quiet, Other}
use Rattle.sentence_guards.specs.Guards.{is_leaf, are_leaves, IsGuard, AreGuarded, Settles}
use Rattle.sentence_guards.specs.Guards.{Leaves, IsFound, IsPart, AreParts}

-- ---- parts one after another
module _ (r : Parts) (rest : List Lit → ProblemState → Parts) (p : ProblemState) (left : r.problem ≡ p) where
  settled-first : r.settled ≡ true → ((more_parts r rest).settled ≡ true) × ((more_parts r rest).problem ≡ p)
  settled-first s = (
    ap (λ (c : Bool). (if c then r else rest r.lits r.problem).settled) s ∙ s,
    ap (λ (c : Bool). (if c then r else rest r.lits r.problem).problem) s ∙ left,
  )

  settled-later : Settles rest → ((more_parts r rest).settled ≡ true) × ((more_parts r rest).problem ≡ p)
  settled-later later = by r.settled refl
    where
      by : (c : Bool) → r.settled ≡ c → ((more_parts r rest).settled ≡ true) × ((more_parts r rest).problem ≡ p)
      by true s = settled-first s
      by false s = (
        ap (λ (c : Bool). (if c then r else rest r.lits r.problem).settled) s ∙ (later r.lits r.problem).0,
        ap (λ (c : Bool). (if c then r else rest r.lits r.problem).problem) s ∙ ((later r.lits r.problem).1 ∙ left),
      )

  left-both : Leaves rest → (more_parts r rest).problem ≡ p
  left-both later = by r.settled
    where
      by : (c : Bool) → (if c then r else rest r.lits r.problem).problem ≡ p
      by true = left
      by false = later r.lits r.problem ∙ left

module _ (b : GroundBase) (D : List Elem → List Lit → ProblemState → Parts)
    (E : List Elem → List Lit → ProblemState → Parts) where
  -- a quiet part, and then the rest
  pub quiet-then : (r : Part) → IsFound b D Quiet → IsFound b E r
      → IsFound b (λ e ls p. more_parts (D e ls p) (E e)) r
  quiet-then (Found g) h k = λ e known ls p. settled-later (D e ls p) (E e) p (h e ls p) (k e known)
  quiet-then Quiet h k = λ e ls p. left-both (D e ls p) (E e) p (h e ls p) (k e)
  quiet-then Other h k = tt

  -- a part that settles the whole
  pub found-first : (g : Guard) → IsFound b D (Found g) → IsFound b (λ e ls p. more_parts (D e ls p) (E e)) (Found g)
  found-first g h = λ e known ls p.
      settled-first (D e ls p) (E e) p (h e known ls p).1 (h e known ls p).0

-- ---- one part
signed-problem : (sign : Bool) (g : GroundResult) (p : ProblemState) → g.problem ≡ p
    → (signed_result sign g).problem ≡ p
signed-problem true g p h = h
signed-problem false g p h = h

abbrev settled_parts : List Lit → ProblemState → Parts
settled_parts xs q = record { settled = true; lits = xs; problem = q }

own-leaves : (g : GroundResult) (ls : List Lit) (p : ProblemState) → g.problem ≡ p
    → (next_parts false g ls no_more_parts).problem ≡ p
own-leaves g ls p h = by (settles false g.answer)
  where
    by : (c : Bool) → (if c then settled_parts (with_answer g.answer ls) g.problem
        else no_more_parts (with_answer g.answer ls) g.problem).problem ≡ p
    by true = h
    by false = h

own-settles : (g : GroundResult) (ls : List Lit) (p : ProblemState) → g.answer ≡ Constant true → g.problem ≡ p
    → ((next_parts false g ls no_more_parts).settled ≡ true) × ((next_parts false g ls no_more_parts).problem ≡ p)
own-settles g ls p a h = (
  ap (λ (c : Bool). (if c then settled_parts (with_answer g.answer ls) g.problem
      else no_more_parts (with_answer g.answer ls) g.problem).settled) (ap (settles false) a),
  own-leaves g ls p h,
)

-- ---- atoms and comparisons of leaves
leaf-row : (b : GroundBase) (t : TermTree) (e : List Elem) → is_leaf t ≡ true
    → rows_of_term b t e ≡ ([], argument_value b.domains t e) ∷ []
leaf-row b (variable n) e h = refl
leaf-row b (integer z) e h = refl
leaf-row b (constructed ty n) e h = refl
leaf-row b (application s ts) e h = cc
leaf-row b (summation ss) e h = cc
leaf-row b (product ts) e h = cc
leaf-row b (aggregate k bs f t) e h = cc

pub both-true : (a c : Bool) → (a && c) ≡ true → (a ≡ true) × (c ≡ true)
both-true true true h = (refl, refl)
both-true true false h = cc
both-true false c h = cc

leaf-rows : (b : GroundBase) (ts : TermTrees) (e : List Elem) → are_leaves ts ≡ true
    → rows_of_terms b ts e ≡ ([], argument_values b.domains ts e) ∷ []
leaf-rows b no_terms e h = refl
leaf-rows b (more_terms t ts) e h =
    let both = both-true (is_leaf t) (are_leaves ts) h in
    ap (λ (xs : List (List Lit × Denotation)). pair_rows (λ (x : Denotation) (vs : List Denotation). x ∷ vs) xs
    (rows_of_terms b ts e))
    (leaf-row b t e both.0)
    ∙ ap (λ (ys : List (List Lit × List Denotation)). pair_rows (λ (x : Denotation) (vs : List Denotation). x ∷ vs)
    (([], argument_value b.domains t e) ∷ []) ys) (leaf-rows b ts e both.1)

one-case : (a : Answer) → answer_without (case_of [] a ∷ []) ≡ Some a
one-case (Constant true) = refl
one-case (Constant false) = refl
one-case (Literal l) = refl

atom-form : (b : GroundBase) (s : ℕ) (ts : TermTrees) (e : List Elem) (p : ProblemState) → are_leaves ts ≡ true
    → form_of b (atom s ts) e p
    ≡ record { answer = atom_answer b s (row_index (tuples_at b s) (argument_values b.domains ts e)); problem = p }
atom-form b s ts e p h =
    let a = atom_answer b s (row_index (tuples_at b s) (argument_values b.domains ts e)) in
    ap (λ (rs : List (List Lit × List Denotation)). cases_of (map (atom_case b s) rs) p) (leaf-rows b ts e h)
    ∙ ap (λ o. answer_or_cases o (case_of [] a ∷ []) p) (one-case a)

pub atom-quiet : (b : GroundBase) (sign : Bool) (s : ℕ) (ts : TermTrees) → are_leaves ts ≡ true
    → IsPart b sign (atom s ts) Quiet
atom-quiet b sign s ts h e ls p =
    own-leaves (signed_result sign (form_of b (atom s ts) e p)) ls p
    (signed-problem sign (form_of b (atom s ts) e p) p (ap (λ (g : GroundResult). g.problem) (atom-form b s ts e p h)))

pub atom-found : (b : GroundBase) (g : Guard) → are_leaves (terms_of (map term_view g.args.now)) ≡ true
    → IsPart b false (atom g.symbol (terms_of (map term_view g.args.now))) (Found g)
atom-found b g h e known ls p =
    let ts = terms_of (map term_view g.args.now) in
    let form = atom-form b g.symbol ts e p h in
    own-settles (opposite_result (form_of b (atom g.symbol ts) e p)) ls p
    (ap (λ (r : GroundResult). (opposite_result r).answer) form
    ∙ ap opposite_of known)
    (ap (λ (r : GroundResult). r.problem) form)

no-aggregate : (t : TermTree) → is_leaf t ≡ true → has_aggregate t ≡ false
no-aggregate (variable n) h = refl
no-aggregate (integer z) h = refl
no-aggregate (constructed ty n) h = refl
no-aggregate (application s ts) h = cc
no-aggregate (summation ss) h = cc
no-aggregate (product ts) h = cc
no-aggregate (aggregate k bs f t) h = cc

compared-leaves : (c : Cmp) (v w : Denotation) (p : ProblemState)
    → (comparison_of c (([], v) ∷ []) (([], w) ∷ []) p).problem ≡ p
compared-leaves c v w p = by (compared c v w)
  where
    by : (t : Bool)
        → (cases_of (record {
          guards = [];
          yes = side_where (λ y. t) ((Constant true, w) ∷ []);
          no = side_where (λ y. not t) ((Constant true, w) ∷ []);
        } ∷ []) p).problem ≡ p
    by true = refl
    by false = refl

-- what a comparison with aggregates comes to
abbrev with-sums : GroundBase → Cmp → TermTree → TermTree → List Elem → ProblemState → GroundResult
with-sums b c x y e p =
    let left = sums_of b (pos 1) x e (no_parts_yet p) in
    compared_sides (extreme_of x) (extreme_of y) c left (sums_of b (pos 1) y e (no_parts_yet p))
    (sums_of b (neg_ℤ (pos 1)) y e left) (rows_of_term b x e) (rows_of_term b y e)

pub comparison-quiet : (b : GroundBase) (sign : Bool) (c : Cmp) (x y : TermTree) → is_leaf x ≡ true → is_leaf y ≡ true
    → IsPart b sign (comparison c x y) Quiet
comparison-quiet b sign c x y hx hy e ls p =
    own-leaves (signed_result sign (form_of b (comparison c x y) e p)) ls p
    (signed-problem sign (form_of b (comparison c x y) e p) p form)
  where
    plain : (xs ys : Bool) (g : GroundResult) → xs ≡ false → ys ≡ false
        → (if xs || ys then g else comparison_of c (rows_of_term b x e) (rows_of_term b y e) p).problem
        ≡ (comparison_of c (rows_of_term b x e) (rows_of_term b y e) p).problem
    plain true ys g h k = cc
    plain false true g h k = cc
    plain false false g h k = refl

    form : (form_of b (comparison c x y) e p).problem ≡ p
    form =
        plain (has_aggregate x) (has_aggregate y) (with-sums b c x y e p) (no-aggregate x hx) (no-aggregate y hy)
        ∙ (ap (λ (xs : List (List Lit × Denotation)). (comparison_of c xs (rows_of_term b y e) p).problem)
        (leaf-row b x e hx)
        ∙ (ap (λ (ys : List (List Lit × Denotation)). (comparison_of c (([], argument_value b.domains x e) ∷ []) ys
        p).problem) (leaf-row b y e hy)
        ∙ compared-leaves c (argument_value b.domains x e) (argument_value b.domains y e) p))

pub negation-part : (b : GroundBase) (sign : Bool) (f : FormulaTree) (r : Part) → IsPart b (not sign) f r
    → IsPart b sign (negation f) r
negation-part b true f r h = h
negation-part b false f r h = h

-- ---- sentences
unless-left : (r : Parts) (rest : List Lit → ProblemState → ProblemState) (p : ProblemState) → r.settled ≡ true
    → r.problem ≡ p → unless_settled r rest ≡ p
unless-left r rest p s left = ap (λ (c : Bool). if c then r.problem else rest r.lits r.problem) s ∙ left

pub implied-guard : (b : GroundBase) (f g : FormulaTree) (a : Guard) → IsPart b false f (Found a)
    → IsGuard b true (implication f g) a.symbol (terms_of (map term_view a.args.now))
implied-guard b f g a h e known ls p =
    unless-left (disjuncts_of b false f e ls p)
    (λ xs q. if are_few xs then assert_of b true g e xs q else or_clause xs (signed_result true (form_of b g e q))) p
    (h e known ls p).0 (h e known ls p).1

pub negated-guard : (b : GroundBase) (sign : Bool) (f : FormulaTree) (s : ℕ) (ts : TermTrees)
    → IsGuard b (not sign) f s ts → IsGuard b sign (negation f) s ts
negated-guard b true f s ts h = h
negated-guard b false f s ts h = h

any-more : (b : GroundBase) (sign : Bool) (x : Formula) (ys : List Formula) (z : Formula) (e : List Elem)
    (ls : List Lit) (p : ProblemState)
    → assert_any b sign (formulas_of (map formula_view (x ∷ (ys ++ z ∷ [])))) e ls p
    ≡ unless_settled (disjuncts_of b sign (formula_view x) e ls p)
    (λ xs q. assert_any b sign (formulas_of (map formula_view (ys ++ z ∷ []))) e xs q)
any-more b sign x [] z e ls p = refl
any-more b sign x (y ∷ ys) z e ls p = refl

any-step : (r : Parts) (rest : List Lit → ProblemState → Parts) (said : List Lit → ProblemState → ProblemState)
    → ((rest r.lits r.problem).settled ≡ true → said r.lits r.problem ≡ (rest r.lits r.problem).problem)
    → (more_parts r rest).settled ≡ true → unless_settled r said ≡ (more_parts r rest).problem
any-step r rest said later h = by r.settled refl
  where
    by : (c : Bool) → r.settled ≡ c → unless_settled r said ≡ (more_parts r rest).problem
    by true s =
        ap (λ (c : Bool). if c then r.problem else said r.lits r.problem) s
        ∙ sym (ap (λ (c : Bool). (if c then r else rest r.lits r.problem).problem) s)
    by false s =
        let settled : (rest r.lits r.problem).settled ≡ true =
        sym (ap (λ (c : Bool). (if c then r else rest r.lits r.problem).settled) s) ∙ h in
        ap (λ (c : Bool). if c then r.problem else said r.lits r.problem) s
        ∙ (later settled ∙ sym (ap (λ (c : Bool). (if c then r else rest r.lits r.problem).problem) s))

any-settled : (b : GroundBase) (sign : Bool) (others : List Formula) (z : Formula) (e : List Elem) (ls : List Lit)
    (p : ProblemState)
    → (all_disjuncts b sign (formulas_of (map formula_view others)) e ls p).settled ≡ true
    → assert_any b sign (formulas_of (map formula_view (others ++ z ∷ []))) e ls p
    ≡ (all_disjuncts b sign (formulas_of (map formula_view others)) e ls p).problem
any-settled b sign [] z e ls p h = cc
any-settled b sign (x ∷ others) z e ls p h =
    let r = disjuncts_of b sign (formula_view x) e ls p in
    any-more b sign x others z e ls p
    ∙ any-step r (λ xs q. all_disjuncts b sign (formulas_of (map formula_view others)) e xs q)
    (λ xs q. assert_any b sign (formulas_of (map formula_view (others ++ z ∷ []))) e xs q)
    (any-settled b sign others z e r.lits r.problem) h

pub others-guard : (b : GroundBase) (sign : Bool) (all others : List Formula) (z : Formula) (g : Guard)
    → all ≡ others ++ z ∷ [] → AreParts b sign (formulas_of (map formula_view others)) (Found g)
    → AreGuarded b sign (formulas_of (map formula_view all)) g.symbol (terms_of (map term_view g.args.now))
others-guard b sign all others z g is h e known ls p =
    let settled = h e known ls p in
    ap (λ fs. assert_any b sign (formulas_of (map formula_view fs)) e ls p) is
    ∙ (any-settled b sign others z e ls p settled.0 ∙ settled.1)

-- ---- the parts that are left
pub parts-next : (b : GroundBase) (sign : Bool) (fs : List Formula) (i : ℕ) (x : Formula) (r : Part) → i < length fs
    → x ≡ get_or fs i x → IsPart b sign (formula_view x) Quiet
    → AreParts b sign (formulas_of (map formula_view (drop (i + 1) fs))) r
    → AreParts b sign (formulas_of (map formula_view (drop i fs))) r
parts-next b sign fs i x r h is quiet later =
    subst (λ ys. AreParts b sign (formulas_of (map formula_view ys)) r)
    (sym (at_drop_more (λ ys. ys) fs i x h ∙ ap (λ y. y ∷ drop (i + 1) fs) (sym is)))
    (quiet-then b (λ e. disjuncts_of b sign (formula_view x) e)
    (λ e. all_disjuncts b sign (formulas_of (map formula_view (drop (i + 1) fs))) e) r quiet later)

pub parts-found : (b : GroundBase) (sign : Bool) (fs : List Formula) (i : ℕ) (x : Formula) (g : Guard) → i < length fs
    → x ≡ get_or fs i x → IsPart b sign (formula_view x) (Found g)
    → AreParts b sign (formulas_of (map formula_view (drop i fs))) (Found g)
parts-found b sign fs i x g h is found =
    subst (λ ys. AreParts b sign (formulas_of (map formula_view ys)) (Found g))
    (sym (at_drop_more (λ ys. ys) fs i x h ∙ ap (λ y. y ∷ drop (i + 1) fs) (sym is)))
    (found-first b (λ e. disjuncts_of b sign (formula_view x) e)
    (λ e. all_disjuncts b sign (formulas_of (map formula_view (drop (i + 1) fs))) e) g found)

pub parts-end : (b : GroundBase) (sign : Bool) (fs : List Formula) (i : ℕ) → length fs ≤ i
    → AreParts b sign (formulas_of (map formula_view (drop i fs))) Quiet
parts-end b sign fs i h =
    subst (λ ys. AreParts b sign (formulas_of (map formula_view ys)) Quiet) (sym (drop_all i fs h)) (λ e ls p. refl)

-- ---- an implication as a part
pub implied-next : (b : GroundBase) (f g : FormulaTree) (r : Part) → IsPart b false f Quiet → IsPart b true g r
    → IsPart b true (implication f g) r
implied-next b f g r quiet later =
    quiet-then b (λ e. disjuncts_of b false f e) (λ e. disjuncts_of b true g e) r quiet later

pub implied-found : (b : GroundBase) (f g : FormulaTree) (a : Guard) → IsPart b false f (Found a)
    → IsPart b true (implication f g) (Found a)
implied-found b f g a h =
    found-first b (λ e. disjuncts_of b false f e) (λ e. disjuncts_of b true g e) a h
