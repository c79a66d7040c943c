-- Steps over sentences.
use Rattle.std.proofs.Common.{◌≡◌, ℕ, ◌+◌, ◌<◌, Bool, true, false, List, [], ◌∷◌, ◌++◌, map, length, take, drop, fold}
use Rattle.std.proofs.Common.{get_or, if◌then◌else◌, refl, sym, ap, subst, ◌∙◌, append_assoc}
use Rattle.std.specs.Bool.{beq}
use Rattle.std.proofs.lemmas.List.{append-nil, at_drop_more, drop_more, take_at, take-append-drop}
use Rattle.kb_logic.specs.declared.elements.Elem.{Elem}
use Rattle.kb_logic.specs.declared.vocabularies.Bound.{Bound}
use Rattle.kb_logic.specs.Trees.{FormulaTree, verum, falsum, atom, comparison, negation, conjunction, disjunction}
use Rattle.kb_logic.specs.Trees.{implication, equivalence, universal, existential, numbered, FormulaTrees, no_formulas}
use Rattle.kb_logic.specs.Trees.{more_formulas, formulas_of}
use Rattle.kb_logic.specs.declared.syntax.Formula.{Formula}
use Rattle.kb_logic.specs.Views.{formula_view}
use Rattle.kb_logic.specs.Structures.{choices}
use Rattle.lit_core.specs.declared.literals.Lit.{Lit}
use Rattle.ground_core.specs.Problems.{ProblemState}
use Rattle.term_values.specs.GroundBases.{GroundBase}
use Rattle.def_ground.specs.declared.answers.Answer.{Answer}
use Rattle.def_ground.specs.declared.answers.Answer.TheVariants.{Constant, Literal}
use Rattle.def_ground.specs.Disjuncts.{own_part, disjuncts_of, all_disjuncts}
use Rattle.def_ground.specs.Forms.{Parts, settles, with_answer, no_more_parts, signed_result, form_of}
use Rattle.def_ground.specs.Sentences.{assert_of, assert_any, assert_each, parts_clause, unless_settled}
use Rattle.ground_walk.specs.Groundable.{AreGroundable}
use Rattle.ground_walk.specs.Steps.{MakesParts, with_part, open_parts, part_step, assert_step, assert_quantified}
use Rattle.ground_walk.proofs.FormSteps.{each-is-fold}

-- what is asserted under each assignment, as a fold
each-asserted : (A : List Elem → ProblemState → ProblemState) (xs : List (List Elem)) (p : ProblemState)
    → assert_each A xs p ≡ fold (λ q a. A a q) p xs
each-asserted A [] p = refl
each-asserted A (a ∷ xs) p = each-asserted A xs (A a p)

module _ (b : GroundBase) (bs : List Bound) (f : FormulaTree) (e : List Elem) (ls : List Lit) (p : ProblemState) where
  -- where each instance is asserted
  pub all-asserted : (all sign : Bool) → beq sign all ≡ true
      → fold (λ q x. assert_step b sign f ls q (e ++ x)) p (choices b.domains bs)
      ≡ assert_quantified all b sign bs f e ls p
  all-asserted true true h = sym (each-asserted (λ a q. assert_of b true f (e ++ a) ls q) (choices b.domains bs) p)
  all-asserted true false h = cc
  all-asserted false true h = cc
  all-asserted false false h = sym (each-asserted (λ a q. assert_of b false f (e ++ a) ls q) (choices b.domains bs) p)

  -- where some instance is
  pub some-asserted : (all sign : Bool) → beq sign all ≡ false
      → parts_clause (fold (λ r x. part_step b false sign f r (e ++ x)) (open_parts ls p) (choices b.domains bs))
      ≡ assert_quantified all b sign bs f e ls p
  some-asserted true true h = cc
  some-asserted true false h =
      sym (ap parts_clause
      (each-is-fold (λ a q. signed_result false (form_of b f (e ++ a) q)) false (choices b.domains bs) ls p))
  some-asserted false true h =
      sym (ap parts_clause (each-is-fold (λ a q. form_of b f (e ++ a) q) false (choices b.domains bs) ls p))
  some-asserted false false h = cc

-- literals that begin with others
abbrev pub Begins : List Lit → List Lit → Type 0
Begins ls all = (more : List Lit) × (all ≡ ls ++ more)

pub begins-itself : (ls : List Lit) → Begins ls ls
begins-itself ls = ([], sym (append-nil ls))

pub answer-begins : (ls all : List Lit) (a : Answer) → Begins ls all → Begins ls (with_answer a all)
answer-begins ls all (Constant c) h = h
answer-begins ls all (Literal l) h = (h.0 ++ l ∷ [], ap (λ xs. xs ++ l ∷ []) h.1 ∙ append_assoc ls h.0 (l ∷ []))

step-begins : (b : GroundBase) (all sign : Bool) (f : FormulaTree) (ls : List Lit) (r : Parts) (x : List Elem)
    → Begins ls r.lits → Begins ls (part_step b all sign f r x).lits
step-begins b all sign f ls r x h = by r.settled
  where
    by : (s : Bool) → Begins ls
        (if s then r else with_part all r.lits (signed_result sign (form_of b f x r.problem))).lits
    by true = h
    by false = answer-begins ls r.lits (signed_result sign (form_of b f x r.problem)).answer h

pub parts-begin : (b : GroundBase) (all sign : Bool) (f : FormulaTree) (e : List Elem) (ls : List Lit)
    (xs : List (List Elem)) (r : Parts) → Begins ls r.lits
    → Begins ls (fold (λ s x. part_step b all sign f s (e ++ x)) r xs).lits
parts-begin b all sign f e ls [] r h = h
parts-begin b all sign f e ls (x ∷ xs) r h =
    parts-begin b all sign f e ls xs (part_step b all sign f r (e ++ x)) (step-begins b all sign f ls r (e ++ x) h)

-- what they begin with
pub front-of : (ls all : List Lit) → Begins ls all → take (length ls) all ≡ ls
front-of ls all h = ap (take (length ls)) h.1 ∙ take_at ls h.0 (length ls) refl

pub front-begins : (ls all : List Lit) → take (length ls) all ≡ ls → Begins ls all
front-begins ls all h = (
  drop (length ls) all,
  sym (take-append-drop (length ls) all)
      ∙ ap (λ xs. xs ++ drop (length ls) all) h,
)

begins-by : (few : Bool) (ls : List Lit) (r t : Parts) → Begins ls r.lits → Begins ls t.lits
    → Begins ls (if few then r else t).lits
begins-by true ls r t h k = h
begins-by false ls r t h k = k

-- the literals of parts of a disjunction begin with those before them
module _ (b : GroundBase) (first : List Lit) where
  own-begins : (sign : Bool) (f : FormulaTree) (e : List Elem) (ls : List Lit) (p : ProblemState) → Begins first ls
      → Begins first (own_part b sign f e ls p).lits
  own-begins sign f e ls p h =
      let g = signed_result sign (form_of b f e p) in
      let xs = with_answer g.answer ls in
      let k = answer-begins first ls g.answer h in
      begins-by (settles false g.answer) first (record { settled = true; lits = xs; problem = g.problem })
      (no_more_parts xs g.problem) k k

  mutual
    pub disjuncts-begin : (sign : Bool) (f : FormulaTree) (e : List Elem) (ls : List Lit) (p : ProblemState)
        → Begins first ls → Begins first (disjuncts_of b sign f e ls p).lits
    disjuncts-begin sign verum e ls p h = own-begins sign verum e ls p h
    disjuncts-begin sign falsum e ls p h = own-begins sign falsum e ls p h
    disjuncts-begin sign (atom s ts) e ls p h = own-begins sign (atom s ts) e ls p h
    disjuncts-begin sign (comparison c x y) e ls p h = own-begins sign (comparison c x y) e ls p h
    disjuncts-begin sign (equivalence f g) e ls p h = own-begins sign (equivalence f g) e ls p h
    disjuncts-begin sign (universal bs f) e ls p h = own-begins sign (universal bs f) e ls p h
    disjuncts-begin sign (existential bs f) e ls p h = own-begins sign (existential bs f) e ls p h
    disjuncts-begin sign (numbered c n bs f) e ls p h = own-begins sign (numbered c n bs f) e ls p h
    disjuncts-begin true (negation f) e ls p h = disjuncts-begin false f e ls p h
    disjuncts-begin false (negation f) e ls p h = disjuncts-begin true f e ls p h
    disjuncts-begin true (conjunction fs) e ls p h = own-begins true (conjunction fs) e ls p h
    disjuncts-begin false (conjunction fs) e ls p h = all-begin false fs e ls p h
    disjuncts-begin true (disjunction fs) e ls p h = all-begin true fs e ls p h
    disjuncts-begin false (disjunction fs) e ls p h = own-begins false (disjunction fs) e ls p h
    disjuncts-begin true (implication f g) e ls p h =
        let r = disjuncts_of b false f e ls p in
        let one = disjuncts-begin false f e ls p h in
        begins-by r.settled first r (disjuncts_of b true g e r.lits r.problem) one
        (disjuncts-begin true g e r.lits r.problem one)
    disjuncts-begin false (implication f g) e ls p h = own-begins false (implication f g) e ls p h

    all-begin : (sign : Bool) (fs : FormulaTrees) (e : List Elem) (ls : List Lit) (p : ProblemState) → Begins first ls
        → Begins first (all_disjuncts b sign fs e ls p).lits
    all-begin sign no_formulas e ls p h = h
    all-begin sign (more_formulas f fs) e ls p h =
        let r = disjuncts_of b sign f e ls p in
        let one = disjuncts-begin sign f e ls p h in
        begins-by r.settled first r (all_disjuncts b sign fs e r.lits r.problem) one
        (all-begin sign fs e r.lits r.problem one)

-- a disjunction of the formula and those that are left
any-more : (b : GroundBase) (sign : Bool) (x : Formula) (ys : List Formula) (z : Formula) (e : List Elem)
    (ls : List Lit) (p : ProblemState)
    → assert_any b sign (formulas_of (map formula_view (x ∷ (ys ++ z ∷ [])))) e ls p
    ≡ unless_settled (disjuncts_of b sign (formula_view x) e ls p)
    (λ xs q. assert_any b sign (formulas_of (map formula_view (ys ++ z ∷ []))) e xs q)
any-more b sign x [] z e ls p = refl
any-more b sign x (y ∷ ys) z e ls p = refl

pub any-next : (b : GroundBase) (sign : Bool) (others : List Formula) (z : Formula) (e : List Elem) (ls : List Lit)
    (p : ProblemState) (i : ℕ) (x : Formula) → i < length others → x ≡ get_or others i x
    → assert_any b sign (formulas_of (map formula_view (drop i others ++ z ∷ []))) e ls p
    ≡ unless_settled (disjuncts_of b sign (formula_view x) e ls p)
    (λ xs q. assert_any b sign (formulas_of (map formula_view (drop (i + 1) others ++ z ∷ []))) e xs q)
any-next b sign others z e ls p i x h is =
    let A : List Formula → ProblemState =
    λ ys. assert_any b sign (formulas_of (map formula_view (ys ++ z ∷ []))) e ls p in
    at_drop_more A others i x h ∙ ap (λ y. A (y ∷ drop (i + 1) others)) (sym is)
    ∙ any-more b sign x (drop (i + 1) others) z e ls p

-- what comes next, by the parts of the call
pub unless-stops : (r : Parts) (rest : List Lit → ProblemState → ProblemState) (s : Bool) (xs : List Lit)
    (q : ProblemState) → MakesParts r s xs q → s ≡ true → unless_settled r rest ≡ q
unless-stops r rest s xs q made h =
    ap (λ t. if t then r.problem else rest r.lits r.problem) (sym made.0 ∙ h) ∙ sym made.2

pub unless-goes-on : (r : Parts) (rest : List Lit → ProblemState → ProblemState) (s : Bool) (xs : List Lit)
    (q : ProblemState) → MakesParts r s xs q → s ≡ false → unless_settled r rest ≡ rest xs q
unless-goes-on r rest s xs q made h =
    ap (λ t. if t then r.problem else rest r.lits r.problem) (sym made.0 ∙ h)
    ∙ ap (λ ls. rest ls r.problem) (sym made.1) ∙ ap (λ p. rest xs p) (sym made.2)

-- the formulas that are left can be grounded
pub groundable-next : (b : GroundBase) (others : List Formula) (z : Formula) (e : List Elem) (i : ℕ) (x : Formula)
    → i < length others → AreGroundable b (formulas_of (map formula_view (drop i others ++ z ∷ []))) e
    → AreGroundable b (formulas_of (map formula_view (drop (i + 1) others ++ z ∷ []))) e
groundable-next b others z e i x h all =
    (subst (λ fs. AreGroundable b (formulas_of (map formula_view (fs ++ z ∷ []))) e) (drop_more others i x h) all).1
