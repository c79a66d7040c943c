-- What is known of a problem stays known where it grows.
use Rattle.std.proofs.Common.{◌≡◌, ℕ, zero, suc, ◌+◌, ◌<◌, ◌≤◌, Bool, not, List, [], ◌∷◌, ◌++◌, All, Contains, length}
use Rattle.std.proofs.Common.{get_or, sym, ap, ◌∙◌, subst, arith}
use Rattle.std.proofs.Math.Numerals.{add-one}
use Rattle.std.proofs.lemmas.List.Elements.{All-nil, All-push, All-weaker, All-contains}
use Rattle.kb_logic.specs.declared.elements.ExtInt.{ExtInt}
use Rattle.lit_core.specs.declared.literals.Lit.{Lit}
use Rattle.lit_core.specs.Literals.{negated, valuation}
use Rattle.ground_core.specs.declared.parts.TermBound.{TermBound}
use Rattle.ground_core.specs.Problems.{ProblemState, IsProblem, IsLitOf, AreLitsOf}
use Rattle.ground_core.specs.Growth.{next_lit, with_bound, with_exclusion, falsified_by}
use Rattle.ground_core.specs.Growing.{IsSelector, with_retired}
use Rattle.ground_core.proofs.AdditionFacts.{nothing-added}
use Rattle.ground_core.proofs.GrowthFacts.{exclusions-select, say-no-more}
use Rattle.solving_judge.specs.declared.additions.Marks.{Marks}
use Rattle.solving_judge.specs.Marking.{AreMarks}

one-more : (n : ℕ) (ls : List Lit) → AreLitsOf n ls → AreLitsOf (n + 1) ls
one-more n ls h = λ k d lt. let x = h k d lt in let y : (get_or ls k d).var.0 ≤ n = x.1 in (x.0, omega (arith, y))

falsified-within : (values : List Bool) (n : ℕ) → AreLitsOf n (falsified_by values n)
falsified-within values zero = All-nil (IsLitOf zero)
falsified-within values (suc n) = subst (λ (m : ℕ). AreLitsOf m (falsified_by values (suc n))) (add-one n)
    (All-push (IsLitOf (n + 1)) (falsified_by values n) (record {
      var = record { 0 = suc n };
      positive =
          not (valuation values (suc n));
    }) (one-more n (falsified_by values n) (falsified-within values n)) (
      omega arith,
      omega arith,
    ))

-- a selector stays one where one more bound is added
stays-bounded : (p : ProblemState) (term : ℕ) (n : ExtInt) (l : Lit) → IsSelector p l
    → IsSelector (with_bound p term n) l
stays-bounded p term n l h = record {
  positive = h.positive;
  within = (h.within.0, let x : l.var.0 ≤ p.vars = h.within.1 in omega (arith, x));
  atoms = h.atoms;
  gates = h.gates;
  clauses = h.clauses;
  sums = h.sums;
  terms = h.terms;
  bounds = All-push (λ (b : TermBound). b.out.var.0 ≡ l.var.0 → b.out ≡ l) p.bounds (record {
    out = next_lit p;
    term = term;
    below = n;
  }) h.bounds (λ e. absurd (let x : l.var.0 ≤ p.vars = h.within.1 in let y : p.vars + 1 ≡ l.var.0 = e in
      omega (arith, x, y)));
}

-- and where more is excluded
stays-excluded : (p : ProblemState) (values : List Bool) (l : Lit) → IsSelector p l
    → IsSelector (with_exclusion p values) l
stays-excluded p values l h = record {
  positive = h.positive;
  within = (h.within.0, let x : l.var.0 ≤ p.vars = h.within.1 in omega (arith, x));
  atoms = h.atoms;
  gates = h.gates;
  clauses = All-push (λ (c : List Lit). Contains c l → ⊥) p.clauses (negated (next_lit p) ∷ falsified_by values
      (length p.atoms)) h.clauses nowhere;
  sums = h.sums;
  terms = h.terms;
  bounds = h.bounds;
}
  where
    nowhere : Contains (negated (next_lit p) ∷ falsified_by values (length p.atoms)) l → ⊥
    nowhere has = at has.0 has.1 has.2
      where
        at : (i : ℕ) → i < length (negated (next_lit p) ∷ falsified_by values (length p.atoms))
            → get_or (negated (next_lit p) ∷ falsified_by values (length p.atoms)) i l ≡ l → ⊥
        at zero lt e = let x : l.var.0 ≤ p.vars = h.within.1 in let y : p.vars + 1 ≡ l.var.0 =
            ap (λ (k : Lit). k.var.0) e in omega (arith, x, y)
        at (suc i) lt e =
            let x : l.var.0 ≤ length p.atoms = (All-contains (IsLitOf (length p.atoms))
            (falsified_by values (length p.atoms)) l (falsified-within values (length p.atoms))
            (i, omega (arith, lt), e)).1 in
            let y : length p.atoms < l.var.0 = h.atoms in omega (arith, x, y)

-- the marks before, and those with one more selector
module _ (p q : ProblemState) (fine : IsProblem p) (m n : Marks) (h : AreMarks p m) (atoms : n.atoms ≡ m.atoms)
    (vars : n.vars ≡ p.vars + 1) (terms : n.terms ≡ m.terms)
    (selectors : n.selectors.items ≡ m.selectors.items ++ next_lit p ∷ [])
    (retired : n.retired.items ≡ m.retired.items) where
  pub bounded-marks : (term : ℕ) (below : ExtInt) → term < length p.terms → q ≡ with_bound p term below → AreMarks q n
  bounded-marks term below lt is = subst (λ (r : ProblemState). AreMarks r n) (sym is) (record {
    atoms = h.atoms ∙ sym atoms;
    vars = sym vars;
    terms = h.terms ∙ sym terms;
    selectors = subst (All (IsSelector (with_bound p term below))) (sym selectors)
        (All-push (IsSelector (with_bound p term below)) m.selectors.items (next_lit p)
        (All-weaker (IsSelector p) (IsSelector (with_bound p term below)) (stays-bounded p term below)
        m.selectors.items h.selectors)
        (say-no-more p p term below fine (nothing-added p).conserves lt).selector);
    retired = h.retired ∙ sym retired;
  })

  pub excluded-marks : (values : List Bool) → q ≡ with_exclusion p values → AreMarks q n
  excluded-marks values is = subst (λ (r : ProblemState). AreMarks r n) (sym is) (record {
    atoms = h.atoms ∙ sym atoms;
    vars = sym vars;
    terms = h.terms ∙ sym terms;
    selectors = subst (All (IsSelector (with_exclusion p values))) (sym selectors)
        (All-push (IsSelector (with_exclusion p values)) m.selectors.items (next_lit p)
        (All-weaker (IsSelector p) (IsSelector (with_exclusion p values)) (stays-excluded p values)
        m.selectors.items h.selectors)
        (exclusions-select p p values fine (nothing-added p).conserves).selector);
    retired = h.retired ∙ sym retired;
  })

-- a selector is none the less one where some are retired
pub still-selector : (p : ProblemState) (k l : Lit) → IsSelector p l → IsSelector (with_retired p k) l
still-selector p k l h = record {
  positive = h.positive;
  within = h.within;
  atoms = h.atoms;
  gates = h.gates;
  clauses = h.clauses;
  sums = h.sums;
  terms = h.terms;
  bounds = h.bounds;
}

-- the marks before, and those with one more retired selector
pub retired-marks : (p q : ProblemState) (m n : Marks) (l : Lit) → AreMarks p m → n.atoms ≡ m.atoms
    → n.vars ≡ m.vars → n.terms ≡ m.terms → n.selectors.items ≡ m.selectors.items
    → n.retired.items ≡ m.retired.items ++ l ∷ [] → q ≡ with_retired p l → AreMarks q n
retired-marks p q m n l h atoms vars terms selectors retired is = subst (λ (r : ProblemState). AreMarks r n) (sym is)
    (record {
      atoms = h.atoms ∙ sym atoms;
      vars = h.vars ∙ sym vars;
      terms = h.terms ∙ sym terms;
      selectors = subst (All (IsSelector (with_retired p l))) (sym selectors)
          (All-weaker (IsSelector p) (IsSelector (with_retired p l)) (still-selector p l) m.selectors.items
          h.selectors);
      retired = ap (λ (ls : List Lit). ls ++ l ∷ []) h.retired ∙ sym retired;
    })

-- marks with the same lists are as good
pub same-marks : (p q : ProblemState) (m n : Marks) → AreMarks p m → n.atoms ≡ m.atoms → n.vars ≡ m.vars
    → n.terms ≡ m.terms → n.selectors.items ≡ m.selectors.items → n.retired.items ≡ m.retired.items → q ≡ p
    → AreMarks q n
same-marks p q m n h atoms vars terms selectors retired is = subst (λ (r : ProblemState). AreMarks r n) (sym is)
    (record {
      atoms = h.atoms ∙ sym atoms;
      vars = h.vars ∙ sym vars;
      terms = h.terms ∙ sym terms;
      selectors = subst (All (IsSelector p)) (sym selectors) h.selectors;
      retired = h.retired ∙ sym retired;
    })

-- a problem with the same counts, and no selectors yet
pub alike-marks : (p q : ProblemState) (m : Marks) → AreMarks p m → m.selectors.items ≡ [] → q.atoms ≡ p.atoms
    → q.vars ≡ p.vars → q.terms ≡ p.terms → q.retired ≡ p.retired → AreMarks q m
alike-marks p q m h none atoms vars terms retired = record {
  atoms = ap length atoms ∙ h.atoms;
  vars = vars ∙ h.vars;
  terms = ap length terms ∙ h.terms;
  selectors = subst (All (IsSelector q)) (sym none) (All-nil (IsSelector q));
  retired = retired ∙ h.retired;
}
