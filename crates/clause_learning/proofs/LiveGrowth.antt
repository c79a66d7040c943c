-- Live bounds of problems that grow.
use Rattle.std.proofs.Common.{◌≡◌, ℕ, zero, suc, ◌+◌, ◌<◌, ◌≤◌, Bool, true, false, not, List, [], ◌∷◌, ◌++◌, All}
use Rattle.std.proofs.Common.{eqb}
use Rattle.std.proofs.Common.{if◌then◌else◌, eq-eqb, get_or, length, refl, sym, ap, ◌∙◌, subst, arith}
use Rattle.std.proofs.lemmas.Bool.{both_ways}
use Rattle.std.proofs.lemmas.List.Elements.{All-nil, All-cons, All-contains, All-head, All-push, All-tail, All-weaker}
use Rattle.std.proofs.lemmas.List.Elements.{Contains-append_left, Contains-push}
use Rattle.kb_logic.specs.declared.elements.ExtInt.{ExtInt}
use Rattle.lit_core.specs.declared.literals.Lit.{Lit}
use Rattle.lit_core.specs.Literals.{negated, valuation}
use Rattle.ground_core.specs.declared.parts.TermBound.{TermBound}
use Rattle.ground_core.specs.Problems.{ProblemState, IsProblem, IsLitOf, AreLitsOf, IsBoundOf}
use Rattle.ground_core.specs.Growth.{falsified_by, next_lit, with_bound, with_exclusion}
use Rattle.ground_core.specs.Growing.{IsApart, with_retired}
use Rattle.clause_learning.specs.LiveBounds.{IsLive, IsOutputOfWider, without_output}

-- a bound under the next variable
abbrev pub new_bound : ProblemState → ℕ → ExtInt → TermBound
new_bound p term below = record { out = next_lit p; term = term; below = below }

falsified-lits : (values : List Bool) (n m : ℕ) → n ≤ m → AreLitsOf m (falsified_by values n)
falsified-lits values zero m le = All-nil (IsLitOf m)
falsified-lits values (suc n) m le = All-push (IsLitOf m) (falsified_by values n)
    (record { var = record { 0 = suc n }; positive = not (valuation values (suc n)) })
    (falsified-lits values n m (omega (arith, le))) (omega arith, le)

-- the output is one of the problem's variables
output-within : (p : ProblemState) (b : TermBound) → IsProblem p → IsLive p b → b.out.var.0 ≤ p.vars
output-within p b fine h = (All-contains (IsBoundOf p.vars p.terms) p.bounds b fine.bounds h.there).0.1

module _ (p : ProblemState) (fine : IsProblem p) where
  far : (k : Lit) → IsLitOf p.vars k → IsApart (next_lit p) k
  far k h = λ e. let x : k.var.0 ≤ p.vars = h.1 in omega (arith, e, x)

  -- a bound of a new variable
  module _ (term : ℕ) (below : ExtInt) where
    pub live-new : IsLive (with_bound p term below) (new_bound p term below)
    live-new = record {
      there = Contains-push p.bounds (new_bound p term below);
      positive = refl;
      atoms = let x : length p.atoms ≤ p.vars = fine.atoms in omega arith;
      gates = λ k d lt. (
        far (get_or p.gates k d).out (fine.gates k d lt).0,
        λ j e less. far (get_or (get_or p.gates k d).parts j e) ((fine.gates k d lt).1 j e less),
      );
      clauses = λ k d lt j e less. far (get_or (get_or p.clauses k d) j e) (fine.clauses k d lt j e less);
      sums = λ k d lt. (
        far (get_or p.sums k d).out (fine.sums k d lt).0,
        λ j e less. far (get_or (get_or p.sums k d).parts j e).lit ((fine.sums k d lt).1 j e less),
      );
      terms = λ k d lt j e less. far (get_or (get_or p.terms k d).parts j e).lit (fine.terms k d lt j e less);
      bounds = All-push (λ (c : TermBound). c.out.var.0 ≡ p.vars + 1 → c ≡ new_bound p term below) p.bounds
          (new_bound p term below)
          (λ k d lt e. absurd (far (get_or p.bounds k d).out (fine.bounds k d lt).0 e))
          (λ e. refl);
      retired = λ k d lt. far (get_or p.retired k d) (fine.retired k d lt);
    }

    live-bounded : (b : TermBound) → IsLive p b → IsLive (with_bound p term below) b
    live-bounded b h = record {
      there = Contains-append_left p.bounds (new_bound p term below ∷ []) b h.there;
      positive = h.positive;
      atoms = h.atoms;
      gates = h.gates;
      clauses = h.clauses;
      sums = h.sums;
      terms = h.terms;
      bounds = All-push (λ (c : TermBound). c.out.var.0 ≡ b.out.var.0 → c ≡ b) p.bounds (new_bound p term below)
          h.bounds
          (λ e. absurd (let le : b.out.var.0 ≤ p.vars = output-within p b fine h in
          let is : p.vars + 1 ≡ b.out.var.0 = e in omega (arith, le, is)));
      retired = h.retired;
    }

    pub live-with-bound : (bs : List TermBound) → All (IsLive p) bs → All (IsLive (with_bound p term below))
        (bs ++ new_bound p term below ∷ [])
    live-with-bound bs h = All-push (IsLive (with_bound p term below)) bs (new_bound p term below)
        (All-weaker (IsLive p) (IsLive (with_bound p term below)) live-bounded bs h) live-new

  -- an exclusion
  pub live-excluded : (values : List Bool) (b : TermBound) → IsLive p b → IsLive (with_exclusion p values) b
  live-excluded values b h = record {
    there = h.there;
    positive = h.positive;
    atoms = h.atoms;
    gates = h.gates;
    clauses = All-push (All (IsApart b.out)) p.clauses (negated (next_lit p) ∷ falsified_by values (length p.atoms))
        h.clauses (All-cons (IsApart b.out) (negated (next_lit p)) (falsified_by values (length p.atoms))
        (λ e. let le : b.out.var.0 ≤ p.vars = output-within p b fine h in
        let is : p.vars + 1 ≡ b.out.var.0 = e in omega (arith, le, is))
        (All-weaker (IsLitOf (length p.atoms)) (IsApart b.out)
        (λ l is e. let low : l.var.0 ≤ length p.atoms = is.1 in let high : length p.atoms < b.out.var.0 = h.atoms in
        omega (arith, low, high, e))
        (falsified_by values (length p.atoms))
        (falsified-lits values (length p.atoms) (length p.atoms) (omega arith))));
    sums = h.sums;
    terms = h.terms;
    bounds = h.bounds;
    retired = h.retired;
  }

-- a retired selector
live-retired : (p : ProblemState) (l : Lit) (b : TermBound) → not (eqb b.out.var.0 l.var.0) ≡ true → IsLive p b
    → IsLive (with_retired p l) b
live-retired p l b other h = record {
  there = h.there;
  positive = h.positive;
  atoms = h.atoms;
  gates = h.gates;
  clauses = h.clauses;
  sums = h.sums;
  terms = h.terms;
  bounds = h.bounds;
  retired = All-push (IsApart b.out) p.retired l h.retired (λ e. apart-by b.out.var.0 l.var.0 other (sym e));
}
  where
    apart-by : (m n : ℕ) → not (eqb m n) ≡ true → m ≡ n → ⊥
    apart-by m n t e = both_ways false refl (ap not (sym (eq-eqb m n e)) ∙ t)

pub live-without : (p : ProblemState) (l : Lit) (bs : List TermBound) → All (IsLive p) bs
    → All (IsLive (with_retired p l)) (without_output l bs)
live-without p l [] h = All-nil (IsLive (with_retired p l))
live-without p l (b ∷ bs) h = step (not (eqb b.out.var.0 l.var.0)) refl
    (live-without p l bs (All-tail (IsLive p) b bs h))
  where
    step : (t : Bool) → not (eqb b.out.var.0 l.var.0) ≡ t → All (IsLive (with_retired p l)) (without_output l bs)
        → All (IsLive (with_retired p l)) (if t then b ∷ without_output l bs else without_output l bs)
    step true e rest = All-cons (IsLive (with_retired p l)) b (without_output l bs)
        (live-retired p l b e (All-head (IsLive p) b bs h)) rest
    step false e rest = rest

-- the outputs of wider bounds are the problem's literals
pub outputs-within : (p : ProblemState) (live : List TermBound) (assumed more : List Lit) → IsProblem p
    → All (IsLive p) live → All (IsOutputOfWider live assumed) more → AreLitsOf p.vars more
outputs-within p live assumed more fine lives wider = All-weaker (IsOutputOfWider live assumed) (IsLitOf p.vars)
    (λ l w. subst (IsLitOf p.vars) w.1 (All-contains (IsBoundOf p.vars p.terms) p.bounds w.0 fine.bounds
    (All-contains (IsLive p) live w.0 lives w.2.among).there).0)
    more wider
