-- The laws of two problems together.
use Rattle.std.proofs.Common.{◌≡◌, ℕ, ◌+◌, ◌≤◌, ◌<◌, List, [], ◌++◌, length, length-append, refl, sym, ap, ◌∙◌, subst}
use Rattle.std.proofs.Common.{⊎_elim, ◌⊎◌, inl, inr, arith, All}
use Rattle.std.proofs.lemmas.List.{append-nil, nil_from_length}
use Rattle.std.proofs.lemmas.List.Elements.{All-append, All-push, All-weaker, All-nil}
use Rattle.lit_core.specs.declared.literals.Lit.{Lit}
use Rattle.ground_core.specs.declared.parts.AggCon.{AggCon}
use Rattle.ground_core.specs.declared.parts.Gate.{Gate}
use Rattle.ground_core.specs.declared.parts.GroundTerm.{GroundTerm}
use Rattle.ground_core.specs.declared.parts.Part.{Part}
use Rattle.ground_core.specs.declared.parts.TermBound.{TermBound}
use Rattle.ground_core.specs.Problems.{ProblemState, IsProblem, IsLitOf, AreLitsOf, IsGateOf, ArePartsOf, IsTermOf}
use Rattle.ground_core.specs.Problems.{IsSumOf, IsBoundOf}
use Rattle.ground_core.specs.Growing.{with_retired}
use Rattle.kept_problem.specs.Joining.{joined_problem, with_selected, CanJoin}

pub lit-wider : (m n : ℕ) → m ≤ n → (l : Lit) → IsLitOf m l → IsLitOf n l
lit-wider m n le l h = let a : 1 ≤ l.var.0 = h.0 in let b : l.var.0 ≤ m = h.1 in (a, omega (arith, b, le))

pub lits-wider : (m n : ℕ) → m ≤ n → (ls : List Lit) → AreLitsOf m ls → AreLitsOf n ls
lits-wider m n le ls h = All-weaker (IsLitOf m) (IsLitOf n) (lit-wider m n le) ls h

gate-wider : (m n : ℕ) → m ≤ n → (g : Gate) → IsGateOf m g → IsGateOf n g
gate-wider m n le g h = (lit-wider m n le g.out h.0, lits-wider m n le g.parts h.1)

parts-wider : (m n : ℕ) → m ≤ n → (ps : List Part) → ArePartsOf m ps → ArePartsOf n ps
parts-wider m n le ps h = All-weaker (λ (p : Part). IsLitOf m p.lit) (λ (p : Part). IsLitOf n p.lit)
    (λ p. lit-wider m n le p.lit) ps h

term-wider : (m n : ℕ) → m ≤ n → (t : GroundTerm) → IsTermOf m t → IsTermOf n t
term-wider m n le t h = parts-wider m n le t.parts h

sum-wider : (m n : ℕ) → m ≤ n → (s : AggCon) → IsSumOf m s → IsSumOf n s
sum-wider m n le s h = (lit-wider m n le s.out h.0, parts-wider m n le s.parts h.1)

bound-wider : (m n : ℕ) (terms : List GroundTerm) → m ≤ n → (b : TermBound) → IsBoundOf m terms b → IsBoundOf n terms b
bound-wider m n terms le b h = (lit-wider m n le b.out h.0, h.1)

-- one more variable and one more clause
pub selected-laws : (p : ProblemState) (c : List Lit) → IsProblem p → AreLitsOf (p.vars + 1) c
    → IsProblem (with_selected p c)
selected-laws p c h lits =
    let m : ℕ = p.vars in
    let n : ℕ = p.vars + 1 in
    let le : m ≤ n = omega arith in
    record {
      atoms = let x : length p.atoms ≤ p.vars = h.atoms in omega (arith, x);
      gates = All-weaker (IsGateOf m) (IsGateOf n) (gate-wider m n le) p.gates h.gates;
      clauses = All-push (AreLitsOf n) p.clauses c (All-weaker (AreLitsOf m) (AreLitsOf n) (lits-wider m n le) p.clauses
          h.clauses) lits;
      sums = All-weaker (IsSumOf m) (IsSumOf n) (sum-wider m n le) p.sums h.sums;
      terms = All-weaker (IsTermOf m) (IsTermOf n) (term-wider m n le) p.terms h.terms;
      bounds = All-weaker (IsBoundOf m p.terms) (IsBoundOf n p.terms) (bound-wider m n p.terms le) p.bounds h.bounds;
      retired = lits-wider m n le p.retired h.retired;
    }

-- one more selector is retired
pub retired-laws : (p : ProblemState) (l : Lit) → IsProblem p → IsLitOf p.vars l → IsProblem (with_retired p l)
retired-laws p l h lit = record {
  atoms = h.atoms;
  gates = h.gates;
  clauses = h.clauses;
  sums = h.sums;
  terms = h.terms;
  bounds = h.bounds;
  retired = All-push (IsLitOf p.vars) p.retired l h.retired lit;
}

-- a bound is one on more terms, too
bound-more : (m n : ℕ) (terms more : List GroundTerm) → m ≤ n → (b : TermBound) → IsBoundOf m terms b
    → IsBoundOf n (terms ++ more) b
bound-more m n terms more le b h =
    let len : length (terms ++ more) ≡ length terms + length more = length-append terms more in
    let lt : b.term < length terms = h.1 in
    (lit-wider m n le b.out h.0, omega (arith, len, lt))

module _ (p q : ProblemState) (more-bounds : q.bounds ≡ []) where
  atoms-fit : length p.atoms ≤ p.vars → length q.atoms ≤ q.vars → CanJoin p q → length (p.atoms ++ q.atoms) ≤ q.vars
  atoms-fit a b can =
      let len : length (p.atoms ++ q.atoms) ≡ length p.atoms + length q.atoms = length-append p.atoms q.atoms in
      let le : p.vars ≤ q.vars = can.vars in
      ⊎_elim
      (λ n. let none : length q.atoms ≡ 0 = ap length n.0 in omega (arith, len, none, a, le))
      (λ (n : p.vars ≡ 0). omega (arith, len, n, a, b))
      can.names

  pub joined-laws : IsProblem p → IsProblem q → CanJoin p q → IsProblem (joined_problem p q)
  joined-laws a b can = record {
    atoms = atoms-fit a.atoms b.atoms can;
    gates = All-append (IsGateOf q.vars) p.gates q.gates (All-weaker (IsGateOf p.vars) (IsGateOf q.vars)
        (gate-wider p.vars q.vars can.vars) p.gates a.gates) b.gates;
    clauses = All-append (AreLitsOf q.vars) p.clauses q.clauses (All-weaker (AreLitsOf p.vars) (AreLitsOf q.vars)
        (lits-wider p.vars q.vars can.vars) p.clauses a.clauses) b.clauses;
    sums = All-append (IsSumOf q.vars) p.sums q.sums (All-weaker (IsSumOf p.vars) (IsSumOf q.vars)
        (sum-wider p.vars q.vars can.vars) p.sums a.sums) b.sums;
    terms = All-append (IsTermOf q.vars) p.terms q.terms (All-weaker (IsTermOf p.vars) (IsTermOf q.vars)
        (term-wider p.vars q.vars can.vars) p.terms a.terms) b.terms;
    bounds = All-append (IsBoundOf q.vars (p.terms ++ q.terms)) p.bounds q.bounds
        (All-weaker (IsBoundOf p.vars p.terms) (IsBoundOf q.vars (p.terms ++ q.terms))
        (bound-more p.vars q.vars p.terms q.terms can.vars) p.bounds a.bounds)
        (subst (All (IsBoundOf q.vars (p.terms ++ q.terms))) (sym more-bounds)
        (All-nil (IsBoundOf q.vars (p.terms ++ q.terms))));
    retired = lits-wider p.vars q.vars can.vars p.retired a.retired;
  }

-- what both say, where the second has no bounds
abbrev pub kept_both : ProblemState → ProblemState → ProblemState
kept_both p q = record {
  atoms = p.atoms ++ q.atoms;
  vars = q.vars;
  gates = p.gates ++ q.gates;
  clauses =
      p.clauses ++ q.clauses;
  sums = p.sums ++ q.sums;
  terms = p.terms ++ q.terms;
  bounds = p.bounds;
  retired = p.retired;
}

pub same-both : (p q : ProblemState) → q.bounds ≡ [] → joined_problem p q ≡ kept_both p q
same-both p q bounds =
    let b : p.bounds ++ q.bounds ≡ p.bounds = ap (λ (xs : List TermBound). p.bounds ++ xs) bounds
    ∙ append-nil p.bounds in
    rw b refl

-- of two problems that can be joined one has no atoms
pub one-has-none : (p q : ProblemState) → IsProblem p → CanJoin p q → (p.atoms ≡ []) ⊎ (q.atoms ≡ [])
one-has-none p q h can =
    let few : length p.atoms ≤ p.vars = h.atoms in
    ⊎_elim (λ n. inr n.0) (λ (e : p.vars ≡ 0). inl (nil_from_length p.atoms (omega (arith, few, e)))) can.names
