-- A problem of gates and clauses alone is its clauses.
use Rattle.std.proofs.Common.{◌≡◌, ℕ, Bool, true, false, not, List, [], ◌∷◌, ◌++◌, map, flat_map, get_or, All}
use Rattle.std.proofs.lemmas.List.Elements.{All-nil, All-cons, All-head, All-tail, All-append, All-contains, All-push}
use Rattle.std.proofs.lemmas.List.Elements.{All-map, Contains-push}
use Rattle.lit_core.specs.declared.literals.Lit.{Lit}
use Rattle.lit_core.specs.Truth.{IsSatisfied}
use Rattle.ground_core.specs.declared.parts.Gate.{Gate}
use Rattle.ground_core.specs.Problems.{ProblemState, IsLitOf, AreLitsOf, IsGateOf}
use Rattle.ground_core.specs.Meaning.{GateHolds, SumHolds, BoundHolds, Satisfies, AreAllFalse}
use Rattle.ground_core.specs.GateClauses.{with_sign, gate_clauses, clauses_of}
use Rattle.ground_core.specs.Laws.{ClauseIsAdded, ClausesSayTheProblem, ClausesAreOfTheProblem}
use Rattle.ground_core.proofs.Fronts.{All-front, All-back}
use Rattle.ground_core.proofs.Clauses.{gate-clauses}

gates-hold : (v : ℕ → Bool) (gs : List Gate) → All (IsSatisfied v) (flat_map gate_clauses gs) → All (GateHolds v) gs
gates-hold v [] h = All-nil (GateHolds v)
gates-hold v (g ∷ gs) h =
    All-cons (GateHolds v) g gs
    ((gate-clauses v g).0 (All-front (IsSatisfied v) (gate_clauses g) (flat_map gate_clauses gs) h))
    (gates-hold v gs (All-back (IsSatisfied v) (gate_clauses g) (flat_map gate_clauses gs) h))

clauses-from : (v : ℕ → Bool) (gs : List Gate) → All (GateHolds v) gs → All (IsSatisfied v) (flat_map gate_clauses gs)
clauses-from v [] h = All-nil (IsSatisfied v)
clauses-from v (g ∷ gs) h =
    All-append (IsSatisfied v) (gate_clauses g) (flat_map gate_clauses gs)
    ((gate-clauses v g).1 (All-head (GateHolds v) g gs h))
    (clauses-from v gs (All-tail (GateHolds v) g gs h))

-- where there are no sums and no bounds, what makes the retired selectors false and satisfies all clauses, those of the
-- gates in order and then the others, satisfies the problem
pub satisfies-by-clauses : (p : ProblemState) (v : ℕ → Bool) → p.sums ≡ [] → p.bounds ≡ []
    → All (IsSatisfied v) (clauses_of p) → AreAllFalse v p.retired → Satisfies p v
satisfies-by-clauses p v sums bounds h off = record {
  gates = gates-hold v p.gates (All-front (IsSatisfied v) (flat_map gate_clauses p.gates) p.clauses h);
  clauses = All-back (IsSatisfied v) (flat_map gate_clauses p.gates) p.clauses h;
  sums = rw sums (All-nil (SumHolds v));
  bounds = rw bounds (All-nil (BoundHolds v p.terms));
  retired = off;
}

-- what satisfies a problem satisfies all clauses, those of the gates in order and then the others
pub clauses-satisfied : (p : ProblemState) (v : ℕ → Bool) → Satisfies p v → All (IsSatisfied v) (clauses_of p)
clauses-satisfied p v s = All-append (IsSatisfied v) (flat_map gate_clauses p.gates) p.clauses
    (clauses-from v p.gates s.gates) s.clauses

pub whole : ClausesSayTheProblem
whole p v sums bounds = (satisfies-by-clauses p v sums bounds, clauses-satisfied p v)

with-sign-within : (n : ℕ) (b : Bool) (l : Lit) → IsLitOf n l → IsLitOf n (with_sign b l)
with-sign-within n true l h = h
with-sign-within n false l h = h

gate-clauses-within : (n : ℕ) (g : Gate) → IsGateOf n g → All (AreLitsOf n) (gate_clauses g)
gate-clauses-within n g h =
    let short = λ (l : Lit). with_sign (not g.all) g.out ∷ with_sign g.all l ∷ [] in
    let long = map (with_sign (not g.all)) g.parts in
    All-push (AreLitsOf n) (map short g.parts) (with_sign g.all g.out ∷ long)
    (All-map (AreLitsOf n) short g.parts
    (λ k d lt.
    let l = get_or g.parts k d in
    All-cons (IsLitOf n) (with_sign (not g.all) g.out) (with_sign g.all l ∷ [])
    (with-sign-within n (not g.all) g.out h.0)
    (All-cons (IsLitOf n) (with_sign g.all l) [] (with-sign-within n g.all l (h.1 k d lt)) (All-nil (IsLitOf n)))))
    (All-cons (IsLitOf n) (with_sign g.all g.out) long (with-sign-within n g.all g.out h.0)
    (All-map (IsLitOf n) (with_sign (not g.all)) g.parts (λ k d lt. with-sign-within n (not g.all) (get_or g.parts k d)
    (h.1 k d lt))))

gates-within : (n : ℕ) (gs : List Gate) → All (IsGateOf n) gs → All (AreLitsOf n) (flat_map gate_clauses gs)
gates-within n [] h = All-nil (AreLitsOf n)
gates-within n (g ∷ gs) h =
    All-append (AreLitsOf n) (gate_clauses g) (flat_map gate_clauses gs)
    (gate-clauses-within n g (All-head (IsGateOf n) g gs h))
    (gates-within n gs (All-tail (IsGateOf n) g gs h))

-- the clauses of a problem are over its variables
pub clauses-within : ClausesAreOfTheProblem
clauses-within p h = All-append (AreLitsOf p.vars) (flat_map gate_clauses p.gates) p.clauses
    (gates-within p.vars p.gates h.gates) h.clauses

pub clause-added : ClauseIsAdded
clause-added p c v = (
  λ s. (
    record {
      gates = s.gates;
      clauses = All-front (IsSatisfied v) p.clauses (c ∷ []) s.clauses;
      sums = s.sums;
      bounds =
          s.bounds;
      retired = s.retired;
    },
    All-contains (IsSatisfied v) (p.clauses ++ c ∷ []) c s.clauses (Contains-push p.clauses c),
  ),
  λ s t. record {
    gates = s.gates;
    clauses = All-push (IsSatisfied v) p.clauses c s.clauses t;
    sums = s.sums;
    bounds =
        s.bounds;
    retired = s.retired;
  },
)
