-- Two problems together.
use Rattle.std.proofs.Common.{◌≡◌, ℕ, zero, suc, ◌<◌, Bool, true, false, List, [], ◌∷◌, ◌++◌, length, flat_map, get_or}
use Rattle.std.proofs.Common.{slice_get, refl, sym, ap, ◌∙◌, subst, inl, inr, ◌⊎◌, ⊎_elim, arith, All, Any, Contains}
use Rattle.std.proofs.Common.{append_assoc}
use Rattle.std.proofs.lemmas.List.Elements.{All-append, All-nil, All-contains, All-contains_itself}
use Rattle.std.proofs.lemmas.List.Elements.{Contains-append_left}
use Rattle.lit_core.specs.declared.literals.Lit.{Lit}
use Rattle.lit_core.specs.Literals.{literal_value, negated}
use Rattle.lit_core.specs.Truth.{IsSatisfied}
use Rattle.ground_core.specs.declared.parts.Gate.{Gate}
use Rattle.ground_core.specs.declared.parts.Part.{Part}
use Rattle.ground_core.specs.declared.parts.GroundTerm.{GroundTerm}
use Rattle.ground_core.specs.Problems.{ProblemState, IsProblem, IsBoundOf}
use Rattle.std.specs.Prelude.{IfSome}
use Rattle.kb_logic.specs.declared.syntax.Cmp.TheVariants as cmp
use Rattle.kb_logic.specs.Denotations.{compared}
use Rattle.ground_core.specs.Meaning.{Satisfies, GateHolds, SumHolds, BoundHolds, AreAllFalse, term_value}
use Rattle.ground_core.specs.Meaning.{denotation_of_bound}
use Rattle.ground_core.specs.GateClauses.{clauses_of, gate_clauses}
use Rattle.ground_core.proofs.Fronts.{All-front, All-back}
use Rattle.search_engine.specs.Knowledge.{IsOfConstraint, IsOfSum, IsConstrained, Occurs}
use Rattle.ground_core.specs.declared.parts.TermBound.{TermBound}
use Rattle.kept_problem.specs.Joining.{joined_problem, CanJoin}

slice_get-front : {X : Type 0} (xs ys : List X) (i : ℕ) → i < length xs → slice_get (xs ++ ys) i ≡ slice_get xs i
slice_get-front [] ys i lt = absurd (omega (arith, lt))
slice_get-front (x ∷ xs) ys zero lt = refl
slice_get-front (x ∷ xs) ys (suc i) lt = slice_get-front xs ys i (omega (arith, lt))

-- a bound on one of the first terms holds where it does among more terms
pub bound-shorter : (v : ℕ → Bool) (terms more : List GroundTerm) (b : TermBound) → b.term < length terms
    → BoundHolds v (terms ++ more) b → BoundHolds v terms b
bound-shorter v terms more b lt h on = subst (λ o. IfSome o (λ t. compared cmp.Lt (term_value v t)
    (denotation_of_bound b.below) ≡ true)) (slice_get-front terms more b.term lt) (h on)

module _ (p q : ProblemState) (fine : IsProblem p) (more-bounds : q.bounds ≡ []) where
  -- what satisfies both satisfies each
  pub joined-first : (v : ℕ → Bool) → Satisfies (joined_problem p q) v → Satisfies p v
  joined-first v s = record {
    gates = All-front (GateHolds v) p.gates q.gates s.gates;
    clauses = All-front (IsSatisfied v) p.clauses q.clauses s.clauses;
    sums = All-front (SumHolds v) p.sums q.sums s.sums;
    bounds = λ k d lt. bound-shorter v p.terms q.terms (get_or p.bounds k d) (fine.bounds k d lt).1
        (All-front (BoundHolds v (p.terms ++ q.terms)) p.bounds q.bounds s.bounds k d lt);
    retired = s.retired;
  }

  pub joined-second : CanJoin p q → (v : ℕ → Bool) → Satisfies (joined_problem p q) v → Satisfies q v
  joined-second can v s = record {
    gates = All-back (GateHolds v) p.gates q.gates s.gates;
    clauses = All-back (IsSatisfied v) p.clauses q.clauses s.clauses;
    sums = All-back (SumHolds v) p.sums q.sums s.sums;
    bounds = subst (All (BoundHolds v q.terms)) (sym more-bounds) (All-nil (BoundHolds v q.terms));
    retired = subst (AreAllFalse v) (sym can.retired) (All-nil (λ l. literal_value v l ≡ false));
  }

any-front : {X : Type 0} (P : X → Type 0) (xs ys : List X) → Any P xs → Any P (xs ++ ys)
any-front P xs ys w = let has = Contains-append_left xs ys w.1 (w.0, w.2, w.3) in (has.0, w.1, has.1, has.2, w.4)

-- a constraint of the first is one of both
pub joined-constraint : (p q : ProblemState) → IsProblem p → (k : List Lit) → IsOfConstraint p k
    → IsOfConstraint (joined_problem p q) k
joined-constraint p q fine k way = ⊎_elim
    (λ (w : Any (λ s. (v : ℕ → Bool) → SumHolds v s → IsSatisfied v k) p.sums).
    inl (any-front (λ s. (v : ℕ → Bool) → SumHolds v s → IsSatisfied v k) p.sums q.sums w))
    (λ (r : Any (λ b. (v : ℕ → Bool) → BoundHolds v p.terms b → IsSatisfied v k) p.bounds ⊎ Any (λ l. (v : ℕ → Bool)
    → literal_value v l ≡ false → IsSatisfied v k) p.retired). inr (⊎_elim
    (λ (w : Any (λ b. (v : ℕ → Bool) → BoundHolds v p.terms b → IsSatisfied v k) p.bounds).
    let of : IsBoundOf p.vars p.terms w.1 = subst (IsBoundOf p.vars p.terms) w.3 (fine.bounds w.0 w.1 w.2) in
    inl (any-front (λ b. (v : ℕ → Bool) → BoundHolds v (p.terms ++ q.terms) b → IsSatisfied v k) p.bounds q.bounds
    (w.0, w.1, w.2, w.3, λ v holds. w.4 v (bound-shorter v p.terms q.terms w.1 of.1 holds))))
    (λ (w : Any (λ l. (v : ℕ → Bool) → literal_value v l ≡ false → IsSatisfied v k) p.retired). inr w)
    r))
    way

flat-append : (xs ys : List Gate) → flat_map gate_clauses (xs ++ ys) ≡ flat_map gate_clauses xs ++ flat_map
    gate_clauses ys
flat-append [] ys = refl
flat-append (x ∷ xs) ys = ap (λ zs. gate_clauses x ++ zs) (flat-append xs ys)
    ∙ sym (append_assoc (gate_clauses x) (flat_map gate_clauses xs) (flat_map gate_clauses ys))

module _ (p q : ProblemState) (P : List Lit → Type 0) where
  pub joined-all : All P (clauses_of p) → All P (clauses_of q) → All P (clauses_of (joined_problem p q))
  joined-all a b =
      let pg : List (List Lit) = flat_map gate_clauses p.gates in
      let qg : List (List Lit) = flat_map gate_clauses q.gates in
      let gates : All P (pg ++ qg) = All-append P pg qg (All-front P pg p.clauses a) (All-front P qg q.clauses b) in
      let clauses : All P (p.clauses ++ q.clauses) = All-append P p.clauses q.clauses (All-back P pg p.clauses a)
      (All-back P qg q.clauses b) in
      All-append P (flat_map gate_clauses (p.gates ++ q.gates)) (p.clauses ++ q.clauses)
      (subst (All P) (sym (flat-append p.gates q.gates)) gates) clauses

  split-gates : All P (clauses_of (joined_problem p q)) → All P
      (flat_map gate_clauses p.gates ++ flat_map gate_clauses q.gates)
  split-gates h = subst (All P) (flat-append p.gates q.gates) (All-front P (flat_map gate_clauses (p.gates ++ q.gates))
      (p.clauses ++ q.clauses) h)

  split-clauses : All P (clauses_of (joined_problem p q)) → All P (p.clauses ++ q.clauses)
  split-clauses h = All-back P (flat_map gate_clauses (p.gates ++ q.gates)) (p.clauses ++ q.clauses) h

  pub all-first : All P (clauses_of (joined_problem p q)) → All P (clauses_of p)
  all-first h = All-append P (flat_map gate_clauses p.gates) p.clauses
      (All-front P (flat_map gate_clauses p.gates) (flat_map gate_clauses q.gates) (split-gates h))
      (All-front P p.clauses q.clauses (split-clauses h))

  pub all-second : All P (clauses_of (joined_problem p q)) → All P (clauses_of q)
  all-second h = All-append P (flat_map gate_clauses q.gates) q.clauses
      (All-back P (flat_map gate_clauses p.gates) (flat_map gate_clauses q.gates) (split-gates h))
      (All-back P p.clauses q.clauses (split-clauses h))

-- the clauses of each are clauses of both
module _ (p q : ProblemState) (c : List Lit) where
  pub joined-has-first : Contains (clauses_of p) c → Contains (clauses_of (joined_problem p q)) c
  joined-has-first h = All-contains (Contains (clauses_of (joined_problem p q))) (clauses_of p) c
      (all-first p q (Contains (clauses_of (joined_problem p q)))
      (All-contains_itself (clauses_of (joined_problem p q)))) h

  pub joined-has-second : Contains (clauses_of q) c → Contains (clauses_of (joined_problem p q)) c
  joined-has-second h = All-contains (Contains (clauses_of (joined_problem p q))) (clauses_of q) c
      (all-second p q (Contains (clauses_of (joined_problem p q)))
      (All-contains_itself (clauses_of (joined_problem p q)))) h

-- a literal of the first is one of both
pub joined-occurs : (p q : ProblemState) → (l : Lit) → Occurs p l → Occurs (joined_problem p q) l
joined-occurs p q l way = ⊎_elim
    (λ (w : Any (λ c. Contains c l) (clauses_of p)). let has = joined-has-first p q w.1 (w.0, w.2, w.3) in
    inl (has.0, w.1, has.1, has.2, w.4))
    (λ (w : IsConstrained p l). inr (⊎_elim
    (λ (s : Any (IsOfSum l) p.sums). inl (any-front (IsOfSum l) p.sums q.sums s))
    (λ (r : Any (λ (b : TermBound). b.out.var.0 ≡ l.var.0) p.bounds
    ⊎ (Any (λ (t : GroundTerm). Any (λ (u : Part). u.lit.var.0 ≡ l.var.0) t.parts) p.terms
    ⊎ Any (λ s. l ≡ negated s) p.retired)). inr (⊎_elim
    (λ (b : Any (λ (b : TermBound). b.out.var.0 ≡ l.var.0) p.bounds).
    inl (any-front (λ (b : TermBound). b.out.var.0 ≡ l.var.0) p.bounds q.bounds b))
    (λ (x : Any (λ (t : GroundTerm). Any (λ (u : Part). u.lit.var.0 ≡ l.var.0) t.parts) p.terms
    ⊎ Any (λ s. l ≡ negated s) p.retired). inr (⊎_elim
    (λ (t : Any (λ (t : GroundTerm). Any (λ (u : Part). u.lit.var.0 ≡ l.var.0) t.parts) p.terms).
    inl (any-front (λ (t : GroundTerm). Any (λ (u : Part). u.lit.var.0 ≡ l.var.0) t.parts) p.terms q.terms t))
    (λ (t : Any (λ s. l ≡ negated s) p.retired). inr t)
    x))
    r))
    w))
    way
