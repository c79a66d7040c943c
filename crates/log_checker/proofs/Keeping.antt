-- What steps leave is a state that entries may leave.
use Rattle.std.proofs.Common.{◌≡◌, ℕ, ◌+◌, ◌≤◌, true, List, [], ◌∷◌, ◌++◌, All, refl, sym, ap, ◌∙◌, subst, arith}
use Rattle.std.proofs.Common.{Result, Ok, Err, OnOk, OnErr}
use Rattle.std.proofs.lemmas.List.{append_assoc, append-nil}
use Rattle.std.proofs.lemmas.List.Elements.{All-nil, All-push, All-weaker}
use Rattle.lit_core.specs.declared.literals.Lit.{Lit}
use Rattle.ground_core.specs.declared.parts.GroundTerm.{GroundTerm}
use Rattle.ground_core.specs.declared.parts.TermBound.{TermBound}
use Rattle.ground_core.specs.Problems.{ProblemState, IsProblem, IsBoundOf}
use Rattle.ground_core.specs.GateClauses.{clauses_of}
use Rattle.ground_core.specs.Solving.{IsPrefix}
use Rattle.derivation_log.specs.declared.entries.Entry.{Entry}
use Rattle.derivation_log.specs.declared.entries.Entry.TheVariants as entry
use Rattle.derivation_log.specs.Steps.{CheckState, start, LogStep, after, Accepts, after_all}
use Rattle.log_checker.specs.Growing.{known, Reaches}
use Rattle.log_checker.specs.Keeping.{IsState, IsKept}

abbrev IsPositive : TermBound → Type 0
IsPositive b = b.out.positive ≡ true

prefix-push : {A : Type 0} (xs ys : List A) (y : A) → IsPrefix xs ys → IsPrefix xs (ys ++ y ∷ [])
prefix-push xs ys y h = (h.0 ++ y ∷ [], ap (λ l. l ++ y ∷ []) h.1 ∙ append_assoc xs h.0 (y ∷ []))

bounds-wider : (n : ℕ) (terms : List GroundTerm) (bs : List TermBound) → All (IsBoundOf n terms) bs
    → All (IsBoundOf (n + 1) terms) bs
bounds-wider n terms bs h = All-weaker (IsBoundOf n terms) (IsBoundOf (n + 1) terms)
    (λ b x. ((x.0.0, omega (arith, x.0.1)), x.1)) bs h

module _ (p : ProblemState) (st : CheckState) (h : IsState p st) where
  -- a clause more
  with-clause : (n : CheckState) (c : List Lit) → n.clauses ≡ st.clauses ++ c ∷ [] → n.vars ≡ st.vars
      → n.bounds ≡ st.bounds → IsState p n
  with-clause n c a b d = record {
    clauses = subst (IsPrefix (clauses_of p)) (sym a) (prefix-push (clauses_of p) st.clauses c h.clauses);
    vars = subst (λ k. p.vars ≤ k) (sym b) h.vars;
    bounds = subst (λ k. All (IsBoundOf k p.terms) n.bounds) (sym b)
        (subst (All (IsBoundOf st.vars p.terms)) (sym d) h.bounds);
    selectors = subst (All IsPositive) (sym d) h.selectors;
  }

  -- no clause and no variable more
  as-before : (n : CheckState) → n.clauses ≡ st.clauses → n.vars ≡ st.vars → n.bounds ≡ st.bounds → IsState p n
  as-before n a b d = record {
    clauses = subst (IsPrefix (clauses_of p)) (sym a) h.clauses;
    vars = subst (λ k. p.vars ≤ k) (sym b) h.vars;
    bounds = subst (λ k. All (IsBoundOf k p.terms) n.bounds) (sym b)
        (subst (All (IsBoundOf st.vars p.terms)) (sym d) h.bounds);
    selectors = subst (All IsPositive) (sym d) h.selectors;
  }

  wider : p.vars ≤ st.vars + 1
  wider = let x = h.vars in omega (arith, x)

  pub state-after : (e : Entry) → LogStep p st e → IsState p (after st e)
  state-after (entry.Mark n) s = as-before _ refl refl refl
  state-after (entry.Learnt lits hints) s = with-clause _ lits refl refl refl
  state-after (entry.Sum n lits) s = with-clause _ lits refl refl refl
  state-after (entry.Bound s t k) step = record {
    clauses = h.clauses;
    vars = wider;
    bounds = All-push (IsBoundOf (st.vars + 1) p.terms) st.bounds _ (bounds-wider st.vars p.terms st.bounds h.bounds)
        (let x = step.0 in let y = step.1 in ((omega (arith, x), omega (arith, x)), omega (arith, y.0, y.1)));
    selectors = All-push IsPositive st.bounds _ h.selectors refl;
  }
  state-after (entry.Exclude s lits) step = record {
    clauses = prefix-push (clauses_of p) st.clauses _ h.clauses;
    vars = wider;
    bounds = bounds-wider st.vars p.terms st.bounds h.bounds;
    selectors = h.selectors;
  }
  state-after (entry.Inconsistent lits c) s = as-before _ refl refl refl
  state-after (entry.Forced l lits c) s = as-before _ refl refl refl
  state-after (entry.Least t k lits c) s = as-before _ refl refl refl

state-after-all : (p : ProblemState) (st : CheckState) (es : List Entry) → IsState p st → Accepts p st es
    → IsState p (after_all st es)
state-after-all p st [] h s = h
state-after-all p st (e ∷ es) h s = state-after-all p (after st e) es (state-after p st h e s.0) s.1

state-reached : (p : ProblemState) (old new : CheckState) → IsState p old → Reaches p old new → IsState p new
state-reached p old new h r = subst (IsState p) r.2 (state-after-all p old r.0 h r.1)

pub kept-begins : (p : ProblemState) → IsProblem p → IsKept (known p (start p))
kept-begins p h = record {
  problem = h;
  state = record {
    clauses = ([], sym (append-nil (clauses_of p)));
    vars = omega arith;
    bounds = All-nil (IsBoundOf p.vars p.terms);
    selectors = All-nil IsPositive;
  };
}

pub kept-after : (p : ProblemState) (old new : CheckState) (e : Entry) → IsKept (known p old) → LogStep p old e
    → new ≡ after old e → IsKept (known p new)
kept-after p old new e h s is = record {
  problem = h.problem;
  state = subst (IsState p) (sym is) (state-after p old h.state e s);
}

pub kept-reached : (p : ProblemState) (old new : CheckState) → IsKept (known p old) → Reaches p old new
    → IsKept (known p new)
kept-reached p old new h r = record { problem = h.problem; state = state-reached p old new h.state r }

-- an entry was added, or memory ran out and nothing was
pub kept-added : {E F : Type 0} (p : ProblemState) (old new : CheckState) (e : Entry) (r : Result E F)
    → IsKept (known p old) → LogStep p old e → OnOk r (new ≡ after old e) → OnErr r (new ≡ old) → IsKept (known p new)
kept-added p old new e (Ok x) h s a b = kept-after p old new e h s a
kept-added p old new e (Err x) h s a b = subst (λ st. IsKept (known p st)) (sym b) h
