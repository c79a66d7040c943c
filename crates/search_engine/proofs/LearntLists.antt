-- Learnt lists with their moments.
use Rattle.std.proofs.Common.{◌≡◌, ℕ, zero, suc, ◌+◌, ◌<◌, ◌≤◌, Option, Some, List, [], ◌∷◌, ◌++◌, length}
use Rattle.std.proofs.Common.{length-append, take, replicate, slice_get, slice_index_or, refl, sym, ap, ◌∙◌, subst}
use Rattle.std.proofs.Common.{⊎_elim, arith, Contains}
use Rattle.std.proofs.lemmas.List.{take_all, take-append-le, length_push, append-nil}
use Rattle.std.proofs.lemmas.List.Elements.{All-nil, All-push, All-weaker, All-contains}
use Rattle.std.proofs.lemmas.Option.{slice_get_within, get_or_from_slice_get}
use Rattle.lit_core.specs.declared.literals.Lit.{Lit}
use Rattle.clause_store.proofs.ListFacts.{slice_get-push_cases}
use Rattle.kb_logic.specs.declared.elements.ExtInt.{ExtInt}
use Rattle.kb_logic.specs.declared.structures.Literal.{Literal}
use Rattle.ground_core.specs.declared.moments.Moment.{Moment}
use Rattle.ground_core.specs.declared.parts.GroundTerm.{GroundTerm}
use Rattle.ground_core.specs.declared.parts.TermBound.{TermBound}
use Rattle.ground_core.specs.Growth.{next_lit, with_bound}
use Rattle.ground_core.specs.Problems.{ProblemState, IsLitOf}
use Rattle.ground_core.specs.Moments.{moment_of, problem_at, IsMomentOf}
use Rattle.ground_core.specs.Growing.{with_retired}
use Rattle.ground_core.specs.Solving.{IsLearnt, IsLearntFrom}
use Rattle.kept_problem.specs.Joining.{joined_problem, with_selected, CanJoin}
use Rattle.search_engine.specs.Knowledge.{IsHeldAs, Knows}

-- nothing was learnt yet
pub learnt-none : (p : ProblemState) → IsLearnt p [] []
learnt-none p = record {
  paired = refl;
  were = All-nil (IsMomentOf p);
  each = λ k c m c_is m_is. let lt : k < 0 = slice_get_within {A = List Lit} [] k c c_is in absurd (omega (arith, lt));
}

-- the problem of this moment is the problem
pub moment-now : (p : ProblemState) → problem_at p (moment_of p) ≡ p
moment-now p =
    let gates : take (length p.gates) p.gates ≡ p.gates = take_all (length p.gates) p.gates (omega arith) in
    let clauses : take (length p.clauses) p.clauses ≡ p.clauses = take_all (length p.clauses) p.clauses (omega arith) in
    let sums : take (length p.sums) p.sums ≡ p.sums = take_all (length p.sums) p.sums (omega arith) in
    let bounds : take (length p.bounds) p.bounds ≡ p.bounds = take_all (length p.bounds) p.bounds (omega arith) in
    let retired : take (length p.retired) p.retired ≡ p.retired = take_all (length p.retired) p.retired (omega arith) in
    rw (gates, clauses, sums, bounds, retired) refl

moment-is : (p : ProblemState) → IsMomentOf p (moment_of p)
moment-is p = record {
  vars = omega arith;
  gates = omega arith;
  clauses = omega arith;
  sums = omega arith;
  bounds =
      omega arith;
  retired = omega arith;
}

-- one more clause was learnt, now
pub learnt-push : (p : ProblemState) (learnt : List (List Lit)) (moments : List Moment) (c : List Lit)
    → IsLearnt p learnt moments → IsLearntFrom p learnt c → IsLearnt p (learnt ++ c ∷ []) (moments ++ moment_of p ∷ [])
learnt-push p learnt moments c h new = record {
  paired = let a : length (learnt ++ c ∷ []) ≡ length learnt + 1 = length_push learnt c in
      let b : length (moments ++ moment_of p ∷ []) ≡ length moments + 1 = length_push moments (moment_of p) in
      let s : length moments ≡ length learnt = h.paired in omega (arith, a, b, s);
  were = All-push (IsMomentOf p) moments (moment_of p) h.were (moment-is p);
  each = λ k d m at when. ⊎_elim
      (λ o. let lt : k < length learnt = slice_get_within learnt k d o in
      ⊎_elim
      (λ u. subst (λ (cs : List (List Lit)). IsLearntFrom (problem_at p m) cs d)
      (sym (take-append-le k learnt (c ∷ []) (omega (arith, lt)))) (h.each k d m o u))
      (λ n. let s : length moments ≡ length learnt = h.paired in let is : k ≡ length moments = n.0 in
      absurd (omega (arith, lt, s, is)))
      (slice_get-push_cases moments (moment_of p) k m when))
      (λ n. let is : k ≡ length learnt = n.0 in
      ⊎_elim
      (λ u. let lt : k < length moments = slice_get_within moments k m u in let s : length moments ≡ length learnt =
      h.paired in absurd (omega (arith, lt, s, is)))
      (λ w. let whole : take k (learnt ++ c ∷ []) ≡ learnt = ap (λ i. take i (learnt ++ c ∷ [])) is
      ∙ (take-append-le (length learnt) learnt (c ∷ []) (omega arith) ∙ take_all (length learnt) learnt
      (omega arith)) in
      let now : problem_at p m ≡ p = ap (problem_at p) w.1 ∙ moment-now p in
      rw (whole, n.1, now) new)
      (slice_get-push_cases moments (moment_of p) k m when))
      (slice_get-push_cases learnt c k d at);
}

-- moments are those of the problem that another was joined to
at-joined : (p q : ProblemState) (m : Moment) → IsMomentOf p m → q.atoms ≡ [] → q.terms ≡ []
    → problem_at (joined_problem p q) m ≡ problem_at p m
at-joined p q m is atoms terms =
    let a : p.atoms ++ q.atoms ≡ p.atoms = ap (λ (xs : List Literal). p.atoms ++ xs) atoms ∙ append-nil p.atoms in
    let t : p.terms ++ q.terms ≡ p.terms = ap (λ (xs : List GroundTerm). p.terms ++ xs) terms ∙ append-nil p.terms in
    let g : take m.gates (p.gates ++ q.gates) ≡ take m.gates p.gates =
    take-append-le m.gates p.gates q.gates is.gates in
    let c : take m.clauses (p.clauses ++ q.clauses) ≡ take m.clauses p.clauses =
    take-append-le m.clauses p.clauses q.clauses is.clauses in
    let s : take m.sums (p.sums ++ q.sums) ≡ take m.sums p.sums = take-append-le m.sums p.sums q.sums is.sums in
    let b : take m.bounds (p.bounds ++ q.bounds) ≡ take m.bounds p.bounds =
    take-append-le m.bounds p.bounds q.bounds is.bounds in
    rw (a, t, g, c, s, b) refl

more-moments : (p q : ProblemState) → CanJoin p q → (m : Moment) → IsMomentOf p m → IsMomentOf (joined_problem p q) m
more-moments p q can m h = record {
  vars = let x : m.vars ≤ p.vars = h.vars in let y : p.vars ≤ q.vars = can.vars in omega (arith, x, y);
  gates = let x : m.gates ≤ length p.gates = h.gates in let y : length (p.gates ++ q.gates)
      ≡ length p.gates + length q.gates = length-append p.gates q.gates in omega (arith, x, y);
  clauses = let x : m.clauses ≤ length p.clauses = h.clauses in let y : length (p.clauses ++ q.clauses)
      ≡ length p.clauses + length q.clauses = length-append p.clauses q.clauses in omega (arith, x, y);
  sums = let x : m.sums ≤ length p.sums = h.sums in let y : length (p.sums ++ q.sums) ≡ length p.sums + length q.sums =
      length-append p.sums q.sums in omega (arith, x, y);
  bounds = let x : m.bounds ≤ length p.bounds = h.bounds in let y : length (p.bounds ++ q.bounds) ≡ length p.bounds
      + length q.bounds = length-append p.bounds q.bounds in omega (arith, x, y);
  retired = h.retired;
}

-- a problem of no variables gives nothing to learn
nothing-learnt : (p : ProblemState) (learnt : List (List Lit)) (moments : List Moment) (ids : List ℕ)
    (cl : List (Option (List Lit))) → p.vars ≡ 0 → IsLearnt p learnt moments → Knows p learnt ids cl → learnt ≡ []
nothing-learnt p [] moments ids cl none h knows = refl
nothing-learnt p (c ∷ cs) [] ids cl none h knows = absurd (let e : 0 ≡ length (c ∷ cs) = h.paired in omega (arith, e))
nothing-learnt p (c ∷ cs) (m ∷ ms) [] cl none h knows = absurd knows.learnt_held
nothing-learnt p (c ∷ cs) (m ∷ ms) (i ∷ ids) cl none h knows =
    let fresh = (h.each 0 c m refl refl).fresh in
    let held : IsHeldAs cl i c = knows.learnt_held.0 in
    let has : Contains held.0 fresh.0 = held.2.all fresh.0 fresh.1.member in
    let is : IsLitOf p.vars fresh.0 = All-contains (IsLitOf p.vars) held.0 fresh.0 (knows.within i held.0 held.1) has in
    absurd (let low : 1 ≤ fresh.0.var.0 = is.0 in let high : fresh.0.var.0 ≤ p.vars = is.1 in
    omega (arith, low, high, none))

-- what was learnt is learnt still where another problem is joined
module _ (p q : ProblemState) (learnt : List (List Lit)) (moments : List Moment) (ids : List ℕ)
    (cl : List (Option (List Lit))) (can : CanJoin p q) (knows : Knows p learnt ids cl)
    (h : IsLearnt p learnt moments) where
  empty-moments : (ms : List Moment) → length ms ≡ 0 → ms ≡ []
  empty-moments [] e = refl
  empty-moments (m ∷ ms) e = absurd (omega (arith, e))

  without-names : (q.atoms ≡ []) × (q.terms ≡ []) → IsLearnt (joined_problem p q) learnt moments
  without-names names = record {
    paired = h.paired;
    were = All-weaker (IsMomentOf p) (IsMomentOf (joined_problem p q)) (more-moments p q can) moments h.were;
    each = λ k c m at when.
        let was : IsMomentOf p m = All-contains (IsMomentOf p) moments m h.were (
          k,
          slice_get_within moments k m when,
          get-or-of moments k m when,
        ) in
        subst (λ (r : ProblemState). IsLearntFrom r (take k learnt) c) (sym (at-joined p q m was names.0 names.1))
        (h.each k c m at when);
  }
    where
      get-or-of : (ms : List Moment) (k : ℕ) (m : Moment) → slice_get ms k ≡ Some m → slice_index_or ms k m ≡ m
      get-or-of ms k m e = get_or_from_slice_get ms k m m e

  without-variables : p.vars ≡ 0 → IsLearnt (joined_problem p q) learnt moments
  without-variables none =
      let empty : learnt ≡ [] = nothing-learnt p learnt moments ids cl none h knows in
      let no-moments : moments ≡ [] = empty-moments moments (h.paired ∙ ap length empty) in
      rw (empty, no-moments) (learnt-none (joined_problem p q))

  pub learnt-joined : IsLearnt (joined_problem p q) learnt moments
  learnt-joined = ⊎_elim without-names without-variables can.names

-- a problem whose lists are longer gives what was learnt before
module _ (p q : ProblemState) (learnt : List (List Lit)) (moments : List Moment) (h : IsLearnt p learnt moments)
    (later : (m : Moment) → IsMomentOf p m → IsMomentOf q m) (same : (m : Moment) → IsMomentOf p m
    → problem_at q m ≡ problem_at p m) where
  pub learnt-later : IsLearnt q learnt moments
  learnt-later = record {
    paired = h.paired;
    were = All-weaker (IsMomentOf p) (IsMomentOf q) later moments h.were;
    each = λ k c m at when.
        let was : IsMomentOf p m = All-contains (IsMomentOf p) moments m h.were (
          k,
          slice_get_within moments k m when,
          get_or_from_slice_get moments k m m when,
        ) in
        subst (λ (r : ProblemState). IsLearntFrom r (take k learnt) c) (sym (same m was)) (h.each k c m at when);
  }

pub learnt-selected : (p : ProblemState) (c : List Lit) (learnt : List (List Lit)) (moments : List Moment)
    → IsLearnt p learnt moments → IsLearnt (with_selected p c) learnt moments
learnt-selected p c learnt moments h = learnt-later p (with_selected p c) learnt moments h
    (λ m is. record {
      vars = let x : m.vars ≤ p.vars = is.vars in omega (arith, x);
      gates = is.gates;
      clauses = let x : m.clauses ≤ length p.clauses = is.clauses in let n : length (p.clauses ++ c ∷ [])
          ≡ length p.clauses + 1 = length_push p.clauses c in omega (arith, x, n);
      sums = is.sums;
      bounds = is.bounds;
      retired = is.retired;
    })
    (λ m is. let e : take m.clauses (p.clauses ++ c ∷ []) ≡ take m.clauses p.clauses =
    take-append-le m.clauses p.clauses (c ∷ []) is.clauses in rw e refl)

pub learnt-retired : (p : ProblemState) (l : Lit) (learnt : List (List Lit)) (moments : List Moment)
    → IsLearnt p learnt moments → IsLearnt (with_retired p l) learnt moments
learnt-retired p l learnt moments h = learnt-later p (with_retired p l) learnt moments h
    (λ m is. record {
      vars = is.vars;
      gates = is.gates;
      clauses = is.clauses;
      sums = is.sums;
      bounds = is.bounds;
      retired = let x : m.retired ≤ length p.retired = is.retired in let n : length (p.retired ++ l ∷ [])
          ≡ length p.retired + 1 = length_push p.retired l in omega (arith, x, n);
    })
    (λ m is. let e : take m.retired (p.retired ++ l ∷ []) ≡ take m.retired p.retired =
    take-append-le m.retired p.retired (l ∷ []) is.retired in rw e refl)

-- the bound that is added last
abbrev new_bound : ProblemState → ℕ → ExtInt → TermBound
new_bound q n z = record { out = next_lit q; term = n; below = z }

pub learnt-bounded : (p : ProblemState) (term : ℕ) (below : ExtInt) (learnt : List (List Lit)) (moments : List Moment)
    → IsLearnt p learnt moments → IsLearnt (with_bound p term below) learnt moments
learnt-bounded p term below learnt moments h = learnt-later p (with_bound p term below) learnt moments h
    (λ m is. record {
      vars = let x : m.vars ≤ p.vars = is.vars in omega (arith, x);
      gates = is.gates;
      clauses = is.clauses;
      sums = is.sums;
      bounds = let x : m.bounds ≤ length p.bounds = is.bounds in
          let n : length (p.bounds ++ new_bound p term below ∷ []) ≡ length p.bounds + 1 =
          length_push p.bounds (new_bound p term below) in omega (arith, x, n);
      retired = is.retired;
    })
    (λ m is. let e : take m.bounds (p.bounds ++ new_bound p term below ∷ []) ≡ take m.bounds p.bounds =
    take-append-le m.bounds p.bounds (new_bound p term below ∷ []) is.bounds in rw e refl)

-- what was learnt in two parts
pub replicate-append : {X : Type 0} (a b : ℕ) (x : X) → replicate a x ++ replicate b x ≡ replicate (a + b) x
replicate-append zero b x = let e : b ≡ zero + b = omega arith in ap (λ (n : ℕ). replicate n x) e
replicate-append (suc a) b x = ap (λ xs. x ∷ xs) (replicate-append a b x)
    ∙ (let e : suc (a + b) ≡ suc a + b = omega arith in ap (λ (n : ℕ). replicate n x) e)
