-- How a search begins.
use Rattle.std.proofs.Common.{◌≡◌, ℕ, zero, suc, ◌+◌, ◌-◌, ◌*◌, ◌^◌, ◌<◌, ◌≤◌, Bool, true, Some, None, Option, is_some}
use Rattle.std.proofs.Common.{List, [], ◌∷◌, length, take, replicate, slice_get, get_or, refl, sym, ap, ◌∙◌, subst, inl}
use Rattle.std.proofs.Common.{⊎_elim, arith}
use Rattle.std.specs.Global.{Vec}
use Rattle.std.proofs.Math.Nat.{pow-suc}
use Rattle.std.proofs.lemmas.Bool.{cases_lt}
use Rattle.std.proofs.lemmas.List.{length-replicate, take_all}
use Rattle.lit_core.specs.declared.literals.Lit.{Lit}
use Rattle.lit_core.specs.Literals.{negated}
use Rattle.clause_store.specs.declared.trails.Step.{Step}
use Rattle.clause_store.specs.TrailState.{TrailState}
use Rattle.clause_store.specs.TrailLaws.{IsTrail, IsMade, cleared}
use Rattle.clause_store.specs.StoreState.{StoreState, IsConflict, IsHeld, IsQuiet, IsStore, Propagates}
use Rattle.clause_store.specs.StoreState.{with_trail}
use Rattle.clause_store.proofs.ListFacts.{slice_get-take-below}
use Rattle.clause_store.proofs.StoreFacts.{negated-true}
use Rattle.ground_core.specs.Problems.{AreLitsOf}
use Rattle.ground_core.specs.Meaning.{RefutesAll}
use Rattle.search_engine.specs.declared.engine.Engine.{Engine}
use Rattle.search_engine.specs.Potential.{potential, implied_of, Ahead}
use Rattle.ground_core.specs.Selectors.{AreSelectors}
use Rattle.search_engine.specs.Searching.{AheadAt, AreClosed, Extends, IsOrderly, IsSearch, AreAssumed, paid_of}
use Rattle.search_engine.specs.Resting.{IsResting}
use Rattle.search_engine.proofs.Standing.{stands-fewer}
use Rattle.search_engine.proofs.TrailChange.{extends-from, extends-propagates, steps-fit}
use Rattle.search_engine.proofs.TurnFacts.{reason-within}
use Rattle.search_engine.proofs.Roots.{root-refuted}
use Rattle.search_engine.proofs.SearchFacts.{satisfies-held}
use Rattle.search_engine.proofs.DecideFacts.{bits-length, with_passing, with_store}
use Rattle.search_engine.proofs.GivenBack.{passing-begun}
use Rattle.search_engine.proofs.LearnFacts.{closed-true}
use Rattle.search_engine.proofs.SelectorSteps.{few-made}
use Rattle.search_engine.proofs.GrowFacts.{orderly-none, pow-le, resting-moves, same-itself}

-- so much is a trail worth on which all follows
pub base-worth : (v b m : ℕ) → b + m ≡ v → potential v (replicate b true) + 2 ^ m ≡ 2 ^ v
base-worth v zero m e = let same : 2 ^ m ≡ 2 ^ v = ap (λ (n : ℕ). 2 ^ n) (let x : m ≡ v = omega arith in x) in
    omega (arith, same)
base-worth zero (suc b) m e = absurd (omega arith)
base-worth (suc v) (suc b) m e =
    let r : potential v (replicate b true) + 2 ^ m ≡ 2 ^ v = base-worth v b m (omega arith) in
    let t : 2 ^ (suc v) ≡ 2 ^ v * 2 = pow-suc 2 v in
    omega arith

-- fewer conflicts than 2^n come, n the number of variables that are not among those
pub fewer-free : (c v b r : ℕ) → b ≤ v → r ≤ b → c + potential v (replicate b true) < 2 ^ v → c < 2 ^ (v - r)
fewer-free c v b r le few h =
    let worth : potential v (replicate b true) + 2 ^ (v - b) ≡ 2 ^ v = base-worth v b (v - b) (omega (arith, le)) in
    let up : 2 ^ (v - b) ≤ 2 ^ (v - r) = pow-le (v - b) (v - r) (omega (arith, few)) in
    omega (arith, worth, up, h)

-- where no step is without a reason, all follow
bits-true : (steps : List Step) → ((k : ℕ) (t : Step) → slice_get steps k ≡ Some t → t.reason ≡ None → ⊥)
    → implied_of steps ≡ replicate (length steps) true
bits-true [] h = refl
bits-true (t ∷ steps) h =
    let rest : implied_of steps ≡ replicate (length steps) true = bits-true steps (λ k u at. h (suc k) u at) in
    let first : is_some t.reason ≡ true = by_reason t.reason refl in
    rw (first, rest) refl
  where
    by_reason : (o : Option ℕ) → t.reason ≡ o → is_some o ≡ true
    by_reason None e = absurd (h 0 t refl e)
    by_reason (Some i) e = refl

module _ (vars : ℕ) (s : TrailState) (laws : IsTrail s) (level : s.level ≡ 0) (orderly : IsOrderly vars s.steps)
    (sized : vars < length s.values) where
  -- nothing was decided
  pub none-decided : (k : ℕ) (t : Step) → slice_get s.steps k ≡ Some t → t.reason ≡ None → ⊥
  none-decided k t at none =
      let up : 0 < t.level = orderly.decided k t at none in
      let top : t.level ≤ s.level = laws.top k t at in
      omega (arith, up, top, level)

  pub few-steps : length s.steps ≤ vars
  few-steps = steps-fit vars s.values s.steps laws.coherent orderly sized

  pub begin-ahead : Ahead vars (implied_of s.steps) (0 + potential vars (replicate (length s.steps) true)) 0
  begin-ahead =
      let bits : implied_of s.steps ≡ replicate (length s.steps) true = bits-true s.steps none-decided in
      let worth : potential vars (implied_of s.steps) ≡ potential vars (replicate (length s.steps) true) =
      ap (potential vars) bits in
      let same : length (implied_of s.steps) ≡ length s.steps = bits-length s.steps in
      let fit : length s.steps ≤ vars = few-steps in
      record {
        room = vars - length s.steps;
        fits = omega (arith, fit, same);
        paid = omega (arith, worth);
        gone =
            omega arith;
      }

  pub begin-assumed : (assume : List Lit) → AreAssumed assume s.steps
  begin-assumed assume k t at none = absurd (none-decided k t at none)

-- every retired selector is one of the literals that follow
pub retired-follow : (e : Engine) → IsResting e → IsQuiet e.store → e.closed ≡ length e.problem.retired
    → AreSelectors e.problem.retired → length e.problem.retired ≤ length e.store.trail.steps
retired-follow e h quiet all selectors =
    let whole : take e.closed e.problem.retired ≡ e.problem.retired = take_all e.closed e.problem.retired
    (omega (arith, all)) in
    let closed : AreClosed e.store.clauses e.ids.items e.problem.retired =
    subst (AreClosed e.store.clauses e.ids.items) whole h.engine.closed in
    few-made e.problem.retired e.store.trail.steps selectors (λ l has.
    let w : IsMade e.store.trail.steps (negated l) = h.engine.store.trail.coherent.was_made (negated l)
    (closed-true e.store e.ids.items e.problem.retired quiet closed l has) in
    (w.0, w.1, w.2, ap (λ (m : Lit). m.var.0) (sym w.3)))

-- nothing is assigned any more
pub resting-cleared : (e : Engine) (s : StoreState) → IsResting e → s ≡ with_trail e.store (cleared e.store.trail)
    → IsStore s → IsResting (with_store e s)
resting-cleared e s h is laws =
    let values : s.trail.values ≡ replicate (length e.store.trail.values) None =
    ap (λ (x : StoreState). x.trail.values) is in
    let size : length s.trail.values ≡ length e.store.trail.values =
    ap length values ∙ length-replicate {A = Option Bool} (length e.store.trail.values) None in
    let sized : e.problem.vars < length e.store.trail.values = h.engine.sized in
    resting-moves e (with_store e s) h
    (record { same = same-itself e (with_store e s) refl refl refl refl refl; ids = refl; closed = refl }) refl
    (ap (λ (x : StoreState). x.clauses) is)
    (orderly-none e.problem.vars s.trail.steps (ap (λ (x : StoreState). x.trail.steps) is))
    (ap (λ (x : StoreState). x.trail.level) is) laws (omega (arith, size, sized))

-- propagation at rest
module _ (e : Engine) (t : StoreState) (h : IsResting e) (p : Propagates e.store t) (laws : IsStore t) where
  grown : Extends e.store.trail.steps t.trail.steps
  grown = extends-propagates e.store t p

  within-after : (id : ℕ) (c : List Lit) → IsHeld t id c → AreLitsOf e.problem.vars c
  within-after id c held = h.engine.knows.within id c (ap (λ (xs : List (Option (List Lit))). slice_get xs id)
      (sym p.clauses) ∙ held)

  pub rest-orderly : IsOrderly e.problem.vars t.trail.steps
  rest-orderly = record {
    named = λ k u at. ⊎_elim
        (λ lt. h.orderly.named k u (ap (λ (xs : List Step). slice_get xs k) p.kept
        ∙ (slice_get-take-below (length e.store.trail.steps) t.trail.steps k lt ∙ at)))
        (λ ge. reason-within t e.problem.vars laws within-after k u at u.reason refl (p.reasoned k u ge at).0)
        (cases_lt k (length e.store.trail.steps));
    decided = λ k u at none. h.orderly.decided k u (extends-from e.store.trail.steps t.trail.steps grown k u
        at none) none;
  }

  pub rest-level : t.trail.level ≡ 0
  rest-level = p.level ∙ h.level

  pub rest-sized : e.problem.vars < length t.trail.values
  rest-sized = let was : e.problem.vars < length e.store.trail.values = h.engine.sized in
      let same : length t.trail.values ≡ length e.store.trail.values = p.size in omega (arith, was, same)

  pub resting-propagated : IsResting (with_store e t)
  resting-propagated = resting-moves e (with_store e t) h (record {
    same =
        same-itself e (with_store e t) refl refl refl refl refl;
    ids = refl;
    closed = refl;
  }) refl p.clauses rest-orderly
      rest-level laws rest-sized

-- a clause that is false where nothing was decided refutes the problem
pub rest-refuted : (e : Engine) (id : ℕ) → IsResting e → IsConflict e.store id → RefutesAll e.problem []
rest-refuted e id h conflict v sat make = root-refuted e.store h.engine.store v (satisfies-held e h.engine v sat)
    h.orderly.decided id (record {
      clause = conflict.0;
      held = conflict.1;
      upto = λ k d lt.
          let m : Lit = get_or conflict.0 k d in
          let made : IsMade e.store.trail.steps (negated m) = h.engine.store.trail.coherent.was_made (negated m)
          (negated-true e.store.trail.values m (conflict.2 k d lt)) in
          let top : made.1.level ≤ e.store.trail.level = h.engine.store.trail.top made.0 made.1 made.2 in
          let low : e.store.trail.level ≡ 0 = h.level in
          (made.0, made.1, made.2, made.3, omega (arith, top, low));
      here = inl refl;
    })

-- a search begins
module _ (e : Engine) (h : IsResting e) (base : e.base ≡ length e.store.trail.steps) (conflicts : e.conflicts ≡ 0) where
  pub ahead-begun : AheadAt e 0
  ahead-begun = rw (conflicts, base) (begin-ahead e.problem.vars e.store.trail h.engine.store.trail h.level h.orderly
      h.engine.sized)

  pub search-begun : (p : Vec ℕ) → p.items ≡ [] → e.closed ≡ length e.problem.retired → length e.learnt ≤ e.known
      → IsSearch (with_passing e p)
  search-begun p none closed known = record {
    engine = record {
      problem = h.engine.problem;
      within = h.engine.within;
      closed = h.engine.closed;
      learnt = h.engine.learnt;
      knows = h.engine.knows;
      store = h.engine.store;
      sized = h.engine.sized;
    };
    orderly = h.orderly;
    counted = omega (arith, known);
    fewer = stands-fewer e.problem.vars (implied_of e.store.trail.steps) (paid_of e) 0 (inl ahead-begun);
    once = h.once;
    closed = closed;
    passing = passing-begun e p h.engine none;
  }

-- fewer conflicts were met than there are free variables for
pub few-conflicts : (e f : Engine) → IsResting e → e.base ≡ length e.store.trail.steps → length e.problem.retired
    ≤ e.base → f.problem ≡ e.problem → f.base ≡ e.base → paid_of f < 2 ^ f.problem.vars
    → f.conflicts < 2 ^ (e.problem.vars - length e.problem.retired)
few-conflicts e f h base retired problem same fewer =
    let fit : length e.store.trail.steps ≤ e.problem.vars = few-steps e.problem.vars e.store.trail h.engine.store.trail
    h.level h.orderly h.engine.sized in
    let paid : f.conflicts + potential e.problem.vars (replicate e.base true) < 2 ^ e.problem.vars =
    rw (← problem, ← same) fewer in
    fewer-free f.conflicts e.problem.vars e.base (length e.problem.retired) (omega (arith, fit, base)) retired paid
