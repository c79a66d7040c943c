-- How what is held grows, and is taken back.
use Rattle.std.proofs.Common.{◌≡◌, ℕ, suc, zero, ◌+◌, ◌-◌, ◌*◌, ◌^◌, ◌<◌, ◌≤◌, Bool, Option, Some, None, List, [], ◌∷◌}
use Rattle.std.proofs.Common.{◌++◌, length, length-append, take, drop, replicate, slice_get, get_or, refl, sym, ap, ◌∙◌}
use Rattle.std.proofs.Common.{subst, ⊎_elim, arith, All, Contains}
use Rattle.std.specs.List.{AllZip}
use Rattle.std.proofs.lemmas.Bool.{cases_lt}
use Rattle.std.proofs.lemmas.List.{take-append-drop, take-append-le, append-nil, length_push, length-drop, get_or-drop}
use Rattle.std.proofs.lemmas.List.Elements.{All-push, All-weaker, All-contains}
use Rattle.std.proofs.lemmas.Option.{slice_get_within, slice_get-get_or, get_or_from_slice_get}
use Rattle.lit_core.specs.declared.literals.Lit.{Lit}
use Rattle.std.proofs.Math.Nat.{pow-suc}
use Rattle.clause_store.specs.declared.trails.Step.{Step}
use Rattle.clause_store.specs.TrailState.{TrailState}
use Rattle.clause_store.specs.StoreState.{StoreState, IsStore, IsEachOnceOf, with_variables}
use Rattle.clause_store.proofs.ListFacts.{slice_get-take-below, slice_get-push_new}
use Rattle.lit_core.specs.Literals.{negated}
use Rattle.lit_core.proofs.LiteralFacts.{nothing_in_none}
use Rattle.ground_core.specs.Problems.{ProblemState, IsProblem, IsLitOf, AreLitsOf}
use Rattle.ground_core.specs.Growing.{with_retired}
use Rattle.ground_core.specs.Solving.{IsLearnt}
use Rattle.search_engine.specs.declared.engine.Engine.{Engine}
use Rattle.kept_problem.specs.Joining.{CanJoin, joined_problem, with_selected}
use Rattle.ground_core.specs.GateClauses.{clauses_of}
use Rattle.search_engine.specs.Knowledge.{IsHeldAs, Knows, Pushes, RemovesAll, RemovesFrom}
use Rattle.search_engine.specs.Resting.{IsResting, SameLists, SameSearches, held_of}
use Rattle.kept_problem.proofs.JoinLaws.{retired-laws, joined-laws, lit-wider, selected-laws}
use Rattle.search_engine.specs.Searching.{AreClosed, IsOrderly}
use Rattle.search_engine.proofs.LearntLists.{learnt-joined, learnt-none, learnt-selected, learnt-retired}
use Rattle.kept_problem.proofs.Prefixes.{take-next}
use Rattle.search_engine.proofs.Pushed.{front-push}
use Rattle.search_engine.proofs.Closing.{closed-later, closed-same}
use Rattle.search_engine.proofs.Known.{ids-within, known-added, known-forgets, known-selected, known-retired}
use Rattle.search_engine.proofs.Known.{known-closed}

slice_get-drop : {X : Type 0} (n : ℕ) (xs : List X) (k : ℕ) (x : X) → slice_get (drop n xs) k ≡ Some x
    → slice_get xs (n + k) ≡ Some x
slice_get-drop n xs k x e =
    let lt : k < length (drop n xs) = slice_get_within (drop n xs) k x e in
    let len : length (drop n xs) ≡ length xs - n = length-drop n xs in
    let is : get_or (drop n xs) k x ≡ x = get_or_from_slice_get (drop n xs) k x x e in
    let same : get_or (drop n xs) k x ≡ get_or xs (n + k) x = get_or-drop n xs k x in
    slice_get-get_or xs (n + k) x (omega (arith, lt, len)) ∙ ap Some (sym same ∙ is)

held-append : (xs ys : List (Option (List Lit))) → held_of (xs ++ ys) ≡ held_of xs ++ held_of ys
held-append [] ys = refl
held-append (None ∷ xs) ys = held-append xs ys
held-append (Some c ∷ xs) ys = ap (λ cs. c ∷ cs) (held-append xs ys)

held-none : (xs : List (Option (List Lit))) → ((k : ℕ) (c : List Lit) → slice_get xs k ≡ Some (Some c) → ⊥)
    → held_of xs ≡ []
held-none [] h = refl
held-none (None ∷ xs) h = held-none xs (λ k c e. h (suc k) c e)
held-none (Some c ∷ xs) h = absurd (h 0 c refl)

zip-held : (a b : List (Option (List Lit))) → ((id : ℕ) (k : List Lit) → slice_get a id ≡ Some (Some k)
    → slice_get b id ≡ Some (Some k)) → (ids : List ℕ) (learnt : List (List Lit)) → AllZip (IsHeldAs a) ids learnt
    → AllZip (IsHeldAs b) ids learnt
zip-held a b h [] [] z = tt
zip-held a b h [] (c ∷ cs) z = z
zip-held a b h (i ∷ ids) [] z = z
zip-held a b h (i ∷ ids) (c ∷ cs) z = ((z.0.0, h i z.0.0 z.0.1, z.0.2), zip-held a b h ids cs z.1)

-- the same clauses are held
pub known-same : (p : ProblemState) (learnt : List (List Lit)) (ids : List ℕ) (a b : List (Option (List Lit)))
    → ((id : ℕ) (k : List Lit) → slice_get b id ≡ Some (Some k) → slice_get a id ≡ Some (Some k))
    → ((id : ℕ) (k : List Lit) → slice_get a id ≡ Some (Some k) → slice_get b id ≡ Some (Some k)) → Knows p learnt ids a
    → Knows p learnt ids b
known-same p learnt ids a b back there h = record {
  implied = λ v s id k e. h.implied v s id k (back id k e);
  within = λ id k e. h.within id k (back id k e);
  occurs = λ id k e. h.occurs id k (back id k e);
  from = λ id k e. h.from id k (back id k e);
  problem = All-weaker (λ c. (id : ℕ) × IsHeldAs a id c × (Contains ids id → ⊥)) (λ c. (id : ℕ) × IsHeldAs b id c
      × (Contains ids id → ⊥)) (λ c w. (w.0, (w.1.0, there w.0 w.1.0 w.1.1, w.1.2), w.2)) (clauses_of p) h.problem;
  learnt_held = zip-held a b there ids learnt h.learnt_held;
}

-- what was pushed after the old clauses was removed
module _ (old mid new : List (Option (List Lit))) (front : old ≡ take (length old) mid)
    (removed : RemovesFrom (length old) mid new) where
  new-front : take (length old) new ≡ old
  new-front = removed.front ∙ sym front

  pub removed-back : (id : ℕ) (k : List Lit) → slice_get new id ≡ Some (Some k) → slice_get old id ≡ Some (Some k)
  removed-back id k e = ⊎_elim
      (λ lt. ap (λ xs. slice_get xs id) (sym new-front) ∙ (slice_get-take-below (length old) new id lt ∙ e))
      (λ ge. absurd (removed.none id k ge e))
      (cases_lt id (length old))

  pub removed-there : (id : ℕ) (k : List Lit) → slice_get old id ≡ Some (Some k) → slice_get new id ≡ Some (Some k)
  removed-there id k e =
      let lt : id < length old = slice_get_within old id (Some k) e in
      sym (slice_get-take-below (length old) new id lt) ∙ (ap (λ xs. slice_get xs id) new-front ∙ e)

  pub removed-held : held_of new ≡ held_of old
  removed-held =
      let split : held_of new ≡ held_of (take (length old) new) ++ held_of (drop (length old) new) =
      ap held_of (sym (take-append-drop (length old) new)) ∙ held-append (take (length old) new)
      (drop (length old) new) in
      let none : held_of (drop (length old) new) ≡ [] = held-none (drop (length old) new)
      (λ k c e. removed.none (length old + k) c (omega arith) (slice_get-drop (length old) new k (Some c) e)) in
      split ∙ (ap (λ xs. held_of xs ++ held_of (drop (length old) new)) new-front
      ∙ (ap (λ ys. held_of old ++ ys) none ∙ append-nil (held_of old)))

pow-up : (m k : ℕ) → 2 ^ m ≤ 2 ^ (m + k)
pow-up m zero = let e : 2 ^ (m + zero) ≡ 2 ^ m = ap (λ (n : ℕ). 2 ^ n) (omega arith) in omega (arith, e)
pow-up m (suc k) =
    let r : 2 ^ m ≤ 2 ^ (m + k) = pow-up m k in
    let e : 2 ^ (m + suc k) ≡ 2 ^ (suc (m + k)) = ap (λ (n : ℕ). 2 ^ n) (omega arith) in
    let t : 2 ^ (suc (m + k)) ≡ 2 ^ (m + k) * 2 = pow-suc 2 (m + k) in
    omega (arith, r, e, t)

pub pow-le : (m n : ℕ) → m ≤ n → 2 ^ m ≤ 2 ^ n
pow-le m n le = let e : 2 ^ (m + (n - m)) ≡ 2 ^ n = ap (λ (j : ℕ). 2 ^ j) (omega (arith, le)) in
    let u : 2 ^ m ≤ 2 ^ (m + (n - m)) = pow-up m (n - m) in omega (arith, e, u)

-- there is nothing on the trail
pub orderly-none : (vars : ℕ) (steps : List Step) → steps ≡ [] → IsOrderly vars steps
orderly-none vars steps none = record {
  named = λ k t at. absurd (nothing k t at);
  decided =
      λ k t at e. absurd (nothing k t at);
}
  where
    nothing : (k : ℕ) (t : Step) → slice_get steps k ≡ Some t → ⊥
    nothing k t at = let lt : k < length steps = slice_get_within steps k t at in let zero-is : length steps ≡ 0 =
        ap length none in omega (arith, lt, zero-is)

-- another problem was joined, and its clauses are held
pub resting-joined : (e f : Engine) (q : ProblemState) → IsResting e → e.store.trail.steps ≡ [] → CanJoin e.problem q
    → q.bounds ≡ [] → IsProblem q → Pushes e.store.clauses f.store.clauses (clauses_of q)
    → f.store.trail ≡ e.store.trail → IsStore f.store → q.vars < length e.store.trail.values → f.learnt ≡ e.learnt
    → f.ids ≡ e.ids → f.closed ≡ e.closed → f.moments ≡ e.moments → f.conflicts ≡ e.conflicts
    → f.root_conflicts ≡ e.root_conflicts → f.problem ≡ joined_problem e.problem q → IsResting f
resting-joined e f q h cleared can bounds laws pushed trail store sized learnt ids closed moments conflicts
    root problem =
    let le : e.problem.vars ≤ q.vars = can.vars in
    let up : 2 ^ e.problem.vars ≤ 2 ^ q.vars = pow-le e.problem.vars q.vars le in
    let few : e.conflicts < 2 ^ e.problem.vars = h.fewer in
    let fewer : e.conflicts < 2 ^ q.vars = omega (arith, up, few) in
    let longer : q.vars < length f.store.trail.values = subst (λ (t : TrailState). q.vars < length t.values)
    (sym trail) sized in
    let knows : Knows (joined_problem e.problem q) e.learnt e.ids.items f.store.clauses =
    known-added e.problem q e.learnt e.ids.items e.store.clauses f.store.clauses h.engine.knows pushed
    h.engine.problem bounds can laws in
    record {
      engine = record {
        problem = subst IsProblem (sym problem) (joined-laws e.problem q bounds
            h.engine.problem laws can);
        within = rw closed (subst (λ (p : ProblemState). e.closed ≤ length p.retired) (sym problem) h.engine.within);
        closed = rw (closed, ids) (subst (λ (p : ProblemState). AreClosed f.store.clauses e.ids.items
            (take e.closed p.retired)) (sym problem) (closed-later e.store.clauses f.store.clauses e.ids.items
            (take e.closed e.problem.retired) pushed.front h.engine.closed));
        learnt = rw (problem, learnt, moments) (learnt-joined e.problem q e.learnt e.moments.items e.ids.items
            e.store.clauses can h.engine.knows h.engine.learnt);
        knows = rw (problem, learnt, ids) knows;
        store = store;
        sized = subst (λ (p : ProblemState). p.vars < length f.store.trail.values) (sym problem) longer;
      };
      level = ap (λ (t : TrailState). t.level) trail ∙ h.level;
      orderly = orderly-none f.problem.vars f.store.trail.steps (ap (λ (t : TrailState). t.steps) trail ∙ cleared);
      fewer = rw conflicts (subst (λ (p : ProblemState). e.conflicts < 2 ^ p.vars) (sym problem) fewer);
      once = rw root h.once;
    }

-- what was half done was taken back
pub resting-back : (e f : Engine) (mid : List (Option (List Lit))) → IsResting e
    → e.store.clauses ≡ take (length e.store.clauses) mid → RemovesFrom (length e.store.clauses) mid f.store.clauses
    → f.store.trail.steps ≡ [] → f.store.trail.level ≡ 0 → IsStore f.store
    → e.problem.vars < length f.store.trail.values → f.problem ≡ e.problem → f.learnt ≡ e.learnt → f.ids ≡ e.ids
    → f.closed ≡ e.closed → f.moments ≡ e.moments → f.conflicts ≡ e.conflicts → f.root_conflicts ≡ e.root_conflicts
    → IsResting f
resting-back e f mid h front removed steps level store sized problem learnt ids closed moments conflicts root =
    let knows : Knows e.problem e.learnt e.ids.items f.store.clauses =
    known-same e.problem e.learnt e.ids.items e.store.clauses f.store.clauses
    (removed-back e.store.clauses mid f.store.clauses front removed)
    (removed-there e.store.clauses mid f.store.clauses front removed) h.engine.knows in
    record {
      engine = record {
        problem = rw problem h.engine.problem;
        within = rw (problem, closed) h.engine.within;
        closed = rw (problem, closed, ids) (closed-same e.store.clauses f.store.clauses e.ids.items e.ids.items
            (take e.closed e.problem.retired) (λ id k at not. removed-there e.store.clauses mid f.store.clauses front
            removed id k at) (λ id has. has) h.engine.closed);
        learnt = rw (problem, learnt, moments) h.engine.learnt;
        knows = rw (problem, learnt, ids) knows;
        store = store;
        sized = rw problem sized;
      };
      level = level;
      orderly = orderly-none f.problem.vars f.store.trail.steps steps;
      fewer = rw (problem, conflicts) h.fewer;
      once = rw root h.once;
    }

-- what was learnt was removed
pub resting-forgets : (e f : Engine) → IsResting e → RemovesAll e.ids.items e.store.clauses f.store.clauses
    → f.store.trail.steps ≡ [] → f.store.trail.level ≡ 0 → length f.store.trail.values ≡ length e.store.trail.values
    → IsStore f.store → f.problem ≡ e.problem → f.learnt ≡ [] → f.ids.items ≡ [] → f.closed ≡ e.closed
    → f.moments.items ≡ [] → f.conflicts ≡ e.conflicts → f.root_conflicts ≡ e.root_conflicts → IsResting f
resting-forgets e f h removed steps level size store problem learnt ids closed moments conflicts root =
    let knows : Knows e.problem [] [] f.store.clauses = known-forgets e.problem e.learnt e.ids.items e.store.clauses
    f.store.clauses h.engine.knows removed.back removed.there removed.gone in
    record {
      engine = record {
        problem = rw problem h.engine.problem;
        within = rw (problem, closed) h.engine.within;
        closed = rw (problem, closed, ids) (closed-same e.store.clauses f.store.clauses e.ids.items []
            (take e.closed e.problem.retired) removed.there (λ id has. absurd (nothing_in_none id has))
            h.engine.closed);
        learnt = rw (learnt, moments) (learnt-none f.problem);
        knows = rw (problem, learnt, ids) knows;
        store = store;
        sized = rw (problem, size) h.engine.sized;
      };
      level = level;
      orderly = orderly-none f.problem.vars f.store.trail.steps steps;
      fewer = rw (problem, conflicts) h.fewer;
      once = rw root h.once;
    }

-- the trail changed, and no problem and no clause
pub resting-moves : (e f : Engine) → IsResting e → SameLists e f → f.problem ≡ e.problem
    → f.store.clauses ≡ e.store.clauses → IsOrderly e.problem.vars f.store.trail.steps → f.store.trail.level ≡ 0
    → IsStore f.store → e.problem.vars < length f.store.trail.values → IsResting f
resting-moves e f h same problem clauses orderly level store sized = record {
  engine = record {
    problem = rw problem h.engine.problem;
    within = rw (problem, same.closed) h.engine.within;
    closed = rw (problem, same.closed, same.ids, clauses) h.engine.closed;
    learnt = rw (problem, same.same.learnt, same.same.moments) h.engine.learnt;
    knows = rw (problem, same.same.learnt, same.ids, clauses) h.engine.knows;
    store = store;
    sized = rw problem sized;
  };
  level = level;
  orderly = rw problem orderly;
  fewer = rw (problem, same.same.conflicts) h.fewer;
  once = rw same.same.root_conflicts h.once;
}

-- there is room for more variables
pub resting-grown : (e f : Engine) (n : ℕ) → IsResting e → SameLists e f → f.problem ≡ e.problem
    → f.store ≡ with_variables n e.store → IsStore f.store → IsResting f
resting-grown e f n h same problem store laws =
    let sized : e.problem.vars < length e.store.trail.values = h.engine.sized in
    let is : length f.store.trail.values ≡ length (e.store.trail.values ++ replicate (n - length e.store.trail.values)
    None) = ap (λ (s : StoreState). length s.trail.values) store in
    let len = length-append e.store.trail.values (replicate {A = Option Bool} (n - length e.store.trail.values) None) in
    resting-moves e f h same problem (ap (λ (s : StoreState). s.clauses) store)
    (subst (λ (xs : List Step). IsOrderly e.problem.vars xs) (sym (ap (λ (s : StoreState). s.trail.steps) store))
    h.orderly)
    (ap (λ (s : StoreState). s.trail.level) store ∙ h.level) laws (omega (arith, sized, is, len))

-- the clauses and the trail are the same
pub resting-same : (e f : Engine) → IsResting e → SameLists e f → f.problem ≡ e.problem
    → f.store.clauses ≡ e.store.clauses → f.store.trail ≡ e.store.trail → IsStore f.store → IsResting f
resting-same e f h same problem clauses trail laws =
    resting-moves e f h same problem clauses (rw trail h.orderly) (ap (λ (t : TrailState). t.level) trail ∙ h.level)
    laws (rw trail h.engine.sized)

pub orderly-wider : (m n : ℕ) (steps : List Step) → m ≤ n → IsOrderly m steps → IsOrderly n steps
orderly-wider m n steps le h = record { named = λ k t at. lit-wider m n le t.lit (h.named k t at); decided = h.decided }

-- a clause was added, with a variable more
pub resting-selected : (e f : Engine) (c k : List Lit) → IsResting e → SameLists e f → AreLitsOf (e.problem.vars + 1) c
    → IsEachOnceOf c k → f.store.clauses ≡ e.store.clauses ++ Some k ∷ [] → f.store.trail ≡ e.store.trail
    → IsStore f.store → e.problem.vars + 1 < length e.store.trail.values → f.problem ≡ with_selected e.problem c
    → IsResting f
resting-selected e f c k h same lits once clauses trail store sized problem =
    let up : 2 ^ e.problem.vars ≤ 2 ^ (e.problem.vars + 1) = pow-le e.problem.vars (e.problem.vars + 1) (omega arith) in
    let few : e.conflicts < 2 ^ e.problem.vars = h.fewer in
    let fewer : e.conflicts < 2 ^ (e.problem.vars + 1) = omega (arith, up, few) in
    let longer : e.problem.vars + 1 < length f.store.trail.values =
    subst (λ (t : TrailState). e.problem.vars + 1 < length t.values) (sym trail) sized in
    let orderly : IsOrderly (e.problem.vars + 1) f.store.trail.steps =
    subst (λ (t : TrailState). IsOrderly (e.problem.vars + 1) t.steps) (sym trail)
    (orderly-wider e.problem.vars (e.problem.vars + 1) e.store.trail.steps (omega arith) h.orderly) in
    record {
      engine = record {
        problem = subst IsProblem (sym problem) (selected-laws e.problem c h.engine.problem lits);
        within = rw same.closed (subst (λ (p : ProblemState). e.closed ≤ length p.retired)
            (sym problem) h.engine.within);
        closed = rw (same.closed, same.ids, clauses) (subst (λ (p : ProblemState).
            AreClosed (e.store.clauses ++ Some k ∷ []) e.ids.items (take e.closed p.retired)) (sym problem)
            (closed-later e.store.clauses (e.store.clauses ++ Some k ∷ []) e.ids.items (take e.closed e.problem.retired)
            (front-push e.store.clauses (Some k)) h.engine.closed));
        learnt = rw (same.same.learnt, same.same.moments) (subst
            (λ (p : ProblemState). IsLearnt p e.learnt e.moments.items) (sym problem)
            (learnt-selected e.problem c e.learnt e.moments.items h.engine.learnt));
        knows = rw (same.same.learnt, same.ids, clauses) (subst (λ (p : ProblemState). Knows p e.learnt e.ids.items
            (e.store.clauses ++ Some k ∷ [])) (sym problem) (known-selected e.problem e.learnt e.ids.items
            e.store.clauses c k h.engine.knows lits once));
        store = store;
        sized = subst (λ (p : ProblemState). p.vars < length f.store.trail.values) (sym problem) longer;
      };
      level = ap (λ (t : TrailState). t.level) trail ∙ h.level;
      orderly = subst (λ (p : ProblemState). IsOrderly p.vars f.store.trail.steps) (sym problem) orderly;
      fewer = rw same.same.conflicts (subst (λ (p : ProblemState). e.conflicts < 2 ^ p.vars) (sym problem) fewer);
      once = rw same.same.root_conflicts h.once;
    }

-- a selector was retired
pub resting-retired : (e f : Engine) (l : Lit) → IsResting e → SameLists e f → IsLitOf e.problem.vars l
    → f.store ≡ e.store → f.problem ≡ with_retired e.problem l → IsResting f
resting-retired e f l h same lit store problem =
    let more : length (e.problem.retired ++ l ∷ []) ≡ length e.problem.retired + 1 = length_push e.problem.retired l in
    let some : e.closed ≤ length e.problem.retired = h.engine.within in
    let within : e.closed ≤ length (e.problem.retired ++ l ∷ []) = omega (arith, more, some) in
    let front : take e.closed (e.problem.retired ++ l ∷ []) ≡ take e.closed e.problem.retired =
    take-append-le e.closed e.problem.retired (l ∷ []) some in
    let closed : AreClosed e.store.clauses e.ids.items (take e.closed (e.problem.retired ++ l ∷ [])) =
    subst (AreClosed e.store.clauses e.ids.items) (sym front) h.engine.closed in
    record {
      engine = record {
        problem = subst IsProblem (sym problem) (retired-laws e.problem l h.engine.problem lit);
        within = rw same.closed (subst (λ (p : ProblemState). e.closed ≤ length p.retired) (sym problem) within);
        closed = rw (same.closed, same.ids, store) (subst (λ (p : ProblemState). AreClosed e.store.clauses e.ids.items
            (take e.closed p.retired)) (sym problem) closed);
        learnt = rw (same.same.learnt, same.same.moments) (subst
            (λ (p : ProblemState). IsLearnt p e.learnt e.moments.items) (sym problem)
            (learnt-retired e.problem l e.learnt e.moments.items h.engine.learnt));
        knows = rw (same.same.learnt, same.ids, store) (subst (λ (p : ProblemState).
            Knows p e.learnt e.ids.items e.store.clauses) (sym problem)
            (known-retired e.problem l e.learnt e.ids.items e.store.clauses h.engine.knows));
        store = subst IsStore (sym store) h.engine.store;
        sized = rw store (subst (λ (p : ProblemState). p.vars < length e.store.trail.values)
            (sym problem) h.engine.sized);
      };
      level = ap (λ (s : StoreState). s.trail.level) store ∙ h.level;
      orderly = rw store (subst (λ (p : ProblemState). IsOrderly p.vars e.store.trail.steps) (sym problem) h.orderly);
      fewer = rw same.same.conflicts (subst (λ (p : ProblemState). e.conflicts < 2 ^ p.vars) (sym problem) h.fewer);
      once = rw same.same.root_conflicts h.once;
    }

-- the clause by which the next retired selector is false was pushed
pub resting-closed : (e f : Engine) (l : Lit) (k : List Lit) → IsResting e → slice_get e.problem.retired e.closed
    ≡ Some l → IsEachOnceOf (negated l ∷ []) k → f.store.clauses ≡ e.store.clauses ++ Some k ∷ []
    → f.store.trail ≡ e.store.trail → IsStore f.store → f.problem ≡ e.problem → f.ids ≡ e.ids → SameSearches e f
    → f.closed ≡ e.closed + 1 → IsResting f
resting-closed e f l k h at once clauses trail store problem ids same closed =
    let lt : e.closed < length e.problem.retired = slice_get_within e.problem.retired e.closed l at in
    let gone : Contains e.problem.retired l = (e.closed, lt, get_or_from_slice_get e.problem.retired e.closed l l at) in
    let lit : IsLitOf e.problem.vars l = All-contains (IsLitOf e.problem.vars) e.problem.retired l
    h.engine.problem.retired gone in
    let next : take (e.closed + 1) e.problem.retired ≡ take e.closed e.problem.retired ++ l ∷ [] =
    take-next e.problem.retired e.closed l at in
    let P : Lit → Type 0 = λ m. (id : ℕ) × IsHeldAs (e.store.clauses ++ Some k ∷ []) id (negated m ∷ [])
    × (Contains e.ids.items id → ⊥) in
    let here : P l = (
      length e.store.clauses,
      (k, slice_get-push_new e.store.clauses (Some k), once),
      λ has. let less : length e.store.clauses < length e.store.clauses =
          ids-within e.store.clauses e.ids.items e.learnt h.engine.knows.learnt_held (length e.store.clauses) has in
          omega (arith, less),
    ) in
    let all : All P (take e.closed e.problem.retired ++ l ∷ []) = All-push P (take e.closed e.problem.retired) l
    (closed-later e.store.clauses (e.store.clauses ++ Some k ∷ []) e.ids.items (take e.closed e.problem.retired)
    (front-push e.store.clauses (Some k)) h.engine.closed) here in
    record {
      engine = record {
        problem = rw problem h.engine.problem;
        within = rw (problem, closed) (omega (arith, lt));
        closed = rw (problem, closed, ids, clauses) (subst (All P) (sym next) all);
        learnt = rw (problem, same.learnt, same.moments) h.engine.learnt;
        knows = rw (problem, same.learnt, ids, clauses) (known-closed e.problem e.learnt e.ids.items e.store.clauses l k
            h.engine.knows gone lit once);
        store = store;
        sized = rw (problem, trail) h.engine.sized;
      };
      level = ap (λ (t : TrailState). t.level) trail ∙ h.level;
      orderly = rw (problem, trail) h.orderly;
      fewer = rw (problem, same.conflicts) h.fewer;
      once = rw same.root_conflicts h.once;
    }

pub same-itself : (e f : Engine) → f.learnt ≡ e.learnt → f.moments ≡ e.moments → f.searches ≡ e.searches
    → f.conflicts ≡ e.conflicts → f.root_conflicts ≡ e.root_conflicts → SameSearches e f
same-itself e f learnt moments searches conflicts root = record {
  learnt = learnt;
  moments = moments;
  searches =
      searches;
  conflicts = conflicts;
  root_conflicts = root;
}

pub same-twice : (e f g : Engine) → SameSearches e f → SameSearches f g → SameSearches e g
same-twice e f g a b = record {
  learnt = b.learnt ∙ a.learnt;
  moments = b.moments ∙ a.moments;
  searches = b.searches
      ∙ a.searches;
  conflicts = b.conflicts ∙ a.conflicts;
  root_conflicts = b.root_conflicts ∙ a.root_conflicts;
}
