-- How a search moves.
use Rattle.std.proofs.Common.{◌≡◌, ℕ, ◌+◌, ◌-◌, ◌^◌, ◌<◌, ◌≤◌, min, Bool, true, false, Option, Some, List, [], ◌∷◌}
use Rattle.std.proofs.Common.{◌++◌, length, take, drop, replicate, slice_get, get_or, refl, sym, ap, ◌∙◌, subst, inr}
use Rattle.std.proofs.Common.{⊎_elim, arith, append_assoc}
use Rattle.std.proofs.lemmas.Bool.{cases_lt}
use Rattle.std.proofs.lemmas.List.Elements.{All-weaker, All-contains}
use Rattle.std.proofs.lemmas.List.{take-append-drop, append-nil}
use Rattle.lit_core.specs.declared.literals.Lit.{Lit}
use Rattle.lit_core.specs.Literals.{value_in, negated}
use Rattle.lit_core.specs.Truth.{IsUnitAt, IsFalsified}
use Rattle.clause_store.specs.declared.trails.Step.{Step}
use Rattle.clause_store.specs.TrailState.{TrailState}
use Rattle.clause_store.specs.TrailLaws.{IsTrail, IsMade, CutsAt}
use Rattle.clause_store.specs.StoreState.{StoreState, IsStore, IsHeld, IsConflict}
use Rattle.clause_store.proofs.ListFacts.{slice_get-take-below}
use Rattle.clause_store.proofs.StoreFacts.{negated-true}
use Rattle.clause_store.proofs.WatchFacts.{made-false}
use Rattle.conflict_analysis.specs.declared.analysis.Analysis.{Analysis}
use Rattle.conflict_analysis.specs.Analyses.{IsAnalysis, IsHeldLiteral, IsFalseUpTo, HasCurrent}
use Rattle.conflict_analysis.proofs.UnitBack.{unit-after-step-back}
use Rattle.ground_core.specs.Problems.{ProblemState, IsProblem, IsLitOf, AreLitsOf}
use Rattle.ground_core.specs.Meaning.{Satisfies, RefutesAll}
use Rattle.ground_core.specs.declared.moments.Moment.{Moment}
use Rattle.ground_core.specs.Moments.{moment_of}
use Rattle.ground_core.specs.Solving.{Entails}
use Rattle.search_engine.specs.declared.engine.Engine.{Engine}
use Rattle.search_engine.specs.Knowledge.{Occurs}
use Rattle.search_engine.specs.Potential.{potential, implied_of, Behind, Stands}
use Rattle.search_engine.specs.Searching.{IsOrderly, IsEngine, IsSearch, paid_of, Continues, KeepsAssumed, IsLevelOf}
use Rattle.search_engine.specs.Searching.{IsLesson, IsFirstOpen, LessonGives, StandsAt, BehindAt}
use Rattle.search_engine.proofs.PassingFacts.{passing-moves}
use Rattle.search_engine.proofs.Pushed.{front-refl, front-trans}
use Rattle.search_engine.proofs.LearntLists.{replicate-append}
use Rattle.search_engine.proofs.Standing.{cut-pays, fewer-behind, stands-fewer}
use Rattle.search_engine.proofs.TrailChange.{bits-append, cut-bits, cut-orderly, cut-assumed}
use Rattle.search_engine.proofs.Roots.{SatisfiesHeld, follows-satisfied, root-refuted}

-- the trail, the counts and what was noted of choices may change; the problem and the held clauses stay
pub record Moves (e f : Engine) : Type 0 where
  pub problem : f.problem ≡ e.problem
  pub learnt : f.learnt ≡ e.learnt
  pub ids : f.ids ≡ e.ids
  pub passing : f.passing ≡ e.passing
  pub moments : f.moments ≡ e.moments
  pub known : f.known ≡ e.known
  pub searches : f.searches ≡ e.searches
  pub closed : f.closed ≡ e.closed
  pub base : f.base ≡ e.base
  pub clauses : f.store.clauses ≡ e.store.clauses
  pub size : length f.store.trail.values ≡ length e.store.trail.values

pub moves-continues : (e f : Engine) → Moves e f → Continues e f
moves-continues e f m = record {
  problem = m.problem;
  searches = m.searches;
  known = m.known;
  base = m.base;
  learnt = front-refl e.learnt ∙ ap (take (length e.learnt)) (sym m.learnt);
  now = (0, ap length m.learnt ∙ omega arith, ap (λ v. v.items) m.moments ∙ sym (append-nil e.moments.items));
}

pub continues-refl : (e : Engine) → Continues e e
continues-refl e = record {
  problem = refl;
  searches = refl;
  known = refl;
  base = refl;
  learnt = front-refl e.learnt;
  now = (0, omega arith, sym (append-nil e.moments.items));
}

pub continues-trans : (e f g : Engine) → Continues e f → Continues f g → Continues e g
continues-trans e f g a b = record {
  problem = b.problem ∙ a.problem;
  searches = b.searches ∙ a.searches;
  known = b.known ∙ a.known;
  base = b.base ∙ a.base;
  learnt = front-trans e.learnt f.learnt g.learnt a.learnt b.learnt;
  now =
      let x : Moment = moment_of e.problem in
      let later : g.moments.items ≡ f.moments.items ++ replicate b.now.0 x = b.now.2
      ∙ ap (λ (p : ProblemState). f.moments.items ++ replicate b.now.0 (moment_of p)) a.problem in (
        a.now.0 + b.now.0,
        omega (arith, a.now.1, b.now.1),
        later ∙ (ap (λ (ms : List Moment). ms ++ replicate b.now.0 x) a.now.2
            ∙ (append_assoc e.moments.items (replicate a.now.0 x) (replicate b.now.0 x)
            ∙ ap (λ (ms : List Moment). e.moments.items ++ ms) (replicate-append a.now.0 b.now.0 x))),
      );
}

pub engine-moves : (e f : Engine) → Moves e f → IsStore f.store → IsEngine e → IsEngine f
engine-moves e f m laws h = record {
  problem = subst IsProblem (sym m.problem) h.problem;
  within = rw (m.problem, m.closed) h.within;
  closed = rw (m.problem, m.closed, m.ids, m.clauses) h.closed;
  learnt = rw (m.problem, m.learnt, m.moments) h.learnt;
  knows = rw (m.problem, m.learnt, m.ids, m.clauses) h.knows;
  store = laws;
  sized = rw (m.problem, m.size) h.sized;
}

-- the same conflicts are paid, or one more
pub paid-same : (e f : Engine) → f.problem ≡ e.problem → f.base ≡ e.base → f.conflicts ≡ e.conflicts
    → paid_of f ≡ paid_of e
paid-same e f problem base conflicts = rw (problem, base, conflicts) refl

pub paid-more : (e f : Engine) → f.problem ≡ e.problem → f.base ≡ e.base → f.conflicts ≤ e.conflicts + 1
    → paid_of f ≤ paid_of e + 1
paid-more e f problem base conflicts =
    let same : potential f.problem.vars (replicate f.base true) ≡ potential e.problem.vars (replicate e.base true) =
    rw (problem, base) refl in
    omega (arith, same, conflicts)

pub search-moves : (e f : Engine) → Moves e f → IsStore f.store → IsOrderly e.problem.vars f.store.trail.steps
    → e.conflicts ≤ f.conflicts → paid_of f < 2 ^ e.problem.vars → f.root_conflicts ≤ 1 → IsSearch e → IsSearch f
search-moves e f m laws orderly more fewer once h = record {
  engine = engine-moves e f m laws h.engine;
  orderly = rw m.problem orderly;
  counted = let c : length e.learnt ≤ e.known + e.conflicts = h.counted in
      rw (m.learnt, m.known) (omega (arith, c, more));
  fewer = subst (λ (q : ProblemState). paid_of f < 2 ^ q.vars) (sym m.problem) fewer;
  once = once;
  closed = rw (m.problem, m.closed) h.closed;
  passing = passing-moves e f h.passing m.problem m.closed (ap (λ v. v.items) m.passing) (ap (λ v. v.items) m.ids)
      m.clauses;
}

-- only what there is room for differs
pub search-spare : (e f : Engine) → f.problem ≡ e.problem → f.learnt ≡ e.learnt → f.ids.items ≡ e.ids.items
    → f.moments.items ≡ e.moments.items → f.passing.items ≡ e.passing.items → f.known ≡ e.known
    → f.closed ≡ e.closed → f.base ≡ e.base
    → f.conflicts ≡ e.conflicts → f.root_conflicts ≡ e.root_conflicts → f.store.clauses ≡ e.store.clauses
    → f.store.trail ≡ e.store.trail → IsStore f.store → IsSearch e → IsSearch f
search-spare e f problem learnt ids moments passing known closed base conflicts root clauses trail laws h = record {
  engine = record {
    problem = rw problem h.engine.problem;
    within = rw (problem, closed) h.engine.within;
    closed = rw (problem, closed, ids, clauses) h.engine.closed;
    learnt = rw (problem, learnt, moments) h.engine.learnt;
    knows = rw (problem, learnt, ids, clauses) h.engine.knows;
    store = laws;
    sized = rw (problem, trail) h.engine.sized;
  };
  orderly = rw (problem, trail) h.orderly;
  counted = rw (learnt, known, conflicts) h.counted;
  fewer = rw (problem, conflicts, base) h.fewer;
  once = rw root h.once;
  closed = rw (problem, closed) h.closed;
  passing = passing-moves e f h.passing problem closed passing ids clauses;
}

-- the held clauses are satisfied where the problem is
pub satisfies-held : (e : Engine) → IsEngine e → (v : ℕ → Bool) → Satisfies e.problem v → SatisfiesHeld e.store v
satisfies-held e h v s id c held = h.knows.implied v s id c held

-- the level of a conflict is no higher than the current one
pub level-within : (s : StoreState) → IsStore s → (id level : ℕ) → IsLevelOf s id level → level ≤ s.trail.level
level-within s laws id level l = ⊎_elim
    (λ (z : level ≡ 0). omega (arith, z))
    (λ w. let top : w.2.1.level ≤ s.trail.level = laws.trail.top w.2.0 w.2.1 w.2.2 in let at : w.2.1.level ≡ level =
    w.2.4 in omega (arith, top, at))
    l.here

-- where all of a clause is false up to a level, it is false after the backtrack to it
pub upto-false : (s t : TrailState) (level : ℕ) → CutsAt level s t → IsTrail t → (m : Lit) → IsFalseUpTo s level m
    → value_in t.values m ≡ Some false
upto-false s t level cut laws m f = ⊎_elim
    (λ lt. made-false t.values t.steps m laws.coherent f.0 f.1 (ap (λ (xs : List Step). slice_get xs f.0) cut.kept
    ∙ (slice_get-take-below (length t.steps) s.steps f.0 lt ∙ f.2)) f.3)
    (λ le. let up : level < f.1.level = cut.above f.0 f.1 le f.2 in let low : f.1.level ≤ level = f.4 in
    absurd (omega (arith, up, low)))
    (cases_lt f.0 (length t.steps))

module _ (s t : StoreState) (id level : ℕ) (cut : CutsAt level s.trail t.trail) (clauses : t.clauses ≡ s.clauses)
    (laws : IsStore t) (l : IsLevelOf s id level) where
  held-still : IsHeld t id l.clause
  held-still = ap (λ (xs : List (Option (List Lit))). slice_get xs id) clauses ∙ l.held

  pub conflict-still : IsConflict t id
  conflict-still = (
    l.clause,
    held-still,
    λ k d lt. upto-false s.trail t.trail level cut laws.trail
        (get_or l.clause k d) (l.upto k d lt),
  )

  pub current-still : (level ≡ 0 → ⊥) → HasCurrent t id
  current-still some = ⊎_elim
      (λ z. absurd (some z))
      (λ w.
      let k : ℕ = w.2.0 in
      let u : Step = w.2.1 in
      let at : u.level ≡ level = w.2.4 in
      let lt : k < length t.trail.steps = ⊎_elim
      (λ lt. lt)
      (λ le. let up : level < u.level = cut.above k u le w.2.2 in absurd (omega (arith, up, at)))
      (cases_lt k (length t.trail.steps)) in
      let here : slice_get t.trail.steps k ≡ Some u = ap (λ (xs : List Step). slice_get xs k) cut.kept
      ∙ (slice_get-take-below (length t.trail.steps) s.trail.steps k lt ∙ w.2.2) in
      (l.clause, held-still, (w.0, w.1, (k, u, here, w.2.3, at ∙ sym cut.level_is))))
      l.here

-- the steps that are left are a prefix
cut-front : (s t : TrailState) (level : ℕ) → CutsAt level s t → implied_of s.steps ≡ implied_of t.steps ++ implied_of
    (drop (length t.steps) s.steps)
cut-front s t level cut = ap implied_of (sym (take-append-drop (length t.steps) s.steps))
    ∙ (bits-append (take (length t.steps) s.steps) (drop (length t.steps) s.steps)
    ∙ ap (λ (xs : List Step). implied_of xs ++ implied_of (drop (length t.steps) s.steps)) (sym cut.kept))

-- a false literal is one of the problem
pub false-within : (vars : ℕ) (s : TrailState) → IsTrail s → IsOrderly vars s.steps → (c : List Lit)
    → IsFalsified s.values c → AreLitsOf vars c
false-within vars s laws orderly c h k d lt =
    let m : Lit = get_or c k d in
    let w : IsMade s.steps (negated m) = laws.coherent.was_made (negated m) (negated-true s.values m (h k d lt)) in
    subst (IsLitOf vars) w.3 (orderly.named w.0 w.1 w.2)

-- a conflict was met at `level`, analysed, and the trail was cut twice
module _ (vars conflicts : ℕ) (s t u : TrailState) (level low : ℕ) (first : CutsAt level s t) (second : CutsAt low t u)
    (laws : IsTrail t) (lower : low < t.level) where
  pub two-cuts : (goal : ℕ) → Stands vars (implied_of s.steps) conflicts goal → Behind vars (implied_of u.steps)
      (conflicts + 1) goal
  two-cuts goal h =
      let b = cut-bits low t u second laws lower in
      let whole : implied_of s.steps ≡ implied_of u.steps ++ false ∷
      (b.0 ++ implied_of (drop (length t.steps) s.steps)) =
      cut-front s t level first ∙ (ap (λ bs. bs ++ implied_of (drop (length t.steps) s.steps)) b.1
      ∙ append_assoc (implied_of u.steps) (false ∷ b.0) (implied_of (drop (length t.steps) s.steps))) in
      cut-pays vars (implied_of u.steps) (b.0 ++ implied_of (drop (length t.steps) s.steps)) conflicts goal
      (subst (λ bs. Stands vars bs conflicts goal) whole h)

-- what was learnt of a conflict above level 0
module _ (e f : Engine) (m : Moves e f) (search : IsSearch e) (t : StoreState) (level id : ℕ)
    (found : IsLevelOf e.store id level) (some : level ≡ 0 → ⊥) (first : CutsAt level e.store.trail t.trail)
    (clauses : t.clauses ≡ e.store.clauses) (laws : IsStore t) (a : Analysis) (is : IsAnalysis t a)
    (second : CutsAt a.level t.trail f.store.trail) (after : IsStore f.store)
    (counts : f.conflicts ≡ min (e.conflicts + 1) (2 ^ 64 - 1)) (root : f.root_conflicts ≡ 0) where
  low-level : a.level < t.trail.level
  low-level = is.unit_back.lower

  pub lesson-lower : f.store.trail.level < e.store.trail.level
  lesson-lower =
      let x : f.store.trail.level ≡ a.level = second.level_is in
      let y : t.trail.level ≡ level = first.level_is in
      let z : level ≤ e.store.trail.level = level-within e.store search.engine.store id level found in
      let w : a.level < t.trail.level = low-level in
      omega (arith, x, y, z, w)

  orderly-mid : IsOrderly e.problem.vars t.trail.steps
  orderly-mid = cut-orderly level e.store.trail t.trail first e.problem.vars search.orderly

  pub lesson-orderly : IsOrderly e.problem.vars f.store.trail.steps
  lesson-orderly = cut-orderly a.level t.trail f.store.trail second e.problem.vars orderly-mid

  pub lesson-assumed : KeepsAssumed e.store.trail.steps f.store.trail.steps
  lesson-assumed assume h = cut-assumed a.level t.trail f.store.trail second assume
      (cut-assumed level e.store.trail t.trail first assume h)

  pub lesson-behind : (goal : ℕ) → StandsAt e goal → BehindAt f goal
  lesson-behind goal h =
      let b : Behind e.problem.vars (implied_of f.store.trail.steps) (paid_of e + 1) goal =
      two-cuts e.problem.vars (paid_of e) e.store.trail t.trail f.store.trail level a.level first second laws.trail
      low-level goal h in
      let le : f.conflicts ≤ e.conflicts + 1 = omega (arith, counts) in
      let here : Behind e.problem.vars (implied_of f.store.trail.steps) (paid_of f) goal =
      fewer-behind e.problem.vars (implied_of f.store.trail.steps) (paid_of e + 1) (paid_of f) goal
      (paid-more e f m.problem m.base le) b in
      subst (λ (q : ProblemState). Behind q.vars (implied_of f.store.trail.steps) (paid_of f) goal) (sym m.problem) here

  pub lesson-search : StandsAt e 0 → e.conflicts < 2 ^ 64 → IsSearch f
  lesson-search h fits =
      let b : Behind f.problem.vars (implied_of f.store.trail.steps) (paid_of f) 0 = lesson-behind 0 h in
      let fewer : paid_of f < 2 ^ f.problem.vars = stands-fewer f.problem.vars (implied_of f.store.trail.steps)
      (paid_of f) 0 (inr b) in
      let less : paid_of f < 2 ^ e.problem.vars = subst (λ (p : ProblemState). paid_of f < 2 ^ p.vars)
      m.problem fewer in
      search-moves e f m after lesson-orderly (omega (arith, counts, fits)) less (omega (arith, root)) search

  entailed-mid : Entails e.problem a.clause.items
  entailed-mid v sat = follows-satisfied t v (λ i c held. search.engine.knows.implied v sat i c
      (ap (λ (xs : List (Option (List Lit))). slice_get xs i) (sym clauses) ∙ held)) a.clause.items
      a.hints.items is.follows

  unit-after : (l : Lit) × (slice_get a.clause.items 0 ≡ Some l) × IsUnitAt f.store.trail.values a.clause.items l
  unit-after = unit-after-step-back t.trail f.store.trail a.level a.clause.items laws.trail after.trail
      is.unit_back second

  occurs-held : (l : Lit) → IsHeldLiteral t l → Occurs e.problem l
  occurs-held l w = All-contains (Occurs e.problem) w.1 l (search.engine.knows.occurs w.0 w.1
      (ap (λ (xs : List (Option (List Lit))). slice_get xs w.0) (sym clauses) ∙ w.2)) w.3

  pub lesson : IsLesson f a.clause.items
  lesson = record {
    within = rw m.problem (false-within e.problem.vars t.trail laws.trail orderly-mid a.clause.items is.falsified);
    occurs = rw m.problem (All-weaker (IsHeldLiteral t) (Occurs e.problem) occurs-held a.clause.items is.held);
    entailed = subst (λ (p : ProblemState). Entails p a.clause.items) (sym m.problem) entailed-mid;
    others = (unit-after.0, unit-after.1, unit-after.2.others);
    owed = let c : length e.learnt ≤ e.known + e.conflicts = search.counted in
        rw (m.learnt, m.known) (omega (arith, c, counts));
  }

  pub lesson-open : IsFirstOpen f.store.trail.values a.clause.items
  lesson-open = (unit-after.0, unit-after.1, unit-after.2.unassigned)

  pub lesson-gives : LessonGives e f (Some a.clause.items)
  lesson-gives = (root, lesson, lesson-open, lesson-lower, lesson-behind, counts)

-- a conflict at level 0 refutes the problem
pub root-gives : (e : Engine) (id : ℕ) → IsSearch e → IsLevelOf e.store id 0 → RefutesAll e.problem []
root-gives e id search l v sat make = root-refuted e.store search.engine.store v (satisfies-held e search.engine v sat)
    search.orderly.decided id l
