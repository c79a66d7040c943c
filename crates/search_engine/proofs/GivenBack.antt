-- Clauses by which nothing is true any more are given back, and none is left where a search begins.
use Rattle.std.proofs.Common.{◌≡◌, ℕ, ◌<◌, true, false, Option, Some, None, List, [], ◌∷◌, ◌++◌, length, take, set}
use Rattle.std.proofs.Common.{slice_get, refl}
use Rattle.std.proofs.Common.{sym, ap, ◌∙◌, subst, ⊎_elim, arith, All, Contains}
use Rattle.std.specs.Global.{Vec}
use Rattle.std.specs.List.{AllZip}
use Rattle.std.proofs.lemmas.List.{append-nil, length-set}
use Rattle.std.proofs.lemmas.List.Elements.{All-nil, All-weaker, All-contains, All-contains_itself}
use Rattle.std.proofs.lemmas.List.Elements.{Contains-append_cases, Contains-append_left, Contains-append_right}
use Rattle.std.proofs.lemmas.Option.{get_or_from_slice_get, slice_get_within}
use Rattle.std.specs.Prelude.{IfSome}
use Rattle.lit_core.specs.declared.literals.Lit.{Lit}
use Rattle.lit_core.specs.Literals.{negated}
use Rattle.lit_core.proofs.LiteralFacts.{Contains-head, Contains-tail}
use Rattle.clause_store.specs.TrailState.{TrailState}
use Rattle.clause_store.specs.Releasing.{HasTrue, Releases}
use Rattle.clause_store.specs.StoreState.{StoreState, IsStore, without_clause}
use Rattle.clause_store.proofs.ListFacts.{slice_get-set_cases, slice_get-set_other}
use Rattle.ground_core.specs.GateClauses.{clauses_of}
use Rattle.search_engine.specs.declared.engine.Engine.{Engine}
use Rattle.search_engine.specs.Knowledge.{IsHeldAs, Knows}
use Rattle.search_engine.specs.Passing.{GivesBack}
use Rattle.search_engine.specs.Potential.{implied_of, Behind}
use Rattle.search_engine.specs.Searching.{AreOthersFalse, ArePassing, IsEngine, IsFirstOpen, IsOrderly, IsSearch}
use Rattle.search_engine.specs.Searching.{LessonGives, paid_of}
use Rattle.search_engine.proofs.DecideFacts.{with_passing, with_store}
use Rattle.search_engine.proofs.PassingFacts.{apart-moves}

-- nothing was given back yet
pub gives-none : (passing : List ℕ) (cl : List (Option (List Lit))) → GivesBack passing cl passing cl
gives-none passing cl = record {
  size = refl;
  back = λ id k at. at;
  there = λ id k at not. at;
  among = λ id has. has;
}

-- one more is
pub gives-one : (passing : List ℕ) (old : List (Option (List Lit))) (left : List ℕ) (mid : List (Option (List Lit)))
    (id : ℕ) (rest : List ℕ) → GivesBack passing old left mid → Contains left id
    → ((i : ℕ) → Contains rest i → Contains left i) → GivesBack passing old rest (set mid id None)
gives-one passing old left mid id rest h is fewer = record {
  size = length-set mid id None ∙ h.size;
  back = λ i k at. h.back i k (slice_get-set_cases mid id None i (Some k) at (λ e. cc));
  there = λ i k at not. slice_get-set_other mid id i None (λ same. not (h.among i (subst (Contains left) (sym same) is)))
      ∙ h.there i k at not;
  among = λ i has. h.among i (fewer i has);
}

-- a clause with a true literal is another one
pub needed-one : (s : StoreState) (id : ℕ) → (HasTrue s id → ⊥) → (i : ℕ) → HasTrue s i → HasTrue (without_clause s id) i
needed-one s id none i w = (
  w.0,
  w.1,
  slice_get-set_other s.clauses id i None (λ same. none (subst (HasTrue s) same w)) ∙ w.2,
  w.3,
  w.4,
)

-- so far some were given back
pub record Gives (old : StoreState) (passing : List ℕ) (s : StoreState) (left : List ℕ) : Type 0 where
  pub laws : IsStore s
  pub trail : s.trail ≡ old.trail
  pub within : All (λ id. id < length s.clauses) left
  pub given : GivesBack passing old.clauses left s.clauses
  pub needed : (id : ℕ) → HasTrue old id → HasTrue s id

pub gives-start : (s : StoreState) (passing : List ℕ) → IsStore s → All (λ id. id < length s.clauses) passing
    → Gives s passing s passing
gives-start s passing laws within = record {
  laws = laws;
  trail = refl;
  within = within;
  given = gives-none passing s.clauses;
  needed = λ id has. has;
}

pub gives-step : (old : StoreState) (passing : List ℕ) (s : StoreState) (left : List ℕ) (id : ℕ) (new : StoreState)
    (rest : List ℕ) → Gives old passing s left → Contains left id → IsStore new → Releases s id new true
    → ((i : ℕ) → Contains rest i → Contains left i) → Gives old passing new rest
gives-step old passing s left id new rest h is laws released fewer =
    let clauses : new.clauses ≡ set s.clauses id None = ap (λ (x : StoreState). x.clauses) released.0 in
    let size : length new.clauses ≡ length s.clauses = ap length clauses ∙ length-set s.clauses id None in
    record {
      laws = laws;
      trail = ap (λ (x : StoreState). x.trail) released.0 ∙ h.trail;
      within = All-weaker (Contains rest) (λ i. i < length new.clauses) (λ i has.
          let lt : i < length s.clauses = All-contains (λ j. j < length s.clauses) left i h.within (fewer i has) in
          omega (arith, lt, size)) rest (All-contains_itself rest);
      given = subst (λ (cl : List (Option (List Lit))). GivesBack passing old.clauses rest cl) (sym clauses)
          (gives-one passing old.clauses left s.clauses id rest h.given is fewer);
      needed = λ i has. subst (λ (x : StoreState). HasTrue x i) (sym released.0)
          (needed-one s id released.1 i (h.needed i has));
    }

pub gives-stop : (old : StoreState) (passing : List ℕ) (s : StoreState) (left : List ℕ) (id : ℕ) (new : StoreState)
    → Gives old passing s left → Releases s id new false → Gives old passing new left
gives-stop old passing s left id new h released = subst (λ (x : StoreState). Gives old passing x left) (sym released.0) h

-- a number that stands in a list is one of it
pub stands-in : (ids : List ℕ) (k id : ℕ) → slice_get ids k ≡ Some id → Contains ids id
stands-in ids k id at = (k, slice_get_within ids k id at, get_or_from_slice_get ids k id id at)

-- the clause at the end has a true literal
pub stops-at : (s new : StoreState) (o : Option ℕ) (id : ℕ) → o ≡ Some id → Releases s id new false
    → IfSome o (HasTrue new)
stops-at s new o id at released = subst (λ (x : Option ℕ). IfSome x (HasTrue new)) (sym at)
    (subst (λ (x : StoreState). HasTrue x id) (sym released.0) released.1)

-- or there is none
pub stops-none : (s : StoreState) (o : Option ℕ) → o ≡ None → IfSome o (HasTrue s)
stops-none s o none = subst (λ (x : Option ℕ). IfSome x (HasTrue s)) (sym none) tt

-- the learnt clauses are held still
zip-there : (a b : List (Option (List Lit))) (ids : List ℕ) (learnt : List (List Lit)) → ((id : ℕ) (k : List Lit)
    → Contains ids id → slice_get a id ≡ Some (Some k) → slice_get b id ≡ Some (Some k))
    → AllZip (IsHeldAs a) ids learnt → AllZip (IsHeldAs b) ids learnt
zip-there a b [] [] h z = tt
zip-there a b [] (c ∷ cs) h z = z
zip-there a b (i ∷ ids) [] h z = z
zip-there a b (i ∷ ids) (c ∷ cs) h z = (
  (z.0.0, h i z.0.0 (Contains-head i ids) z.0.1, z.0.2),
  zip-there a b ids cs (λ id k has at. h id k (Contains-tail i ids id has) at) z.1,
)

module _ (e : Engine) (s : StoreState) (p : Vec ℕ) (h : IsSearch e)
    (given : GivesBack e.passing.items e.store.clauses p.items s.clauses) (trail : s.trail ≡ e.store.trail)
    (laws : IsStore s) where
  abbrev given-back : Engine
  given-back = with_passing (with_store e s) p

  there : (id : ℕ) (k : List Lit) → slice_get e.store.clauses id ≡ Some (Some k)
      → (Contains (e.ids.items ++ e.passing.items) id → ⊥) → slice_get s.clauses id ≡ Some (Some k)
  there id k at not = given.there id k at (λ has. not (Contains-append_right e.ids.items e.passing.items id has))

  among-ids : (id : ℕ) → id < length e.store.clauses → Contains e.ids.items id
      → Contains (e.ids.items ++ e.passing.items) id
  among-ids id lt has = Contains-append_left e.ids.items e.passing.items id has

  among-all : (id : ℕ) → id < length e.store.clauses → Contains (e.ids.items ++ p.items) id
      → Contains (e.ids.items ++ e.passing.items) id
  among-all id lt has = ⊎_elim (λ a. Contains-append_left e.ids.items e.passing.items id a)
      (λ b. Contains-append_right e.ids.items e.passing.items id (given.among id b))
      (Contains-append_cases e.ids.items p.items id has)

  knows-given : Knows e.problem e.learnt e.ids.items s.clauses
  knows-given = record {
    implied = λ v sat id k at. h.engine.knows.implied v sat id k (given.back id k at);
    within = λ id k at. h.engine.knows.within id k (given.back id k at);
    from = λ id k at. h.engine.knows.from id k (given.back id k at);
    problem = apart-moves (λ (c : List Lit). c) e.store.clauses s.clauses (e.ids.items ++ e.passing.items) e.ids.items
        (clauses_of e.problem) there among-ids h.passing.problem;
    occurs = λ id k at. h.engine.knows.occurs id k (given.back id k at);
    learnt_held = zip-there e.store.clauses s.clauses e.ids.items e.learnt (λ id k has at. given.there id k at
        (λ is. All-contains (λ i. Contains e.ids.items i → ⊥) e.passing.items id h.passing.unlearnt is has))
        h.engine.knows.learnt_held;
  }

  engine-given : IsEngine given-back
  engine-given = record {
    problem = h.engine.problem;
    within = h.engine.within;
    closed = apart-moves (λ (l : Lit). negated l ∷ []) e.store.clauses s.clauses (e.ids.items ++ e.passing.items)
        e.ids.items (take e.closed e.problem.retired) there among-ids h.passing.closed;
    learnt = h.engine.learnt;
    knows = knows-given;
    store = laws;
    sized = subst (λ (t : TrailState). e.problem.vars < length t.values) (sym trail) h.engine.sized;
  }

  passing-given : ArePassing given-back
  passing-given = record {
    within = All-weaker (Contains p.items) (λ id. id < length s.clauses) (λ id is.
        let lt : id < length e.store.clauses = All-contains (λ i. i < length e.store.clauses) e.passing.items id
        h.passing.within (given.among id is) in
        let size : length s.clauses ≡ length e.store.clauses = given.size in
        omega (arith, lt, size)) p.items (All-contains_itself p.items);
    unlearnt = All-weaker (Contains p.items) (λ id. Contains e.ids.items id → ⊥) (λ id is.
        All-contains (λ i. Contains e.ids.items i → ⊥) e.passing.items id h.passing.unlearnt (given.among id is))
        p.items (All-contains_itself p.items);
    problem = apart-moves (λ (c : List Lit). c) e.store.clauses s.clauses (e.ids.items ++ e.passing.items)
        (e.ids.items ++ p.items) (clauses_of e.problem) there among-all h.passing.problem;
    closed = apart-moves (λ (l : Lit). negated l ∷ []) e.store.clauses s.clauses (e.ids.items ++ e.passing.items)
        (e.ids.items ++ p.items) (take e.closed e.problem.retired) there among-all h.passing.closed;
  }

  pub search-given : IsSearch given-back
  search-given = record {
    engine = engine-given;
    orderly = subst (λ (t : TrailState). IsOrderly e.problem.vars t.steps) (sym trail) h.orderly;
    counted = h.counted;
    fewer = h.fewer;
    once = h.once;
    closed = h.closed;
    passing = passing-given;
  }

-- a lesson speaks of the trail, which stays
pub lesson-given : (e f : Engine) (s : StoreState) (p : Vec ℕ) (c : List Lit) → s.trail ≡ f.store.trail
    → LessonGives e f (Some c) → LessonGives e (with_passing (with_store f s) p) (Some c)
lesson-given e f s p c trail l = (
  l.0,
  record {
    within = l.1.within;
    occurs = l.1.occurs;
    entailed = l.1.entailed;
    others = subst (λ (t : TrailState). AreOthersFalse t.values c) (sym trail) l.1.others;
    owed = l.1.owed;
  },
  subst (λ (t : TrailState). IsFirstOpen t.values c) (sym trail) l.2,
  subst (λ (t : TrailState). t.level < e.store.trail.level) (sym trail) l.3,
  λ goal-of stands. subst (λ (t : TrailState). Behind f.problem.vars (implied_of t.steps) (paid_of f) goal-of)
      (sym trail) (l.4 goal-of stands),
  l.5,
)

-- where a search begins no clause is to be given back
pub passing-begun : (e : Engine) (p : Vec ℕ) → IsEngine e → p.items ≡ [] → ArePassing (with_passing e p)
passing-begun e p h none =
    let there : (id : ℕ) (k : List Lit) → slice_get e.store.clauses id ≡ Some (Some k) → (Contains e.ids.items id → ⊥)
    → slice_get e.store.clauses id ≡ Some (Some k) = λ id k at not. at in
    let among : (id : ℕ) → id < length e.store.clauses → Contains (e.ids.items ++ p.items) id → Contains e.ids.items id =
    λ id lt has. subst (λ xs. Contains xs id) (ap (λ (xs : List ℕ). e.ids.items ++ xs) none ∙ append-nil e.ids.items)
    has in
    record {
      within = rw none (All-nil (λ id. id < length e.store.clauses));
      unlearnt = rw none (All-nil (λ id. Contains e.ids.items id → ⊥));
      problem = apart-moves (λ (c : List Lit). c) e.store.clauses e.store.clauses e.ids.items
          (e.ids.items ++ p.items) (clauses_of e.problem) there among h.knows.problem;
      closed = apart-moves (λ (l : Lit). negated l ∷ []) e.store.clauses e.store.clauses e.ids.items
          (e.ids.items ++ p.items) (take e.closed e.problem.retired) there among h.closed;
    }
