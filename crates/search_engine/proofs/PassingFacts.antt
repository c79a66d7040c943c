-- Clauses that are held as long as a literal is true by them, and those of the problem beside them.
use Rattle.std.proofs.Common.{◌≡◌, ℕ, ◌+◌, ◌<◌, Option, Some, List, [], ◌∷◌, ◌++◌, length, take, slice_get, ⊎_elim}
use Rattle.std.proofs.Common.{arith, All, Contains}
use Rattle.std.specs.List.{AllZip}
use Rattle.std.proofs.lemmas.List.{length_push}
use Rattle.std.proofs.lemmas.List.Elements.{All-push, All-weaker, All-contains, All-contains_itself}
use Rattle.std.proofs.lemmas.List.Elements.{Contains-append_cases, Contains-append_left, Contains-append_right}
use Rattle.std.proofs.lemmas.List.Elements.{Contains-push_cases}
use Rattle.std.proofs.lemmas.Option.{slice_get_within}
use Rattle.lit_core.specs.declared.literals.Lit.{Lit}
use Rattle.lit_core.specs.Literals.{negated}
use Rattle.ground_core.specs.GateClauses.{clauses_of}
use Rattle.search_engine.specs.declared.engine.Engine.{Engine}
use Rattle.search_engine.specs.Knowledge.{IsHeldAs}
use Rattle.search_engine.specs.Searching.{ArePassing}
use Rattle.search_engine.proofs.Known.{ids-within}
use Rattle.search_engine.proofs.Pushed.{front-at, front-push}

-- what is held under numbers that are none of these is so still
pub apart-moves : {X : Type 0} (f : X → List Lit) (a b : List (Option (List Lit))) (xs ys : List ℕ) (cs : List X)
    → ((id : ℕ) (k : List Lit) → slice_get a id ≡ Some (Some k) → (Contains xs id → ⊥) → slice_get b id ≡ Some (Some k))
    → ((id : ℕ) → id < length a → Contains ys id → Contains xs id) → All (λ x. (id : ℕ) × IsHeldAs a id (f x)
    × (Contains xs id → ⊥)) cs → All (λ x. (id : ℕ) × IsHeldAs b id (f x) × (Contains ys id → ⊥)) cs
apart-moves f a b xs ys cs there among h = All-weaker (λ x. (id : ℕ) × IsHeldAs a id (f x) × (Contains xs id → ⊥))
    (λ x. (id : ℕ) × IsHeldAs b id (f x) × (Contains ys id → ⊥))
    (λ x w. (
      w.0,
      (w.1.0, there w.0 w.1.0 w.1.1 w.2, w.1.2),
      λ has. w.2 (among w.0 (slice_get_within a w.0 (Some w.1.0) w.1.1) has),
    ))
    cs h

-- nothing of it changed
pub passing-moves : (e f : Engine) → ArePassing e → f.problem ≡ e.problem → f.closed ≡ e.closed
    → f.passing.items ≡ e.passing.items → f.ids.items ≡ e.ids.items → f.store.clauses ≡ e.store.clauses → ArePassing f
passing-moves e f h problem closed passing ids clauses = record {
  within = rw (passing, clauses) h.within;
  unlearnt = rw (passing, ids) h.unlearnt;
  problem = rw (problem, passing, ids, clauses) h.problem;
  closed = rw (problem, closed, passing, ids, clauses) h.closed;
}

-- one more clause is held so
pub passing-pushed : (e f : Engine) (k : List Lit) → ArePassing e → AllZip (IsHeldAs e.store.clauses) e.ids.items
    e.learnt → f.problem ≡ e.problem → f.closed ≡ e.closed → f.ids.items ≡ e.ids.items → f.passing.items
    ≡ e.passing.items ++ length e.store.clauses ∷ [] → f.store.clauses ≡ e.store.clauses ++ Some k ∷ [] → ArePassing f
passing-pushed e f k h held problem closed ids passing clauses =
    let len : length (e.store.clauses ++ Some k ∷ []) ≡ length e.store.clauses + 1 =
    length_push e.store.clauses (Some k) in
    let there : (id : ℕ) (j : List Lit) → slice_get e.store.clauses id ≡ Some (Some j)
    → (Contains (e.ids.items ++ e.passing.items) id → ⊥)
    → slice_get (e.store.clauses ++ Some k ∷ []) id ≡ Some (Some j) = λ id j at not. front-at e.store.clauses
    (e.store.clauses ++ Some k ∷ []) (front-push e.store.clauses (Some k)) id (Some j) at in
    let among : (id : ℕ) → id < length e.store.clauses
    → Contains (e.ids.items ++ (e.passing.items ++ length e.store.clauses ∷ [])) id
    → Contains (e.ids.items ++ e.passing.items) id = λ id lt has. ⊎_elim
    (λ a. Contains-append_left e.ids.items e.passing.items id a)
    (λ b. ⊎_elim (λ o. Contains-append_right e.ids.items e.passing.items id o)
    (λ (n : length e.store.clauses ≡ id). absurd (omega (arith, lt, n)))
    (Contains-push_cases e.passing.items (length e.store.clauses) id b))
    (Contains-append_cases e.ids.items (e.passing.items ++ length e.store.clauses ∷ []) id has) in
    record {
      within = rw (passing, clauses) (All-push (λ id. id < length (e.store.clauses ++ Some k ∷ [])) e.passing.items
          (length e.store.clauses) (All-weaker (λ id. id < length e.store.clauses)
          (λ id. id < length (e.store.clauses ++ Some k ∷ [])) (λ id lt. omega (arith, lt, len)) e.passing.items
          h.within) (omega (arith, len)));
      unlearnt = rw (passing, ids) (All-push (λ id. Contains e.ids.items id → ⊥) e.passing.items
          (length e.store.clauses) h.unlearnt (λ has.
          let lt : length e.store.clauses < length e.store.clauses =
          ids-within e.store.clauses e.ids.items e.learnt held (length e.store.clauses) has in omega (arith, lt)));
      problem = rw (problem, passing, ids, clauses) (apart-moves (λ (c : List Lit). c) e.store.clauses
          (e.store.clauses ++ Some k ∷ []) (e.ids.items ++ e.passing.items)
          (e.ids.items ++ (e.passing.items ++ length e.store.clauses ∷ [])) (clauses_of e.problem) there among
          h.problem);
      closed = rw (problem, closed, passing, ids, clauses) (apart-moves (λ (l : Lit). negated l ∷ []) e.store.clauses
          (e.store.clauses ++ Some k ∷ []) (e.ids.items ++ e.passing.items)
          (e.ids.items ++ (e.passing.items ++ length e.store.clauses ∷ [])) (take e.closed e.problem.retired) there
          among h.closed);
    }

-- a learnt clause was pushed
pub passing-learnt : (e f : Engine) (k : List Lit) → ArePassing e → f.problem ≡ e.problem → f.closed ≡ e.closed
    → f.passing.items ≡ e.passing.items → f.ids.items ≡ e.ids.items ++ length e.store.clauses ∷ []
    → f.store.clauses ≡ e.store.clauses ++ Some k ∷ [] → ArePassing f
passing-learnt e f k h problem closed passing ids clauses =
    let len : length (e.store.clauses ++ Some k ∷ []) ≡ length e.store.clauses + 1 =
    length_push e.store.clauses (Some k) in
    let there : (id : ℕ) (j : List Lit) → slice_get e.store.clauses id ≡ Some (Some j)
    → (Contains (e.ids.items ++ e.passing.items) id → ⊥)
    → slice_get (e.store.clauses ++ Some k ∷ []) id ≡ Some (Some j) = λ id j at not. front-at e.store.clauses
    (e.store.clauses ++ Some k ∷ []) (front-push e.store.clauses (Some k)) id (Some j) at in
    let among : (id : ℕ) → id < length e.store.clauses
    → Contains ((e.ids.items ++ length e.store.clauses ∷ []) ++ e.passing.items) id
    → Contains (e.ids.items ++ e.passing.items) id = λ id lt has. ⊎_elim
    (λ a. ⊎_elim (λ o. Contains-append_left e.ids.items e.passing.items id o)
    (λ (n : length e.store.clauses ≡ id). absurd (omega (arith, lt, n)))
    (Contains-push_cases e.ids.items (length e.store.clauses) id a))
    (λ b. Contains-append_right e.ids.items e.passing.items id b)
    (Contains-append_cases (e.ids.items ++ length e.store.clauses ∷ []) e.passing.items id has) in
    let unlearnt : (id : ℕ) → Contains e.passing.items id → Contains (e.ids.items ++ length e.store.clauses ∷ []) id
    → ⊥ = λ id is has. ⊎_elim
    (λ o. All-contains (λ i. Contains e.ids.items i → ⊥) e.passing.items id h.unlearnt is o)
    (λ (n : length e.store.clauses ≡ id).
    let lt : id < length e.store.clauses = All-contains (λ i. i < length e.store.clauses) e.passing.items id h.within
    is in omega (arith, lt, n))
    (Contains-push_cases e.ids.items (length e.store.clauses) id has) in
    record {
      within = rw (passing, clauses) (All-weaker (λ id. id < length e.store.clauses)
          (λ id. id < length (e.store.clauses ++ Some k ∷ [])) (λ id lt. omega (arith, lt, len)) e.passing.items
          h.within);
      unlearnt = rw (passing, ids) (All-weaker (Contains e.passing.items)
          (λ id. Contains (e.ids.items ++ length e.store.clauses ∷ []) id → ⊥) unlearnt e.passing.items
          (All-contains_itself e.passing.items));
      problem = rw (problem, passing, ids, clauses) (apart-moves (λ (c : List Lit). c) e.store.clauses
          (e.store.clauses ++ Some k ∷ []) (e.ids.items ++ e.passing.items)
          ((e.ids.items ++ length e.store.clauses ∷ []) ++ e.passing.items) (clauses_of e.problem) there among
          h.problem);
      closed = rw (problem, closed, passing, ids, clauses) (apart-moves (λ (l : Lit). negated l ∷ []) e.store.clauses
          (e.store.clauses ++ Some k ∷ []) (e.ids.items ++ e.passing.items)
          ((e.ids.items ++ length e.store.clauses ∷ []) ++ e.passing.items) (take e.closed e.problem.retired) there
          among h.closed);
    }
