-- Clauses by which retired selectors are false.
use Rattle.std.proofs.Common.{◌≡◌, ℕ, ◌<◌, Option, Some, List, [], ◌∷◌, ◌++◌, length, take, slice_get, arith, Contains}
use Rattle.std.proofs.Common.{⊎_elim}
use Rattle.std.proofs.lemmas.List.Elements.{All-weaker, Contains-push_cases}
use Rattle.std.proofs.lemmas.Option.{slice_get_within}
use Rattle.lit_core.specs.declared.literals.Lit.{Lit}
use Rattle.lit_core.specs.Literals.{negated}
use Rattle.search_engine.specs.Knowledge.{IsHeldAs}
use Rattle.search_engine.specs.Searching.{AreClosed}
use Rattle.search_engine.proofs.Pushed.{front-push, held-later}

-- more clauses are held
pub closed-later : (a b : List (Option (List Lit))) (ids : List ℕ) (ls : List Lit) → a ≡ take (length a) b
    → AreClosed a ids ls → AreClosed b ids ls
closed-later a b ids ls front h = All-weaker (λ l. (id : ℕ) × IsHeldAs a id (negated l ∷ []) × (Contains ids id → ⊥))
    (λ l. (id : ℕ) × IsHeldAs b id (negated l ∷ []) × (Contains ids id → ⊥))
    (λ l w. (w.0, held-later a b front w.0 (negated l ∷ []) w.1, w.2)) ls h

-- one of them is a learnt one
pub closed-learnt : (a : List (Option (List Lit))) (k : List Lit) (ids : List ℕ) (ls : List Lit) → AreClosed a ids ls
    → AreClosed (a ++ Some k ∷ []) (ids ++ length a ∷ []) ls
closed-learnt a k ids ls h = All-weaker (λ l. (id : ℕ) × IsHeldAs a id (negated l ∷ []) × (Contains ids id → ⊥))
    (λ l. (id : ℕ) × IsHeldAs (a ++ Some k ∷ []) id (negated l ∷ []) × (Contains (ids ++ length a ∷ []) id → ⊥))
    (λ l w.
    let lt : w.0 < length a = slice_get_within a w.0 (Some w.1.0) w.1.1 in (
      w.0,
      held-later a (a ++ Some k ∷ []) (front-push a (Some k)) w.0 (negated l ∷ []) w.1,
      λ has. ⊎_elim (λ o. w.2 o) (λ (e : length a ≡ w.0). omega (arith, lt, e))
          (Contains-push_cases ids (length a) w.0 has),
    ))
    ls h

-- the same clauses are held
pub closed-same : (a b : List (Option (List Lit))) (ids more : List ℕ) (ls : List Lit)
    → ((id : ℕ) (k : List Lit) → slice_get a id ≡ Some (Some k) → (Contains ids id → ⊥)
    → slice_get b id ≡ Some (Some k)) → ((id : ℕ) → Contains more id → Contains ids id) → AreClosed a ids ls
    → AreClosed b more ls
closed-same a b ids more ls there among h = All-weaker (λ l. (id : ℕ) × IsHeldAs a id (negated l ∷ [])
    × (Contains ids id → ⊥)) (λ l. (id : ℕ) × IsHeldAs b id (negated l ∷ []) × (Contains more id → ⊥))
    (λ l w. (w.0, (w.1.0, there w.0 w.1.0 w.1.1 w.2, w.1.2), λ has. w.2 (among w.0 has))) ls h
