-- What holds of every solver.
use Rattle.std.proofs.Common.{◌≡◌, ℕ, suc, zero, ◌<◌, Option, Some, None, List, [], ◌∷◌, slice_get, refl, sym, ◌∙◌}
use Rattle.std.proofs.Common.{subst, ◌⊎◌, inl, inr, ⊎_elim, arith, All, Contains}
use Rattle.std.specs.List.{AllZip}
use Rattle.std.proofs.lemmas.List.Elements.{All-nil, All-cons, All-contains}
use Rattle.std.proofs.lemmas.Option.{slice_get_within, same_Some}
use Rattle.lit_core.specs.declared.literals.Lit.{Lit}
use Rattle.lit_core.specs.Truth.{IsSatisfied}
use Rattle.lit_core.proofs.LiteralFacts.{Contains-cons_cases, Contains-head, Contains-tail, nothing_in_none}
use Rattle.clause_store.specs.StoreState.{IsEachOnceOf}
use Rattle.ground_core.specs.Problems.{ProblemState}
use Rattle.ground_core.specs.GateClauses.{clauses_of}
use Rattle.search_engine.specs.declared.engine.Engine.{Engine}
use Rattle.clause_learning.specs.declared.keeper.Keeper.{Keeper}
use Rattle.ground_core.specs.Solving.{IsKept}
use Rattle.search_engine.specs.Knowledge.{IsHeldAs, IsOneOf, IsOfConstraint, Occurs, Knows}
use Rattle.search_engine.specs.Resting.{held_of}
use Rattle.clause_learning.specs.Keeping.{IsKeeper, kept_of}
use Rattle.clause_learning.specs.SolverFields.{state_of}
use Rattle.clause_learning.specs.SolverState.{HasClause, IsSolver}

contains-held : (cl : List (Option (List Lit))) (id : ℕ) (k : List Lit) → slice_get cl id ≡ Some (Some k)
    → Contains (held_of cl) k
contains-held [] id k e = let lt : id < 0 = slice_get_within {A = Option (List Lit)} [] id (Some k) e in
    absurd (omega (arith, lt))
contains-held (None ∷ cl) zero k e = cc
contains-held (None ∷ cl) (suc id) k e = contains-held cl id k e
contains-held (Some c ∷ cl) zero k e = let same : c ≡ k = same_Some c k (same_Some (Some c) (Some k) e) in
    subst (Contains (c ∷ held_of cl)) same (Contains-head c (held_of cl))
contains-held (Some c ∷ cl) (suc id) k e = Contains-tail c (held_of cl) k (contains-held cl id k e)

all-held : (P : List Lit → Type 0) (cl : List (Option (List Lit)))
    → ((id : ℕ) (k : List Lit) → slice_get cl id ≡ Some (Some k) → P k) → All P (held_of cl)
all-held P [] h = All-nil P
all-held P (None ∷ cl) h = all-held P cl (λ id k e. h (suc id) k e)
all-held P (Some c ∷ cl) h = All-cons P c (held_of cl) (h 0 c refl) (all-held P cl (λ id k e. h (suc id) k e))

zip-has : (cl : List (Option (List Lit))) (ids : List ℕ) (learnt : List (List Lit)) → AllZip (IsHeldAs cl) ids learnt
    → All (HasClause (held_of cl)) learnt
zip-has cl [] [] z = All-nil (HasClause (held_of cl))
zip-has cl [] (c ∷ cs) z = absurd z
zip-has cl (i ∷ ids) [] z = absurd z
zip-has cl (i ∷ ids) (c ∷ cs) z = All-cons (HasClause (held_of cl)) c cs (z.0.0, contains-held cl i z.0.0 z.0.1, z.0.2)
    (zip-has cl ids cs z.1)

zip-find : (cl : List (Option (List Lit))) (ids : List ℕ) (learnt : List (List Lit)) → AllZip (IsHeldAs cl) ids learnt
    → (id : ℕ) → Contains ids id → (c : List Lit) × Contains learnt c × IsHeldAs cl id c
zip-find cl [] [] z id has = absurd (nothing_in_none id has)
zip-find cl [] (c ∷ cs) z id has = absurd z
zip-find cl (i ∷ ids) [] z id has = absurd z
zip-find cl (i ∷ ids) (c ∷ cs) z id has = ⊎_elim
    (λ (e : i ≡ id). (c, Contains-head c cs, subst (λ n. IsHeldAs cl n c) e z.0))
    (λ more. let w = zip-find cl ids cs z.1 id more in (w.0, Contains-tail c cs w.0 w.1, w.2))
    (Contains-cons_cases i ids id has)

-- a held clause is one of the problem or was learnt, or a constraint gave it
comes-from : (p : ProblemState) (learnt : List (List Lit)) (ids : List ℕ) (cl : List (Option (List Lit)))
    → Knows p learnt ids cl → (id : ℕ) (k : List Lit) → slice_get cl id ≡ Some (Some k)
    → (IsOneOf (clauses_of p) k ⊎ IsOneOf learnt k) ⊎ IsOfConstraint p k
comes-from p learnt ids cl h id k e = ⊎_elim
    (λ has.
    let w = zip-find cl ids learnt h.learnt_held id has in
    let same : w.2.0 ≡ k = same_Some w.2.0 k (same_Some (Some w.2.0) (Some k) (sym w.2.1 ∙ e)) in
    inl (inr (w.0, w.1, subst (IsEachOnceOf w.0) same w.2.2)))
    (λ way. ⊎_elim (λ w. inl (inl w)) (λ w. inr w) way)
    (h.from id k e)

pub kept-laws : (a : Keeper) → IsKeeper a → IsKept (kept_of a)
kept-laws a h = record {
  problem = h.resting.engine.problem;
  terms = h.terms;
  learnt = h.resting.engine.learnt;
  refuted = h.refuted;
  counted = h.counted;
  selectors = h.selectors;
  free = omega arith;
}

pub solver-laws : (a : Keeper) → IsKeeper a → IsSolver (state_of a)
solver-laws a h =
    let e : Engine = a.engine in
    let cl : List (Option (List Lit)) = e.store.clauses in
    let knows : Knows e.problem e.learnt e.ids.items cl = h.resting.engine.knows in
    record {
      kept = kept-laws a h;
      implied = λ v sat. all-held (IsSatisfied v) cl (knows.implied v sat);
      said_held = λ c has live. let w = All-contains (λ d. (id : ℕ) × IsHeldAs cl id d × (Contains e.ids.items id → ⊥))
          (clauses_of e.problem) c knows.problem has in (w.1.0, contains-held cl w.0 w.1.0 w.1.1, w.1.2);
      learnt_held = zip-has cl e.ids.items e.learnt knows.learnt_held;
      from = all-held (λ k. (IsOneOf (clauses_of e.problem) k ⊎ IsOneOf e.learnt k) ⊎ IsOfConstraint e.problem k) cl
          (comes-from e.problem e.learnt e.ids.items cl knows);
      occurs = all-held (All (Occurs e.problem)) cl knows.occurs;
      fewer = h.resting.fewer;
      once = h.resting.once;
    }
