-- Steps of a store.
use Rattle.std.proofs.Common.{◌≡◌, ℕ, ◌<◌, ◌≤◌, Bool, true, false, not, Option, Some, None, List, [], ◌∷◌, ◌++◌, length}
use Rattle.std.proofs.Common.{get_or, take, refl, sym, ap, ◌∙◌, ◌⊎◌, inl, inr, ⊎_elim, arith, slice_get, subst, All}
use Rattle.std.proofs.Common.{Contains}
use Rattle.std.specs.Option.{ForSome}
use Rattle.std.proofs.lemmas.Option.{slice_get_within, same_Some}
use Rattle.std.proofs.lemmas.List.{length-set, length-replicate}
use Rattle.std.proofs.lemmas.List.Elements.{All-weaker, All-contains, Contains-get_or}
use Rattle.lit_core.specs.declared.literals.Lit.{Lit}
use Rattle.lit_core.specs.Literals.{value_in, by_sign_if_any, negated, HasEachOnce}
use Rattle.lit_core.proofs.LiteralFacts.{negated-negated}
use Rattle.clause_base.specs.declared.trail.Step.{Step}
use Rattle.clause_base.specs.TrailState.{TrailState}
use Rattle.clause_base.specs.TrailLaws.{IsTrail, IsCoherent, IsMade, IsFixed, with_step, level_after, CutsAt}
use Rattle.clause_base.specs.TrailLaws.{empty_trail, cleared}
use Rattle.clause_base.specs.StoreState.{StoreState, IsStore, IsHeld, IsMadeBefore, IsReasonAt, IsEachOnceOf, Implies}
use Rattle.clause_base.specs.StoreState.{empty_store, with_trail, with_clause, without_clause}
use Rattle.clause_base.proofs.ListFacts.{slice_get-set_cases, slice_get-push_old, slice_get-push_cases, slice_get-take}
use Rattle.clause_base.proofs.ListFacts.{slice_get-take-below}
use Rattle.clause_base.proofs.TrailFacts.{trail-step, trail-fix, trail-cleared}

-- where a literal is false, its negation is true
pub negated-true : (a : List (Option Bool)) (m : Lit) → value_in a m ≡ Some false → value_in a (negated m) ≡ Some true
negated-true a m h = flip m.positive (get_or a m.var.0 None) h
  where
    flip : (p : Bool) (o : Option Bool) → by_sign_if_any p o ≡ Some false → by_sign_if_any (not p) o ≡ Some true
    flip p None h = cc
    flip true (Some true) h = cc
    flip true (Some false) h = refl
    flip false (Some true) h = refl
    flip false (Some false) h = cc

-- a false literal's negation is on the trail
made-before : (values : List (Option Bool)) (steps : List Step) (m : Lit) → IsCoherent values steps
    → value_in values m ≡ Some false → IsMadeBefore steps (length steps) (negated m)
made-before values steps m h e =
    let w : IsMade steps (negated m) = h.was_made (negated m) (negated-true values m e) in
    (w.0, w.1, slice_get_within steps w.0 w.1 w.2, w.2, w.3)

before-push : (steps : List Step) (t : Step) (k : ℕ) (l : Lit) → IsMadeBefore steps k l
    → IsMadeBefore (steps ++ t ∷ []) k l
before-push steps t k l w = (w.0, w.1, w.2, slice_get-push_old steps t w.0 w.1 w.3, w.4)

-- a level that is above 0 where there is no reason
level_after-none : (n : ℕ) (r : Option ℕ) → r ≡ None → level_after n r ≡ 0 → ⊥
level_after-none n None e h = omega arith
level_after-none n (Some id) e h = cc

-- a fixed literal after one more step was fixed before, or is the one of that step
fixed-push : (s : TrailState) (t : Step) (l : Lit) → IsFixed (with_step s t) l
    → IsFixed s l ⊎ ((t.lit ≡ l) × (t.level ≡ 0) × (t.reason ≡ None))
fixed-push s t l f = ⊎_elim
    (λ o. inl (f.0, f.1, o, f.3, f.4, f.5))
    (λ n. let e : f.1 ≡ t = n.1 in inr (
      ap (λ (x : Step). x.lit) (sym e) ∙ f.3,
      ap (λ (x : Step). x.level) (sym e)
          ∙ f.4,
      ap (λ (x : Step). x.reason) (sym e) ∙ f.5,
    ))
    (slice_get-push_cases s.steps t f.0 f.1 f.2)

-- a reason of an earlier step stays one
reason-push : (steps : List Step) (t : Step) (k : ℕ) (c : List Lit) (l : Lit) → IsReasonAt c steps k l
    → IsReasonAt c (steps ++ t ∷ []) k l
reason-push steps t k c l h = record {
  member = h.member;
  others = All-weaker (λ m. (m ≡ l) ⊎ IsMadeBefore steps k (negated m)) (λ m. (m ≡ l) ⊎ IsMadeBefore (steps ++ t ∷ []) k
      (negated m)) (λ m x. ⊎_elim (λ a. inl a) (λ b. inr (before-push steps t k (negated m) b)) x) c h.others;
}

-- the store after one more step, whose reason is given
module _ (s : StoreState) (t : Step) (h : IsStore s) (laws : IsTrail (with_step s.trail t)) where
  store-step : ((id : ℕ) → t.reason ≡ Some id → (c : List Lit) × IsHeld s id c × IsReasonAt c (s.trail.steps ++ t ∷ [])
      (length s.trail.steps) t.lit) → (t.level ≡ 0 → t.reason ≡ None → (id : ℕ) (c : List Lit) → IsHeld s id c
      → Contains c (negated t.lit) → ⊥) → IsStore (with_trail s (with_step s.trail t))
  store-step given free_of = record {
    trail = laws;
    in_range = λ id c held k d lt. rw length-set (h.in_range id c held k d lt);
    once = h.once;
    reasons = λ k u id e f. ⊎_elim
        (λ o. let w = h.reasons k u id o f in (w.0, w.1, reason-push s.trail.steps t k w.0 u.lit w.2))
        (λ n. let w = given id (ap (λ (x : Step). x.reason) (sym n.1) ∙ f) in rw (n.1, n.0) w)
        (slice_get-push_cases s.trail.steps t k u e);
    unopposed = λ l f id c held has. ⊎_elim
        (λ o. h.unopposed l o id c held has)
        (λ n. free_of n.1 n.2 id c held (subst (λ (x : Lit). Contains c (negated x)) (sym n.0) has))
        (fixed-push s.trail t l f);
  }

module _ (s : StoreState) (l : Lit) (r : Option ℕ) (h : IsStore s) (within : l.var.0 < length s.trail.values)
    (free : value_in s.trail.values l ≡ None) (reason : ForSome r (λ id. Implies s id l)) where
  pub store-assign : IsStore (with_trail s (with_step s.trail (record {
    lit = l;
    level = level_after s.trail.level r;
    reason = r;
  })))
  store-assign =
      let t : Step = record { lit = l; level = level_after s.trail.level r; reason = r } in
      store-step s t h (trail-step s.trail l r h.trail within free)
      (λ id f.
      let i : Implies s id l = reason id f in (
        i.clause,
        i.held,
        record {
          member = i.member;
          others = All-weaker (λ m. (m ≡ l) ⊎ (value_in s.trail.values m ≡ Some false))
              (λ m. (m ≡ l) ⊎ IsMadeBefore (s.trail.steps ++ t ∷ []) (length s.trail.steps) (negated m))
              (λ m x. ⊎_elim (λ a. inl a) (λ b. inr (before-push s.trail.steps t (length s.trail.steps) (negated m)
              (made-before s.trail.values s.trail.steps m h.trail.coherent b))) x) i.clause i.others;
        },
      ))
      (λ level none. absurd (level_after-none s.trail.level r none level))

pub store-fix : (s : StoreState) (l : Lit) → IsStore s → s.trail.level ≡ 0 → l.var.0 < length s.trail.values
    → value_in s.trail.values l ≡ None → ((id : ℕ) (c : List Lit) → IsHeld s id c → Contains c (negated l) → ⊥)
    → IsStore (with_trail s (with_step s.trail (record { lit = l; level = 0; reason = None })))
store-fix s l h level within free unopposed =
    let t : Step = record { lit = l; level = 0; reason = None } in
    store-step s t h (trail-fix s.trail l h.trail level within free) (λ id f. cc) (λ z none. unopposed)

-- taking steps off
pub store-cut : (s : StoreState) (level : ℕ) (t : TrailState) → IsStore s → CutsAt level s.trail t → IsTrail t
    → IsStore (with_trail s t)
store-cut s level t h cut laws = record {
  trail = laws;
  in_range = λ id c held k d lt. rw cut.size (h.in_range id c held k d lt);
  once = h.once;
  reasons = λ k u id e f.
      let old = was k u e in
      let w = h.reasons k u id old.0 f in (
        w.0,
        w.1,
        record {
          member = w.2.member;
          others = All-weaker (λ m. (m ≡ u.lit) ⊎ IsMadeBefore s.trail.steps k (negated m))
              (λ m. (m ≡ u.lit) ⊎ IsMadeBefore t.steps k (negated m))
              (λ m x. ⊎_elim (λ a. inl a) (λ b. inr (stays k (negated m) old.1 b)) x) w.0 w.2.others;
        },
      );
  unopposed = λ l f id c held has. h.unopposed l (f.0, f.1, (was f.0 f.1 f.2).0, f.3, f.4, f.5) id c held has;
}
  where
    was : (k : ℕ) (u : Step) → slice_get t.steps k ≡ Some u → (slice_get s.trail.steps k ≡ Some u)
        × (k < length t.steps)
    was k u e = let e2 : slice_get (take (length t.steps) s.trail.steps) k ≡ Some u = rw (← cut.kept) e in
        slice_get-take (length t.steps) s.trail.steps k u e2

    stays : (k : ℕ) (l : Lit) → k < length t.steps → IsMadeBefore s.trail.steps k l → IsMadeBefore t.steps k l
    stays k l lt w =
        let lt2 : w.0 < length t.steps = omega (arith, w.2) in (
          w.0,
          w.1,
          w.2,
          ap (λ (xs : List Step). slice_get xs w.0) cut.kept
              ∙ slice_get-take-below (length t.steps) s.trail.steps w.0 lt2 ∙ w.3,
          w.4,
        )

pub store-cleared : (s : StoreState) → IsStore s → IsStore (with_trail s (cleared s.trail))
store-cleared s h = record {
  trail = trail-cleared s.trail;
  in_range = λ id c held k d lt. rw length-replicate (h.in_range id c held k d lt);
  once = h.once;
  reasons = λ k u id e f. cc;
  unopposed = λ l f id c held has. (let e = f.2 in cc);
}

-- more variables
pub store-longer : (s : StoreState) (t : TrailState) → IsStore s → t.steps ≡ s.trail.steps → length s.trail.values
    ≤ length t.values → IsTrail t → IsStore (with_trail s t)
store-longer s t h steps longer laws = record {
  trail = laws;
  in_range = λ id c held k d lt. let a = h.in_range id c held k d lt in omega arith;
  once = h.once;
  reasons = rw steps h.reasons;
  unopposed = λ l f id c held has. h.unopposed l (
    f.0,
    f.1,
    subst (λ (xs : List Step). slice_get xs f.0 ≡ Some f.1)
        steps f.2,
    f.3,
    f.4,
    f.5,
  ) id c held has;
}

-- a store of the same clauses and trail
pub store-same : (s t : StoreState) → t.clauses ≡ s.clauses → t.trail ≡ s.trail → IsStore s → IsStore t
store-same s t clauses trail h =
    let make : List (Option (List Lit)) → TrailState → StoreState =
    λ x y. record { clauses = x; trail = y; spare = t.spare } in
    let own : IsStore (make s.clauses s.trail) = record {
      trail = h.trail;
      in_range = h.in_range;
      once = h.once;
      reasons = h.reasons;
      unopposed = h.unopposed;
    } in
    subst (λ y. IsStore (make t.clauses y)) (sym trail) (subst (λ x. IsStore (make x s.trail)) (sym clauses) own)

-- a pushed clause
pub store-push : (s : StoreState) (lits c : List Lit) → IsStore s → IsEachOnceOf lits c
    → All (λ l. l.var.0 < length s.trail.values) lits → All (λ l. IsFixed s.trail (negated l) → ⊥) lits
    → IsStore (with_clause s c)
store-push s lits c h each within unopposed = record {
  trail = h.trail;
  in_range = λ id d held. ⊎_elim
      (λ o. h.in_range id d o)
      (λ n. subst (λ (x : List Lit). All (λ l. l.var.0 < length s.trail.values) x) (sym n.1)
      (λ k x lt. All-contains (λ l. l.var.0 < length s.trail.values) lits (get_or c k x) within
      (each.from (get_or c k x) (Contains-get_or c k x lt))))
      (held_cases id d held);
  once = λ id d held. ⊎_elim (λ o. h.once id d o) (λ n. subst HasEachOnce (sym n.1) each.once) (held_cases id d held);
  reasons = λ k t id e f. let w = h.reasons k t id e f in (
    w.0,
    slice_get-push_old s.clauses (Some c) id
        (Some w.0) w.1,
    w.2,
  );
  unopposed = λ l f id d held has. ⊎_elim
      (λ o. h.unopposed l f id d o has)
      (λ n.
      let in_lits : Contains lits (negated l) = each.from (negated l)
      (subst (λ (x : List Lit). Contains x (negated l)) n.1 has) in
      let none = All-contains (λ m. IsFixed s.trail (negated m) → ⊥) lits (negated l) unopposed in_lits in
      none (subst (IsFixed s.trail) (sym (negated-negated l)) f))
      (held_cases id d held);
}
  where
    held_cases : (id : ℕ) (d : List Lit) → IsHeld (with_clause s c) id d
        → IsHeld s id d ⊎ ((id ≡ length s.clauses) × (d ≡ c))
    held_cases id d held = ⊎_elim (λ o. inl o) (λ n. inr (n.0, same_Some d c n.1))
        (slice_get-push_cases s.clauses (Some c) id (Some d) held)

-- a removed clause, where nothing is assigned
pub store-removed : (s : StoreState) (id : ℕ) → IsStore s → s.trail.steps ≡ [] → IsStore (without_clause s id)
store-removed s id h none = record {
  trail = h.trail;
  in_range = λ i c held. h.in_range i c (was i c held);
  once = λ i c held. h.once i c (was i c held);
  reasons = λ k t i e f. (let x : slice_get [] k ≡ Some t = rw none at e in cc);
  unopposed = λ l f i c held has. h.unopposed l f i c (was i c held) has;
}
  where
    was : (i : ℕ) (c : List Lit) → IsHeld (without_clause s id) i c → IsHeld s i c
    was i c held = slice_get-set_cases s.clauses id None i (Some c) held (λ e. cc)

pub store-empty : IsStore empty_store
store-empty = record {
  trail = trail-cleared empty_trail;
  in_range = λ id c held. cc;
  once = λ id c held. cc;
  reasons = λ k t id e f. cc;
  unopposed = λ l f id c held has. cc;
}
