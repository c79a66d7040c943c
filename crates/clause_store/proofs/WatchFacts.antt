-- Watches over a longer part of the trail, and over a longer trail.
use Rattle.std.proofs.Common.{◌≡◌, ℕ, ◌<◌, ◌≤◌, ◌+◌, Bool, true, false, not, Option, Some, None, List, [], ◌∷◌, ◌++◌}
use Rattle.std.proofs.Common.{length, get_or, refl, sym, ap, ◌∙◌, ◌⊎◌, inl, inr, ⊎_elim, arith, slice_get, subst}
use Rattle.std.proofs.lemmas.Option.{slice_get_within, same_Some}
use Rattle.std.proofs.lemmas.Bool.{cases_lt, cases_Bool}
use Rattle.lit_core.specs.declared.literals.Lit.{Lit}
use Rattle.lit_core.specs.Literals.{value_in, by_sign_if_any, negated}
use Rattle.clause_base.specs.declared.trail.Step.{Step}
use Rattle.clause_base.specs.TrailLaws.{IsCoherent, IsMade}
use Rattle.clause_base.specs.StoreState.{StoreState, IsHeld, Propagates}
use Rattle.clause_store.specs.declared.watched.Watch.{Watch}
use Rattle.clause_store.specs.declared.watched.Watcher.{Watcher}
use Rattle.clause_store.specs.Watching.{store_of, Guards, IsGood, IsPair, IsWatched, IsWatcher}
use Rattle.clause_store.specs.Visits.{IsNext}
use Rattle.clause_base.proofs.ListFacts.{slice_get-push_old, slice_get-push_new, slice_get-push_cases}
use Rattle.clause_base.proofs.ListFacts.{slice_get-take-below}
use Rattle.lit_core.proofs.LiteralFacts.{negated-negated}

-- where a literal is true, its negation is false
pub negated-false : (a : List (Option Bool)) (m : Lit) → value_in a m ≡ Some true → value_in a (negated m) ≡ Some false
negated-false a m h = flip m.positive (get_or a m.var.0 None) h
  where
    flip : (p : Bool) (o : Option Bool) → by_sign_if_any p o ≡ Some true → by_sign_if_any (not p) o ≡ Some false
    flip p None h = cc
    flip true (Some true) h = refl
    flip true (Some false) h = cc
    flip false (Some true) h = cc
    flip false (Some false) h = refl

-- a step makes the negation of its literal false
pub made-false : (values : List (Option Bool)) (steps : List Step) (a : Lit) → IsCoherent values steps
    → (k : ℕ) (t : Step) → slice_get steps k ≡ Some t → t.lit ≡ negated a → value_in values a ≡ Some false
made-false values steps a h k t e is =
    let one : value_in values (negated a) ≡ Some true = ap (value_in values) (sym is) ∙ h.are_true k t e in
    ap (value_in values) (sym (negated-negated a)) ∙ negated-false values (negated a) one

-- nothing guards against a literal that is not false
pub guards-unfalse : (values : List (Option Bool)) (steps : List Step) (q : ℕ) (stale : Bool) (a b : Lit)
    → IsCoherent values steps → (value_in values a ≡ Some false → ⊥) → Guards steps q stale a b
guards-unfalse values steps q stale a b h n k t lt e is = absurd (n (made-false values steps a h k t e is))

module _ (steps : List Step) (q : ℕ) (stale : Bool) (t : Step) (at : slice_get steps q ≡ Some t) where
  -- one more step, which makes another literal false
  pub guards-more : (a b : Lit) → (a ≡ negated t.lit → ⊥) → Guards steps q stale a b → Guards steps (q + 1) stale a b
  guards-more a b ne h k u lt e is = ⊎_elim
      (λ old. h k u old e is)
      (λ ge. let same : k ≡ q = omega arith in
      let tu : t ≡ u = same_Some t u (sym at ∙ ap (slice_get steps) (sym same) ∙ e) in
      let la : t.lit ≡ negated a = ap (λ (x : Step). x.lit) tu ∙ is in
      absurd (ne (sym (negated-negated a) ∙ ap negated (sym la))))
      (cases_lt k q)

  -- one more step, while the other literal is true
  pub guards-true : (a b : Lit) (j : ℕ) (v : Step) → slice_get steps j ≡ Some v → v.lit ≡ b
      → ((stale ≡ true) ⊎ (v.level ≤ t.level)) → Guards steps q stale a b → Guards steps (q + 1) stale a b
  guards-true a b j v ev is-b level h k u lt e is = ⊎_elim
      (λ old. h k u old e is)
      (λ ge. let same : k ≡ q = omega arith in
      let tu : t ≡ u = same_Some t u (sym at ∙ ap (slice_get steps) (sym same) ∙ e) in
      (j, v, ev, is-b, subst (λ (x : Step). (stale ≡ true) ⊎ (v.level ≤ x.level)) tu level))
      (cases_lt k q)

-- the trail grows after the first q steps
pub guards-push : (steps : List Step) (t : Step) (q : ℕ) (stale : Bool) (a b : Lit) → q ≤ length steps
    → Guards steps q stale a b → Guards (steps ++ t ∷ []) q stale a b
guards-push steps t q stale a b le h k u lt e is = ⊎_elim
    (λ o. let w = h k u lt o is in (w.0, w.1, slice_get-push_old steps t w.0 w.1 w.2, w.3, w.4))
    (λ n. let same : k ≡ length steps = n.0 in absurd (omega arith))
    (slice_get-push_cases steps t k u e)

pub good-push : (steps : List Step) (t : Step) (stale : Bool) (c : List Lit) → IsGood steps stale c
    → IsGood (steps ++ t ∷ []) stale c
good-push steps t stale c g = (g.0, g.1, slice_get-push_old steps t g.0 g.1 g.2, g.3, g.4)

pub watched-push : (steps : List Step) (t : Step) (q : ℕ) (stale : Bool) (c : List Lit) (w : Watch) → q ≤ length steps
    → IsWatched steps q stale c w → IsWatched (steps ++ t ∷ []) q stale c w
watched-push steps t q stale c w le h = record {
  has_first = h.has_first;
  has_second = h.has_second;
  ways = ⊎_elim (λ g. inl (good-push steps t stale c g)) (λ p. inr (record {
    distinct = p.distinct;
    first = guards-push steps t q stale w.first w.second le p.first;
    second = guards-push steps t q stale w.second w.first le p.second;
  })) h.ways;
}

module _ (e : Watcher) (h : IsWatcher e) (f : Lit) (next : IsNext e f) where
  coherent : IsCoherent e.trail.values e.trail.steps
  coherent = h.store.trail.coherent

  pub next-false : value_in e.trail.values f ≡ Some false
  next-false = ap (value_in e.trail.values) next.2 ∙ negated-false e.trail.values next.0.lit
      (coherent.are_true e.queue next.0 next.1)

  pub next-within : e.queue < length e.trail.steps
  next-within = slice_get_within e.trail.steps e.queue next.0 next.1

  -- what is true is at most of the level of the next step, unless levels are passed over
  pub true-level : (j : ℕ) (u : Step) → slice_get e.trail.steps j ≡ Some u → (e.stale ≡ true) ⊎ (u.level ≤ next.0.level)
  true-level j u eu = ⊎_elim (λ s. inl s)
      (λ n. inr (let top : u.level ≤ e.trail.level = h.store.trail.top j u eu in
      let cur : next.0.level ≡ e.trail.level = h.current n e.queue next.0 (omega arith) next.1 in omega arith))
      (cases_Bool e.stale)

  -- a pair without the literal that became false
  pub pair-untouched : (a b : Lit) → (a ≡ f → ⊥) → (b ≡ f → ⊥) → IsPair e.trail.steps e.queue e.stale a b
      → IsPair e.trail.steps (e.queue + 1) e.stale a b
  pair-untouched a b na nb p = record {
    distinct = p.distinct;
    first = guards-more e.trail.steps e.queue e.stale next.0 next.1 a b (λ x. na (x ∙ sym next.2)) p.first;
    second = guards-more e.trail.steps e.queue e.stale next.0 next.1 b a (λ x. nb (x ∙ sym next.2)) p.second;
  }

  -- a pair of which the other literal is true
  pub pair-true : (a b : Lit) → value_in e.trail.values b ≡ Some true → IsPair e.trail.steps e.queue e.stale a b
      → IsPair e.trail.steps (e.queue + 1) e.stale a b
  pair-true a b tb p =
      let m : IsMade e.trail.steps b = coherent.was_made b tb in
      record {
        distinct = p.distinct;
        first = guards-true e.trail.steps e.queue e.stale next.0 next.1 a b m.0 m.1 m.2 m.3
            (true-level m.0 m.1 m.2) p.first;
        second = guards-unfalse e.trail.values e.trail.steps (e.queue + 1) e.stale b a coherent
            (λ x. let y : Some true ≡ Some false = sym tb ∙ x in cc);
      }

  -- a new pair in place of one whose literal became false
  pub pair-moved : (l b : Lit) (q : ℕ) → q ≤ e.queue + 1 → (l ≡ b → ⊥) → (value_in e.trail.values l ≡ Some false → ⊥)
      → IsPair e.trail.steps e.queue e.stale f b → IsPair e.trail.steps q e.stale l b
  pair-moved l b q le ne nf p = record {
    distinct = ne;
    first = guards-unfalse e.trail.values e.trail.steps q e.stale l b coherent nf;
    second = λ k t lt et is. ⊎_elim
        (λ old. let g = p.second k t old et is in
        let ft : value_in e.trail.values f ≡ Some true = ap (value_in e.trail.values) (sym g.3)
        ∙ coherent.are_true g.0 g.1 g.2 in
        absurd (let y : Some true ≡ Some false = sym ft ∙ next-false in cc))
        (λ ge. let same : k ≡ e.queue = omega arith in
        let tu : next.0 ≡ t = same_Some next.0 t (sym next.1 ∙ ap (slice_get e.trail.steps) (sym same) ∙ et) in
        let fb : f ≡ b = next.2 ∙ ap negated (ap (λ (x : Step). x.lit) tu ∙ is) ∙ negated-negated b in
        absurd (p.distinct fb))
        (cases_lt k e.queue);
  }

  -- a pair of which the other literal is made true
  pub pair-implied : (b : Lit) (v : Step) → v.lit ≡ b → v.level ≡ e.trail.level
      → (value_in e.trail.values b ≡ Some false → ⊥) → IsPair e.trail.steps e.queue e.stale f b
      → IsPair (e.trail.steps ++ v ∷ []) (e.queue + 1) e.stale f b
  pair-implied b v is level nf p = record {
    distinct = p.distinct;
    first = λ k t lt et made. ⊎_elim
        (λ o. ⊎_elim
        (λ old. let w = p.first k t old o made in (w.0, w.1, slice_get-push_old e.trail.steps v w.0 w.1 w.2, w.3, w.4))
        (λ ge. let same : k ≡ e.queue = omega arith in
        let tu : next.0 ≡ t = same_Some next.0 t (sym next.1 ∙ ap (slice_get e.trail.steps) (sym same) ∙ o) in (
          length e.trail.steps,
          v,
          slice_get-push_new e.trail.steps v,
          is,
          ⊎_elim (λ s. inl s)
              (λ n. inr (let cur : next.0.level ≡ e.trail.level = h.current n e.queue next.0 (omega arith) next.1 in
              let eq : next.0.level ≡ t.level = ap (λ (x : Step). x.level) tu in omega arith))
              (cases_Bool e.stale),
        ))
        (cases_lt k e.queue))
        (λ n. let same : k ≡ length e.trail.steps = n.0 in let w : e.queue < length e.trail.steps = next-within in
        absurd (omega arith))
        (slice_get-push_cases e.trail.steps v k t et);
    second = λ k t lt et made. ⊎_elim
        (λ o. absurd (nf (made-false e.trail.values e.trail.steps b coherent k t o made)))
        (λ n. let same : k ≡ length e.trail.steps = n.0 in let w : e.queue < length e.trail.steps = next-within in
        absurd (omega arith))
        (slice_get-push_cases e.trail.steps v k t et);
  }

-- the literal became false by the same step while the trail grows
pub next-grown : (e new : Watcher) (f : Lit) → IsWatcher e → IsNext e f → Propagates (store_of e) (store_of new)
    → new.queue ≡ e.queue → IsNext new f
next-grown e new f h next same queue =
    let within : e.queue < length e.trail.steps = next-within e h f next in
    let kept : slice_get new.trail.steps e.queue ≡ Some next.0 =
    sym (slice_get-take-below (length e.trail.steps) new.trail.steps e.queue within)
    ∙ ap (λ (xs : List Step). slice_get xs e.queue) (sym same.kept) ∙ next.1 in
    (next.0, ap (slice_get new.trail.steps) queue ∙ kept, next.2)

-- a pair the other way round
pub pair-swap : (steps : List Step) (q : ℕ) (stale : Bool) (a b : Lit) → IsPair steps q stale a b
    → IsPair steps q stale b a
pair-swap steps q stale a b p = record { distinct = λ x. p.distinct (sym x); first = p.second; second = p.first }

-- two clauses with one number are one
pub same-held : (s : StoreState) (id : ℕ) (c d : List Lit) → IsHeld s id c → IsHeld s id d → c ≡ d
same-held s id c d h k = same_Some c d (same_Some (Some c) (Some d) (sym h ∙ k))
