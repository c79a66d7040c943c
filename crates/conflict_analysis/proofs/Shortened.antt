-- Learnt clauses without the literals that follow from others.
use Rattle.std.proofs.Common.{◌≡◌, ℕ, ◌<◌, ◌≤◌, Some, List, [], ◌∷◌, ◌++◌, refl}
use Rattle.std.proofs.Common.{sym, ap, ◌∙◌, ◌⊎◌, inl, inr, ⊎_elim, arith, slice_get, subst, Contains, get_or}
use Rattle.std.proofs.lemmas.List.Elements.{All-contains, Contains-append_left, Contains-push, Contains-push_cases}
use Rattle.std.proofs.lemmas.List.Elements.{Contains-get_or}
use Rattle.lit_core.specs.declared.literals.Lit.{Lit}
use Rattle.lit_core.specs.Literals.{negated}
use Rattle.lit_core.proofs.LiteralFacts.{nothing_in_none}
use Rattle.clause_store.specs.declared.trails.Step.{Step}
use Rattle.clause_store.specs.StoreState.{StoreState, IsStore, IsHeld, IsMadeBefore}
use Rattle.clause_store.proofs.WatchFacts.{same-held}
use Rattle.conflict_analysis.specs.declared.resolvent.Resolvent.{Resolvent}
use Rattle.conflict_analysis.specs.Marked.{Inserts, PopsLast}
use Rattle.conflict_analysis.specs.Resolvents.{IsMadeAt, IsLower, IsUpper}
use Rattle.conflict_analysis.specs.Shortening.{AreInForce, IsLeftAt, IsLeftOrKept, IsRedundant, IsShort}
use Rattle.conflict_analysis.specs.Tracing.{IsLast}
use Rattle.conflict_analysis.proofs.Below.{held-more, prepend}
use Rattle.conflict_analysis.proofs.Places.{lower-place, of-reason, same-step, step-of, variable-of}

-- the same places, said in another way
pub short-same : (s : StoreState) (place : ℕ) (A B : ℕ → Type 0) (hints : List ℕ) → ((k : ℕ) → A k → B k)
    → ((k : ℕ) → B k → A k) → IsShort s place A hints → IsShort s place B hints
short-same s place A B hints to back h = record {
  hinted = h.hinted;
  held = h.held;
  refuted = λ inforce f. h.refuted inforce (record {
    all = λ l k way made. f.all l k (⊎_elim (λ e. inl e) (λ a. inr (to k a)) way) made;
    from = λ l has. let w = f.from l has in (w.0, ⊎_elim (λ e. inl e) (λ b. inr (back w.0 b)) w.1, w.2);
  });
  current = h.current;
  lower = λ k b. h.lower k (back k b);
  sourced = λ k way. h.sourced k (⊎_elim (λ e. inl e) (λ b. inr (back k b)) way);
}

-- places of lower levels are below the one of the current level
pub short-below : (s : StoreState) → IsStore s → (place : ℕ) (among : ℕ → Type 0) (hints : List ℕ)
    → IsShort s place among hints → (k : ℕ) → among k → k < place
short-below s store place among hints h k a =
    let l = h.lower k a in
    let u = h.current in
    let low : l.0.level < s.trail.level = l.2 in
    let up : s.trail.level ≤ u.0.level = u.2 in
    lower-place s.trail.values s.trail.steps store.trail.coherent k place l.0 u.0 l.1 u.1 (omega (arith, low, up))

-- at first nothing is left out
pub short-start : (s : StoreState) → IsStore s → (place : ℕ) (r : Resolvent) → IsLast s place r
    → IsShort s place (Contains r.lower) r.hints.items
short-start s store place r h = record {
  hinted = h.taken.hinted;
  held = h.taken.held;
  refuted = λ inforce f. h.taken.refuted inforce
      (λ l n. ⊎_elim
      (λ b. absurd b)
      (λ w. f.all l w.0 (⊎_elim (λ e. inl e) (λ m. ⊎_elim (λ u.
      absurd (nothing_in_none w.0 (subst (λ (ks : List ℕ). Contains ks w.0) h.none u))) (λ o. inr o) m) w.1) w.2)
      n)
      (λ l has k t above below at some same.
      let w = f.from l has in
      let one : w.0 ≡ k = store.trail.coherent.apart w.0 k w.2.0 t w.2.1 at (variable-of w.2.0.lit l w.2.2 ∙ same) in
      ⊎_elim
      (λ (e : w.0 ≡ place). omega (arith, one, e, above))
      (λ low. let lt : w.0 < place = below-place w.0 low in omega (arith, one, lt, above))
      w.1);
  current = subst (λ (f : ℕ). IsUpper s.trail.steps f place) h.floor h.taken.taken;
  lower = low;
  sourced = λ k way. h.taken.sourced k (⊎_elim (λ e. inl e) (λ o. inr (inr o)) way);
}
  where
    low : (k : ℕ) → Contains r.lower k → IsLower s.trail.steps s.trail.level k
    low k has = subst (λ (f : ℕ). IsLower s.trail.steps f k) h.floor (h.taken.lower k has)

    below-place : (k : ℕ) → Contains r.lower k → k < place
    below-place k has =
        let l = low k has in
        let u = h.taken.taken in
        let floor : r.floor ≡ s.trail.level = h.floor in
        let less : l.0.level < s.trail.level = l.2 in
        let up : r.floor ≤ u.0.level = u.2 in
        lower-place s.trail.values s.trail.steps store.trail.coherent k place l.0 u.0 l.1 u.1
        (omega (arith, less, up, floor))

-- a literal that follows from others is left out, and its reason is one more hint
module _ (s : StoreState) (store : IsStore s) (place next : ℕ) (A B : ℕ → Type 0) (hints : List ℕ) (id : ℕ)
    (lower : List ℕ) (cases : (k : ℕ) → A k → (k ≡ next) ⊎ B k) (back : (k : ℕ) → B k → A k) (has_next : A next)
    (not : B next → ⊥) (among : (k : ℕ) → Contains lower k → B k) (d : IsRedundant s next lower id)
    (h : IsShort s place A hints) where
  -- what stands in force was not made true at the place that is left out
  other-place : (k : ℕ) → IsLeftAt place B k → k ≡ next → ⊥
  other-place k way e = ⊎_elim
      (λ (p : k ≡ place). let lt : next < place = short-below s store place A hints h next has_next in
      omega (arith, p, e, lt))
      (λ b. not (subst B e b))
      way

  dropped-open : (inforce : List Lit) → AreInForce s.trail.steps (IsLeftAt place B) inforce → (l : Lit)
      → l.var.0 ≡ d.step.lit.var.0 → Contains inforce l → ⊥
  dropped-open inforce f l same has =
      let w = f.from l has in
      other-place w.0 w.1 (store.trail.coherent.apart w.0 next w.2.0 d.step w.2.1 d.stands
      (variable-of w.2.0.lit l w.2.2 ∙ same))

  more-in-force : (inforce : List Lit) → AreInForce s.trail.steps (IsLeftAt place B) inforce
      → AreInForce s.trail.steps (IsLeftAt place A) (inforce ++ d.step.lit ∷ [])
  more-in-force inforce f = record {
    all = λ l k way made. ⊎_elim
        (λ e. Contains-append_left inforce (d.step.lit ∷ []) l (f.all l k (inl e) made))
        (λ a. ⊎_elim
        (λ (e : k ≡ next).
        let one : made.0 ≡ d.step = same-step s.trail.steps k made.0 d.step made.1 (ap (slice_get s.trail.steps) e
        ∙ d.stands) in
        subst (Contains (inforce ++ d.step.lit ∷ [])) (sym (ap (λ (x : Step). x.lit) one) ∙ made.2)
        (Contains-push inforce d.step.lit))
        (λ b. Contains-append_left inforce (d.step.lit ∷ []) l (f.all l k (inr b) made))
        (cases k a))
        way;
    from = λ l has. ⊎_elim
        (λ old. let w = f.from l old in (w.0, ⊎_elim (λ e. inl e) (λ b. inr (back w.0 b)) w.1, w.2))
        (λ (new : d.step.lit ≡ l). (next, inr has_next, (d.step, d.stands, new)))
        (Contains-push_cases inforce d.step.lit l has);
  }

  pub short-drop : IsShort s place B (hints ++ id ∷ [])
  short-drop =
      let reason = store.reasons next d.step id d.stands d.reason in
      let same : reason.0 ≡ d.clause = same-held s id reason.0 d.clause reason.1 d.held in
      record {
        hinted = d.clause ∷ h.hinted;
        held = held-more s hints id d.clause h.hinted d.held h.held;
        refuted = λ inforce f. prepend inforce d.clause d.step.lit h.hinted
            (record {
              member = subst (λ (c : List Lit). Contains c d.step.lit) same reason.2.member;
              opened = (dropped-open inforce f d.step.lit refl, dropped-open inforce f (negated d.step.lit) refl);
              others = λ k x lt. ⊎_elim
                  (λ e. inl e)
                  (λ w. inr (f.all (negated (get_or d.clause k x)) w.0 (inr (among w.0 w.1)) w.2))
                  (d.others (get_or d.clause k x) (Contains-get_or d.clause k x lt));
            })
            (h.refuted (inforce ++ d.step.lit ∷ []) (more-in-force inforce f));
        current = h.current;
        lower = λ k b. h.lower k (back k b);
        sourced = λ k way. h.sourced k (⊎_elim (λ e. inl e) (λ b. inr (back k b)) way);
      }

-- the places that are looked at: one is taken off, and then kept or left out
module _ (old left kept : List ℕ) (next : ℕ) (pops : PopsLast old next left) where
  pub has-next : Contains old next
  has-next = subst (λ (ks : List ℕ). Contains ks next) (sym pops.split) (Contains-push left next)

  pub split-cases : (k : ℕ) → Contains old k → (k ≡ next) ⊎ Contains left k
  split-cases k has = ⊎_elim (λ o. inr o) (λ e. inl (sym e)) (Contains-push_cases left next k
      (subst (λ (ks : List ℕ). Contains ks k) pops.split has))

  pub left-old : (k : ℕ) → Contains left k → Contains old k
  left-old k has = subst (λ (ks : List ℕ). Contains ks k) (sym pops.split) (Contains-append_left left (next ∷ []) k has)

  pub drop-cases : (k : ℕ) → IsLeftOrKept old kept k → (k ≡ next) ⊎ IsLeftOrKept left kept k
  drop-cases k way = ⊎_elim (λ o. ⊎_elim (λ e. inl e) (λ l. inr (inl l)) (split-cases k o)) (λ c. inr (inr c)) way

  pub drop-back : (k : ℕ) → IsLeftOrKept left kept k → IsLeftOrKept old kept k
  drop-back k way = ⊎_elim (λ l. inl (left-old k l)) (λ c. inr c) way

  -- a place that is kept is above all that are left
  pub drop-not : ((k j : ℕ) → Contains kept k → Contains old j → j < k) → IsLeftOrKept left kept next → ⊥
  drop-not above way = ⊎_elim
      (λ l. let lt : next < next = pops.below next l in omega (arith, lt))
      (λ c. let lt : next < next = above next next c has-next in omega (arith, lt))
      way

  keep-to : (keys : List ℕ) → Inserts kept next keys → (k : ℕ) → IsLeftOrKept old kept k → IsLeftOrKept left keys k
  keep-to keys more k way = ⊎_elim
      (λ o. ⊎_elim (λ e. inr (subst (Contains keys) (sym e) more.has)) (λ l. inl l) (split-cases k o))
      (λ c. inr (more.kept k c))
      way

  keep-back : (keys : List ℕ) → Inserts kept next keys → (k : ℕ) → IsLeftOrKept left keys k → IsLeftOrKept old kept k
  keep-back keys more k way = ⊎_elim
      (λ l. inl (left-old k l))
      (λ c. ⊎_elim (λ o. inr o) (λ e. inl (subst (Contains old) e has-next)) (more.from k c))
      way

  -- a place is kept
  pub short-keep : (s : StoreState) (place : ℕ) (hints keys : List ℕ) → Inserts kept next keys
      → IsShort s place (IsLeftOrKept old kept) hints → IsShort s place (IsLeftOrKept left keys) hints
  short-keep s place hints keys more h = short-same s place (IsLeftOrKept old kept) (IsLeftOrKept left keys) hints
      (keep-to keys more) (keep-back keys more) h

  pub keep-above : (keys : List ℕ) → Inserts kept next keys → ((k j : ℕ) → Contains kept k → Contains old j
      → j < k) → (k j : ℕ) → Contains keys k → Contains left j → j < k
  keep-above keys more above k j has b = ⊎_elim
      (λ o. above k j o (left-old j b))
      (λ same. subst (λ (n : ℕ). j < n) same (pops.below j b))
      (more.from k has)

-- a literal of a reason has a step
pub reason-placed : (s : StoreState) → IsStore s → (place id : ℕ) (t : Step) (c : List Lit)
    → slice_get s.trail.steps place ≡ Some t → t.reason ≡ Some id → IsHeld s id c → (m : Lit) → Contains c m
    → (k : ℕ) × (u : Step) × (slice_get s.trail.steps k ≡ Some u) × (u.lit.var.0 ≡ m.var.0)
reason-placed s store place id t c at is held m has =
    let w = of-reason s place t id store at is in
    step-of s.trail.steps place m (w.2 m (subst (λ (x : List Lit). Contains x m) (same-held s id c w.0 held w.1) has))

-- and became false at one of the places, or is what follows
pub reason-others : (s : StoreState) → IsStore s → (place id other : ℕ) (t u : Step) (c : List Lit) (lower : List ℕ)
    → slice_get s.trail.steps place ≡ Some t → t.reason ≡ Some id → IsHeld s id c → (m : Lit) → Contains c m
    → slice_get s.trail.steps other ≡ Some u → u.lit.var.0 ≡ m.var.0 → (other ≡ place) ⊎ Contains lower other
    → (m ≡ t.lit) ⊎ ((k : ℕ) × Contains lower k × IsMadeAt s.trail.steps k (negated m))
reason-others s store place id other t u c lower at is held m has uat same way =
    let reason = store.reasons place t id at is in
    let one_clause : c ≡ reason.0 = same-held s id c reason.0 held reason.1 in
    ⊎_elim
    (λ e. inl e)
    (λ b.
    let one : other ≡ b.0 = store.trail.coherent.apart other b.0 u b.1 uat b.3
    (same ∙ sym (variable-of b.1.lit (negated m) b.4)) in
    let lt : b.0 < place = b.2 in
    ⊎_elim
    (λ (e : other ≡ place). absurd (omega (arith, one, e, lt)))
    (λ o. inr (other, o, subst (λ (k : ℕ). IsMadeAt s.trail.steps k (negated m)) (sym one) (b.1, b.3, b.4)))
    way)
    (All-contains (λ (n : Lit). (n ≡ t.lit) ⊎ IsMadeBefore s.trail.steps place (negated n)) reason.0 m reason.2.others
    (subst (λ (x : List Lit). Contains x m) one_clause has))
