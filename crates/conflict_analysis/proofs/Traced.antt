-- Resolution down to decisions.
use Rattle.std.proofs.Common.{◌≡◌, ℕ, zero, suc, ◌<◌, ◌≤◌, Option, Some, None, List, [], ◌∷◌, ◌++◌, length, map}
use Rattle.std.proofs.Common.{reverse, refl, sym, ap, ◌∙◌, inl, inr, ⊎_elim, arith, slice_get, subst, All, Contains}
use Rattle.std.proofs.Common.{get_or}
use Rattle.std.specs.List.{AllZip}
use Rattle.std.specs.Option.{IsSome}
use Rattle.std.proofs.lemmas.Option.{slice_get_within, none-some, get_or_from_slice_get}
use Rattle.std.proofs.lemmas.Bool.{cases_lt}
use Rattle.std.proofs.lemmas.List.Elements.{All-nil, All-cons, Contains-append_left, Contains-push, Contains-push_cases}
use Rattle.std.proofs.lemmas.List.Elements.{Contains-get_or}
use Rattle.lit_core.specs.declared.literals.Lit.{Lit}
use Rattle.lit_core.specs.Literals.{negated, HasEachOnce}
use Rattle.lit_core.proofs.LiteralFacts.{negated-negated, nothing_in_none}
use Rattle.clause_store.specs.declared.trails.Step.{Step}
use Rattle.clause_store.specs.TrailLaws.{IsFixed}
use Rattle.clause_store.specs.StoreState.{StoreState, IsStore, IsHeld}
use Rattle.clause_store.proofs.ListFacts.{slice_get-push_cases}
use Rattle.clause_store.proofs.WatchFacts.{same-held}
use Rattle.conflict_analysis.specs.declared.refutations.Refuted.{Refuted}
use Rattle.conflict_analysis.specs.declared.resolvent.Resolvent.{Resolvent}
use Rattle.conflict_analysis.specs.Analyses.{FollowsFrom, IsDecided, IsRefuted}
use Rattle.conflict_analysis.specs.Resolvents.{IsMarked, IsOfStep, IsNew, Absorbs, TakesLast}
use Rattle.conflict_analysis.specs.Tracing.{IsNeeded, IsTaken, AreDecisions, IsBeside, IsTracing, IsTraced}
use Rattle.conflict_analysis.proofs.Places.{same-step, variable-of}
use Rattle.conflict_analysis.proofs.Below.{map-contains, map-cases, below-finish, resolvent-start, resolvent-take}
use Rattle.conflict_analysis.proofs.Below.{resolvent-resolve, resolvent-beside}

pub none-not-some : (o : Option ℕ) → o ≡ None → IsSome o → ⊥
none-not-some None e s = cc
none-not-some (Some n) e s = none-some n (sym e)

pub once-push : (c : List Lit) (l : Lit) → HasEachOnce c → (Contains c l → ⊥) → (i k : ℕ) (m : Lit)
    → slice_get (c ++ l ∷ []) i ≡ Some m → slice_get (c ++ l ∷ []) k ≡ Some m → i ≡ k
once-push c l once fresh i k m at bt =
    ⊎_elim
    (λ a. ⊎_elim (λ b. once i k m a b) (λ b. absurd (fresh (contains-at c i l (a ∙ ap Some b.1))))
    (slice_get-push_cases c l k m bt))
    (λ a. ⊎_elim (λ b. absurd (fresh (contains-at c k l (b ∙ ap Some a.1)))) (λ b. a.0 ∙ sym b.0)
    (slice_get-push_cases c l k m bt))
    (slice_get-push_cases c l i m at)
  where
    contains-at : (xs : List Lit) (j : ℕ) (x : Lit) → slice_get xs j ≡ Some x → Contains xs x
    contains-at xs j x h = (j, slice_get_within xs j x h, get_or_from_slice_get xs j x x h)

pub once-single : (l : Lit) (i k : ℕ) (m : Lit) → slice_get (l ∷ []) i ≡ Some m → slice_get (l ∷ []) k ≡ Some m → i ≡ k
once-single l zero zero m a b = refl
once-single l zero (suc k) m a b = absurd (none-some m b)
once-single l (suc i) k m a b = absurd (none-some m a)

pub once-none : (i k : ℕ) (m : Lit) → slice_get [] i ≡ Some m → slice_get [] k ≡ Some m → i ≡ k
once-none i k m a b = absurd (none-some m a)

pub decisions-lower : (s : StoreState) (top low : ℕ) (lits : List Lit) → low ≤ top → AreDecisions s top lits
    → AreDecisions s low lits
decisions-lower s top low lits le h = record {
  decided = λ l has. let w = h.decided l has in let above : top ≤ w.0 = w.2 in (
    w.0,
    w.1,
    omega (arith, le, above),
    w.3,
    w.4,
    w.5,
    w.6,
  );
  once = h.once;
}

pub tracing-start : (s : StoreState) → IsStore s → (end id : ℕ) (fresh r : Resolvent) → IsOfStep s end id
    → IsNew 0 end fresh → Absorbs s fresh id r → IsTracing s end r []
tracing-start s store end id fresh r fits n a = record {
  resolvent = resolvent-start s end 0 id (IsBeside s.trail.steps end []) fresh r n a
      (λ m has. ⊎_elim (λ b. inl b) (λ w. inr (inr (w.0, w.1, w.2 ∙ sym (negated-negated m))))
      (fits.2 m (subst (λ (c : List Lit). Contains c m) (same-held s id a.clause fits.0 a.held fits.1) has)));
  floor = a.gathers.floor ∙ n.floor_is;
  decisions = record { decided = λ l has. absurd (nothing_in_none l has); once = once-none };
}

module _ (s : StoreState) (store : IsStore s) (end place : ℕ) (old mid : Resolvent) (lits : List Lit)
    (h : IsTracing s end old lits) (t : Step) (at : slice_get s.trail.steps place ≡ Some t)
    (takes : TakesLast old place mid) where
  lt-top : place < old.top
  lt-top = (h.resolvent.upper place (subst (λ (ks : List ℕ). Contains ks place) (sym takes.upper)
      (Contains-push mid.upper place))).0

  taken : IsTaken s end (IsBeside s.trail.steps end lits) place mid
  taken = resolvent-take s end (IsBeside s.trail.steps end lits) place old mid h.resolvent takes

  pub tracing-resolve : (id : ℕ) (new : Resolvent) → t.reason ≡ Some id → Absorbs s mid id new
      → IsTracing s end new lits
  tracing-resolve id new is a =
      let top : new.top ≡ place = a.gathers.top ∙ takes.top in
      let lt : place < old.top = lt-top in
      record {
        resolvent = resolvent-resolve s store end (IsBeside s.trail.steps end lits) place id mid new t at is taken a;
        floor = a.gathers.floor ∙ (takes.floor ∙ h.floor);
        decisions = decisions-lower s old.top new.top lits (omega (arith, top, lt)) h.decisions;
      }

  pub tracing-down : (new : Resolvent) → new.top ≡ mid.top → new.top < old.top
  tracing-down new same =
      let top : mid.top ≡ place = takes.top in
      let lt : place < old.top = lt-top in
      omega (arith, same, top, lt)

  positive : t.reason ≡ None → 0 < t.level
  positive none = ⊎_elim
      (λ lt. lt)
      (λ le.
      let u = taken.taken in
      let one : u.0 ≡ t = same-step s.trail.steps place u.0 t u.1 at in
      let low : u.0.level ≡ 0 = ap (λ (x : Step). x.level) one ∙ omega (arith, le) in
      absurd (none-not-some u.0.reason (ap (λ (x : Step). x.reason) one ∙ none) (u.3 low)))
      (cases_lt 0 t.level)

  pub tracing-decide : t.reason ≡ None → IsTracing s end mid (lits ++ t.lit ∷ [])
  tracing-decide none =
      let top : mid.top ≡ place = takes.top in
      let lt : place < old.top = lt-top in
      record {
        resolvent = resolvent-beside s end (IsBeside s.trail.steps end lits)
            (IsBeside s.trail.steps end (lits ++ t.lit ∷ [])) place mid t at
            (λ l b. ⊎_elim (λ o. inl (Contains-append_left lits (t.lit ∷ []) l o)) (λ w. inr w) b)
            (inl (Contains-push lits t.lit))
            taken;
        floor = takes.floor ∙ h.floor;
        decisions = record {
          decided = λ l has. ⊎_elim
              (λ o. let w = h.decisions.decided l o in let above : old.top ≤ w.0 = w.2 in
              (w.0, w.1, omega (arith, above, top, lt), w.3, w.4, w.5, w.6))
              (λ e. (place, t, omega (arith, top), at, e, positive none, none))
              (Contains-push_cases lits t.lit l has);
          once = once-push lits t.lit h.decisions.once (λ has.
              let w = h.decisions.decided t.lit has in
              let above : old.top ≤ w.0 = w.2 in
              let one : w.0 ≡ place = store.trail.coherent.apart w.0 place w.1 t w.3 at
              (variable-of w.1.lit t.lit w.4) in
              omega (arith, above, one, lt));
        };
      }

pub traced : (s : StoreState) → IsStore s → (end : ℕ) (r : Resolvent) (a : Refuted) → IsTracing s end r a.lits.items
    → r.upper ≡ [] → a.hints.items ≡ reverse r.hints.items → IsTraced s end a
traced s store end r a h none e = record {
  decisions = decisions-lower s r.top 0 a.lits.items (omega arith) h.decisions;
  follows = λ c all from. record {
    hinted = h.resolvent.hinted;
    held = subst (λ (ids : List ℕ). AllZip (IsHeld s) ids h.resolvent.hinted) (sym e) h.resolvent.held;
    follows = below-finish s.trail.steps end r.top (IsNeeded s.trail.steps (IsBeside s.trail.steps end a.lits.items)
        (IsMarked r)) h.resolvent.hinted c
        (λ l n. ⊎_elim
        (λ b. all l b)
        (λ w. ⊎_elim
        (λ u. absurd (nothing_in_none w.0 (subst (λ (ks : List ℕ). Contains ks w.0) none u)))
        (λ o. let x = h.resolvent.lower w.0 o in let lt : x.0.level < r.floor = x.2 in let f : r.floor ≡ 0 = h.floor in
        absurd (omega (arith, lt, f)))
        w.1)
        n)
        (λ m has k t above below at some same. ⊎_elim
        (λ d.
        let w = h.decisions.decided (negated m) d in
        let one : w.0 ≡ k = store.trail.coherent.apart w.0 k w.1 t w.3 at
        (variable-of w.1.lit (negated m) w.4 ∙ same) in
        let step : w.1 ≡ t = same-step s.trail.steps k w.1 t (ap (slice_get s.trail.steps) (sym one) ∙ w.3) at in
        none-not-some t.reason (ap (λ (x : Step). x.reason) (sym step) ∙ w.6) some)
        (λ w.
        let one : end ≡ k = store.trail.coherent.apart end k w.0 t w.1 at
        (variable-of w.0.lit (negated (negated m)) w.2 ∙ same) in
        omega (arith, one, below))
        (from m has))
        h.resolvent.refuted;
  };
}

-- the decisions refute the literal that the step at the place made false
pub refuted-by : (s : StoreState) (place : ℕ) (t : Step) → slice_get s.trail.steps place ≡ Some t → (lit : Lit)
    → t.lit ≡ negated lit → (r : Refuted) → IsTraced s place r → IsRefuted s lit r
refuted-by s place t at lit made r h =
    let lits : List Lit = r.lits.items in
    record {
      decided = λ k d lt. let w = h.decisions.decided (get_or lits k d) (Contains-get_or lits k d lt) in
          (w.0, w.1, w.3, w.4, w.5, w.6);
      once = h.decisions.once;
      follows = inr (h.follows (map negated (lits ++ lit ∷ []))
          (λ l b. map-contains (lits ++ lit ∷ []) l (⊎_elim
          (λ o. Contains-append_left lits (lit ∷ []) l o)
          (λ w.
          let one : w.0 ≡ t = same-step s.trail.steps place w.0 t w.1 at in
          let e : negated lit ≡ negated l = sym made ∙ (sym (ap (λ (x : Step). x.lit) one) ∙ w.2) in
          subst (Contains (lits ++ lit ∷ [])) (sym (negated-negated lit) ∙ (ap negated e ∙ negated-negated l))
          (Contains-push lits lit))
          b))
          (λ m has.
          let w = map-cases (lits ++ lit ∷ []) m has in
          ⊎_elim
          (λ o. inl (subst (Contains lits) (sym (negated-negated w.0) ∙ ap negated w.2) o))
          (λ e. inr (t, at, made ∙ (ap negated e ∙ (w.2 ∙ sym (negated-negated m)))))
          (Contains-push_cases lits lit w.0 w.1)));
    }

-- the literal's negation was decided
pub refuted-alone : (s : StoreState) (place : ℕ) (t : Step) → slice_get s.trail.steps place ≡ Some t → (lit : Lit)
    → t.lit ≡ negated lit → t.reason ≡ None → (IsFixed s.trail (negated lit) → ⊥) → (r : Refuted)
    → r.lits.items ≡ negated lit ∷ [] → r.hints.items ≡ [] → IsRefuted s lit r
refuted-alone s place t at lit made none unfixed r e f =
    let high : 0 < t.level = ⊎_elim (λ lt. lt) (λ le. let low : t.level ≡ 0 = omega (arith, le) in
    absurd (unfixed (place, t, at, made, low, none))) (cases_lt 0 t.level) in
    record {
      decided = subst (λ (ls : List Lit). All (IsDecided s.trail) ls) (sym e)
          (All-cons (IsDecided s.trail) (negated lit) [] (place, t, at, made, high, none)
          (All-nil (IsDecided s.trail)));
      once = subst HasEachOnce (sym e) (once-single (negated lit));
      follows = inl (e, f);
    }

-- at level 0 there are no decisions
pub root-follows : (s : StoreState) → IsStore s → s.trail.level ≡ 0 → (r : Refuted)
    → IsTraced s (length s.trail.steps) r → FollowsFrom s [] r.hints.items
root-follows s store level r h = h.follows []
    (λ l b. ⊎_elim
    (λ o. let w = h.decisions.decided l o in let top : w.1.level ≤ s.trail.level = store.trail.top w.0 w.1 w.3 in
    let high : 0 < w.1.level = w.5 in absurd (omega (arith, top, high, level)))
    (λ w. let lt : length s.trail.steps < length s.trail.steps = slice_get_within s.trail.steps (length s.trail.steps)
    w.0 w.1 in absurd (omega (arith, lt)))
    b)
    (λ m has. absurd (nothing_in_none m has))
