-- Resolution along the trail, from its end.
use Rattle.std.proofs.Common.{◌≡◌, ℕ, ◌<◌, ◌≤◌, ◌+◌, Bool, Option, Some, List, [], ◌∷◌, ◌++◌, length, map, refl, sym}
use Rattle.std.proofs.Common.{ap, ◌∙◌, ◌⊎◌, inl, inr, ⊎_elim, arith, slice_get, subst, Contains, get_or}
use mathlib.Core.List.{reverse}
use Rattle.std.specs.List.{AllZip}
use Rattle.std.specs.Option.{IsSome}
use Rattle.std.proofs.lemmas.Option.{slice_get_within}
use Rattle.std.proofs.lemmas.List.{get_or-map, length-map, reverse-append}
use Rattle.std.proofs.lemmas.List.Elements.{All-contains, Contains-append_left, Contains-push, Contains-push_cases}
use Rattle.std.proofs.lemmas.List.Elements.{Contains-get_or}
use Rattle.lit_core.specs.declared.literals.Lit.{Lit}
use Rattle.lit_core.specs.Literals.{negated}
use Rattle.lit_core.specs.Refutation.{IsUnitUnder, RefutesInOrder, FollowsInOrder}
use Rattle.lit_core.proofs.LiteralFacts.{negated-negated, nothing_in_none}
use Rattle.clause_store.specs.declared.trails.Step.{Step}
use Rattle.clause_store.specs.TrailLaws.{IsCoherent}
use Rattle.clause_store.specs.StoreState.{StoreState, IsStore, IsHeld, IsMadeBefore}
use Rattle.clause_store.proofs.WatchFacts.{same-held}
use Rattle.conflict_analysis.specs.declared.resolvent.Resolvent.{Resolvent}
use Rattle.conflict_analysis.specs.Resolvents.{IsMarked, IsUpper, IsLower, IsNew, Absorbs, TakesLast}
use Rattle.conflict_analysis.specs.Tracing.{IsRefutedBelow, IsNeeded, IsSourced, IsResolvent, IsTaken}
use Rattle.conflict_analysis.proofs.Places.{same-step}

pub map-contains : (xs : List Lit) (m : Lit) → Contains xs m → Contains (map negated xs) (negated m)
map-contains xs m has = (
  has.0,
  subst (λ (n : ℕ). has.0 < n) (sym (length-map xs negated)) has.1,
  get_or-map negated xs has.0 m (negated m) has.1 ∙ ap negated has.2,
)

pub map-cases : (xs : List Lit) (l : Lit) → Contains (map negated xs) l → (m : Lit) × Contains xs m × (negated m ≡ l)
map-cases xs l has =
    let lt : has.0 < length xs = subst (λ (n : ℕ). has.0 < n) (length-map xs negated) has.1 in
    (get_or xs has.0 l, Contains-get_or xs has.0 l lt, sym (get_or-map negated xs has.0 l l lt) ∙ has.2)

pub prepend : (inforce : List Lit) (c : List Lit) (l : Lit) (cs : List (List Lit)) → IsUnitUnder inforce c l
    → RefutesInOrder (inforce ++ l ∷ []) cs → RefutesInOrder inforce (c ∷ cs)
prepend inforce c l [] unit rest = absurd rest
prepend inforce c l (d ∷ cs) unit rest = (l, unit, rest)

module _ (steps : List Step) (end : ℕ) where
  -- at first the clause is the false one
  pub below-start : (top : ℕ) (needed : Lit → Type 0) (c : List Lit) → ((m : Lit) → Contains c m → needed (negated m))
      → IsRefutedBelow steps top end needed (c ∷ [])
  below-start top needed c has inforce makes leaves = λ k d lt. makes (negated (get_or c k d))
      (has (get_or c k d) (Contains-get_or c k d lt))

  -- a lower top, and more in force
  pub below-lower : (top low : ℕ) (needed more : Lit → Type 0) (cs : List (List Lit)) → low ≤ top
      → ((l : Lit) → needed l → more l) → IsRefutedBelow steps top end needed cs → IsRefutedBelow steps low end more cs
  below-lower top low needed more cs le weaker h inforce makes leaves =
      h inforce (λ l n. makes l (weaker l n)) (λ l has k t above below at some same. leaves l has k t
      (omega (arith, above, le)) below at some same)

  -- at the end the clause follows
  pub below-finish : (top : ℕ) (needed : Lit → Type 0) (cs : List (List Lit)) (c : List Lit)
      → ((l : Lit) → needed l → Contains c (negated l)) → ((m : Lit) → Contains c m → (k : ℕ) (t : Step) → top ≤ k
      → k < end → slice_get steps k ≡ Some t → IsSome t.reason → m.var.0 ≡ t.lit.var.0 → ⊥)
      → IsRefutedBelow steps top end needed cs → FollowsInOrder c cs
  below-finish top needed cs c all opened h =
      h (map negated c)
      (λ l n. subst (Contains (map negated c)) (negated-negated l) (map-contains c (negated l) (all l n)))
      (λ l has k t above below at some same. let w = map-cases c l has in opened w.0 w.1 k t above below at some
      (ap (λ (x : Lit). x.var.0) w.2 ∙ same))

  -- the clause is resolved with the reason of the step at a place
  pub below-resolve : (values : List (Option Bool)) → IsCoherent values steps → (p : ℕ) (t : Step)
      → slice_get steps p ≡ Some t → p < end → IsSome t.reason → (needed more : Lit → Type 0) (c : List Lit)
      (cs : List (List Lit)) → Contains c t.lit → ((m : Lit) → Contains c m → (m ≡ t.lit) ⊎ more (negated m))
      → ((l : Lit) → needed l → (l ≡ t.lit) ⊎ more l) → IsRefutedBelow steps (p + 1) end needed cs
      → IsRefutedBelow steps p end more (c ∷ cs)
  below-resolve values coherent p t at lt some needed more c cs member from_reason from_clause h inforce makes leaves =
      prepend inforce c t.lit cs
      (record {
        member = member;
        opened = (
          λ has. leaves t.lit has p t (omega arith) lt at some refl,
          λ has. leaves (negated t.lit) has p t
              (omega arith) lt at some refl,
        );
        others = λ k d below. ⊎_elim (λ e. inl e) (λ e. inr (makes (negated (get_or c k d)) e))
            (from_reason (get_or c k d) (Contains-get_or c k d below));
      })
      (h (inforce ++ t.lit ∷ [])
      (λ l n. ⊎_elim
      (λ e. subst (Contains (inforce ++ t.lit ∷ [])) (sym e) (Contains-push inforce t.lit))
      (λ e. Contains-append_left inforce (t.lit ∷ []) l (makes l e))
      (from_clause l n))
      (λ l has k u above below uat usome same. ⊎_elim
      (λ old. leaves l old k u (omega (arith, above)) below uat usome same)
      (λ new. let one : p ≡ k = coherent.apart p k t u at uat (ap (λ (x : Lit). x.var.0) new ∙ same) in
      omega (arith, one, above))
      (Contains-push_cases inforce t.lit l has)))

reverse-one : (id : ℕ) → reverse (id ∷ []) ≡ id ∷ []
reverse-one id = refl

-- the hints of a resolution, with one more
pub held-more : (s : StoreState) (hints : List ℕ) (id : ℕ) (c : List Lit) (cs : List (List Lit)) → IsHeld s id c
    → AllZip (IsHeld s) (reverse hints) cs → AllZip (IsHeld s) (reverse (hints ++ id ∷ [])) (c ∷ cs)
held-more s hints id c cs held h =
    let e : reverse (hints ++ id ∷ []) ≡ id ∷ reverse hints = reverse-append hints (id ∷ [])
    ∙ ap (λ (ids : List ℕ). ids ++ reverse hints) (reverse-one id) in
    subst (λ (ids : List ℕ). AllZip (IsHeld s) ids (c ∷ cs)) (sym e) (held, h)

-- what is marked comes from held clauses
pub sourced-more : (s : StoreState) (id : ℕ) (old new : Resolvent) → ((k : ℕ) → IsMarked old k → IsSourced s k)
    → Absorbs s old id new → (k : ℕ) → IsMarked new k → IsSourced s k
sourced-more s id old new h a k marked = ⊎_elim
    (λ u. ⊎_elim (λ o. h k (inl o)) (λ w. (id, a.clause, w.2.0, a.held, w.2.1, w.2.2)) (a.gathers.from_upper k u))
    (λ l. ⊎_elim (λ o. h k (inr o)) (λ w. (id, a.clause, w.1.0, a.held, w.1.1, w.1.2)) (a.gathers.from_lower k l))
    marked

-- a resolution begins with a clause that is false
pub resolvent-start : (s : StoreState) (end floor id : ℕ) (beside : Lit → Type 0) (fresh r : Resolvent)
    → IsNew floor end fresh → (a : Absorbs s fresh id r) → ((m : Lit) → Contains a.clause m
    → IsMadeBefore s.trail.steps end (negated m) ⊎ beside (negated m)) → IsResolvent s end beside r
resolvent-start s end floor id beside fresh r n a made =
    let hints : r.hints.items ≡ id ∷ [] = a.hints ∙ ap (λ (ids : List ℕ). ids ++ id ∷ []) n.hints in
    let top : r.top ≡ end = a.gathers.top ∙ n.top_is in
    record {
      hinted = a.clause ∷ [];
      held = subst (λ (ids : List ℕ). AllZip (IsHeld s) ids (a.clause ∷ []))
          (sym (ap (λ (ids : List ℕ). reverse ids) hints ∙ reverse-one id)) (a.held, tt);
      refuted = below-start s.trail.steps end r.top (IsNeeded s.trail.steps beside (IsMarked r)) a.clause
          (λ m has. ⊎_elim
          (λ b. inr (
            b.0,
            a.gathers.marked m has b.0 (subst (λ (e : ℕ). b.0 < e) (sym n.top_is) b.2) (b.1, b.3, b.4),
            (b.1, b.3, b.4),
          ))
          (λ e. inl e)
          (made m has));
      within = omega (arith, top);
      upper = λ k has. ⊎_elim
          (λ old. absurd (nothing_in_none k (subst (λ (ks : List ℕ). Contains ks k) n.upper old)))
          (λ w. (
            subst (λ (e : ℕ). k < e) (sym a.gathers.top) w.0,
            subst (λ (f : ℕ). IsUpper s.trail.steps f k)
                (sym a.gathers.floor) w.1,
          ))
          (a.gathers.from_upper k has);
      lower = λ k has. ⊎_elim
          (λ old. absurd (nothing_in_none k (subst (λ (ks : List ℕ). Contains ks k) n.lower old)))
          (λ w. subst (λ (f : ℕ). IsLower s.trail.steps f k) (sym a.gathers.floor) w.0)
          (a.gathers.from_lower k has);
      sourced = sourced-more s id fresh r (λ k marked. absurd (⊎_elim
          (λ u. nothing_in_none k (subst (λ (ks : List ℕ). Contains ks k) n.upper u))
          (λ l. nothing_in_none k (subst (λ (ks : List ℕ). Contains ks k) n.lower l)) marked)) a;
    }

-- the last place is taken off
pub resolvent-take : (s : StoreState) (end : ℕ) (beside : Lit → Type 0) (place : ℕ) (old new : Resolvent)
    → IsResolvent s end beside old → TakesLast old place new → IsTaken s end beside place new
resolvent-take s end beside place old new h t =
    let has : Contains old.upper place = subst (λ (ks : List ℕ). Contains ks place) (sym t.upper)
    (Contains-push new.upper place) in
    let lt : place < old.top = (h.upper place has).0 in
    let within : old.top ≤ end = h.within in
    record {
      hinted = h.hinted;
      held = subst (λ (ids : List ℕ). AllZip (IsHeld s) (reverse ids) h.hinted) (sym t.hints) h.held;
      refuted = below-lower s.trail.steps end old.top (place + 1) (IsNeeded s.trail.steps beside (IsMarked old))
          (IsNeeded s.trail.steps beside (λ k. (k ≡ place) ⊎ IsMarked new k)) h.hinted (omega (arith, lt))
          (λ l n. ⊎_elim (λ b. inl b) (λ w. inr (
            w.0,
            ⊎_elim
                (λ u. ⊎_elim (λ o. inr (inl o)) (λ e. inl (sym e)) (Contains-push_cases new.upper place w.0
                (subst (λ (ks : List ℕ). Contains ks w.0) t.upper u)))
                (λ l. inr (inr (subst (λ (ks : List ℕ). Contains ks w.0) (sym t.lower) l)))
                w.1,
            w.2,
          )) n)
          h.refuted;
      top = t.top;
      within = omega (arith, lt, within);
      taken = subst (λ (f : ℕ). IsUpper s.trail.steps f place) (sym t.floor) (h.upper place has).1;
      upper = λ k u. (
        subst (λ (e : ℕ). k < e) (sym t.top) (t.below k u),
        subst (λ (f : ℕ). IsUpper s.trail.steps f k)
            (sym t.floor) (h.upper k (subst (λ (ks : List ℕ). Contains ks k) (sym t.upper)
            (Contains-append_left new.upper (place ∷ []) k u))).1,
      );
      lower = λ k l. subst (λ (f : ℕ). IsLower s.trail.steps f k) (sym t.floor)
          (h.lower k (subst (λ (ks : List ℕ). Contains ks k) t.lower l));
      sourced = λ k way. ⊎_elim
          (λ (e : k ≡ place). subst (IsSourced s) (sym e) (h.sourced place (inl has)))
          (λ m. ⊎_elim
          (λ u. h.sourced k (inl (subst (λ (ks : List ℕ). Contains ks k) (sym t.upper)
          (Contains-append_left new.upper (place ∷ []) k u))))
          (λ l. h.sourced k (inr (subst (λ (ks : List ℕ). Contains ks k) t.lower l)))
          m)
          way;
    }

-- the place that is taken off is on the trail
pub resolvent-within : (s : StoreState) (end : ℕ) (beside : Lit → Type 0) (place : ℕ) (old new : Resolvent)
    → IsResolvent s end beside old → TakesLast old place new → place < length s.trail.steps
resolvent-within s end beside place old new h t =
    let u = (h.upper place (subst (λ (ks : List ℕ). Contains ks place) (sym t.upper)
    (Contains-push new.upper place))).1 in
    slice_get_within s.trail.steps place u.0 u.1

-- the reason of the place that was taken off is resolved
pub resolvent-resolve : (s : StoreState) → IsStore s → (end : ℕ) (beside : Lit → Type 0) (place id : ℕ)
    (old new : Resolvent) (t : Step) → slice_get s.trail.steps place ≡ Some t → t.reason ≡ Some id
    → IsTaken s end beside place old → Absorbs s old id new → IsResolvent s end beside new
resolvent-resolve s store end beside place id old new t at is h a =
    let reason = store.reasons place t id at is in
    let same : reason.0 ≡ a.clause = same-held s id reason.0 a.clause reason.1 a.held in
    let tops : new.top ≡ place = a.gathers.top ∙ h.top in
    let within : place < end = h.within in
    let kept : (k : ℕ) → IsMarked old k → IsMarked new k = λ k m. ⊎_elim (λ u. inl (a.gathers.kept_upper k u))
    (λ l. inr (a.gathers.kept_lower k l)) m in
    record {
      hinted = a.clause ∷ h.hinted;
      held = subst (λ (ids : List ℕ). AllZip (IsHeld s) (reverse ids) (a.clause ∷ h.hinted)) (sym a.hints)
          (held-more s old.hints.items id a.clause h.hinted a.held h.held);
      refuted = subst (λ (p : ℕ). IsRefutedBelow s.trail.steps p end (IsNeeded s.trail.steps beside (IsMarked new))
          (a.clause ∷ h.hinted)) (sym tops)
          (below-resolve s.trail.steps end s.trail.values store.trail.coherent place t at h.within
          (subst (λ (o : Option ℕ). IsSome o) (sym is) refl)
          (IsNeeded s.trail.steps beside (λ k. (k ≡ place) ⊎ IsMarked old k))
          (IsNeeded s.trail.steps beside (IsMarked new)) a.clause h.hinted
          (subst (λ (c : List Lit). Contains c t.lit) same reason.2.member)
          (λ m has. ⊎_elim
          (λ e. inl e)
          (λ b. inr (inr (
            b.0,
            a.gathers.marked m has b.0 (subst (λ (e : ℕ). b.0 < e) (sym h.top) b.2) (b.1, b.3, b.4),
            (b.1, b.3, b.4),
          )))
          (All-contains (λ (n : Lit). (n ≡ t.lit) ⊎ IsMadeBefore s.trail.steps place (negated n)) reason.0 m
          reason.2.others (subst (λ (c : List Lit). Contains c m) (sym same) has)))
          (λ l n. ⊎_elim
          (λ b. inr (inl b))
          (λ w. ⊎_elim
          (λ e. let one : w.2.0 ≡ t = same-step s.trail.steps place w.2.0 t (ap (slice_get s.trail.steps) (sym e)
          ∙ w.2.1) at in inl (sym w.2.2 ∙ ap (λ (x : Step). x.lit) one))
          (λ m. inr (inr (w.0, kept w.0 m, w.2)))
          w.1)
          n)
          h.refuted);
      within = omega (arith, tops, within);
      upper = λ k has. ⊎_elim
          (λ o. let u = h.upper k o in (
            subst (λ (e : ℕ). k < e) (sym a.gathers.top) u.0,
            subst (λ (f : ℕ). IsUpper s.trail.steps f k) (sym a.gathers.floor) u.1,
          ))
          (λ w. (
            subst (λ (e : ℕ). k < e) (sym a.gathers.top) w.0,
            subst (λ (f : ℕ). IsUpper s.trail.steps f k)
                (sym a.gathers.floor) w.1,
          ))
          (a.gathers.from_upper k has);
      lower = λ k has. ⊎_elim
          (λ o. subst (λ (f : ℕ). IsLower s.trail.steps f k) (sym a.gathers.floor) (h.lower k o))
          (λ w. subst (λ (f : ℕ). IsLower s.trail.steps f k) (sym a.gathers.floor) w.0)
          (a.gathers.from_lower k has);
      sourced = sourced-more s id old new (λ k m. h.sourced k (inr m)) a;
    }

-- the place that was taken off is put beside the marks
pub resolvent-beside : (s : StoreState) (end : ℕ) (beside more : Lit → Type 0) (place : ℕ) (r : Resolvent) (t : Step)
    → slice_get s.trail.steps place ≡ Some t → ((l : Lit) → beside l → more l) → more t.lit
    → IsTaken s end beside place r → IsResolvent s end more r
resolvent-beside s end beside more place r t at weaker new h =
    let top : r.top ≡ place = h.top in
    let within : place < end = h.within in
    record {
      hinted = h.hinted;
      held = h.held;
      refuted = below-lower s.trail.steps end (place + 1) r.top
          (IsNeeded s.trail.steps beside (λ k. (k ≡ place) ⊎ IsMarked r k)) (IsNeeded s.trail.steps more (IsMarked r))
          h.hinted (omega (arith, top))
          (λ l n. ⊎_elim
          (λ b. inl (weaker l b))
          (λ w. ⊎_elim
          (λ e. let one : w.2.0 ≡ t = same-step s.trail.steps place w.2.0 t (ap (slice_get s.trail.steps) (sym e)
          ∙ w.2.1) at in inl (subst more (sym (ap (λ (x : Step). x.lit) one) ∙ w.2.2) new))
          (λ m. inr (w.0, m, w.2))
          w.1)
          n)
          h.refuted;
      within = omega (arith, top, within);
      upper = h.upper;
      lower = h.lower;
      sourced = λ k m. h.sourced k (inr m);
    }
