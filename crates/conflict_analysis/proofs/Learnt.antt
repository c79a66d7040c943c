-- The clause that is learnt.
use Rattle.std.proofs.Common.{◌≡◌, ℕ, ◌<◌, ◌≤◌, Bool, false, Option, Some, None, List, [], ◌∷◌, ◌++◌, length, map}
use Rattle.std.proofs.Common.{reverse, refl, sym, ap, ◌∙◌, ◌⊎◌, inl, inr, ⊎_elim, arith, slice_get, subst, All}
use Rattle.std.proofs.Common.{Contains, get_or}
use Rattle.std.specs.List.{AllZip}
use Rattle.std.proofs.lemmas.Option.{slice_get_within, get_or_from_slice_get}
use Rattle.std.proofs.lemmas.List.Elements.{Contains-append_left, Contains-push, Contains-push_cases, Contains-get_or}
use Rattle.lit_core.specs.declared.literals.Lit.{Lit}
use Rattle.lit_core.specs.Literals.{negated, value_in, HasEachOnce}
use Rattle.lit_core.proofs.LiteralFacts.{negated-negated, nothing_in_none, Contains-cons_cases}
use Rattle.clause_store.specs.declared.trails.Step.{Step}
use Rattle.clause_store.specs.TrailLaws.{IsCoherent}
use Rattle.clause_store.specs.StoreState.{StoreState, IsStore, IsHeld, IsConflict}
use Rattle.clause_store.proofs.ListFacts.{slice_get-push_old}
use Rattle.clause_store.proofs.WatchFacts.{same-held, made-false}
use Rattle.conflict_analysis.specs.declared.analysis.Analysis.{Analysis}
use Rattle.conflict_analysis.specs.declared.resolvent.Resolvent.{Resolvent}
use Rattle.conflict_analysis.specs.Analyses.{IsFalseSince, IsFalseUpTo, HasCurrent, FollowsFrom, IsHeldLiteral}
use Rattle.conflict_analysis.specs.Analyses.{IsUnitBackAt, IsAnalysis}
use Rattle.conflict_analysis.specs.Learning.{IsLastLevel, IsClauseOf, IsClauseAbove}
use Rattle.conflict_analysis.specs.Resolvents.{IsMadeAt, IsNew, Absorbs, TakesLast}
use Rattle.conflict_analysis.specs.Tracing.{IsSourced, IsTaken, NoLiteral, HasUpper, IsCurrent, IsLast}
use Rattle.conflict_analysis.proofs.Places.{same-step, variable-of, of-conflict}
use Rattle.conflict_analysis.specs.Shortening.{AreInForce, IsLeftAt, IsShort}
use Rattle.conflict_analysis.proofs.Below.{map-cases, map-contains, resolvent-start, resolvent-take, resolvent-resolve}
use Rattle.conflict_analysis.proofs.Traced.{once-push, once-single}

-- analysis begins with a literal of the current level
pub current-start : (s : StoreState) → IsStore s → (id : ℕ) (fresh r : Resolvent) → IsConflict s id → HasCurrent s id
    → IsNew s.trail.level (length s.trail.steps) fresh → Absorbs s fresh id r → IsCurrent s r
current-start s store id fresh r conflict current n a =
    let found = of-conflict s id store conflict in
    let false_by : IsFalseSince s.trail s.trail.level current.2.0 = current.2.2 in
    let within : false_by.0 < length s.trail.steps = slice_get_within s.trail.steps false_by.0 false_by.1 false_by.2 in
    let top : fresh.top ≡ length s.trail.steps = n.top_is in
    let floor : fresh.floor ≡ s.trail.level = n.floor_is in
    record {
      resolvent = resolvent-start s (length s.trail.steps) s.trail.level id NoLiteral fresh r n a (λ m has. ⊎_elim
          (λ b. inl b)
          (λ w. let lt : length s.trail.steps < length s.trail.steps =
          slice_get_within s.trail.steps (length s.trail.steps) w.0 w.1 in absurd (omega (arith, lt)))
          (found.2 m (subst (λ (c : List Lit). Contains c m) (same-held s id a.clause found.0 a.held found.1) has)));
      floor = a.gathers.floor ∙ n.floor_is;
      more = ⊎_elim
          (λ u. (false_by.0, u))
          (λ l. ⊎_elim
          (λ o. absurd (nothing_in_none false_by.0 (subst (λ (ks : List ℕ). Contains ks false_by.0) n.lower o)))
          (λ w.
          let one : w.0.0.level ≡ false_by.1.level = ap (λ (x : Step). x.level)
          (same-step s.trail.steps false_by.0 w.0.0 false_by.1 w.0.1 false_by.2) in
          let at : false_by.1.level ≡ s.trail.level = false_by.4 in
          let low : w.0.0.level < fresh.floor = w.0.2 in
          absurd (omega (arith, one, at, low, floor)))
          (a.gathers.from_lower false_by.0 l))
          (a.gathers.marked current.2.0 (subst (λ (c : List Lit). Contains c current.2.0)
          (same-held s id current.0 a.clause current.1 a.held) current.2.1) false_by.0 (omega (arith, within, top))
          (false_by.1, false_by.2, false_by.3));
    }

module _ (s : StoreState) (store : IsStore s) (high : 0 < s.trail.level) (place : ℕ) (old mid : Resolvent)
    (h : IsCurrent s old) (takes : TakesLast old place mid) where
  current-taken : IsTaken s (length s.trail.steps) NoLiteral place mid
  current-taken = resolvent-take s (length s.trail.steps) NoLiteral place old mid h.resolvent takes

  -- where another literal of the level is left, the last one was not decided
  pub current-reason : HasUpper mid → (t : Step) → slice_get s.trail.steps place ≡ Some t → t.reason ≡ None → ⊥
  current-reason more t at none =
      let floor : mid.floor ≡ s.trail.level = takes.floor ∙ h.floor in
      let u = current-taken.upper more.0 more.1 in
      let v : Step = u.1.0 in
      let lt : more.0 < mid.top = u.0 in
      let top : mid.top ≡ place = takes.top in
      let high_v : mid.floor ≤ v.level = u.1.2 in
      let w = current-taken.taken in
      let one : w.0.level ≡ t.level = ap (λ (x : Step). x.level) (same-step s.trail.steps place w.0 t w.1 at) in
      let high_w : mid.floor ≤ w.0.level = w.2 in
      let most : t.level ≤ s.trail.level = store.trail.top place t at in
      ⊎_elim
      (λ flat. omega (arith, flat, one, high_w, floor, high))
      (λ less. omega (arith, less, most, high_v, floor))
      (store.trail.coherent.opens more.0 place v t (omega (arith, lt, top)) u.1.1 at none)

  pub current-resolve : HasUpper mid → (t : Step) → slice_get s.trail.steps place ≡ Some t → (id : ℕ) (new : Resolvent)
      → t.reason ≡ Some id → Absorbs s mid id new → IsCurrent s new
  current-resolve more t at id new is a = record {
    resolvent = resolvent-resolve s store (length s.trail.steps) NoLiteral place id mid new t at is current-taken a;
    floor = a.gathers.floor ∙ (takes.floor ∙ h.floor);
    more = (more.0, a.gathers.kept_upper more.0 more.1);
  }

  pub current-down : (new : Resolvent) → new.top ≡ mid.top → new.top < old.top
  current-down new same =
      let lt : place < old.top = (h.resolvent.upper place (subst (λ (ks : List ℕ). Contains ks place) (sym takes.upper)
      (Contains-push mid.upper place))).0 in
      let top : mid.top ≡ place = takes.top in
      omega (arith, same, lt, top)

-- where no other literal of the level is left, the last one is the unique implication point
pub current-last : (s : StoreState) (place : ℕ) (old mid : Resolvent) → IsCurrent s old → TakesLast old place mid
    → mid.upper ≡ [] → IsLast s place mid
current-last s place old mid h takes none = record {
  taken = resolvent-take s (length s.trail.steps) NoLiteral place old mid h.resolvent takes;
  floor = takes.floor ∙ h.floor;
  none = none;
}

contains-at : (xs : List Lit) (j : ℕ) (x : Lit) → slice_get xs j ≡ Some x → Contains xs x
contains-at xs j x h = (j, slice_get_within xs j x h, get_or_from_slice_get xs j x x h)

-- the clause begins with the literal of the last place
pub clause-first : (steps : List Step) (place : ℕ) (t : Step) → slice_get steps place ≡ Some t → (lower : List ℕ)
    → ((k : ℕ) → Contains lower k → k < place) → IsClauseAbove steps place lower lower (negated t.lit ∷ [])
clause-first steps place t at lower below =
    let made : IsMadeAt steps place (negated (negated t.lit)) = (t, at, sym (negated-negated t.lit)) in
    record {
      asserting = negated t.lit;
      first = refl;
      made = made;
      among = λ k h. h;
      all = λ k u h uat. inl h;
      from = λ m has. ⊎_elim (λ e. inl (sym e)) (λ n. absurd (nothing_in_none m n))
          (Contains-cons_cases (negated t.lit) [] m has);
      above = λ m has. ⊎_elim (λ e. (place, subst (λ (x : Lit). IsMadeAt steps place (negated x)) e made, below))
          (λ n. absurd (nothing_in_none m n)) (Contains-cons_cases (negated t.lit) [] m has);
      once = once-single (negated t.lit);
    }

-- and goes on with those of lower places, from the last one
pub clause-more : (values : List (Option Bool)) (steps : List Step) → IsCoherent values steps
    → (place : ℕ) (lower left rest : List ℕ) (next : ℕ) (u : Step) (c : List Lit)
    → IsClauseAbove steps place lower left c → left ≡ rest ++ next ∷ [] → ((k : ℕ) → Contains rest k → k < next)
    → slice_get steps next ≡ Some u → IsClauseAbove steps place lower rest (c ++ negated u.lit ∷ [])
clause-more values steps coherent place lower left rest next u c h split below at =
    let made : IsMadeAt steps next (negated (negated u.lit)) = (u, at, sym (negated-negated u.lit)) in
    let old : (k : ℕ) → Contains rest k → Contains left k = λ k has. subst (λ (ks : List ℕ). Contains ks k) (sym split)
    (Contains-append_left rest (next ∷ []) k has) in
    let has_next : Contains left next = subst (λ (ks : List ℕ). Contains ks next) (sym split)
    (Contains-push rest next) in
    record {
      asserting = h.asserting;
      first = slice_get-push_old c (negated u.lit) 0 h.asserting h.first;
      made = h.made;
      among = λ k has. h.among k (old k has);
      all = λ k v has vat. ⊎_elim
          (λ l. ⊎_elim
          (λ o. inl o)
          (λ e. inr (subst (λ (x : Step). Contains (c ++ negated u.lit ∷ []) (negated x.lit))
          (same-step steps k u v (ap (slice_get steps) (sym e) ∙ at) vat) (Contains-push c (negated u.lit))))
          (Contains-push_cases rest next k (subst (λ (ks : List ℕ). Contains ks k) split l)))
          (λ o. inr (Contains-append_left c (negated u.lit ∷ []) (negated v.lit) o))
          (h.all k v has vat);
      from = λ m has. ⊎_elim
          (λ o. h.from m o)
          (λ e. inr (next, h.among next has_next, subst (λ (x : Lit). IsMadeAt steps next (negated x)) e made))
          (Contains-push_cases c (negated u.lit) m has);
      above = λ m has. ⊎_elim
          (λ o. let w = h.above m o in (w.0, w.1, λ j has. w.2 j (old j has)))
          (λ e. (next, subst (λ (x : Lit). IsMadeAt steps next (negated x)) e made, below))
          (Contains-push_cases c (negated u.lit) m has);
      once = once-push c (negated u.lit) h.once (λ has.
          let w = h.above (negated u.lit) has in
          let lt : next < w.0 = w.2 next has_next in
          let one : w.0 ≡ next = coherent.apart w.0 next w.1.0 u w.1.1 at
          (variable-of w.1.0.lit (negated (negated u.lit)) w.1.2) in
          omega (arith, lt, one));
    }

pub clause-done : (steps : List Step) (place : ℕ) (lower left : List ℕ) (c : List Lit)
    → IsClauseAbove steps place lower left c → left ≡ [] → IsClauseOf steps place lower c
clause-done steps place lower left c h none = record {
  asserting = h.asserting;
  first = h.first;
  made = h.made;
  all = λ k t has at. ⊎_elim (λ l. absurd (nothing_in_none k (subst (λ (ks : List ℕ). Contains ks k) none l))) (λ o. o)
      (h.all k t has at);
  from = h.from;
  once = h.once;
}

-- what is left where one literal of the current level is: the clause that is learnt
module _ (s : StoreState) (store : IsStore s) (high : 0 < s.trail.level) (place : ℕ) (lower : List ℕ) (hints : List ℕ)
    (h : IsShort s place (Contains lower) hints) (level : ℕ) (is_level : IsLastLevel s.trail.steps lower level)
    (c : List Lit) (clause : IsClauseOf s.trail.steps place lower c) where
  -- in force are the negations of its literals
  negations : AreInForce s.trail.steps (IsLeftAt place (Contains lower)) (map negated c)
  negations = record {
    all = λ l k way made. ⊎_elim
        (λ e.
        let one : made.0 ≡ clause.made.0 = same-step s.trail.steps place made.0 clause.made.0
        (ap (slice_get s.trail.steps) (sym e) ∙ made.1) clause.made.1 in
        let same : negated clause.asserting ≡ l = sym clause.made.2 ∙ (sym (ap (λ (x : Step). x.lit) one) ∙ made.2) in
        subst (Contains (map negated c)) same (map-contains c clause.asserting
        (contains-at c 0 clause.asserting clause.first)))
        (λ o. subst (Contains (map negated c)) (negated-negated made.0.lit ∙ made.2)
        (map-contains c (negated made.0.lit) (clause.all k made.0 o made.1)))
        way;
    from = λ l has.
        let w = map-cases c l has in
        ⊎_elim
        (λ e. (place, inl refl, subst (IsMadeAt s.trail.steps place) (sym (ap negated e) ∙ w.2) clause.made))
        (λ o. (o.0, inr o.1, subst (IsMadeAt s.trail.steps o.0) w.2 o.2))
        (clause.from w.0 w.1);
  }

  learnt-from : (ids : List ℕ) → ids ≡ reverse hints → FollowsFrom s c ids
  learnt-from ids e = record {
    hinted = h.hinted;
    held = subst (λ (xs : List ℕ). AllZip (IsHeld s) xs h.hinted) (sym e) h.held;
    follows = h.refuted (map negated c) negations;
  }

  low-level : level < s.trail.level
  low-level = ⊎_elim
      (λ e. let flat : level ≡ 0 = e.1 in omega (arith, flat, high))
      (λ w.
      let l = h.lower w.0 w.2 in
      let low : l.0.level < s.trail.level = l.2 in
      let one : l.0.level ≡ w.1.level = ap (λ (x : Step). x.level) (same-step s.trail.steps w.0 l.0 w.1 l.1 w.3) in
      let same : w.1.level ≡ level = w.4 in
      omega (arith, low, one, same))
      is_level

  -- the literals of lower places became false up to the level
  low-false : (m : Lit) (k : ℕ) → Contains lower k → IsMadeAt s.trail.steps k (negated m) → IsFalseUpTo s.trail level m
  low-false m k has w = ⊎_elim
      (λ e. absurd (nothing_in_none k (subst (λ (ks : List ℕ). Contains ks k) e.0 has)))
      (λ l.
      let rises : w.0.level ≤ l.1.level = store.trail.coherent.rising k l.0 w.0 l.1 (l.5 k has) w.1 l.3 in
      let same : l.1.level ≡ level = l.4 in
      (k, w.0, w.1, w.2, omega (arith, rises, same)))
      is_level

  current-false : IsFalseSince s.trail s.trail.level clause.asserting
  current-false =
      let t : Step = clause.made.0 in
      let u = h.current in
      let one : u.0.level ≡ t.level = ap (λ (x : Step). x.level)
      (same-step s.trail.steps place u.0 t u.1 clause.made.1) in
      let up : s.trail.level ≤ u.0.level = u.2 in
      let most : t.level ≤ s.trail.level = store.trail.top place t clause.made.1 in
      (place, t, clause.made.1, clause.made.2, omega (arith, one, up, most))

  least-level : (level ≡ 0) ⊎ ((m : Lit) × Contains c m × IsFalseSince s.trail level m)
  least-level = ⊎_elim
      (λ e. inl e.1)
      (λ w. inr (negated w.1.lit, clause.all w.0 w.1 w.2 w.3, (w.0, w.1, w.3, sym (negated-negated w.1.lit), w.4)))
      is_level

  is-false : (m : Lit) → Contains c m → value_in s.trail.values m ≡ Some false
  is-false m has = ⊎_elim
      (λ e. subst (λ (x : Lit). value_in s.trail.values x ≡ Some false) (sym e)
      (made-false s.trail.values s.trail.steps clause.asserting store.trail.coherent place clause.made.0
      clause.made.1 clause.made.2))
      (λ w. made-false s.trail.values s.trail.steps m store.trail.coherent w.0 w.2.0 w.2.1 w.2.2)
      (clause.from m has)

  -- each literal stands in a held clause
  of-held : (m : Lit) (k : ℕ) → IsMadeAt s.trail.steps k (negated m) → IsSourced s k → IsHeldLiteral s m
  of-held m k w o =
      let one : w.0 ≡ o.5.0 = same-step s.trail.steps k w.0 o.5.0 w.1 o.5.1 in
      let same : negated m ≡ negated o.2 = sym w.2 ∙ (ap (λ (x : Step). x.lit) one ∙ o.5.2) in
      let lit : o.2 ≡ m = sym (negated-negated o.2) ∙ (ap negated (sym same) ∙ negated-negated m) in
      (o.0, o.1, o.3, subst (Contains o.1) lit o.4)

  is-held : (m : Lit) → Contains c m → IsHeldLiteral s m
  is-held m has = ⊎_elim
      (λ (e : m ≡ clause.asserting). subst (IsHeldLiteral s) (sym e) (of-held clause.asserting place clause.made
      (h.sourced place (inl refl))))
      (λ w. of-held m w.0 w.2 (h.sourced w.0 (inr w.1)))
      (clause.from m has)

  pub learnt : (a : Analysis) → a.clause.items ≡ c → a.level ≡ level → a.hints.items ≡ reverse hints → IsAnalysis s a
  learnt a same_clause same_level same_hints = record {
    follows = subst (λ (x : List Lit). FollowsFrom s x a.hints.items) (sym same_clause)
        (learnt-from a.hints.items same_hints);
    unit_back = subst (λ (x : List Lit). IsUnitBackAt s.trail a.level x) (sym same_clause)
        (subst (λ (n : ℕ). IsUnitBackAt s.trail n c) (sym same_level) (record {
          lower = low-level;
          asserting = clause.asserting;
          first = clause.first;
          current = current-false;
          others = λ k d lt. ⊎_elim (λ e. inl e) (λ w. inr (low-false (get_or c k d) w.0 w.1 w.2))
              (clause.from (get_or c k d) (Contains-get_or c k d lt));
          least = least-level;
        }));
    falsified = subst (λ (x : List Lit). All (λ (l : Lit). value_in s.trail.values l ≡ Some false) x) (sym same_clause)
        (λ k d lt. is-false (get_or c k d) (Contains-get_or c k d lt));
    once = subst HasEachOnce (sym same_clause) clause.once;
    held = subst (All (IsHeldLiteral s)) (sym same_clause) (λ k d lt. is-held (get_or c k d)
        (Contains-get_or c k d lt));
  }
