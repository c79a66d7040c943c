-- Short clauses that are closed over more of the trail.
use Rattle.std.proofs.Common.{◌≡◌, ◌≢◌, ℕ, ◌<◌, ◌≤◌, ◌+◌, Bool, true, false, Some, None, List, [], ◌∷◌, ◌++◌}
use Rattle.std.proofs.Common.{length, take, refl, sym, ap, ◌∙◌, ◌⊎◌, inl, inr, ⊎_elim, arith, slice_get, subst}
use Rattle.std.proofs.Common.{Contains}
use Rattle.std.proofs.lemmas.Option.{same_Some}
use Rattle.std.proofs.lemmas.List.{take_all, take-append-le}
use Rattle.std.proofs.lemmas.Bool.{cases_lt}
use Rattle.lit_core.specs.declared.literals.Lit.{Lit}
use Rattle.lit_core.specs.Literals.{value_in, negated, HasEachOnce}
use Rattle.lit_core.proofs.LiteralFacts.{Contains-head, Contains-tail, decide_literal, decide_member, negated-negated}
use Rattle.clause_base.specs.declared.trail.Step.{Step}
use Rattle.clause_base.specs.ShortState.{IsShort}
use Rattle.clause_base.specs.StoreState.{Propagates}
use Rattle.clause_base.specs.TrailLaws.{IsCoherent, IsMade}
use Rattle.clause_base.proofs.ListFacts.{slice_get-take, slice_get-take-below}
use Rattle.clause_store.specs.declared.watched.Watcher.{Watcher}
use Rattle.clause_store.specs.Watching.{store_of, IsClosed, IsLong, IsWatcher}
use Rattle.clause_store.specs.Visits.{IsNext}
use Rattle.clause_store.proofs.WatchFacts.{made-false, true-level}

-- whether the clause is one of those that are watched, or listed with the short ones, or has no two literals
pub decide_long : (e : Watcher) (id : ℕ) (c : List Lit)
    → IsLong e id c ⊎ (((id < e.short.packed) × IsShort c) ⊎ (length c ≤ 1))
decide_long e id c = ⊎_elim
    (λ two.
    let least : 2 ≤ length c = (let x : 1 < length c = two in omega arith) in
    ⊎_elim
    (λ below. ⊎_elim
    (λ four. inr (inl (below, (least, let x : length c < 5 = four in omega arith))))
    (λ many. inl (
      least,
      λ p s. let x : length c ≤ 4 = s.1 in let y : 5 ≤ length c = many in absurd (omega arith),
    ))
    (cases_lt (length c) 5))
    (λ above. inl (least, λ p s. let x : e.short.packed ≤ id = above in absurd (omega arith)))
    (cases_lt id e.short.packed))
    (λ few. inr (inr few))
    (cases_lt 1 (length c))

-- a short clause has another literal
pub other_member : (c : List Lit) (m : Lit) → 2 ≤ length c → HasEachOnce c → (l : Lit) × Contains c l × (l ≡ m → ⊥)
other_member [] m len once = absurd (omega arith)
other_member (a ∷ []) m len once = absurd (omega arith)
other_member (a ∷ b ∷ c) m len once = ⊎_elim
    (λ is. (
      b,
      Contains-tail a (b ∷ c) b (Contains-head b c),
      λ e. let z : 0 ≡ 1 = once 0 1 a refl (ap Some (e ∙ sym is)) in omega arith,
    ))
    (λ ne. (a, Contains-head a (b ∷ c), ne))
    (decide_literal a m)

-- over nothing every short clause is closed
pub closed-none : (steps : List Step) (stale : Bool) (c : List Lit) → IsShort c → HasEachOnce c
    → IsClosed steps 0 stale c
closed-none steps stale c short once m has level others =
    let o = other_member c m short.0 once in
    let k = others o.0 o.1 o.2 in
    let lt : k.0 < 0 = k.2 in
    absurd (omega arith)

-- over a longer trail
pub closed-kept : (steps more : List Step) (q : ℕ) (stale : Bool) (c : List Lit) → steps ≡ take (length steps) more
    → q ≤ length steps → IsClosed steps q stale c → IsClosed more q stale c
closed-kept steps more q stale c kept le h m has level others =
    let w = h m has level (λ l member ne. let o = others l member ne in
    let lt : o.0 < q = o.2 in
    let within : o.0 < length steps = omega arith in (
      o.0,
      o.1,
      o.2,
      ap (λ (xs : List Step). slice_get xs o.0) kept ∙ slice_get-take-below (length steps) more o.0 within ∙ o.3,
      o.4,
      o.5,
    )) in (
      w.0,
      w.1,
      (slice_get-take (length steps) more w.0 w.1 (ap (λ (xs : List Step). slice_get xs w.0) (sym kept) ∙ w.2)).0,
      w.3,
      w.4,
    )

pub closed-push : (steps : List Step) (t : Step) (q : ℕ) (stale : Bool) (c : List Lit) → q ≤ length steps
    → IsClosed steps q stale c → IsClosed (steps ++ t ∷ []) q stale c
closed-push steps t q stale c le h =
    let front : steps ≡ take (length steps) (steps ++ t ∷ []) =
    sym (take-append-le (length steps) steps (t ∷ []) (omega arith) ∙ take_all (length steps) steps (omega arith)) in
    closed-kept steps (steps ++ t ∷ []) q stale c front le h

-- over the trail that was grown since
pub closed-grown : (e new : Watcher) (c : List Lit) → e.queue < length e.trail.steps
    → Propagates (store_of e) (store_of new) → new.queue ≡ e.queue → new.stale ≡ e.stale
    → IsClosed e.trail.steps (e.queue + 1) e.stale c → IsClosed new.trail.steps (new.queue + 1) new.stale c
closed-grown e new c within same queue stale was =
    let kept : IsClosed new.trail.steps (e.queue + 1) e.stale c =
    closed-kept e.trail.steps new.trail.steps (e.queue + 1) e.stale c same.kept (omega arith) was in
    rw (queue, stale) kept

-- where levels are passed over
pub closed-stale : (steps : List Step) (q : ℕ) (stale : Bool) (c : List Lit) → IsClosed steps q stale c
    → IsClosed steps q true c
closed-stale steps q stale c h m has level others = let w = h m has level others in (w.0, w.1, w.2, w.3, inl refl)

-- what made another literal false came before the step that made this one false
step-before : (steps : List Step) (q : ℕ) (t : Step) → slice_get steps q ≡ Some t → (l : Lit)
    → (l ≡ negated t.lit → ⊥) → (k : ℕ) (u : Step) → k < q + 1 → slice_get steps k ≡ Some u → u.lit ≡ negated l → k < q
step-before steps q t at l ne k u lt e is = ⊎_elim
    (λ old. old)
    (λ ge. let same : k ≡ q = omega arith in
    let tu : t ≡ u = same_Some t u (sym at ∙ ap (slice_get steps) (sym same) ∙ e) in
    let la : t.lit ≡ negated l = ap (λ (x : Step). x.lit) tu ∙ is in
    absurd (ne (sym (negated-negated l) ∙ ap negated (sym la))))
    (cases_lt k q)

module _ (e : Watcher) (h : IsWatcher e) (f : Lit) (next : IsNext e f) (c : List Lit)
    (before : IsClosed e.trail.steps e.queue e.stale c) where
  coherent : IsCoherent e.trail.values e.trail.steps
  coherent = h.store.trail.coherent

  -- one step more, of a literal whose negation is not in the clause
  pub closed-other : (Contains c f → ⊥) → IsClosed e.trail.steps (e.queue + 1) e.stale c
  closed-other lacks m has level others = before m has level (λ l member ne. let o = others l member ne in (
    o.0,
    o.1,
    step-before e.trail.steps e.queue next.0 next.1 l (λ x. lacks (subst (Contains c) (x ∙ sym next.2) member)) o.0 o.1
        o.2 o.3 o.4,
    o.3,
    o.4,
    o.5,
  ))

  -- one step more, where any literal of the clause whose others are false is true
  closed-next : ((m : Lit) → Contains c m → ((l : Lit) → Contains c l → (l ≡ m → ⊥) → value_in e.trail.values l
      ≡ Some false) → IsMade e.trail.steps m) → IsClosed e.trail.steps (e.queue + 1) e.stale c
  closed-next given m has level others = ⊎_elim
      (λ of. ⊎_elim
      (λ is. before m has level (λ l member ne. let o = others l member ne in (
        o.0,
        o.1,
        step-before e.trail.steps e.queue next.0 next.1 l (λ x. ne (x ∙ sym next.2 ∙ sym is)) o.0 o.1 o.2 o.3 o.4,
        o.3,
        o.4,
        o.5,
      )))
      (λ ne. let o = others f of (λ x. ne (sym x)) in
      let var : o.1.lit.var.0 ≡ next.0.lit.var.0 = ap (λ (x : Lit). x.var.0) (o.4 ∙ ap negated next.2) in
      let at : o.0 ≡ e.queue = coherent.apart o.0 e.queue o.1 next.0 o.3 next.1 var in
      let same : o.1 ≡ next.0 = same_Some o.1 next.0 (sym o.3 ∙ ap (slice_get e.trail.steps) at ∙ next.1) in
      let le : next.0.level ≤ level = subst (λ (x : Step). x.level ≤ level) same o.5 in
      let w = given m has (λ l member apart. let k = others l member apart in
      made-false e.trail.values e.trail.steps l coherent k.0 k.1 k.3 k.4) in (
        w.0,
        w.1,
        w.2,
        w.3,
        ⊎_elim
            (λ s. inl s)
            (λ n. inr (let x : w.1.level ≤ next.0.level = n in omega arith))
            (true-level e h f next w.0 w.1 w.2),
      ))
      (decide_literal m f))
      (λ lacks. closed-other lacks m has level others)
      (decide_member c f)

  -- one step more, where a literal is true
  pub closed-true : (n : Lit) → Contains c n → value_in e.trail.values n ≡ Some true
      → IsClosed e.trail.steps (e.queue + 1) e.stale c
  closed-true n has yes_true = closed-next (λ m member others. ⊎_elim
      (λ is. subst (IsMade e.trail.steps) is (coherent.was_made n yes_true))
      (λ ne. let x : Some true ≡ Some false = sym yes_true ∙ others n has ne in cc)
      (decide_literal n m))

  -- one step more, where two literals are unassigned
  pub closed-two : (n k : Lit) → Contains c n → Contains c k → n ≢ k → value_in e.trail.values n ≡ None
      → value_in e.trail.values k ≡ None → IsClosed e.trail.steps (e.queue + 1) e.stale c
  closed-two n k has_n has_k apart none_n none_k = closed-next (λ m member others. ⊎_elim
      (λ is. let x : None ≡ Some false = sym none_k ∙ others k has_k (λ y. apart (is ∙ sym y)) in cc)
      (λ ne. let x : None ≡ Some false = sym none_n ∙ others n has_n ne in cc)
      (decide_literal n m))
