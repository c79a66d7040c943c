-- Places on the trail, and what was made true there.
use Rattle.std.proofs.Common.{◌≡◌, ℕ, ◌<◌, ◌≤◌, Bool, true, false, Option, Some, None, List, length, get_or, sym, ap}
use Rattle.std.proofs.Common.{◌∙◌, ◌⊎◌, inl, inr, ⊎_elim, subst, Contains, slice_get, arith}
use Rattle.std.proofs.lemmas.Option.{slice_get_within, same_Some, none-some}
use Rattle.std.proofs.lemmas.List.{get_or_past}
use Rattle.std.proofs.lemmas.List.Elements.{All-contains}
use Rattle.std.proofs.lemmas.Bool.{cases_lt}
use Rattle.lit_core.specs.declared.literals.Lit.{Lit}
use Rattle.lit_core.specs.Literals.{negated, value_in, by_sign_if_any}
use Rattle.lit_core.proofs.LiteralFacts.{negated-negated}
use Rattle.clause_store.specs.declared.trails.Step.{Step}
use Rattle.clause_store.specs.TrailLaws.{IsCoherent, IsFixed}
use Rattle.clause_store.specs.StoreState.{StoreState, IsStore, IsHeld, IsConflict, IsMadeBefore}
use Rattle.clause_store.proofs.StoreFacts.{negated-true}
use Rattle.conflict_analysis.specs.Resolvents.{IsMadeAt, IsOfStep}

-- there is one step at a place
pub same-step : (steps : List Step) (k : ℕ) (t u : Step) → slice_get steps k ≡ Some t
    → slice_get steps k ≡ Some u → t ≡ u
same-step steps k t u a b = same_Some t u (sym a ∙ b)

pub variable-of : (l m : Lit) → l ≡ m → l.var.0 ≡ m.var.0
variable-of l m e = ap (λ (x : Lit). x.var.0) e

-- a literal that was made false before a place, or true there, has a step
pub step-of : (steps : List Step) (top : ℕ) (l : Lit) → IsMadeBefore steps top (negated l) ⊎ IsMadeAt steps top l
    → (k : ℕ) × (u : Step) × (slice_get steps k ≡ Some u) × (u.lit.var.0 ≡ l.var.0)
step-of steps top l made = ⊎_elim (λ b. (b.0, b.1, b.3, variable-of b.1.lit (negated l) b.4))
    (λ a. (top, a.0, a.1, variable-of a.0.lit l a.2)) made

-- a literal with a value has a variable of the store
pub in_range-false : (values : List (Option Bool)) (l : Lit) → value_in values l ≡ Some false → l.var.0 < length values
in_range-false values l is_false = ⊎_elim
    (λ lt. lt)
    (λ le. absurd (none-some false (sym (ap (by_sign_if_any l.positive) (get_or_past values l.var.0 None le))
    ∙ is_false)))
    (cases_lt l.var.0 (length values))

pub assigned-false : (values : List (Option Bool)) (l : Lit) → value_in values l ≡ Some false
    → get_or values l.var.0 None ≡ None → ⊥
assigned-false values l is_false none = none-some false (sym (ap (by_sign_if_any l.positive) none) ∙ is_false)

module _ (values : List (Option Bool)) (steps : List Step) (coherent : IsCoherent values steps) where
  pub in_range-of : (l : Lit) (k : ℕ) (u : Step) → slice_get steps k ≡ Some u → u.lit.var.0 ≡ l.var.0
      → l.var.0 < length values
  in_range-of l k u at same = subst (λ (v : ℕ). v < length values) same (coherent.in_range k u at)

  pub assigned-of : (l : Lit) (k : ℕ) (u : Step) → slice_get steps k ≡ Some u → u.lit.var.0 ≡ l.var.0
      → get_or values l.var.0 None ≡ None → ⊥
  assigned-of l k u at same none =
      let e : get_or values u.lit.var.0 None ≡ None = ap (λ (v : ℕ). get_or values v None) same ∙ none in
      let f : value_in values u.lit ≡ None = ap (by_sign_if_any u.lit.positive) e in
      none-some true (sym f ∙ coherent.are_true k u at)

  -- the step of a literal that was made false made its negation true
  pub made-at : (l : Lit) (k : ℕ) (t : Step) → value_in values l ≡ Some false → slice_get steps k ≡ Some t
      → t.lit.var.0 ≡ l.var.0 → t.lit ≡ negated l
  made-at l k t is_false at same =
      let w = coherent.was_made (negated l) (negated-true values l is_false) in
      let one : k ≡ w.0 = coherent.apart k w.0 t w.1 at w.2 (same ∙ sym (variable-of w.1.lit (negated l) w.3)) in
      let u : slice_get steps k ≡ Some w.1 = ap (slice_get steps) one ∙ w.2 in
      ap (λ (x : Step). x.lit) (same-step steps k t w.1 at u) ∙ w.3

  -- below the place where a literal is true, its variable's step made it false
  pub made-below : (l : Lit) (top k : ℕ) (t : Step) → IsMadeBefore steps top (negated l) ⊎ IsMadeAt steps top l
      → slice_get steps k ≡ Some t → t.lit.var.0 ≡ l.var.0 → k < top → t.lit ≡ negated l
  made-below l top k t made at same lt = ⊎_elim
      (λ b.
      let one : k ≡ b.0 = coherent.apart k b.0 t b.1 at b.3 (same ∙ sym (variable-of b.1.lit (negated l) b.4)) in
      let u : slice_get steps k ≡ Some b.1 = ap (slice_get steps) one ∙ b.3 in
      ap (λ (x : Step). x.lit) (same-step steps k t b.1 at u) ∙ b.4)
      (λ a.
      let one : k ≡ top = coherent.apart k top t a.0 at a.1 (same ∙ sym (variable-of a.0.lit l a.2)) in
      absurd (omega (arith, one, lt)))
      made

  -- a step of a lower level is at a lower place
  pub lower-place : (i k : ℕ) (t u : Step) → slice_get steps i ≡ Some t → slice_get steps k ≡ Some u
      → t.level < u.level → i < k
  lower-place i k t u at uat lt = ⊎_elim (λ h. h) (λ le. let r : u.level ≤ t.level =
      coherent.rising k i u t le uat at in absurd (omega (arith, r, lt))) (cases_lt i k)

-- the clause of a conflict is one of the end of the trail
pub of-conflict : (s : StoreState) (id : ℕ) → IsStore s → IsConflict s id → IsOfStep s (length s.trail.steps) id
of-conflict s id store conflict = (
  conflict.0,
  conflict.1,
  λ m has.
      let is_false : value_in s.trail.values m ≡ Some false = All-contains (λ (l : Lit). value_in s.trail.values l
      ≡ Some false) conflict.0 m conflict.2 has in
      let w = store.trail.coherent.was_made (negated m) (negated-true s.trail.values m is_false) in
      inl (w.0, w.1, slice_get_within s.trail.steps w.0 w.1 w.2, w.2, w.3),
)

-- the reason of a step is a clause of its place
pub of-reason : (s : StoreState) (k : ℕ) (t : Step) (id : ℕ) → IsStore s → slice_get s.trail.steps k ≡ Some t
    → t.reason ≡ Some id → IsOfStep s k id
of-reason s k t id store at is =
    let r = store.reasons k t id at is in (
      r.0,
      r.1,
      λ m has. ⊎_elim
          (λ e. inr (t, at, sym e))
          (λ b. inl b)
          (All-contains (λ (n : Lit). (n ≡ t.lit) ⊎ IsMadeBefore s.trail.steps k (negated n)) r.0 m r.2.others has),
    )

-- the negation of a literal of a clause of a place is not fixed
pub unfixed-of : (s : StoreState) (id : ℕ) (c : List Lit) (m : Lit) → IsStore s → IsHeld s id c → Contains c m
    → IsFixed s.trail (negated m) → ⊥
unfixed-of s id c m store held has fixed = store.unopposed (negated m) fixed id c held
    (subst (Contains c) (sym (negated-negated m)) has)
