-- What a look at an occurrence of a short clause tells.
use Rattle.std.proofs.Common.{◌≡◌, ℕ, ◌<◌, ◌+◌, false, true, Option, Some, None, List, ◌∷◌, [], ◌++◌, length}
use Rattle.std.proofs.Common.{refl, sym, ◌⊎◌, inr, ⊎_elim, subst, All, Contains, MatchOption}
use Rattle.std.proofs.lemmas.Option.{same_Some}
use Rattle.std.proofs.lemmas.List.Elements.{All-weaker, All-contains_itself}
use Rattle.lit_core.specs.declared.literals.Lit.{Lit}
use Rattle.lit_core.specs.Literals.{value_in}
use Rattle.lit_core.proofs.LiteralFacts.{decide_literal}
use Rattle.clause_base.specs.declared.occurrences.Occurrence.{Occurrence}
use Rattle.clause_base.specs.declared.occurrences.Rest.TheVariants.{Open, Unit as OnlyOne, False as NoneTrue}
use Rattle.clause_base.specs.declared.trail.Step.{Step}
use Rattle.clause_base.specs.ShortState.{IsOther, IsRest, IsShort, RestIs}
use Rattle.clause_base.specs.StoreState.{IsConflict, IsHeld, Implies, Propagates}
use Rattle.clause_base.specs.TrailLaws.{with_step}
use Rattle.clause_base.proofs.ListFacts.{slice_get-push_new, slice_get-push_old}
use Rattle.clause_base.proofs.PropagateFacts.{propagates-refl, propagates-step}
use Rattle.clause_store.specs.declared.watched.Watcher.{Watcher}
use Rattle.clause_store.specs.Watching.{code_of, store_of, IsClosed, IsWatcher}
use Rattle.clause_store.specs.Visits.{IsNext, OccurrenceGives, OccursUnder}
use Rattle.clause_store.proofs.ChangeFacts.{watcher-assign}
use Rattle.clause_store.proofs.ClosedFacts.{closed-push, closed-true, closed-two}
use Rattle.clause_store.proofs.WatchFacts.{next-false}

module _ (e : Watcher) (h : IsWatcher e) (f : Lit) (o : Occurrence) (occurs : OccursUnder e f o) where
  pub other-within : (m : Lit) → IsOther o m → m.var.0 < length e.trail.values
  other-within = (h.short.in_range (code_of f) occurs.0 o occurs.1 occurs.2).1

  pub id-within : o.id < length e.held.clauses
  id-within = (h.short.in_range (code_of f) occurs.0 o occurs.1 occurs.2).0

  -- the clause, where it is held
  rest : (c : List Lit) → IsHeld (store_of e) o.id c → IsShort c × IsRest c f o
  rest = h.short.sound f occurs.0 o occurs.1 occurs.2

  module _ (next : IsNext e f) where
    -- a fact on the other literals, and on the one that became false, is one on the clause
    all-literals : (P : Lit → Type 0) → P f → ((m : Lit) → IsOther o m → P m) → (c : List Lit)
        → IsHeld (store_of e) o.id c → All P c
    all-literals P here there c held = All-weaker (Contains c) P
        (λ m has. ⊎_elim
        (λ is. subst P (sym is) here)
        (λ ne. there m ((rest c held).1.all m has ne))
        (decide_literal m f))
        c (All-contains_itself c)

    pub meet-open : RestIs e.trail.values o Open → (c : List Lit) → o.id < e.short.packed
        → IsHeld (store_of e) o.id c → IsClosed e.trail.steps (e.queue + 1) e.stale c
    meet-open says c below held =
        let r = rest c held in
        let before : IsClosed e.trail.steps e.queue e.stale c = h.closed o.id c below held r.0 in
        ⊎_elim
        (λ t. closed-true e h f next c before t.0 (r.1.from t.0 t.1) t.2)
        (λ t. closed-two e h f next c before t.0 t.1 (r.1.from t.0 t.2) (r.1.from t.1 t.3) t.4 t.5 t.6)
        says

    meet-false : RestIs e.trail.values o NoneTrue → (c : List Lit) → IsHeld (store_of e) o.id c
        → IsConflict (store_of e) o.id
    meet-false none c held = (
      c,
      held,
      all-literals (λ m. value_in e.trail.values m ≡ Some false) (next-false e h f next) none c held,
    )

    pub meet-last : RestIs e.trail.values o NoneTrue → (r : Option ℕ) → MatchOption r
        ((c : List Lit) → IsHeld (store_of e) o.id c → ⊥) (λ id. (id ≡ o.id) × ((c : List Lit)
        × IsHeld (store_of e) o.id c)) → OccurrenceGives e o r
    meet-last none None gone = λ c below held. absurd (gone c held)
    meet-last none (Some id) w = subst (IsConflict (store_of e)) (sym w.0) (meet-false none w.1.0 w.1.1)

    module _ (l : Lit) (unit : RestIs e.trail.values o (OnlyOne l)) (clause : List Lit)
        (here : IsHeld (store_of e) o.id clause) where
      abbrev made : Step
      made = record { lit = l; level = e.trail.level; reason = Some o.id }

      abbrev after-meet : Watcher
      after-meet = record {
        held = e.held;
        short = e.short;
        lists = e.lists;
        trail = with_step e.trail made;
        queue = e.queue;
        checked = e.checked;
        stale = e.stale;
      }

      implied : Implies (store_of e) o.id l
      implied = record {
        clause = clause;
        held = here;
        member = (rest clause here).1.from l unit.0;
        others = all-literals (λ m. (m ≡ l) ⊎ (value_in e.trail.values m ≡ Some false))
            (inr (next-false e h f next)) unit.2 clause here;
      }

      pub meet-watcher : IsWatcher after-meet
      meet-watcher = watcher-assign e l (Some o.id) h (other-within l unit.0) unit.1
          (λ x is. subst (λ (n : ℕ). Implies (store_of e) n l) (same_Some o.id x is) implied) tt

      pub meet-same : Propagates (store_of e) (store_of after-meet)
      meet-same = propagates-step (store_of e) (store_of e) made (propagates-refl (store_of e)) refl refl

      pub meet-unit : (c : List Lit) → o.id < e.short.packed → IsHeld (store_of e) o.id c
          → IsClosed (e.trail.steps ++ made ∷ []) (e.queue + 1) e.stale c
      meet-unit c below held =
          let r = rest c held in
          let before : IsClosed (e.trail.steps ++ made ∷ []) e.queue e.stale c =
          closed-push e.trail.steps made e.queue e.stale c h.queue (h.closed o.id c below held r.0) in
          let next_after : IsNext after-meet f =
          (next.0, slice_get-push_old e.trail.steps made e.queue next.0 next.1, next.2) in
          let yes_true : value_in after-meet.trail.values l ≡ Some true =
          meet-watcher.store.trail.coherent.are_true (length e.trail.steps) made
          (slice_get-push_new e.trail.steps made) in
          closed-true after-meet meet-watcher f next_after c before l (r.1.from l unit.0) yes_true
