-- A walk over the short clauses that are listed under the literal that became false.
use Rattle.std.proofs.Common.{◌≡◌, ℕ, ◌<◌, ◌≤◌, ◌+◌, Option, Some, None, List, length, refl, sym, ap, ◌∙◌, ◌⊎◌}
use Rattle.std.proofs.Common.{inl, inr, ⊎_elim, arith, slice_get, subst}
use Rattle.std.proofs.lemmas.Option.{slice_get_within, slice_get-get_or, same_Some}
use Rattle.std.proofs.lemmas.Bool.{cases_eq}
use Rattle.lit_core.specs.declared.literals.Lit.{Lit}
use Rattle.lit_core.proofs.LiteralFacts.{decide_member}
use Rattle.clause_base.specs.declared.occurrences.Occurrence.{Occurrence}
use Rattle.clause_base.specs.ShortState.{ShortState, IsShort}
use Rattle.clause_base.specs.StoreState.{IsHeld, Propagates}
use Rattle.clause_base.proofs.PropagateFacts.{propagates-refl, propagates-trans}
use Rattle.clause_store.specs.declared.watched.Watcher.{Watcher}
use Rattle.clause_store.specs.Watching.{code_of, store_of, AreClosed, IsClosed, IsWatcher}
use Rattle.clause_store.specs.Visits.{IsNext, KeepsLists, OccurrenceGives}
use Rattle.clause_store.proofs.ClosedFacts.{closed-grown, closed-other}
use Rattle.clause_store.proofs.WatchFacts.{next-grown, next-within}

-- the clause stands in the list of the literal, at this place or after it
pub record IsAhead (e : Watcher) (f : Lit) (id place : ℕ) : Type 0 where
  pub list : List Occurrence
  pub is_list : slice_get e.short.lists (code_of f) ≡ Some list
  pub at : ℕ
  pub ahead : place ≤ at
  pub occurrence : Occurrence
  pub is_at : slice_get list at ≡ Some occurrence
  pub of : occurrence.id ≡ id

-- the clauses before this place of the list are closed over one step more
pub record Meets (old e : Watcher) (f : Lit) (place : ℕ) : Type 0 where
  pub watcher : IsWatcher e
  pub same : Propagates (store_of old) (store_of e)
  pub keeps : KeepsLists old e
  pub next : IsNext e f
  pub met : (id : ℕ) (c : List Lit) → id < e.short.packed → IsHeld (store_of e) id c → IsShort c
      → IsClosed e.trail.steps (e.queue + 1) e.stale c ⊎ IsAhead e f id place

pub keeps-refl : (e : Watcher) → KeepsLists e e
keeps-refl e = record { held = refl; short = refl; lists = refl; queue = refl; checked = refl; stale = refl }

pub keeps-trans : (a b c : Watcher) → KeepsLists a b → KeepsLists b c → KeepsLists a c
keeps-trans a b c f g = record {
  held = g.held ∙ f.held;
  short = g.short ∙ f.short;
  lists = g.lists ∙ f.lists;
  queue = g.queue ∙ f.queue;
  checked = g.checked ∙ f.checked;
  stale = g.stale ∙ f.stale;
}

-- a clause without the literal stays closed, and any other stands in its list
pub meets-start : (e : Watcher) → IsWatcher e → (f : Lit) → IsNext e f → Meets e e f 0
meets-start e h f next = record {
  watcher = h;
  same = propagates-refl (store_of e);
  keeps = keeps-refl e;
  next = next;
  met = λ id c lt held small. ⊎_elim
      (λ has. let w = h.short.complete id c lt held small f has in
      let os : List Occurrence = w.0 in
      let o : Occurrence = w.1 in
      let k = w.3 in
      inr (record {
        list = os;
        is_list = w.2;
        at = k.0;
        ahead = omega arith;
        occurrence = o;
        is_at = slice_get-get_or os k.0 o k.1 ∙ ap Some k.2;
        of = w.4;
      }))
      (λ lacks. inl (closed-other e h f next c (h.closed id c lt held small) lacks))
      (decide_member c f);
}

module _ (old e new : Watcher) (f : Lit) (place : ℕ) (os : List Occurrence) (o : Occurrence) (h : Meets old e f place)
    (list : slice_get e.short.lists (code_of f) ≡ Some os) (at : slice_get os place ≡ Some o) (watcher : IsWatcher new)
    (same : Propagates (store_of e) (store_of new)) (keeps : KeepsLists e new)
    (visit : OccurrenceGives new o None) where
  met-on : (id : ℕ) (c : List Lit) → id < new.short.packed → IsHeld (store_of new) id c → IsShort c
      → IsClosed new.trail.steps (new.queue + 1) new.stale c ⊎ IsAhead new f id (place + 1)
  met-on id c lt held small =
      let below : id < e.short.packed = subst (λ (s : ShortState). id < s.packed) keeps.short lt in
      let was : IsHeld (store_of e) id c = ap (λ (xs : List (Option (List Lit))). slice_get xs id) (sym same.clauses)
      ∙ held in
      ⊎_elim
      (λ closed. inl (closed-grown e new c (next-within e h.watcher f h.next) same keeps.queue keeps.stale closed))
      (λ a. let same_list : a.list ≡ os = same_Some a.list os (sym a.is_list ∙ list) in
      let le : place ≤ a.at = a.ahead in
      ⊎_elim
      (λ here. let is : o ≡ a.occurrence = same_Some o a.occurrence (sym at ∙ ap (slice_get os) (sym here)
      ∙ ap (λ (xs : List Occurrence). slice_get xs a.at) (sym same_list) ∙ a.is_at) in
      let number : o.id ≡ id = ap (λ (x : Occurrence). x.id) is ∙ a.of in
      inl (visit c (subst (λ (n : ℕ). n < new.short.packed) (sym number) lt)
      (subst (λ (n : ℕ). IsHeld (store_of new) n c) (sym number) held)))
      (λ past. inr (record {
        list = a.list;
        is_list = ap (λ (s : ShortState). slice_get s.lists (code_of f)) keeps.short ∙ a.is_list;
        at = a.at;
        ahead = omega arith;
        occurrence = a.occurrence;
        is_at = a.is_at;
        of = a.of;
      }))
      (cases_eq a.at place))
      (h.met id c below was small)

  pub meets-step : Meets old new f (place + 1)
  meets-step = record {
    watcher = watcher;
    same = propagates-trans (store_of old) (store_of e) (store_of new) h.same same;
    keeps = keeps-trans old e new h.keeps keeps;
    next = next-grown e new f h.watcher h.next same keeps.queue;
    met = met-on;
  }

-- at the end of the list all are closed
pub meets-end : (old e : Watcher) (f : Lit) (place : ℕ) (os : List Occurrence) → Meets old e f place
    → slice_get e.short.lists (code_of f) ≡ Some os → length os ≤ place → AreClosed e (e.queue + 1)
meets-end old e f place os h list done id c lt held small = ⊎_elim
    (λ closed. closed)
    (λ a. let same : a.list ≡ os = same_Some a.list os (sym a.is_list ∙ list) in
    let within : a.at < length a.list = slice_get_within a.list a.at a.occurrence a.is_at in
    let len : length a.list ≡ length os = ap length same in
    let le : place ≤ a.at = a.ahead in
    absurd (omega arith))
    (h.met id c lt held small)
