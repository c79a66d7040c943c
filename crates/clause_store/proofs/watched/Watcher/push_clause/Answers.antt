use Rattle.std.proofs.Common.{◌≡◌, ℕ, ◌<◌, ◌≤◌, ◌+◌, ◌*◌, ◌++◌, ◌∷◌, [], max, length, List, Some, All, refl, sym, ap}
use Rattle.std.proofs.Common.{subst, arith, ⊎_elim}
use Rattle.std.proofs.lemmas.List.{length_push}
use Rattle.lit_core.specs.declared.literals.Lit.{Lit}
use Rattle.lit_core.specs.Literals.{negated}
use Rattle.clause_base.specs.ClauseDbState.{ClauseDbState}
use Rattle.clause_base.specs.StoreState.{StoreState, IsEachOnceOf, with_spare}
use Rattle.clause_base.specs.TrailLaws.{IsFixed}
use Rattle.clause_store.specs.declared.watched.Watcher.{Watcher}
use Rattle.clause_store.specs.Watching.{store_of, IsWatcher}
use Rattle.clause_base.proofs.ListFacts.{slice_get-push_cases}
use Rattle.clause_store.proofs.GrowthFacts.{watcher-held}
use Rattle.clause_base.proofs.ShortFacts.{packed-push}
use Rattle.clause_base.proofs.StoreFacts.{store-push}
use Rattle.clause_store.proofs.watched.Watcher.push_clause.Goals as goal

with_held : Watcher → ClauseDbState → Watcher
with_held e x = record {
  held = x;
  short = e.short;
  lists = e.lists;
  trail = e.trail;
  queue = e.queue;
  checked = e.checked;
  stale = e.stale;
}

-- a clause for which there is room is added
pushed : (s : StoreState) (e : Watcher) (lits d : List Lit) (n : ℕ) → IsWatcher e → store_of e ≡ with_spare s n → 0 < n
    → All (λ l. l.var.0 < length s.trail.values) lits → All (λ l. IsFixed s.trail (negated l) → ⊥) lits
    → IsEachOnceOf lits d → IsWatcher (with_held e (record { clauses = e.held.clauses ++ Some d ∷ []; spare = 0 }))
unfolding with_held
pushed s e lits d n h is pos within unopposed each =
    let within2 : All (λ l. l.var.0 < length e.trail.values) lits =
    subst (λ (x : StoreState). All (λ l. l.var.0 < length x.trail.values) lits) (sym is) within in
    let unopposed2 : All (λ l. IsFixed e.trail (negated l) → ⊥) lits =
    subst (λ (x : StoreState). All (λ l. IsFixed x.trail (negated l) → ⊥) lits) (sym is) unopposed in
    let spare : e.held.spare ≡ n = ap (λ (x : StoreState). x.spare) is in
    let r : 2 * length e.held.clauses + 2 ≤ length e.lists.labels = h.room (omega arith) in
    let size : length (e.held.clauses ++ Some d ∷ []) ≡ length e.held.clauses + 1 =
    length_push e.held.clauses (Some d) in
    let a : e.checked ≤ length e.held.clauses = h.checked in
    watcher-held e (with_held e (record { clauses = e.held.clauses ++ Some d ∷ []; spare = 0 })) h
    (store-push (store_of e) lits d h.store each within2 unopposed2) refl refl refl refl refl
    (packed-push e.held.clauses d (length e.trail.values) e.short h.short)
    (omega arith) (omega arith)
    (λ some. absurd (omega arith))
    (λ id x lt held. ⊎_elim (λ old. old) (λ new. absurd (let at : id ≡ length e.held.clauses = new.0 in omega arith))
    (slice_get-push_cases e.held.clauses (Some d) id (Some x) held))
    (λ k x at. at) h.lists (omega arith) (λ j. refl)

pub returns-clause-watcher : goal.returns-clause-watcher
unfolding with_held
returns-clause-watcher c =
    let r : Watcher = c.reserve_clause.new.self in
    let p = c.push.ensures in
    let n : ℕ = max c.args.self.now.held.spare (length c.args.lits.now + 1) in
    subst (λ (x : ClauseDbState). IsWatcher (with_held r x)) (sym p.2)
    (pushed (store_of c.args.self.now) r c.args.lits.now p.0 n c.reserve_clause.ensures.watcher
    c.in_ok-reserve_clause.ensures.ok (omega arith) c.requires.in_range c.requires.unopposed p.1)
