-- Where the nodes of clauses link.
use Rattle.std.proofs.Common.{◌≡◌, ℕ, ◌<◌, ◌≤◌, ◌+◌, ◌*◌, ◌^◌, Bool, true, false, cond, Some, List, length, set}
use Rattle.std.proofs.Common.{sym, ap, ◌∙◌, ◌⊎◌, inl, inr, ⊎_elim, arith, subst, Contains}
use Rattle.std.proofs.lemmas.Option.{same_Some}
use Rattle.std.proofs.lemmas.List.{length-set}
use Rattle.clause_base.proofs.ListFacts.{slice_get-set_same, slice_get-set_other}
use Rattle.std.proofs.lemmas.List.Elements.{All-contains}
use Rattle.lit_core.specs.declared.literals.Lit.{Lit}
use Rattle.lit_core.specs.Literals.{value_in}
use Rattle.clause_base.proofs.ShortFacts.{number-same}
use Rattle.clause_store.specs.declared.watched.Watch.{Watch}
use Rattle.clause_store.specs.declared.watched.Watcher.{Watcher}
use Rattle.clause_store.specs.declared.propagation.Look.TheVariants.{Satisfied, Unsatisfied}
use Rattle.clause_base.specs.ListsState.{nodes_of}
use Rattle.clause_base.specs.StoreState.{IsHeld}
use Rattle.clause_store.specs.Watching.{code_of, store_of, HasWatch, IsLong, IsWatcher, IsNodeOf, IsPair, IsWatched}
use Rattle.clause_store.specs.Visits.{IsNext, LookGives}
use Rattle.clause_store.proofs.WatchFacts.{pair-swap, pair-true}

pub code-le : (l : Lit) → code_of l ≤ 2 * l.var.0 + 1
code-le l = by_sign l.positive
  where
    by_sign : (p : Bool) → 2 * l.var.0 + cond p 1 0 ≤ 2 * l.var.0 + 1
    by_sign true = omega arith
    by_sign false = omega arith

-- a clause watches just two literals
pub same-watch : (labels : List ℕ) (id : ℕ) (v w : Watch) → HasWatch labels id v → HasWatch labels id w → v ≡ w
same-watch labels id v w hv hw =
    let first : v.first ≡ w.first = number-same v.first w.first (same_Some (code_of v.first) (code_of w.first)
    (sym hv.first ∙ hw.first)) in
    let second : v.second ≡ w.second = number-same v.second w.second (same_Some (code_of v.second) (code_of w.second)
    (sym hv.second ∙ hw.second)) in
    let make : Lit → Lit → Watch = λ a b. record { first = a; second = b } in
    ap (λ (a : Lit). make a v.second) first ∙ ap (λ (b : Lit). make w.first b) second

-- what is written on another clause's node
pub label-other : (labels : List ℕ) (node x i : ℕ) (v : Watch) → (IsNodeOf node i → ⊥) → HasWatch labels i v
    → HasWatch (set labels node x) i v
label-other labels node x i v ne h = record {
  first = slice_get-set_other labels node (2 * i + 1) x (λ e. ne (inr (sym e))) ∙ h.first;
  second = slice_get-set_other labels node (2 * i) x (λ e. ne (inl (sym e))) ∙ h.second;
}

-- what is written on both nodes of a clause
pub label-both : (labels : List ℕ) (id x y : ℕ) (w : Watch) → 2 * id + 1 < length labels → x ≡ code_of w.second
    → y ≡ code_of w.first → HasWatch (set (set labels (2 * id) x) (2 * id + 1) y) id w
label-both labels id x y w within second first = record {
  first = slice_get-set_same (set labels (2 * id) x) (2 * id + 1) y (rw length-set within) ∙ ap Some first;
  second = slice_get-set_other (set labels (2 * id) x) (2 * id + 1) (2 * id) y (λ e. omega arith)
      ∙ slice_get-set_same labels (2 * id) x (omega arith) ∙ ap Some second;
}

-- the number of a literal of the store fits in 32 bits
pub code-small : (e : Watcher) → IsWatcher e → (l : Lit) → l.var.0 < length e.trail.values → l.var.0 < 2 ^ 31
code-small e h l lt = let small : length e.trail.values ≤ 2 ^ 31 = h.small in omega arith

-- a literal of the store has a list
pub code-within : (e : Watcher) → IsWatcher e → (l : Lit) → l.var.0 < length e.trail.values
    → code_of l < length e.lists.lists
code-within e h l lt =
    let le : code_of l ≤ 2 * l.var.0 + 1 = code-le l in
    let all : 2 * length e.trail.values ≤ length e.lists.lists = h.count in
    omega arith

-- and one of short clauses, where any are listed
pub short-within : (e : Watcher) → IsWatcher e → 0 < e.short.packed → (l : Lit) → l.var.0 < length e.trail.values
    → code_of l < length e.short.lists
short-within e h some l lt =
    let le : code_of l ≤ 2 * l.var.0 + 1 = code-le l in
    let all : 2 * length e.trail.values ≤ length e.short.lists = h.shorts some in
    omega arith

-- and its number fits
pub code-fits : (e : Watcher) → IsWatcher e → (l : Lit) → l.var.0 < length e.trail.values → 2 * l.var.0 + 1 < 2 ^ 64
code-fits e h l lt =
    let all : 2 * length e.trail.values ≤ length e.lists.lists = h.count in
    let small : length e.lists.lists < 2 ^ 64 = h.lists.small in
    omega arith

-- a node is of one clause
pub same-node : (node i k : ℕ) → IsNodeOf node i → IsNodeOf node k → i ≡ k
same-node node i k hi hk = ⊎_elim
    (λ a. ⊎_elim (λ b. omega arith) (λ b. omega arith) hk)
    (λ a. ⊎_elim (λ b. omega arith) (λ b. omega arith) hk)
    hi

-- a literal of a held clause is one of the store
pub literal-within : (e : Watcher) → IsWatcher e → (id : ℕ) (c : List Lit) → IsHeld (store_of e) id c → (l : Lit)
    → Contains c l → l.var.0 < length e.trail.values
literal-within e h id c held l has = All-contains (λ (m : Lit). m.var.0 < length e.trail.values) c l
    (h.store.in_range id c held) has

-- the literal of the list in which a node enlists is the one that its clause watches there
pub record Sides (e : Watcher) (node id : ℕ) (f : Lit) (c : List Lit) : Type 0 where
  pub watch : Watch
  pub is_watch : HasWatch e.lists.labels id watch
  pub watched : IsWatched e.trail.steps e.queue e.stale c watch
  pub side : ((node ≡ 2 * id) × (watch.first ≡ f)) ⊎ ((node ≡ 2 * id + 1) × (watch.second ≡ f))

module _ (e : Watcher) (h : IsWatcher e) (f : Lit) (node : ℕ)
    (listed : Contains (nodes_of e.lists (code_of f)) node) where
  pub node-checked : (id : ℕ) → IsNodeOf node id → id < e.checked
  node-checked id of =
      let w = h.owned (code_of f) node listed in
      let same : w.id ≡ id = same-node node w.id id w.of of in
      let lt : w.id < e.checked = w.checked in
      omega arith

  pub node-long : (id : ℕ) (c : List Lit) → IsNodeOf node id → IsHeld (store_of e) id c → IsLong e id c
  node-long id c of held =
      let w = h.owned (code_of f) node listed in
      let same : w.id ≡ id = same-node node w.id id w.of of in
      subst (λ (n : ℕ). IsLong e n c) same (w.long c (subst (λ (n : ℕ). IsHeld (store_of e) n c) (sym same) held))

  pub sides : (id : ℕ) (c : List Lit) → IsNodeOf node id → IsHeld (store_of e) id c → Sides e node id f c
  sides id c of held =
      let lt = node-checked id of in
      let long = node-long id c of held in
      let g = h.guarded id c lt held long in
      let w = h.listed id c lt held long in
      let same : w.watch ≡ g.0 = same-watch e.lists.labels id w.watch g.0 w.is_watch g.1 in
      record {
        watch = g.0;
        is_watch = g.1;
        watched = g.2;
        side = ⊎_elim
            (λ a. inl (
              a,
              number-same g.0.first f (h.lists.apart (code_of g.0.first) (code_of f) node
                  (subst (λ (x : ℕ). Contains (nodes_of e.lists (code_of g.0.first)) x) (sym a)
                  (subst (λ (x : Watch). Contains (nodes_of e.lists (code_of x.first)) (2 * id)) same w.first)) listed),
            ))
            (λ a. inr (
              a,
              number-same g.0.second f (h.lists.apart (code_of g.0.second) (code_of f) node
                  (subst (λ (x : ℕ). Contains (nodes_of e.lists (code_of g.0.second)) x) (sym a)
                  (subst (λ (x : Watch). Contains (nodes_of e.lists (code_of x.second)) (2 * id + 1)) same w.second))
                  listed),
            ))
            of;
      }

  -- what a look at the watches gives
  module _ (next : IsNext e f) (watch : Watch) (other : Lit) (at : (id : ℕ) → IsNodeOf node id
      → HasWatch e.lists.labels id watch) (first : (id : ℕ) → node ≡ 2 * id → other ≡ watch.second) (second : (id : ℕ)
      → node ≡ 2 * id + 1 → other ≡ watch.first) where
    pub look-fine : value_in e.trail.values other ≡ Some true → LookGives e node f Satisfied
    look-fine yes_true id c of held =
        let s = sides id c of held in
        let same : watch ≡ s.watch = same-watch e.lists.labels id watch s.watch (at id of) s.is_watch in (
          s.watch,
          s.is_watch,
          record {
            has_first = s.watched.has_first;
            has_second = s.watched.has_second;
            ways = ⊎_elim (λ g. inl g) (λ p. inr (⊎_elim
                (λ a.
                let is : other ≡ s.watch.second = first id a.0 ∙ ap (λ (x : Watch). x.second) same in
                let f_is : s.watch.first ≡ f = a.1 in
                let p2 : IsPair e.trail.steps e.queue e.stale f s.watch.second =
                subst (λ (x : Lit). IsPair e.trail.steps e.queue e.stale x s.watch.second) f_is p in
                subst (λ (x : Lit). IsPair e.trail.steps (e.queue + 1) e.stale x s.watch.second) (sym f_is)
                (pair-true e h f next f s.watch.second (subst (λ (x : Lit). value_in e.trail.values x ≡ Some true)
                is yes_true) p2))
                (λ a.
                let is : other ≡ s.watch.first = second id a.0 ∙ ap (λ (x : Watch). x.first) same in
                let f_is : s.watch.second ≡ f = a.1 in
                let p1 : IsPair e.trail.steps e.queue e.stale s.watch.second s.watch.first =
                pair-swap e.trail.steps e.queue e.stale s.watch.first s.watch.second p in
                let p2 : IsPair e.trail.steps e.queue e.stale f s.watch.first =
                subst (λ (x : Lit). IsPair e.trail.steps e.queue e.stale x s.watch.first) f_is p1 in
                let r = pair-true e h f next f s.watch.first (subst (λ (x : Lit). value_in e.trail.values x ≡ Some true)
                is yes_true) p2 in
                pair-swap e.trail.steps (e.queue + 1) e.stale s.watch.second s.watch.first
                (subst (λ (x : Lit). IsPair e.trail.steps (e.queue + 1) e.stale x s.watch.first) (sym f_is) r))
                s.side)) s.watched.ways;
          },
        )

    pub look-loose : (value_in e.trail.values other ≡ Some true → ⊥) → (other.var.0 < length e.trail.values)
        → LookGives e node f (Unsatisfied other)
    look-loose untrue within = (
      within,
      λ id of. (
        node-checked id of,
        λ c held.
            let s = sides id c of held in
            let same : watch ≡ s.watch = same-watch e.lists.labels id watch s.watch (at id of) s.is_watch in
            ⊎_elim
            (λ a.
            let is : s.watch.second ≡ other = sym (first id a.0 ∙ ap (λ (x : Watch). x.second) same) in
            record {
              held = held;
              long = node-long id c of held;
              has_false = subst (Contains c) a.1 s.watched.has_first;
              has_other = subst (Contains c) is s.watched.has_second;
              untrue = untrue;
              ways = ⊎_elim (λ g. inl g) (λ p. inr (subst (λ (x : Lit). IsPair e.trail.steps e.queue e.stale f x) is
                  (subst (λ (x : Lit). IsPair e.trail.steps e.queue e.stale x s.watch.second) a.1 p))) s.watched.ways;
              watch = s.watch;
              is_watch = s.is_watch;
              sides = inl (a.0, a.1, is);
            })
            (λ a.
            let is : s.watch.first ≡ other = sym (second id a.0 ∙ ap (λ (x : Watch). x.first) same) in
            record {
              held = held;
              long = node-long id c of held;
              has_false = subst (Contains c) a.1 s.watched.has_second;
              has_other = subst (Contains c) is s.watched.has_first;
              untrue = untrue;
              ways = ⊎_elim (λ g. inl g) (λ p. inr (pair-swap e.trail.steps e.queue e.stale other f
                  (subst (λ (x : Lit). IsPair e.trail.steps e.queue e.stale x f) is
                  (subst (λ (x : Lit). IsPair e.trail.steps e.queue e.stale s.watch.first x) a.1 p)))) s.watched.ways;
              watch = s.watch;
              is_watch = s.is_watch;
              sides = inr (a.0, is, a.1);
            })
            s.side,
      ),
    )
