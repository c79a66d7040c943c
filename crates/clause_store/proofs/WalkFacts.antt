-- A walk over the clauses that watch a literal which became false.
use Rattle.std.proofs.Common.{◌≡◌, ℕ, suc, ◌<◌, ◌+◌, ◌*◌, cond, eqb, Option, Some, None, List, [], ◌∷◌, ◌++◌, length}
use Rattle.std.proofs.Common.{get_or, refl, sym, ap, ◌∙◌, ◌⊎◌, inl, inr, ⊎_elim, arith, slice_get, subst, Contains}
use Rattle.std.proofs.lemmas.Option.{same_Some, slice_get-get_or}
use Rattle.std.proofs.lemmas.List.{get_or-map}
use Rattle.std.proofs.lemmas.List.Elements.{Contains-append_right}
use Rattle.std.proofs.lemmas.Bool.{cases_eq, cond-true, cond-false, eq-eqb, ne_eqb}
use Rattle.lit_core.specs.declared.literals.Lit.{Lit}
use Rattle.lit_core.specs.Literals.{negated}
use Rattle.lit_core.proofs.LiteralFacts.{decide_literal, Contains-cons_cases, Contains-head, nothing_in_none}
use Rattle.clause_base.specs.declared.trail.Step.{Step}
use Rattle.clause_store.specs.declared.propagation.Visit.TheVariants.{Done}
use Rattle.clause_store.specs.declared.watched.Watcher.{Watcher}
use Rattle.clause_base.specs.Links.{first_of, last_of, IsOnce}
use Rattle.clause_base.specs.ListsState.{nodes_of}
use Rattle.clause_base.specs.ShortState.{ShortState}
use Rattle.clause_base.specs.StoreState.{IsHeld, Propagates}
use Rattle.clause_base.specs.TrailLaws.{lits_of}
use Rattle.clause_store.specs.Watching.{code_of, store_of, AreClosed, Guarded, IsLong, IsWatcher, IsNodeOf}
use Rattle.clause_store.specs.Visits.{IsAt, IsNext, Keeps, VisitGives}
use Rattle.clause_base.proofs.PropagateFacts.{propagates-trans}
use Rattle.clause_store.proofs.ClosedFacts.{closed-grown}
use Rattle.clause_store.proofs.NodeFacts.{same-watch}
use Rattle.clause_store.proofs.WatchFacts.{next-grown, next-within, pair-untouched}

-- how many nodes of a list are from this one on
abbrev pub left : List ℕ → Option ℕ → ℕ
left xs None = 0
left [] (Some n) = 0
left (x ∷ xs) (Some n) = cond (eqb x n) (suc (length xs)) (left xs (Some n))

pub left-is : (front : List ℕ) (n : ℕ) (back : List ℕ) → IsOnce (front ++ n ∷ back) → left (front ++ n ∷ back) (Some n)
    ≡ suc (length back)
left-is [] n back once = cond-true (eqb n n) (suc (length back)) (left back (Some n)) (eq-eqb n n refl)
left-is (x ∷ front) n back once =
    let ne : x ≡ n → ⊥ = λ e. once.0 (subst (λ (m : ℕ). Contains (front ++ n ∷ back) m) (sym e)
    (Contains-append_right front (n ∷ back) n (Contains-head n back))) in
    cond-false (eqb x n) (suc (length (front ++ n ∷ back))) (left (front ++ n ∷ back) (Some n)) (ne_eqb x n ne)
    ∙ left-is front n back once.1

pub left-first : (front back : List ℕ) → IsOnce (front ++ back) → left (front ++ back) (first_of back) ≡ length back
left-first front [] once = refl
left-first front (n ∷ back) once = left-is front n back once

pub record Walks (old e : Watcher) (f : Lit) (at before : Option ℕ) : Type 0 where
  pub watcher : IsWatcher e
  pub same : Propagates (store_of old) (store_of e)
  pub queue : e.queue ≡ old.queue
  pub checked : e.checked ≡ old.checked
  pub next : IsNext e f
  pub closed : AreClosed e (e.queue + 1)
  -- the part of the list that is walked, and the rest
  pub front : List ℕ
  pub back : List ℕ
  pub is : nodes_of e.lists (code_of f) ≡ front ++ back
  pub at_is : at ≡ first_of back
  pub before_is : last_of front ≡ before
  pub walked : (id : ℕ) (c : List Lit) → id < e.checked → IsHeld (store_of e) id c → IsLong e id c
      → Guarded e (e.queue + 1) id c ⊎ ((n : ℕ) × IsNodeOf n id × Contains back n)

-- where the walk is at a node, the rest begins with it
pub back-is : (back : List ℕ) (n : ℕ) → Some n ≡ first_of back → (rest : List ℕ) × (back ≡ n ∷ rest)
back-is [] n e = cc
back-is (m ∷ rest) n e = (rest, ap (λ (x : ℕ). x ∷ rest) (sym (same_Some n m e)))

pub back-none : (back : List ℕ) → None ≡ first_of back → back ≡ []
back-none [] e = refl
back-none (m ∷ rest) e = cc

-- a clause that watches other literals stays watched
pub walk-start : (old e : Watcher) → IsWatcher e → Propagates (store_of old) (store_of e) → e.queue ≡ old.queue
    → e.checked ≡ old.checked → (f : Lit) → IsNext e f → AreClosed e (e.queue + 1) → (at : Option ℕ)
    → at ≡ first_of (nodes_of e.lists (code_of f)) → Walks old e f at None
walk-start old e h same_store same_queue same_checked f next closed at first = record {
  watcher = h;
  same = same_store;
  queue = same_queue;
  checked = same_checked;
  next = next;
  closed = closed;
  front = [];
  back = nodes_of e.lists (code_of f);
  is = refl;
  at_is = first;
  before_is = refl;
  walked = λ id c lt held long.
      let g = h.guarded id c lt held long in
      let w = h.listed id c lt held long in
      let same : w.watch ≡ g.0 = same-watch e.lists.labels id w.watch g.0 w.is_watch g.1 in
      ⊎_elim
      (λ af. inr (2 * id, inl refl, subst (λ (x : Lit). Contains (nodes_of e.lists (code_of x)) (2 * id)) af w.first))
      (λ na. ⊎_elim
      (λ bf. inr (
        2 * id + 1,
        inr refl,
        subst (λ (x : Lit). Contains (nodes_of e.lists (code_of x)) (2 * id + 1))
            bf w.second,
      ))
      (λ nb. inl (
        g.0,
        g.1,
        record {
          has_first = g.2.has_first;
          has_second = g.2.has_second;
          ways = ⊎_elim (λ x. inl x) (λ p. inr (pair-untouched e h f next g.0.first g.0.second
              (λ x. na (ap (λ y. y.first) same ∙ x)) (λ x. nb (ap (λ y. y.second) same ∙ x)) p)) g.2.ways;
        },
      ))
      (decide_literal w.watch.second f))
      (decide_literal w.watch.first f);
}

-- the node that comes next stands in the list
pub walk-at : (old e : Watcher) (f : Lit) (n : ℕ) (before : Option ℕ) → Walks old e f (Some n) before
    → IsAt e.lists (code_of f) before n
walk-at old e f n before h = let r = back-is h.back n h.at_is in
    (h.front, r.0, h.is ∙ ap (λ (xs : List ℕ). h.front ++ xs) r.1, h.before_is)

-- the measure falls
pub walk-left : (old e : Watcher) (f : Lit) (at before : Option ℕ) (h : Walks old e f at before)
    → left (nodes_of e.lists (code_of f)) at ≡ length h.back
walk-left old e f at before h =
    let once : IsOnce (h.front ++ h.back) = subst IsOnce h.is (h.watcher.lists.once (code_of f)) in
    ap (λ (xs : List ℕ). left xs at) h.is ∙ ap (left (h.front ++ h.back)) h.at_is ∙ left-first h.front h.back once

module _ (old e new : Watcher) (f : Lit) (n : ℕ) (at before last : Option ℕ) (h : Walks old e f (Some n) before)
    (after : (front back : List ℕ) → nodes_of e.lists (code_of f) ≡ front ++ n ∷ back → at ≡ first_of back)
    (watcher : IsWatcher new) (same : Propagates (store_of e) (store_of new)) (keeps : Keeps e new n)
    (done : VisitGives e new n f before (Done last)) where
  rest : List ℕ
  rest = (back-is h.back n h.at_is).0

  rest-is : h.back ≡ n ∷ rest
  unfolding rest
  rest-is = (back-is h.back n h.at_is).1

  list-is : nodes_of e.lists (code_of f) ≡ h.front ++ n ∷ rest
  list-is = h.is ∙ ap (λ (xs : List ℕ). h.front ++ xs) rest-is

  -- a clause that is held now was held before
  was-held : (id : ℕ) (c : List Lit) → IsHeld (store_of new) id c → IsHeld (store_of e) id c
  was-held id c held = ap (λ (xs : List (Option (List Lit))). slice_get xs id) (sym same.clauses) ∙ held

  closed-on : AreClosed new (new.queue + 1)
  closed-on id c lt held small =
      let below : id < e.short.packed = subst (λ (s : ShortState). id < s.packed) keeps.short lt in
      closed-grown e new c (next-within e h.watcher f h.next) same keeps.queue keeps.stale
      (h.closed id c below (was-held id c held) small)

  walked-on : (id : ℕ) (c : List Lit) → id < new.checked → IsHeld (store_of new) id c → IsLong new id c
      → Guarded new (new.queue + 1) id c ⊎ ((m : ℕ) × IsNodeOf m id × Contains rest m)
  walked-on id c lt held long = by_node (is_of id)
    where
      nq : e.queue + 1 ≡ new.queue + 1
      nq = ap (λ (x : ℕ). x + 1) (sym keeps.queue)

      within : e.queue < length e.trail.steps
      within = next-within e h.watcher f h.next

      is_of : (i : ℕ) → IsNodeOf n i ⊎ (IsNodeOf n i → ⊥)
      is_of i = ⊎_elim (λ a. inl (inl a)) (λ a. ⊎_elim (λ b. inl (inr b)) (λ b. inr (λ x. ⊎_elim a b x))
          (cases_eq n (2 * i + 1))) (cases_eq n (2 * i))

      heldo : IsHeld (store_of e) id c
      heldo = was-held id c held

      longo : IsLong e id c
      longo = (long.0, λ below short. long.1 (subst (λ (s : ShortState). id < s.packed) (sym keeps.short) below) short)

      lto : id < e.checked
      lto = let x : new.checked ≡ e.checked = keeps.checked in omega arith

      by_node : IsNodeOf n id ⊎ (IsNodeOf n id → ⊥) → Guarded new (new.queue + 1) id c
          ⊎ ((m : ℕ) × IsNodeOf m id × Contains rest m)
      by_node (inl of) = inl (done.1 id c of held)
      by_node (inr other) = ⊎_elim
          (λ g. inl (subst (λ (q : ℕ). Guarded new q id c) nq (keeps.others (e.queue + 1) id c other
          (let w : e.queue < length e.trail.steps = within in omega arith) g)))
          (λ w. inr (
            w.0,
            w.1,
            ⊎_elim
                (λ e2. absurd (other (subst (λ (x : ℕ). IsNodeOf x id) (sym e2) w.1)))
                (λ r. r)
                (Contains-cons_cases n rest w.0 (subst (λ (xs : List ℕ). Contains xs w.0) rest-is w.2)),
          ))
          (h.walked id c lto heldo longo)

  pub walk-step : Walks old new f at last
  walk-step =
      let passed = done.0 h.front rest list-is h.before_is in
      record {
        watcher = watcher;
        same = propagates-trans (store_of old) (store_of e) (store_of new) h.same same;
        queue = keeps.queue ∙ h.queue;
        checked = keeps.checked ∙ h.checked;
        next = next-grown e new f h.watcher h.next same keeps.queue;
        closed = closed-on;
        front = passed.0;
        back = rest;
        is = passed.1;
        at_is = after h.front rest list-is;
        before_is = passed.2;
        walked = walked-on;
      }

  pub walk-smaller : left (nodes_of new.lists (code_of f)) at < left (nodes_of e.lists (code_of f)) (Some n)
  unfolding walk-step
  walk-smaller =
      let a : left (nodes_of new.lists (code_of f)) at ≡ length rest = walk-left old new f at last walk-step in
      let b : left (nodes_of e.lists (code_of f)) (Some n) ≡ length h.back = walk-left old e f (Some n) before h in
      let c : length h.back ≡ suc (length rest) = ap length rest-is in
      omega arith

-- at the end of the walk
module _ (old e : Watcher) (f : Lit) (before : Option ℕ) (h : Walks old e f None before) where
  pub walk-watcher : IsWatcher (record {
    held = e.held;
    short = e.short;
    lists = e.lists;
    trail = e.trail;
    queue = e.queue + 1;
    checked =
        e.checked;
    stale = e.stale;
  })
  walk-watcher =
      let within : e.queue < length e.trail.steps = next-within e h.watcher f h.next in
      let none : h.back ≡ [] = back-none h.back h.at_is in
      record {
        store = h.watcher.store;
        lists = h.watcher.lists;
        queue = omega arith;
        checked = h.watcher.checked;
        nodes = h.watcher.nodes;
        count = h.watcher.count;
        small = h.watcher.small;
        room = h.watcher.room;
        shorts = h.watcher.shorts;
        short = h.watcher.short;
        single = h.watcher.single;
        closed = h.closed;
        guarded = λ id c lt held long. ⊎_elim (λ g. g) (λ w. absurd (nothing_in_none w.0
            (subst (λ (xs : List ℕ). Contains xs w.0) none w.2))) (h.walked id c lt held long);
        current = λ n k t le et. h.watcher.current n k t (omega arith) et;
        listed = λ i c lt held long. let g = h.watcher.listed i c lt held long in record {
          watch = g.watch;
          is_watch = g.is_watch;
          first = g.first;
          second = g.second;
        };
        owned = λ j n has. let g = h.watcher.owned j n has in record {
          id = g.id;
          of = g.of;
          checked = g.checked;
          long = g.long;
          watch = g.watch;
          is_watch = g.is_watch;
          first = g.first;
          second = g.second;
        };
      }

-- the literal that the next step makes false
pub next-of : (e : Watcher) (d : Lit) (lits : List Lit) (f : Lit) → e.queue < length e.trail.steps
    → lits ≡ lits_of e.trail.steps → f ≡ negated (get_or lits e.queue d) → IsNext e f
next-of e d lits f lt is neg =
    let s : Step = record { lit = d; level = 0; reason = None } in
    let t : Step = get_or e.trail.steps e.queue s in
    let at : slice_get e.trail.steps e.queue ≡ Some t = slice_get-get_or e.trail.steps e.queue s lt in
    let same : get_or lits e.queue d ≡ t.lit = ap (λ (xs : List Lit). get_or xs e.queue d) is
    ∙ get_or-map (λ (x : Step). x.lit) e.trail.steps e.queue s d lt in
    (t, at, neg ∙ ap negated same)

pub next-in-range : (e : Watcher) → IsWatcher e → (f : Lit) → IsNext e f → f.var.0 < length e.trail.values
next-in-range e h f next =
    let lt : next.0.lit.var.0 < length e.trail.values = h.store.trail.coherent.in_range e.queue next.0 next.1 in
    subst (λ (x : Lit). x.var.0 < length e.trail.values) (sym next.2) lt
