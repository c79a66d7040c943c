-- A watch moves from one literal to another.
use Rattle.std.proofs.Common.{◌≡◌, ℕ, ◌<◌, ◌≤◌, ◌+◌, ◌*◌, false, Option, Some, List, ◌∷◌, ◌++◌, length, set, refl, sym}
use Rattle.std.proofs.Common.{ap, ◌∙◌, ◌⊎◌, inl, inr, ⊎_elim, arith, slice_get, subst, Contains}
use Rattle.std.proofs.lemmas.Bool.{cases_eq}
use Rattle.lit_core.specs.declared.literals.Lit.{Lit}
use Rattle.lit_core.specs.Literals.{value_in}
use Rattle.lit_core.proofs.LiteralFacts.{Contains-cons_cases, Contains-head, Contains-tail}
use Rattle.clause_store.specs.declared.propagation.Visit.TheVariants.{Done}
use Rattle.clause_store.specs.declared.watched.Watch.{Watch}
use Rattle.clause_store.specs.declared.watched.Watcher.{Watcher}
use Rattle.clause_base.specs.ListsState.{ListsState, HasLaws, nodes_of}
use Rattle.clause_base.specs.StoreState.{IsHeld, Propagates}
use Rattle.clause_store.specs.Watching.{code_of, store_of, HasWatch, IsLong, IsWatcher, IsWatchNode, IsListed}
use Rattle.clause_store.specs.Watching.{IsNodeOf, IsPair, IsWatched}
use Rattle.clause_store.specs.Visits.{CanMove, IsAt, IsNext, Keeps, VisitGives}
use Rattle.clause_base.proofs.LinkFacts.{contains-cut, cut-contains}
use Rattle.clause_base.proofs.ListFacts.{slice_get-set_same, slice_get-set_other}
use Rattle.clause_base.proofs.PropagateFacts.{propagates-refl}
use Rattle.clause_base.proofs.ShortFacts.{number-same}
use Rattle.clause_store.proofs.WatchFacts.{pair-moved, pair-swap, same-held, next-false}
use Rattle.clause_store.proofs.NodeFacts.{same-watch, literal-within, same-node}

-- a node that left one list and was listed in another
pub record Moves (old new : ListsState) (from to node : ℕ) : Type 0 where
  pub laws : HasLaws new
  pub count : length new.lists ≡ length old.lists
  pub here : (front back : List ℕ) → nodes_of old from ≡ front ++ node ∷ back → nodes_of new from ≡ front ++ back
  pub there : Contains (nodes_of new to) node
  pub kept : (j m : ℕ) → Contains (nodes_of old j) m → (m ≡ node → ⊥) → Contains (nodes_of new j) m
  pub was : (j m : ℕ) → Contains (nodes_of new j) m → (m ≡ node) ⊎ Contains (nodes_of old j) m

pub moves : (old mid new : ListsState) (from to node : ℕ) (before : Option ℕ) → (from ≡ to → ⊥)
    → IsAt old from before node → HasLaws new → length mid.lists ≡ length old.lists
    → length new.lists ≡ length mid.lists → ((front back : List ℕ) → nodes_of old from ≡ front ++ node ∷ back
    → nodes_of mid from ≡ front ++ back) → ((j : ℕ) → (j ≡ from → ⊥) → nodes_of mid j ≡ nodes_of old j)
    → nodes_of new to ≡ node ∷ nodes_of mid to → ((j : ℕ) → (j ≡ to → ⊥) → nodes_of new j ≡ nodes_of mid j)
    → Moves old new from to node
moves old mid new from to node before apart at laws count1 count2 cut stay listed rest = record {
  laws = laws;
  count = count2 ∙ count1;
  here = λ front back is. rest from apart ∙ cut front back is;
  there = subst (λ (xs : List ℕ). Contains xs node) (sym listed) (Contains-head node (nodes_of mid to));
  kept = λ j m has ne. to_new j m (to_mid j m has ne);
  was = λ j m has. ⊎_elim
      (λ e. ⊎_elim
      (λ is. inl (sym is))
      (λ old_one. inr (from_mid j m (subst (λ (k : ℕ). Contains (nodes_of mid k) m) (sym e) old_one)))
      (Contains-cons_cases node (nodes_of mid to) m (subst (λ (xs : List ℕ). Contains xs m) (ap (nodes_of new) e
      ∙ listed) has)))
      (λ ne. inr (from_mid j m (subst (λ (xs : List ℕ). Contains xs m) (rest j ne) has)))
      (cases_eq j to);
}
  where
    to_mid : (j m : ℕ) → Contains (nodes_of old j) m → (m ≡ node → ⊥) → Contains (nodes_of mid j) m
    to_mid j m has ne = ⊎_elim
        (λ e. subst (λ (k : ℕ). Contains (nodes_of mid k) m) (sym e)
        (subst (λ (xs : List ℕ). Contains xs m) (sym (cut at.0 at.1 at.2))
        (contains-cut at.0 node at.1 m (subst (λ (xs : List ℕ). Contains xs m) (ap (nodes_of old) e
        ∙ at.2) has) ne)))
        (λ other. subst (λ (xs : List ℕ). Contains xs m) (sym (stay j other)) has)
        (cases_eq j from)

    from_mid : (j m : ℕ) → Contains (nodes_of mid j) m → Contains (nodes_of old j) m
    from_mid j m has = ⊎_elim
        (λ e. subst (λ (k : ℕ). Contains (nodes_of old k) m) (sym e) (subst (λ (xs : List ℕ). Contains xs m) (sym at.2)
        (cut-contains at.0 node at.1 m (subst (λ (xs : List ℕ). Contains xs m) (ap (nodes_of mid) e
        ∙ cut at.0 at.1 at.2) has))))
        (λ other. subst (λ (xs : List ℕ). Contains xs m) (stay j other) has)
        (cases_eq j from)

    to_new : (j m : ℕ) → Contains (nodes_of mid j) m → Contains (nodes_of new j) m
    to_new j m has = ⊎_elim
        (λ e. subst (λ (k : ℕ). Contains (nodes_of new k) m) (sym e)
        (subst (λ (xs : List ℕ). Contains xs m) (sym listed) (Contains-tail node (nodes_of mid to) m
        (subst (λ (k : ℕ). Contains (nodes_of mid k) m) e has))))
        (λ ne. subst (λ (xs : List ℕ). Contains xs m) (sym (rest j ne)) has)
        (cases_eq j to)

-- the watches after this node's moved to another literal
abbrev pub moved : (node id : ℕ) → IsNodeOf node id → Watch → Lit → Watch
moved node id (inl e) w l = record { first = l; second = w.second }
moved node id (inr e) w l = record { first = w.first; second = l }

pub moved-first : (node id : ℕ) (of : IsNodeOf node id) (w : Watch) (l : Lit) → node ≡ 2 * id → moved node id of
    w l ≡ record { first = l; second = w.second }
moved-first node id (inl e) w l is = refl
moved-first node id (inr e) w l is = absurd (omega arith)

pub moved-second : (node id : ℕ) (of : IsNodeOf node id) (w : Watch) (l : Lit) → node ≡ 2 * id + 1 → moved node id of
    w l ≡ record { first = w.first; second = l }
moved-second node id (inl e) w l is = absurd (omega arith)
moved-second node id (inr e) w l is = refl

-- the other node of the clause is labelled with the number of that literal
pub moved-label : (labels : List ℕ) (node id other x : ℕ) (of : IsNodeOf node id) (w : Watch) (l : Lit)
    → (node ≡ 2 * id → other ≡ 2 * id + 1) → (node ≡ 2 * id + 1 → other ≡ 2 * id) → other < length labels
    → x ≡ code_of l → HasWatch labels id w → HasWatch (set labels other x) id (moved node id of w l)
moved-label labels node id other x (inl e) w l first second within is h =
    let at : other ≡ 2 * id + 1 = first e in
    record {
      first = ap (slice_get (set labels other x)) (sym at) ∙ slice_get-set_same labels other x within ∙ ap Some is;
      second = slice_get-set_other labels other (2 * id) x (λ y. omega arith) ∙ h.second;
    }
moved-label labels node id other x (inr e) w l first second within is h =
    let at : other ≡ 2 * id = second e in
    record {
      first = slice_get-set_other labels other (2 * id + 1) x (λ y. omega arith) ∙ h.first;
      second = ap (slice_get (set labels other x)) (sym at) ∙ slice_get-set_same labels other x within ∙ ap Some is;
    }

module _ (e : Watcher) (h : IsWatcher e) (f : Lit) (next : IsNext e f) (node : ℕ) (l : Lit)
    (m : CanMove e node f l) where
  -- the literal that is watched now is another one
  pub move-apart : code_of f ≡ code_of l → ⊥
  move-apart same = m.unfalse (subst (λ (x : Lit). value_in e.trail.values x ≡ Some false) (number-same f l same)
      (next-false e h f next))

  move-long : (c : List Lit) → IsHeld (store_of e) m.id c → IsLong e m.id c
  move-long c held = subst (IsLong e m.id) (same-held (store_of e) m.id m.clause c m.loose.held held) m.loose.long

  module _ (w : Watch) (lists : ListsState) (mine : HasWatch lists.labels m.id w) (theirs : (i : ℕ) (v : Watch)
      → (i ≡ m.id → ⊥) → HasWatch e.lists.labels i v → HasWatch lists.labels i v)
      (size : length lists.labels ≡ length e.lists.labels) (first : node ≡ 2 * m.id
      → w ≡ record { first = l; second = m.loose.watch.second }) (second : node ≡ 2 * m.id + 1
      → w ≡ record { first = m.loose.watch.first; second = l })
      (mv : Moves e.lists lists (code_of f) (code_of l) node) where
    abbrev after-move : Watcher
    after-move = record {
      held = e.held;
      short = e.short;
      lists = lists;
      trail = e.trail;
      queue = e.queue;
      checked = e.checked;
      stale = e.stale;
    }

    -- the new pair of watched literals, in either order
    pair-now : (q : ℕ) → q ≤ e.queue + 1 → IsPair e.trail.steps e.queue e.stale f m.other
        → IsPair e.trail.steps q e.stale l m.other
    pair-now q le p = pair-moved e h f next l m.other q le m.distinct m.unfalse p

    moved-watched : (q : ℕ) → q ≤ e.queue + 1 → IsWatched e.trail.steps q e.stale m.clause w
    moved-watched q le = ⊎_elim
        (λ a.
        let is : w ≡ record { first = l; second = m.loose.watch.second } = first a.0 in
        subst (IsWatched e.trail.steps q e.stale m.clause) (sym is) (record {
          has_first = m.member;
          has_second = subst (Contains m.clause) (sym a.2) m.loose.has_other;
          ways = ⊎_elim (λ g. inl g) (λ p. inr (subst (λ (x : Lit). IsPair e.trail.steps q e.stale l x) (sym a.2)
              (pair-now q le p))) m.loose.ways;
        }))
        (λ a.
        let is : w ≡ record { first = m.loose.watch.first; second = l } = second a.0 in
        subst (IsWatched e.trail.steps q e.stale m.clause) (sym is) (record {
          has_first = subst (Contains m.clause) (sym a.1) m.loose.has_other;
          has_second = m.member;
          ways = ⊎_elim (λ g. inl g) (λ p. inr (subst (λ (x : Lit). IsPair e.trail.steps q e.stale x l) (sym a.1)
              (pair-swap e.trail.steps q e.stale l m.other (pair-now q le p)))) m.loose.ways;
        }))
        m.loose.sides

    watched-held : (q : ℕ) → q ≤ e.queue + 1 → (c : List Lit) → IsHeld (store_of e) m.id c
        → IsWatched e.trail.steps q e.stale c w
    watched-held q le c held = subst (λ (x : List Lit). IsWatched e.trail.steps q e.stale x w)
        (same-held (store_of e) m.id m.clause c m.loose.held held) (moved-watched q le)

    w-first : w.first.var.0 < length e.trail.values
    w-first = literal-within e h m.id m.clause m.loose.held w.first (moved-watched e.queue (omega arith)).has_first

    w-second : w.second.var.0 < length e.trail.values
    w-second = literal-within e h m.id m.clause m.loose.held w.second (moved-watched e.queue (omega arith)).has_second

    -- the clause's two nodes link where they should
    listed-id : (c : List Lit) → IsHeld (store_of e) m.id c → IsListed after-move m.id
    listed-id c held =
        let old = h.listed m.id c m.checked held (move-long c held) in
        let same : old.watch ≡ m.loose.watch = same-watch e.lists.labels m.id old.watch m.loose.watch old.is_watch
        m.loose.is_watch in
        ⊎_elim
        (λ a.
        let is : w ≡ record { first = l; second = m.loose.watch.second } = first a.0 in
        let other : Contains (nodes_of e.lists (code_of w.second)) (2 * m.id + 1) =
        subst (λ (x : Lit). Contains (nodes_of e.lists (code_of x)) (2 * m.id + 1))
        (ap (λ (x : Watch). x.second) same ∙ sym (ap (λ (x : Watch). x.second) is)) old.second in
        record {
          watch = w;
          is_watch = mine;
          first = subst (λ (x : Lit). Contains (nodes_of lists (code_of x)) (2 * m.id))
              (sym (ap (λ (x : Watch). x.first) is)) (subst (λ (x : ℕ). Contains (nodes_of lists (code_of l)) x)
              a.0 mv.there);
          second = mv.kept (code_of w.second) (2 * m.id + 1) other (λ same_node. let n : node ≡ 2 * m.id = a.0 in
              omega arith);
        })
        (λ a.
        let is : w ≡ record { first = m.loose.watch.first; second = l } = second a.0 in
        let other : Contains (nodes_of e.lists (code_of w.first)) (2 * m.id) =
        subst (λ (x : Lit). Contains (nodes_of e.lists (code_of x)) (2 * m.id)) (ap (λ (x : Watch). x.first) same
        ∙ sym (ap (λ (x : Watch). x.first) is)) old.first in
        record {
          watch = w;
          is_watch = mine;
          first = mv.kept (code_of w.first) (2 * m.id) other (λ same_node. let n : node ≡ 2 * m.id + 1 = a.0 in
              omega arith);
          second = subst (λ (x : Lit). Contains (nodes_of lists (code_of x)) (2 * m.id + 1))
              (sym (ap (λ (x : Watch). x.second) is)) (subst (λ (x : ℕ). Contains (nodes_of lists (code_of l)) x)
              a.0 mv.there);
        })
        m.loose.sides

    -- a node of another clause
    other-node : (i n : ℕ) → (i ≡ m.id → ⊥) → IsNodeOf n i → n ≡ node → ⊥
    other-node i n ne of same = ne (same-node node i m.id (subst (λ (x : ℕ). IsNodeOf x i) same of) m.of)

    listed-other : (i : ℕ) → (i ≡ m.id → ⊥) → IsListed e i → IsListed after-move i
    listed-other i ne old = record {
      watch = old.watch;
      is_watch = theirs i old.watch ne old.is_watch;
      first = mv.kept (code_of old.watch.first) (2 * i) old.first (other-node i (2 * i) ne (inl refl));
      second = mv.kept (code_of old.watch.second) (2 * i + 1) old.second (other-node i (2 * i + 1) ne (inr refl));
    }

    owned-old : (n : ℕ) → IsWatchNode e n → IsWatchNode after-move n
    owned-old n old = ⊎_elim
        (λ same. record {
          id = m.id;
          of = subst (IsNodeOf n) same old.of;
          checked = m.checked;
          long = move-long;
          watch = w;
          is_watch = mine;
          first = w-first;
          second = w-second;
        })
        (λ ne. record {
          id = old.id;
          of = old.of;
          checked = old.checked;
          long = old.long;
          watch = old.watch;
          is_watch = theirs old.id old.watch ne old.is_watch;
          first = old.first;
          second = old.second;
        })
        (cases_eq old.id m.id)

    pub move-watcher : IsWatcher after-move
    move-watcher = record {
      store = h.store;
      lists = mv.laws;
      queue = h.queue;
      checked = h.checked;
      nodes = let k : 2 * length e.held.clauses ≤ length e.lists.labels = h.nodes in omega arith;
      count = let n : length lists.lists ≡ length e.lists.lists = mv.count in let k : 2 * length e.trail.values
          ≤ length e.lists.lists = h.count in omega arith;
      small = h.small;
      room = λ spare. let k : 2 * length e.held.clauses + 2 ≤ length e.lists.labels = h.room spare in omega arith;
      shorts = h.shorts;
      short = h.short;
      single = h.single;
      closed = h.closed;
      guarded = λ i c lt held long. ⊎_elim
          (λ same. (
            w,
            subst (λ (n : ℕ). HasWatch lists.labels n w) (sym same) mine,
            watched-held e.queue (omega arith) c (subst (λ (n : ℕ). IsHeld (store_of e) n c) same held),
          ))
          (λ ne. let g = h.guarded i c lt held long in (g.0, theirs i g.0 ne g.1, g.2))
          (cases_eq i m.id);
      current = h.current;
      listed = λ i c lt held long. ⊎_elim
          (λ same. subst (IsListed after-move) (sym same) (listed-id c
          (subst (λ (n : ℕ). IsHeld (store_of e) n c) same held)))
          (λ ne. listed-other i ne (h.listed i c lt held long))
          (cases_eq i m.id);
      owned = λ j n has. ⊎_elim
          (λ same. subst (IsWatchNode after-move) (sym same) (record {
            id = m.id;
            of = m.of;
            checked = m.checked;
            long = move-long;
            watch = w;
            is_watch = mine;
            first = w-first;
            second = w-second;
          }))
          (λ old. owned-old n (h.owned j n old))
          (mv.was j n has);
    }

    pub move-same : Propagates (store_of e) (store_of after-move)
    move-same = propagates-refl (store_of e)

    pub move-keeps : Keeps e after-move node
    move-keeps = record {
      held = refl;
      short = refl;
      queue = refl;
      checked = refl;
      stale = refl;
      others = λ q i c other le g.
          let ne : i ≡ m.id → ⊥ = λ same. other (subst (IsNodeOf node) (sym same) m.of) in
          (g.0, theirs i g.0 ne g.1, g.2);
    }

    pub move-done : (before : Option ℕ) → VisitGives e after-move node f before (Done before)
    move-done before = (
      λ front rest is last. (front, mv.here front rest is, last),
      λ i c of held.
          let same : i ≡ m.id = same-node node i m.id of m.of in (
            w,
            subst (λ (n : ℕ). HasWatch lists.labels n w) (sym same) mine,
            watched-held (e.queue + 1) (omega arith) c
                (subst (λ (n : ℕ). IsHeld (store_of e) n c) same held),
          ),
    )
