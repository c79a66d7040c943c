-- The last literal of a clause is made true.
use Rattle.std.proofs.Common.{◌≡◌, ℕ, ◌<◌, ◌≤◌, ◌+◌, false, Option, Some, None, List, [], ◌∷◌, ◌++◌, length, refl, sym}
use Rattle.std.proofs.Common.{ap, ◌∙◌, ◌⊎◌, inl, inr, ⊎_elim, arith, subst, Contains}
use Rattle.std.proofs.lemmas.Option.{same_Some}
use Rattle.std.proofs.lemmas.List.{length-set, length_push, append_assoc}
use Rattle.lit_core.specs.declared.literals.Lit.{Lit}
use Rattle.lit_core.specs.Literals.{value_in}
use Rattle.clause_store.specs.declared.propagation.Visit.TheVariants.{Done}
use Rattle.clause_store.specs.declared.watched.Watcher.{Watcher}
use Rattle.clause_base.specs.declared.trail.Step.{Step}
use Rattle.clause_base.specs.Links.{last_of}
use Rattle.clause_base.specs.ListsState.{nodes_of}
use Rattle.clause_base.specs.StoreState.{IsStore, IsHeld, Implies, Propagates}
use Rattle.clause_base.specs.TrailLaws.{with_step}
use Rattle.clause_store.specs.Watching.{HasWatch, code_of, store_of, Guarded, IsWatcher, IsGood, IsWatchNode, IsNodeOf}
use Rattle.clause_store.specs.Watching.{IsPair, IsWatched}
use Rattle.clause_store.specs.Visits.{CanImply, IsNext, Keeps, Passes, VisitGives}
use Rattle.clause_base.proofs.ListFacts.{slice_get-push_cases}
use Rattle.clause_base.proofs.PropagateFacts.{propagates-refl, propagates-step}
use Rattle.clause_base.proofs.StoreFacts.{store-assign}
use Rattle.clause_store.proofs.WatchFacts.{good-push, pair-implied, pair-swap, same-held, watched-push}
use Rattle.clause_store.proofs.ClosedFacts.{closed-push}
use Rattle.clause_store.proofs.NodeFacts.{literal-within, same-node}

pub last-push : (front : List ℕ) (n : ℕ) → last_of (front ++ n ∷ []) ≡ Some n
last-push [] n = refl
last-push (x ∷ []) n = refl
last-push (x ∷ y ∷ front) n = last-push (y ∷ front) n

-- a list that stays is passed up to the node
pub passes-node : (old new : Watcher) (node : ℕ) (f : Lit) (before : Option ℕ) → new.lists ≡ old.lists
    → Passes old new node f before (Some node)
passes-node old new node f before same front rest is last = (
  front ++ node ∷ [],
  ap (λ s. nodes_of s (code_of f)) same ∙ is ∙ sym (append_assoc front (node ∷ []) rest),
  last-push front node,
)

-- what enlists stays so over a longer trail
pub owned-sized : (e : Watcher) (t : Step) (n : ℕ) → IsWatchNode e n
    → IsWatchNode (record {
      held = e.held;
      short = e.short;
      lists = e.lists;
      trail = with_step e.trail t;
      queue = e.queue;
      checked =
          e.checked;
      stale = e.stale;
    }) n
owned-sized e t n h = record {
  id = h.id;
  of = h.of;
  checked = h.checked;
  long = h.long;
  watch = h.watch;
  is_watch = h.is_watch;
  first = rw length-set h.first;
  second = rw length-set h.second;
}

module _ (e : Watcher) (h : IsWatcher e) (node : ℕ) (f : Lit) (next : IsNext e f) (other : Lit)
    (m : CanImply e node f other) where
  abbrev after-imply : Watcher
  after-imply = record {
    held = e.held;
    short = e.short;
    lists = e.lists;
    trail =
        with_step e.trail (record { lit = other; level = e.trail.level; reason = Some m.id });
    queue = e.queue;
    checked =
        e.checked;
    stale = e.stale;
  }

  pub other-within : other.var.0 < length e.trail.values
  other-within = literal-within e h m.id m.clause m.loose.held other m.loose.has_other

  implies : Implies (store_of e) m.id other
  implies = record { clause = m.clause; held = m.loose.held; member = m.loose.has_other; others = m.others }

  pub imply-store : IsStore (store_of after-imply)
  imply-store = store-assign (store_of e) other (Some m.id) h.store other-within m.unassigned
      (λ x is. subst (λ (n : ℕ). Implies (store_of e) n other) (same_Some m.id x is) implies)

  pub imply-watcher : IsWatcher after-imply
  imply-watcher =
      let t : Step = record { lit = other; level = e.trail.level; reason = Some m.id } in
      let len : length (e.trail.steps ++ t ∷ []) ≡ length e.trail.steps + 1 = length_push e.trail.steps t in
      let q : e.queue ≤ length e.trail.steps = h.queue in
      record {
        store = imply-store;
        lists = h.lists;
        queue = omega arith;
        checked = h.checked;
        nodes = h.nodes;
        count = rw length-set h.count;
        small = rw length-set h.small;
        room = h.room;
        shorts = rw length-set h.shorts;
        short = rw length-set h.short;
        single = λ i c lt held few. good-push e.trail.steps t e.stale c (h.single i c lt held few);
        closed = λ i c lt held short. closed-push e.trail.steps t e.queue e.stale c h.queue
            (h.closed i c lt held short);
        guarded = λ i c lt held long. let g = h.guarded i c lt held long in
            (g.0, g.1, watched-push e.trail.steps t e.queue e.stale c g.0 h.queue g.2);
        current = λ n k u le eu. ⊎_elim (λ o. h.current n k u le o) (λ x. ap (λ (y : Step). y.level) x.1)
            (slice_get-push_cases e.trail.steps t k u eu);
        listed = λ i c lt held long. let g = h.listed i c lt held long in record {
          watch = g.watch;
          is_watch = g.is_watch;
          first =
              g.first;
          second = g.second;
        };
        owned = λ j n has. owned-sized e t n (h.owned j n has);
      }

  pub imply-same : Propagates (store_of e) (store_of after-imply)
  imply-same = propagates-step (store_of e) (store_of e) (record {
    lit = other;
    level = e.trail.level;
    reason =
        Some m.id;
  }) (propagates-refl (store_of e)) refl refl

  pub imply-keeps : Keeps e after-imply node
  imply-keeps = record {
    held = refl;
    short = refl;
    queue = refl;
    checked = refl;
    stale = refl;
    others = λ q i c ne le g. (
      g.0,
      g.1,
      watched-push e.trail.steps
          (record { lit = other; level = e.trail.level; reason = Some m.id }) q e.stale c g.0 le g.2,
    );
  }

  imply-watched : (i : ℕ) (c : List Lit) → IsNodeOf node i → IsHeld (store_of after-imply) i c
      → Guarded after-imply (e.queue + 1) i c
  imply-watched i c of held =
      let t : Step = record { lit = other; level = e.trail.level; reason = Some m.id } in
      let steps : List Step = e.trail.steps ++ t ∷ [] in
      let same : i ≡ m.id = same-node node i m.id of m.of in
      let nf : value_in e.trail.values other ≡ Some false → ⊥ = λ x. let y : None ≡ Some false =
      sym m.unassigned ∙ x in cc in
      let ways : IsGood steps e.stale m.clause ⊎ IsPair steps (e.queue + 1) e.stale f other =
      ⊎_elim (λ g. inl (good-push e.trail.steps t e.stale m.clause g))
      (λ p. inr (pair-implied e h f next other t refl refl nf p)) m.loose.ways in
      let here : IsWatched steps (e.queue + 1) e.stale m.clause m.loose.watch = ⊎_elim
      (λ s. record {
        has_first = subst (Contains m.clause) (sym s.1) m.loose.has_false;
        has_second = subst (Contains m.clause) (sym s.2) m.loose.has_other;
        ways = ⊎_elim (λ g. inl g) (λ p. inr (subst (λ (x : Lit). IsPair steps (e.queue + 1) e.stale m.loose.watch.first
            x) (sym s.2) (subst (λ (x : Lit). IsPair steps (e.queue + 1) e.stale x other) (sym s.1) p))) ways;
      })
      (λ s. record {
        has_first = subst (Contains m.clause) (sym s.1) m.loose.has_other;
        has_second = subst (Contains m.clause) (sym s.2) m.loose.has_false;
        ways = ⊎_elim (λ g. inl g) (λ p. inr (subst (λ (x : Lit). IsPair steps (e.queue + 1) e.stale m.loose.watch.first
            x) (sym s.2) (subst (λ (x : Lit). IsPair steps (e.queue + 1) e.stale x f) (sym s.1)
            (pair-swap steps (e.queue + 1) e.stale f other p)))) ways;
      })
      m.loose.sides in
      let held2 : IsHeld (store_of e) m.id c = subst (λ (n : ℕ). IsHeld (store_of e) n c) same held in (
        m.loose.watch,
        subst (λ (n : ℕ). HasWatch e.lists.labels n m.loose.watch) (sym same) m.loose.is_watch,
        subst (λ (x : List Lit). IsWatched steps (e.queue + 1) e.stale x m.loose.watch)
            (same-held (store_of e) m.id m.clause c m.loose.held held2) here,
      )

  pub imply-done : (before : Option ℕ) → VisitGives e after-imply node f before (Done (Some node))
  imply-done before = (passes-node e after-imply node f before refl, imply-watched)
