use Rattle.std.proofs.Common.{◌≡◌, ℕ, ◌<◌, ◌≤◌, ◌+◌, ◌*◌, ◌^◌, ◌++◌, ◌∷◌, length, set, Option, List, sym, ap, ◌∙◌}
use Rattle.std.proofs.Common.{subst, arith, ⊎_elim}
use Rattle.std.proofs.lemmas.List.{length-set}
use Rattle.lit_core.specs.declared.literals.Lit.{Lit}
use Rattle.clause_store.specs.declared.propagation.Visit.TheVariants.{Done}
use Rattle.clause_store.specs.declared.watched.Watch.{Watch}
use Rattle.clause_store.specs.declared.watched.Watcher.{Watcher}
use Rattle.clause_base.specs.ClauseDbState.{ClauseDbState}
use Rattle.clause_base.specs.ListsState.{ListsState, HasLaws, nodes_of}
use Rattle.clause_base.specs.StoreState.{Propagates}
use Rattle.clause_store.specs.Watching.{code_of, store_of, HasWatch, IsWatcher}
use Rattle.clause_store.specs.Visits.{CanMove, IsAt, Keeps, VisitGives}
use Rattle.clause_store.proofs.NodeFacts.{code-fits, code-small, label-other, literal-within}
use Rattle.clause_store.proofs.MoveFacts.{Moves, moved, moved-first, moved-second, moved-label, moves, move-apart}
use Rattle.clause_store.proofs.MoveFacts.{move-watcher, move-same, move-keeps, move-done}
use Rattle.clause_store.proofs.WalkFacts.{next-in-range}
use Rattle.clause_store.proofs.watched.Watcher.move_watch.Goals as goal

pub list_of-requires : goal.list_of-requires
list_of-requires c = code-fits c.args.self.now c.requires.watcher c.args.falsified
    (next-in-range c.args.self.now c.requires.watcher c.args.falsified c.requires.falsified)

within : (e : Watcher) → IsWatcher e → (node : ℕ) (f l : Lit) (m : CanMove e node f l) → l.var.0 < length e.trail.values
within e h node f l m = literal-within e h m.id m.clause m.loose.held l m.member

node-within : (e : Watcher) → IsWatcher e → (node : ℕ) (f l : Lit) (m : CanMove e node f l)
    → 2 * m.id + 1 < length e.lists.labels
node-within e h node f l m =
    let lt : m.id < e.checked = m.checked in
    let all : e.checked ≤ length e.held.clauses = h.checked in
    let nodes : 2 * length e.held.clauses ≤ length e.lists.labels = h.nodes in
    omega arith

pub list_of-requires-2 : goal.list_of-requires-2
list_of-requires-2 c = code-fits c.args.self.now c.requires.watcher c.args.lit
    (within c.args.self.now c.requires.watcher c.args.node c.args.falsified c.args.lit c.requires.moved)

pub label_of-requires : goal.label_of-requires
label_of-requires c = code-small c.args.self.now c.requires.watcher c.args.lit
    (within c.args.self.now c.requires.watcher c.args.node c.args.falsified c.args.lit c.requires.moved)

pub partner_of-requires : goal.partner_of-requires
partner_of-requires c =
    let lt = node-within c.args.self.now c.requires.watcher c.args.node c.args.falsified c.args.lit c.requires.moved in
    let few : length c.args.self.now.lists.labels < 2 ^ 32 = c.requires.watcher.lists.few in
    ⊎_elim (λ a. omega arith) (λ a. omega arith) c.requires.moved.of

-- the other node of the clause is one of the lists
partner-within : (e : Watcher) → IsWatcher e → (node other : ℕ) (f l : Lit) (m : CanMove e node f l)
    → ((id : ℕ) → node ≡ 2 * id → other ≡ 2 * id + 1) → ((id : ℕ) → node ≡ 2 * id + 1 → other ≡ 2 * id)
    → other < length e.lists.labels
partner-within e h node other f l m first second =
    let lt = node-within e h node f l m in
    ⊎_elim (λ a. let p : other ≡ 2 * m.id + 1 = first m.id a in omega arith) (λ a. let p : other ≡ 2 * m.id =
    second m.id a in omega arith) m.of

pub set_label-requires : goal.set_label-requires
set_label-requires c =
    let lt = partner-within c.args.self.now c.requires.watcher c.args.node c.partner_of.result c.args.falsified
    c.args.lit c.requires.moved c.partner_of.ensures.first c.partner_of.ensures.second in
    rw (c.link.ensures.labels, c.unlink.ensures.labels) lt

-- the lists, by their numbers
moved-lists : (old mid new : ListsState) (from to at there node : ℕ) (before : Option ℕ) → at ≡ from → there ≡ to
    → (from ≡ to → ⊥) → IsAt old from before node → HasLaws new → length mid.lists ≡ length old.lists
    → length new.lists ≡ length mid.lists → ((front back : List ℕ) → nodes_of old at ≡ front ++ node ∷ back
    → nodes_of mid at ≡ front ++ back) → ((j : ℕ) → (j ≡ at → ⊥) → nodes_of mid j ≡ nodes_of old j) → nodes_of new there
    ≡ node ∷ nodes_of mid there → ((j : ℕ) → (j ≡ there → ⊥) → nodes_of new j ≡ nodes_of mid j)
    → Moves old new from to node
moved-lists old mid new from to at there node before ea eb apart w laws count1 count2 cut stay linked rest =
    moves old mid new from to node before apart w laws count1 count2
    (subst (λ (j : ℕ). (front back : List ℕ) → nodes_of old j ≡ front ++ node ∷ back
    → nodes_of mid j ≡ front ++ back) ea cut)
    (subst (λ (k : ℕ). (j : ℕ) → (j ≡ k → ⊥) → nodes_of mid j ≡ nodes_of old j) ea stay)
    (subst (λ (j : ℕ). nodes_of new j ≡ node ∷ nodes_of mid j) eb linked)
    (subst (λ (k : ℕ). (j : ℕ) → (j ≡ k → ⊥) → nodes_of new j ≡ nodes_of mid j) eb rest)

module _ (c : goal.After-set_place) where
  abbrev e : Watcher
  e = c.args.self.now

  abbrev m : CanMove c.args.self.now c.args.node c.args.falsified c.args.lit
  m = c.requires.moved

  abbrev w : Watch
  w = moved c.args.node m.id m.of m.loose.watch c.args.lit

  abbrev new : ListsState
  new = c.set_label.new.self

  labels-before : c.link.new.self.labels ≡ e.lists.labels
  labels-before = c.link.ensures.labels ∙ c.unlink.ensures.labels

  labels-is : new.labels ≡ set e.lists.labels c.partner_of.result c.label_of.result
  labels-is = ap (λ (s : ListsState). s.labels) c.set_label.ensures.state
      ∙ ap (λ (ls : List ℕ). set ls c.partner_of.result c.label_of.result) labels-before

  nodes-is : (j : ℕ) → nodes_of new j ≡ nodes_of c.link.new.self j
  nodes-is j = ap (λ (s : ListsState). nodes_of s j) c.set_label.ensures.state

  mine : HasWatch new.labels m.id w
  mine = subst (λ (ls : List ℕ). HasWatch ls m.id w) (sym labels-is)
      (moved-label e.lists.labels c.args.node m.id c.partner_of.result c.label_of.result m.of m.loose.watch c.args.lit
      (c.partner_of.ensures.first m.id) (c.partner_of.ensures.second m.id)
      (partner-within e c.requires.watcher c.args.node c.partner_of.result c.args.falsified c.args.lit m
      c.partner_of.ensures.first c.partner_of.ensures.second)
      c.label_of.ensures m.loose.is_watch)

  theirs : (i : ℕ) (v : Watch) → (i ≡ m.id → ⊥) → HasWatch e.lists.labels i v → HasWatch new.labels i v
  theirs i v ne h = subst (λ (ls : List ℕ). HasWatch ls i v) (sym labels-is)
      (label-other e.lists.labels c.partner_of.result c.label_of.result i v
      (λ of. ne (⊎_elim
      (λ a. let p : c.partner_of.result ≡ 2 * m.id + 1 = c.partner_of.ensures.first m.id a in
      ⊎_elim (λ x. omega arith) (λ x. omega arith) of)
      (λ a. let p : c.partner_of.result ≡ 2 * m.id = c.partner_of.ensures.second m.id a in
      ⊎_elim (λ x. omega arith) (λ x. omega arith) of)
      m.of))
      h)

  size : length new.labels ≡ length e.lists.labels
  size = ap length labels-is ∙ length-set e.lists.labels c.partner_of.result c.label_of.result

  lists : Moves e.lists new (code_of c.args.falsified) (code_of c.args.lit) c.args.node
  lists = moved-lists e.lists c.unlink.new.self new (code_of c.args.falsified) (code_of c.args.lit) c.list_of.result
      c.list_of-2.result c.args.node c.args.before c.list_of.ensures c.list_of-2.ensures
      (move-apart e c.requires.watcher c.args.falsified c.requires.falsified c.args.node c.args.lit m) c.requires.at
      c.set_label.ensures.laws c.unlink.ensures.count
      (ap (λ (s : ListsState). length s.lists) c.set_label.ensures.state ∙ c.link.ensures.count) c.unlink.ensures.here
      c.unlink.ensures.others
      (nodes-is c.list_of-2.result ∙ c.link.ensures.here) (λ j ne. nodes-is j ∙ c.link.ensures.others j ne)

  first : c.args.node ≡ 2 * m.id → w ≡ record { first = c.args.lit; second = m.loose.watch.second }
  first is = moved-first c.args.node m.id m.of m.loose.watch c.args.lit is

  second : c.args.node ≡ 2 * m.id + 1 → w ≡ record { first = m.loose.watch.first; second = c.args.lit }
  second is = moved-second c.args.node m.id m.of m.loose.watch c.args.lit is

  -- what holds after a place in the clause is remembered
  placed : (P : Watcher → Type 0) → P (record {
    held = e.held;
    short = e.short;
    lists = new;
    trail = e.trail;
    queue = e.queue;
    checked =
        e.checked;
    stale = e.stale;
  }) → P (record {
    held = c.set_place.new.self;
    short = e.short;
    lists = new;
    trail = e.trail;
    queue =
        e.queue;
    checked = e.checked;
    stale = e.stale;
  })
  placed P h = subst (λ (x : ClauseDbState). P (record {
    held = x;
    short = e.short;
    lists = new;
    trail = e.trail;
    queue = e.queue;
    checked = e.checked;
    stale = e.stale;
  })) (sym c.set_place.ensures) h

pub set_place-requires-clause-node : goal.set_place-requires-clause-node
set_place-requires-clause-node c =
    let m = c.requires.moved in
    let lt : m.id < c.args.self.now.checked = m.checked in
    let all : c.args.self.now.checked ≤ length c.args.self.now.held.clauses = c.requires.watcher.checked in
    ⊎_elim (λ a. omega arith) (λ a. omega arith) m.of

pub returns-clause-watcher : goal.returns-clause-watcher
returns-clause-watcher c = placed c IsWatcher (move-watcher c.args.self.now c.requires.watcher c.args.falsified
    c.requires.falsified c.args.node c.args.lit c.requires.moved (w c) c.set_label.new.self (mine c) (theirs c) (size c)
    (first c) (second c) (lists c))

pub returns-clause-same : goal.returns-clause-same
returns-clause-same c = placed c (λ b. Propagates (store_of c.args.self.now) (store_of b))
    (move-same c.args.self.now c.requires.watcher c.args.falsified c.requires.falsified c.args.node c.args.lit
    c.requires.moved (w c) c.set_label.new.self (mine c) (theirs c) (size c) (first c) (second c) (lists c))

pub returns-clause-keeps : goal.returns-clause-keeps
returns-clause-keeps c = placed c (λ b. Keeps c.args.self.now b c.args.node)
    (move-keeps c.args.self.now c.requires.watcher c.args.falsified c.requires.falsified c.args.node c.args.lit
    c.requires.moved (w c) c.set_label.new.self (mine c) (theirs c) (size c) (first c) (second c) (lists c))

pub returns-clause-done : goal.returns-clause-done
returns-clause-done c = placed c (λ b. VisitGives c.args.self.now b c.args.node c.args.falsified c.args.before
    (Done c.args.before)) (move-done c.args.self.now c.requires.watcher c.args.falsified c.requires.falsified
    c.args.node c.args.lit c.requires.moved (w c) c.set_label.new.self (mine c) (theirs c) (size c) (first c) (second c)
    (lists c) c.args.before)
