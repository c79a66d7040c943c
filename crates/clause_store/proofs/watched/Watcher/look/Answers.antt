use Rattle.std.proofs.Common.{rules, ◌≡◌, ℕ, ◌<◌, ◌+◌, ◌*◌, length, sym, ap, ◌∙◌, Some, slice_get, subst, true, ⊎_elim}
use Rattle.std.proofs.Common.{inl, inr, Contains}
use Rattle.std.proofs.lemmas.Option.{same_Some}
use Rattle.lit_core.specs.declared.literals.Lit.{Lit}
use Rattle.lit_core.specs.Literals.{value_in}
use Rattle.clause_base.specs.ListsState.{nodes_of}
use Rattle.clause_store.specs.declared.watched.Watcher.{Watcher}
use Rattle.clause_store.specs.Watching.{code_of, HasWatch, IsNodeOf, IsWatcher, IsWatchNode}
use Rattle.clause_base.proofs.ShortFacts.{number-same}
use Rattle.clause_store.proofs.NodeFacts.{look-fine, look-loose, same-node}
use Rattle.clause_store.proofs.watched.Watcher.look.Goals as goal

-- the literal whose number stands on the node is the other one that its clause watches
module _ (e : Watcher) (h : IsWatcher e) (f : Lit) (node : ℕ) (listed : Contains (nodes_of e.lists (code_of f)) node)
    (label : ℕ) (other : Lit) (read : slice_get e.lists.labels node ≡ Some label) (is : code_of other ≡ label) where
  node-is : IsWatchNode e node
  node-is = h.owned (code_of f) node listed

  at : (id : ℕ) → IsNodeOf node id → HasWatch e.lists.labels id node-is.watch
  at id of = subst (λ (n : ℕ). HasWatch e.lists.labels n node-is.watch) (same-node node node-is.id id node-is.of of)
      node-is.is_watch

  labelled : (l : Lit) (n : ℕ) → node ≡ n → slice_get e.lists.labels n ≡ Some (code_of l) → other ≡ l
  labelled l n same k = number-same other l (is ∙ same_Some label (code_of l) (sym read
      ∙ ap (slice_get e.lists.labels) same ∙ k))

  first : (id : ℕ) → node ≡ 2 * id → other ≡ node-is.watch.second
  first id same = labelled node-is.watch.second (2 * id) same (at id (inl same)).second

  second : (id : ℕ) → node ≡ 2 * id + 1 → other ≡ node-is.watch.first
  second id same = labelled node-is.watch.first (2 * id + 1) same (at id (inr same)).first

  within : other.var.0 < length e.trail.values
  within = ⊎_elim
      (λ a. subst (λ (l : Lit). l.var.0 < length e.trail.values) (sym (first node-is.id a)) node-is.second)
      (λ a. subst (λ (l : Lit). l.var.0 < length e.trail.values) (sym (second node-is.id a)) node-is.first)
      node-is.of

pub label-requires : goal.label-requires
label-requires c = c.requires.watcher.lists.within (code_of c.args.falsified) c.args.node c.requires.listed

pub value-requires : goal.value-requires
value-requires c = rw c.assignment.ensures.value (within c.args.self.now c.requires.watcher c.args.falsified c.args.node
    c.requires.listed c.label.result c.literal_of-other.result c.label.ensures c.literal_of-other.ensures)

pub returns-then-eq : goal.returns-then-eq
returns-then-eq c =
    let e : Watcher = c.args.self.now in
    let h = c.requires.watcher in
    let f = c.args.falsified in
    let n = c.args.node in
    let l = c.label.result in
    let o = c.literal_of-other.result in
    let read = c.label.ensures in
    let is = c.literal_of-other.ensures in
    let is_true : value_in e.trail.values o ≡ Some true = search rules in
    look-fine e h f n c.requires.listed c.requires.falsified (node-is e h f n c.requires.listed l o read is).watch o
    (at e h f n c.requires.listed l o read is) (first e h f n c.requires.listed l o read is)
    (second e h f n c.requires.listed l o read is) is_true

pub returns-else-eq : goal.returns-else-eq
returns-else-eq c =
    let e : Watcher = c.args.self.now in
    let h = c.requires.watcher in
    let f = c.args.falsified in
    let n = c.args.node in
    let l = c.label.result in
    let o = c.literal_of-other.result in
    let read = c.label.ensures in
    let is = c.literal_of-other.ensures in
    let is_not : value_in e.trail.values o ≡ Some true → ⊥ = search rules in
    look-loose e h f n c.requires.listed c.requires.falsified (node-is e h f n c.requires.listed l o read is).watch o
    (at e h f n c.requires.listed l o read is) (first e h f n c.requires.listed l o read is)
    (second e h f n c.requires.listed l o read is) is_not (within e h f n c.requires.listed l o read is)
