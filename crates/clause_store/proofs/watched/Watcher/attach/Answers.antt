use Rattle.std.proofs.Common.{◌≡◌, ℕ, ◌≤◌, ◌+◌, ◌*◌, length, set, inl, inr, refl, sym, ap, ◌∙◌, subst, arith, ⊎_elim}
use Rattle.std.proofs.Common.{List}
use Rattle.std.proofs.lemmas.List.{length-set}
use Rattle.clause_base.specs.ListsState.{ListsState, nodes_of}
use Rattle.clause_store.specs.declared.watched.Watch.{Watch}
use Rattle.clause_store.specs.declared.watched.Watcher.{Watcher}
use Rattle.clause_store.specs.Watching.{code_of, HasWatch}
use Rattle.clause_store.proofs.NodeFacts.{code-fits, code-small, label-both, label-other}
use Rattle.clause_store.proofs.AttachFacts.{Enlists, enlists, next-free, attach-watcher}
use Rattle.clause_store.proofs.watched.Watcher.attach.Goals as goal

pub list_of-requires : goal.list_of-requires
list_of-requires c = code-fits c.args.self.now c.requires.watcher c.args.watch.first c.requires.in_range.0

pub list_of-requires-2 : goal.list_of-requires-2
list_of-requires-2 c = code-fits c.args.self.now c.requires.watcher c.args.watch.second c.requires.in_range.1

pub label_of-requires : goal.label_of-requires
label_of-requires c = code-small c.args.self.now c.requires.watcher c.args.watch.second c.requires.in_range.1

pub label_of-requires-2 : goal.label_of-requires-2
label_of-requires-2 c = code-small c.args.self.now c.requires.watcher c.args.watch.first c.requires.in_range.0

pub link-requires-clause-free : goal.link-requires-clause-free
link-requires-clause-free c j has = next-free c.args.self.now c.requires.watcher (2 * c.args.self.now.checked)
    (inl refl) j has

pub link-requires-2-clause-free : goal.link-requires-2-clause-free
link-requires-2-clause-free c j has =
    let e : Watcher = c.args.self.now in
    let first = enlists e.lists c.link.new.self c.list_of.result (2 * e.checked) c.link.ensures.here
    c.link.ensures.others in
    ⊎_elim
    (λ same. omega arith)
    (λ old. next-free e c.requires.watcher (2 * e.checked + 1) (inr refl) j old)
    (first.was j (2 * e.checked + 1) has)

module _ (c : goal.After-self-1) where
  abbrev e : Watcher
  e = c.args.self.now

  abbrev w : Watch
  w = c.args.watch

  abbrev lists : ListsState
  lists = c.set_label-2.new.self

  labels-before : c.link-2.new.self.labels ≡ e.lists.labels
  labels-before = c.link-2.ensures.labels ∙ c.link.ensures.labels

  labels-is : lists.labels ≡ set (set e.lists.labels (2 * e.checked) c.label_of.result) (2 * e.checked + 1)
      c.label_of-2.result
  labels-is =
      ap (λ (s : ListsState). s.labels) c.set_label-2.ensures.state ∙
      ap (λ (s : ListsState). set s.labels (2 * e.checked + 1) c.label_of-2.result) c.set_label.ensures.state ∙
      ap (λ (ls : List ℕ). set (set ls (2 * e.checked) c.label_of.result) (2 * e.checked + 1) c.label_of-2.result)
      labels-before

  nodes-is : (j : ℕ) → nodes_of lists j ≡ nodes_of c.link-2.new.self j
  nodes-is j = ap (λ (s : ListsState). nodes_of s j) c.set_label-2.ensures.state
      ∙ ap (λ (s : ListsState). nodes_of s j) c.set_label.ensures.state

  mine : HasWatch lists.labels e.checked w
  mine =
      let n : 2 * length e.held.clauses ≤ length e.lists.labels = c.requires.watcher.nodes in
      subst (λ (ls : List ℕ). HasWatch ls e.checked w) (sym labels-is)
      (label-both e.lists.labels e.checked c.label_of.result c.label_of-2.result w (omega (arith, c.requires.more))
      c.label_of.ensures c.label_of-2.ensures)

  theirs : (i : ℕ) (v : Watch) → (i ≡ e.checked → ⊥) → HasWatch e.lists.labels i v → HasWatch lists.labels i v
  theirs i v ne h = subst (λ (ls : List ℕ). HasWatch ls i v) (sym labels-is)
      (label-other (set e.lists.labels (2 * e.checked) c.label_of.result) (2 * e.checked + 1) c.label_of-2.result i v
      (λ of. ne (⊎_elim (λ a. omega arith) (λ a. omega arith) of))
      (label-other e.lists.labels (2 * e.checked) c.label_of.result i v
      (λ of. ne (⊎_elim (λ a. omega arith) (λ a. omega arith) of)) h))

  first : Enlists e.lists c.link.new.self (code_of w.first) (2 * e.checked)
  first = subst (λ (j : ℕ). Enlists e.lists c.link.new.self j (2 * e.checked)) c.list_of.ensures
      (enlists e.lists c.link.new.self c.list_of.result (2 * e.checked) c.link.ensures.here c.link.ensures.others)

  second : Enlists c.link.new.self lists (code_of w.second) (2 * e.checked + 1)
  second = subst (λ (j : ℕ). Enlists c.link.new.self lists j (2 * e.checked + 1)) c.list_of-2.ensures
      (enlists c.link.new.self lists c.list_of-2.result (2 * e.checked + 1) (nodes-is c.list_of-2.result
      ∙ c.link-2.ensures.here) (λ j ne. nodes-is j ∙ c.link-2.ensures.others j ne))

  size : length lists.labels ≡ length e.lists.labels
  size = ap length labels-is ∙ length-set (set e.lists.labels (2 * e.checked) c.label_of.result) (2 * e.checked + 1)
      c.label_of-2.result ∙ length-set e.lists.labels (2 * e.checked) c.label_of.result

  count : length lists.lists ≡ length e.lists.lists
  count = ap (λ (s : ListsState). length s.lists) c.set_label-2.ensures.state
      ∙ ap (λ (s : ListsState). length s.lists) c.set_label.ensures.state ∙ c.link-2.ensures.count
      ∙ c.link.ensures.count

pub returns-clause-watcher : goal.returns-clause-watcher
returns-clause-watcher c = attach-watcher c.args.self.now c.requires.watcher c.requires.more c.args.watch
    c.link.new.self c.set_label-2.new.self (mine c) (theirs c) (first c) (second c) c.set_label-2.ensures.laws (size c)
    (count c) c.requires.in_range.0 c.requires.in_range.1 c.requires.watch
