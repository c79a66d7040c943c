use Rattle.std.proofs.Common.{◌≡◌, ℕ, List, ◌∷◌, ◌++◌, subst}
use Rattle.clause_base.specs.ListsState.{nodes_of}
use Rattle.clause_store.specs.Watching.{code_of}
use Rattle.clause_store.proofs.NodeFacts.{code-fits}
use Rattle.clause_store.proofs.ReleaseFacts.{unlist-watcher, unlist-same, unlist-keeps, unlist-done}
use Rattle.clause_store.proofs.WalkFacts.{next-in-range}
use Rattle.clause_store.proofs.watched.Watcher.unlist.Goals as goal

pub list_of-requires : goal.list_of-requires
list_of-requires c = code-fits c.args.self.now c.requires.watcher c.args.falsified
    (next-in-range c.args.self.now c.requires.watcher c.args.falsified c.requires.falsified)

module _ (c : goal.After-unlink) where
  cut : (front back : List ℕ) → nodes_of c.args.self.now.lists (code_of c.args.falsified)
      ≡ front ++ c.args.node ∷ back → nodes_of c.unlink.new.self (code_of c.args.falsified) ≡ front ++ back
  cut = subst (λ (j : ℕ). (front back : List ℕ) → nodes_of c.args.self.now.lists j ≡ front ++ c.args.node ∷ back
      → nodes_of c.unlink.new.self j ≡ front ++ back) c.list_of.ensures c.unlink.ensures.here

  stay : (j : ℕ) → (j ≡ code_of c.args.falsified → ⊥) → nodes_of c.unlink.new.self j ≡ nodes_of c.args.self.now.lists j
  stay = subst (λ (k : ℕ). (j : ℕ) → (j ≡ k → ⊥) → nodes_of c.unlink.new.self j ≡ nodes_of c.args.self.now.lists j)
      c.list_of.ensures c.unlink.ensures.others

pub returns-clause-watcher : goal.returns-clause-watcher
returns-clause-watcher c = unlist-watcher c.args.self.now c.requires.watcher c.args.falsified c.args.node c.args.before
    c.requires.at c.requires.removed c.unlink.new.self c.unlink.ensures.laws c.unlink.ensures.labels
    c.unlink.ensures.count (cut c) (stay c)

pub returns-clause-same : goal.returns-clause-same
returns-clause-same c = unlist-same c.args.self.now c.requires.watcher c.args.falsified c.args.node c.args.before
    c.requires.at c.requires.removed c.unlink.new.self c.unlink.ensures.laws c.unlink.ensures.labels
    c.unlink.ensures.count (cut c) (stay c)

pub returns-clause-keeps : goal.returns-clause-keeps
returns-clause-keeps c = unlist-keeps c.args.self.now c.requires.watcher c.args.falsified c.args.node c.args.before
    c.requires.at c.requires.removed c.unlink.new.self c.unlink.ensures.laws c.unlink.ensures.labels
    c.unlink.ensures.count (cut c) (stay c)

pub returns-clause-done : goal.returns-clause-done
returns-clause-done c = unlist-done c.args.self.now c.requires.watcher c.args.falsified c.args.node c.args.before
    c.requires.at c.requires.removed c.unlink.new.self c.unlink.ensures.laws c.unlink.ensures.labels
    c.unlink.ensures.count (cut c) (stay c)
