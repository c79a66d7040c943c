use Rattle.std.proofs.Common.{◌≡◌, ℕ, List, map, set, sym, ap, ◌∙◌, subst}
use Rattle.std.specs.Vec.{with_item}
use Rattle.std.proofs.lemmas.List.{map-set, length-set}
use Rattle.std.proofs.Math.Seq.{map-set_same}
use Rattle.clause_base.specs.ListsState.{ListsState}
use Rattle.clause_base.specs.ListsFields.{IsKept, IsLinkage, labels_of, links_of, nodes_from, state_of}
use Rattle.clause_base.specs.declared.watch_lists.Node.{Node}
use Rattle.clause_base.specs.declared.watch_lists.LinkedLists.TheInside.{Inside}
use Rattle.clause_base.proofs.ListsChange.{laws-of}
use Rattle.clause_base.proofs.watch_lists.LinkedLists.set_label.Goals as goal

module _ (c : goal.After-self-1) where
  abbrev a : Inside
  a = c.self.inside

  abbrev x : Node
  x = record { next = c.index.result.now.next; label = c.args.label }

  abbrev b : Inside
  b = record { heads = a.heads; nodes = with_item a.nodes c.args.node x }

  same : links_of b.nodes.items ≡ links_of a.nodes.items
  same = map-set_same (λ (n : Node). n.next) a.nodes.items c.args.node x c.index.result.now
      (ap (λ (n : Node). n.next) c.index.ensures)

  kept : IsKept b
  kept = record {
    linkage = subst (λ (xs : List ℕ). IsLinkage (record { heads = a.heads.items; links = xs }))
        (sym same) c.self.invariant.linkage;
    small = rw length-set c.self.invariant.small;
  }

  viewed : state_of b ≡ record {
    labels = set c.args.self.now.labels c.args.node c.args.label;
    lists =
        c.args.self.now.lists;
  }
  viewed =
      let make : List ℕ → List ℕ → ListsState = λ ls ns. record {
        labels = ls;
        lists =
            map (nodes_from (record { heads = a.heads.items; links = ns })) a.heads.items;
      } in
      ap (λ ls. make ls (links_of b.nodes.items)) (map-set (λ (n : Node). n.label) a.nodes.items c.args.node x)
      ∙ ap (make (set (labels_of a.nodes.items) c.args.node c.args.label)) same
      ∙ ap (λ (s : ListsState). record { labels = set s.labels c.args.node c.args.label; lists = s.lists })
      c.self.view_is

pub invariant_of-self : goal.invariant_of-self
invariant_of-self c = kept c

pub returns-clause-state : goal.returns-clause-state
returns-clause-state c = viewed c

pub returns-clause-laws : goal.returns-clause-laws
returns-clause-laws c = laws-of (b c) (kept c)
