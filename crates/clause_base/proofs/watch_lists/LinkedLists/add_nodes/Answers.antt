use Rattle.std.proofs.Common.{◌≡◌, ℕ, ◌≤◌, ap, ◌∙◌, refl, arith, length}
use Rattle.clause_base.specs.ListsState.{ListsState, nodes_of}
use Rattle.clause_base.specs.ListsFields.{IsKept, IsLinkage, linkage_of, listed_at}
use Rattle.clause_base.specs.declared.watch_lists.LinkedLists.TheInside.{Inside}
use Rattle.clause_base.proofs.ListsChange.{laws-of, kept-longer, links-length}
use Rattle.clause_base.proofs.watch_lists.LinkedLists.add_nodes.Goals as goal

module _ (c : goal.After-add_unlinked) where
  abbrev b : Inside
  b = record { heads = c.self.inside.heads; nodes = c.add_unlinked.new.nodes }

  longer : IsLinkage (linkage_of b) × ((j : ℕ) → listed_at (linkage_of b) j ≡ listed_at (linkage_of c.self.inside) j)
  longer =
      let a = c.self.inside in
      let before = links-length a in
      let after = links-length b in
      let more : length a.nodes.items ≤ length b.nodes.items = c.add_unlinked.ensures.longer in
      kept-longer (linkage_of a) (linkage_of b) c.self.invariant.linkage
      (omega arith) c.add_unlinked.ensures.links (λ k. refl)

  kept : IsKept b
  kept = record { linkage = longer.0; small = c.add_unlinked.ensures.small c.self.invariant.small }

pub invariant_of-self : goal.invariant_of-self
invariant_of-self c = kept c

pub returns-clause-lists : goal.returns-clause-lists
returns-clause-lists c j = (longer c).1 j ∙ ap (λ (s : ListsState). nodes_of s j) c.self.view_is

pub returns-clause-laws : goal.returns-clause-laws
returns-clause-laws c = laws-of (b c) (kept c)
