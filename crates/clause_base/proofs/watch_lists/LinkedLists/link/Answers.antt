use Rattle.std.proofs.Common.{◌≡◌, ℕ, ◌<◌, ◌+◌, ◌∷◌, ◌^◌, length, set, get_or, Contains, ap, ◌∙◌, subst, refl, arith}
use Rattle.std.specs.Vec.{with_item}
use Rattle.std.proofs.lemmas.List.{get_or_read, length-map, length-set}
use Rattle.clause_base.specs.ListsState.{ListsState, nodes_of}
use Rattle.clause_base.specs.ListsFields.{IsKept, linkage_of, links_of, listed_at, state_of}
use Rattle.clause_base.specs.declared.watch_lists.LinkedLists.TheInside.{Inside}
use Rattle.clause_base.specs.declared.watch_lists.Node.{Node}
use Rattle.clause_base.proofs.ListsChange.{laws-of, link-kept, link-sees, link-sees-other, nodes-length, heads-length}
use Rattle.clause_base.proofs.ListsChange.{links-length}
use Rattle.clause_base.proofs.watch_lists.LinkedLists.link.Goals as goal

unlinked : (a : Inside) (s : ListsState) → state_of a ≡ s → (n : ℕ) → ((i : ℕ) → Contains (nodes_of s i) n → ⊥)
    → (i : ℕ) → Contains (nodes_of (state_of a) i) n → ⊥
unlinked a s is n free i has = free i (subst (λ (x : ListsState). Contains (nodes_of x i) n) is has)

pub set_next-requires : goal.set_next-requires
set_next-requires c = let e = nodes-length c.self.inside c.args.self.now c.self.view_is in let lt : c.args.node
    < length c.args.self.now.labels = c.requires.node in omega arith

module _ (c : goal.After-self-1) where
  abbrev a : Inside
  a = c.self.inside

  abbrev b : Inside
  b = record { heads = with_item a.heads c.args.list (c.args.node + 1); nodes = c.set_next.new.nodes }

  list : c.args.list < length a.heads.items
  list = let e = heads-length a c.args.self.now c.self.view_is in let lt : c.args.list < length c.args.self.now.lists =
      c.requires.list in omega arith

  node : c.args.node < length (links_of a.nodes.items)
  node = let e = nodes-length a c.args.self.now c.self.view_is in let k = links-length a in let lt : c.args.node
      < length c.args.self.now.labels = c.requires.node in omega arith

  free : (i : ℕ) → Contains (listed_at (linkage_of a) i) c.args.node → ⊥
  free = unlinked a c.args.self.now c.self.view_is c.args.node c.requires.free

  links : links_of c.set_next.new.nodes.items ≡ set (links_of a.nodes.items) c.args.node
      (get_or a.heads.items c.args.list 0)
  links = c.set_next.ensures.links ∙ ap (set (links_of a.nodes.items) c.args.node)
      (get_or_read a.heads.items _ _ list c.index-first.ensures 0)

  kept : IsKept b
  kept = record {
    linkage = link-kept (linkage_of a) (linkage_of b) c.self.invariant.linkage c.args.list c.args.node list node
        free links refl;
    small =
        let before = links-length a in
        let after = length-map c.set_next.new.nodes.items (λ (x : Node). x.next) in
        let same : length (links_of c.set_next.new.nodes.items) ≡ length (links_of a.nodes.items) =
        ap length c.set_next.ensures.links ∙ length-set (links_of a.nodes.items) c.args.node
        c.index-first.result.now in
        let most : length a.nodes.items < 2 ^ 32 = c.self.invariant.small in omega arith;
  }

pub invariant_of-self : goal.invariant_of-self
invariant_of-self c = kept c

pub returns-clause-here : goal.returns-clause-here
returns-clause-here c = link-sees (linkage_of (a c)) (linkage_of (b c)) c.self.invariant.linkage c.args.list c.args.node
    (list c) (node c) (free c) (links c) refl ∙ ap (λ (x : ListsState). c.args.node ∷ nodes_of x c.args.list)
    c.self.view_is

pub returns-clause-others : goal.returns-clause-others
returns-clause-others c i ne = link-sees-other (linkage_of (a c)) (linkage_of (b c)) c.self.invariant.linkage
    c.args.list c.args.node (list c) (node c) (free c) (links c) refl i ne
    ∙ ap (λ (x : ListsState). nodes_of x i) c.self.view_is

pub returns-clause-laws : goal.returns-clause-laws
returns-clause-laws c = laws-of (b c) (kept c)
