use Rattle.std.proofs.Common.{◌≡◌, ℕ, ◌<◌, ◌++◌, ◌∷◌, List, length, Contains, sym, ap, ◌∙◌, subst, arith, get_or}
use Rattle.std.proofs.lemmas.List.Elements.{Contains-append_right}
use Rattle.lit_core.proofs.LiteralFacts.{Contains-head}
use Rattle.clause_base.specs.Links.{node_of}
use Rattle.clause_base.specs.ListsState.{ListsState, nodes_of}
use Rattle.clause_base.specs.ListsFields.{linkage_of, links_of, state_of}
use Rattle.clause_base.specs.declared.watch_lists.LinkedLists.TheInside.{Inside}
use Rattle.clause_base.specs.ListsFields.{IsKept}
use Rattle.clause_base.proofs.ListsChange.{laws-of, after-is, nodes-length, link-read}
use Rattle.clause_base.proofs.watch_lists.LinkedLists.after.Goals as goal

within : (a : Inside) (s : ListsState) → state_of a ≡ s → IsKept a → (j n : ℕ) (front back : List ℕ)
    → nodes_of s j ≡ front ++ n ∷ back → n < length a.nodes.items
within a s is h j n front back e =
    let at : nodes_of (state_of a) j ≡ front ++ n ∷ back = ap (λ (x : ListsState). nodes_of x j) is ∙ e in
    let has : Contains (nodes_of (state_of a) j) n = subst (λ (xs : List ℕ). Contains xs n) (sym at)
    (Contains-append_right front (n ∷ back) n (Contains-head n back)) in
    let lt : n < length (state_of a).labels = (laws-of a h).within j n has in
    let len = nodes-length a s is in
    let labels : length (state_of a).labels ≡ length s.labels = ap (λ (x : ListsState). length x.labels) is in
    omega arith

pub index-requires : goal.index-requires
index-requires c =
    let a = c.self.inside in
    let r = c.requires in
    let lt = within a c.args.self.now c.self.view_is c.self.invariant r.0 c.args.node r.1 r.2 r.3 in
    omega (arith, a.nodes.ok.0)

pub returns : goal.returns
returns c j front back e =
    let a = c.self.inside in
    let lt = within a c.args.self.now c.self.view_is c.self.invariant j c.args.node front back e in
    let is : nodes_of (state_of a) j ≡ front ++ c.args.node ∷ back =
    ap (λ (s : ListsState). nodes_of s j) c.self.view_is ∙ e in
    let read : c.index.result.now.next ≡ get_or (links_of a.nodes.items) c.args.node 0 =
    link-read a.nodes.items c.args.node c.index.result.now lt c.index.ensures in
    c.node_at.ensures ∙ ap node_of read ∙ after-is (linkage_of a) c.self.invariant.linkage j c.args.node front back is
