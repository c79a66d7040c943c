use Rattle.std.proofs.Common.{◌≡◌, ℕ, ◌<◌, ◌++◌, ◌∷◌, ◌^◌, Option, Some, None, List, length, set, get_or, Contains, sym}
use Rattle.std.proofs.Common.{ap, ◌∙◌, subst, refl, arith}
use Rattle.std.specs.Vec.{with_item}
use Rattle.std.proofs.lemmas.List.{length-map, length-set}
use Rattle.std.proofs.lemmas.List.Elements.{Contains-append_left, Contains-append_right}
use Rattle.lit_core.proofs.LiteralFacts.{Contains-head}
use Rattle.clause_base.specs.Links.{last_of}
use Rattle.clause_base.specs.ListsState.{ListsState, nodes_of}
use Rattle.clause_base.specs.ListsFields.{IsKept, linkage_of, links_of, state_of}
use Rattle.clause_base.specs.declared.watch_lists.LinkedLists.TheInside.{Inside}
use Rattle.clause_base.specs.declared.watch_lists.Node.{Node}
use Rattle.clause_base.proofs.LinkFacts.{last-in}
use Rattle.clause_base.proofs.ListsChange.{laws-of, Unlinks, unlinks-first, unlinks-later, heads-length, links-length}
use Rattle.clause_base.proofs.ListsChange.{link-read}
use Rattle.clause_base.proofs.watch_lists.LinkedLists.unlink.Goals as goal

-- where the node stands, in the words of the fields
abbrev At : Inside → ℕ → ℕ → Option ℕ → Type 0
At a j n before = (front : List ℕ) × (back : List ℕ) × (nodes_of (state_of a) j ≡ front ++ n ∷ back)
    × (last_of front ≡ before)

at-inside : (a : Inside) (s : ListsState) → state_of a ≡ s → (j n : ℕ) (before : Option ℕ)
    → ((front : List ℕ) × (back : List ℕ) × (nodes_of s j ≡ front ++ n ∷ back) × (last_of front ≡ before))
    → At a j n before
at-inside a s is j n before w = (w.0, w.1, ap (λ (x : ListsState). nodes_of x j) is ∙ w.2, w.3)

within-nodes : (a : Inside) → IsKept a → (j n : ℕ) → Contains (nodes_of (state_of a) j) n → n < length a.nodes.items
within-nodes a h j n has =
    let lt : n < length (state_of a).labels = (laws-of a h).within j n has in
    let len : length (state_of a).labels ≡ length a.nodes.items = length-map a.nodes.items (λ (x : Node). x.label) in
    omega arith

node-within : (a : Inside) → IsKept a → (j n : ℕ) (before : Option ℕ) → At a j n before → n < length a.nodes.items
node-within a h j n before w = within-nodes a h j n (subst (λ (xs : List ℕ). Contains xs n) (sym w.2)
    (Contains-append_right w.0 (n ∷ w.1) n (Contains-head n w.1)))

last-within : (a : Inside) → IsKept a → (j n p : ℕ) → At a j n (Some p) → p < length a.nodes.items
last-within a h j n p w = within-nodes a h j p (subst (λ (xs : List ℕ). Contains xs p) (sym w.2)
    (Contains-append_left w.0 (n ∷ w.1) p (last-in w.0 p w.3)))

cut-first : (a b : Inside) (h : IsKept a) (s : ListsState) → state_of a ≡ s → (j n : ℕ) (x : Node) (before : Option ℕ)
    → At a j n before → before ≡ None → j < length s.lists → x ≡ get_or a.nodes.items n x
    → b.nodes.items ≡ a.nodes.items → b.heads.items ≡ set a.heads.items j x.next
    → Unlinks (linkage_of a) (linkage_of b) j n
cut-first a b h s is j n x before w none list read links heads =
    let lt = node-within a h j n before w in
    let len = heads-length a s is in
    unlinks-first (linkage_of a) (linkage_of b) h.linkage j n w.0 w.1 w.2 (w.3 ∙ none) (omega arith) (ap links_of links)
    (heads ∙ ap (set a.heads.items j) (link-read a.nodes.items n x lt read))

cut-later : (a b : Inside) (h : IsKept a) (j n : ℕ) (x : Node) (p : ℕ) (before : Option ℕ) → At a j n before
    → before ≡ Some p → x ≡ get_or a.nodes.items n x → b.heads.items ≡ a.heads.items → links_of b.nodes.items
    ≡ set (links_of a.nodes.items) p x.next → Unlinks (linkage_of a) (linkage_of b) j n
cut-later a b h j n x p before w some read heads links =
    let lt = node-within a h j n before w in
    unlinks-later (linkage_of a) (linkage_of b) h.linkage j n w.0 w.1 w.2 p (w.3 ∙ some) heads
    (links ∙ ap (set (links_of a.nodes.items) p) (link-read a.nodes.items n x lt read))

pub index-requires : goal.index-requires
index-requires c =
    let a = c.self.inside in
    let lt = node-within a c.self.invariant c.args.list c.args.node c.args.before
    (at-inside a c.args.self.now c.self.view_is c.args.list c.args.node c.args.before c.requires.at) in
    omega (arith, a.nodes.ok.0)

pub set_next-requires : goal.set_next-requires
set_next-requires c =
    let a = c.self.inside in
    let w : At a c.args.list c.args.node (Some c.in-Some.last) = subst (At a c.args.list c.args.node) c.in-Some.is
    (at-inside a c.args.self.now c.self.view_is c.args.list c.args.node c.args.before c.requires.at) in
    last-within a c.self.invariant c.args.list c.args.node c.in-Some.last w

module _ (c : goal.After-self-1) where
  abbrev a1 : Inside
  a1 = c.self.inside

  abbrev b1 : Inside
  b1 = record { heads = with_item a1.heads c.args.list c.index.result.now.next; nodes = a1.nodes }

  first-cut : Unlinks (linkage_of a1) (linkage_of b1) c.args.list c.args.node
  first-cut = cut-first a1 b1 c.self.invariant c.args.self.now c.self.view_is c.args.list c.args.node c.index.result.now
      c.args.before (at-inside a1 c.args.self.now c.self.view_is c.args.list c.args.node c.args.before c.requires.at)
      c.in-None.is c.requires.list c.index.ensures refl refl

  first-kept : IsKept b1
  first-kept = record { linkage = first-cut.kept; small = c.self.invariant.small }

pub invariant_of-self : goal.invariant_of-self
invariant_of-self c = first-kept c

pub returns-in-None-clause-here : goal.returns-in-None-clause-here
returns-in-None-clause-here c front back e = (first-cut c).here front back
    (ap (λ (x : ListsState). nodes_of x c.args.list) c.self.view_is ∙ e)

pub returns-in-None-clause-others : goal.returns-in-None-clause-others
returns-in-None-clause-others c i ne = (first-cut c).others i ne ∙ ap (λ (x : ListsState). nodes_of x i) c.self.view_is

pub returns-in-None-clause-free : goal.returns-in-None-clause-free
returns-in-None-clause-free c = (first-cut c).free

pub returns-in-None-clause-laws : goal.returns-in-None-clause-laws
returns-in-None-clause-laws c = laws-of (b1 c) (first-kept c)

module _ (c : goal.After-set_next) where
  abbrev a2 : Inside
  a2 = c.self.inside

  abbrev b2 : Inside
  b2 = record { heads = a2.heads; nodes = c.set_next.new.nodes }

  later-cut : Unlinks (linkage_of a2) (linkage_of b2) c.args.list c.args.node
  later-cut = cut-later a2 b2 c.self.invariant c.args.list c.args.node c.index.result.now c.in-Some.last c.args.before
      (at-inside a2 c.args.self.now c.self.view_is c.args.list c.args.node c.args.before c.requires.at) c.in-Some.is
      c.index.ensures refl c.set_next.ensures.links

  later-kept : IsKept b2
  later-kept = record {
    linkage = later-cut.kept;
    small =
        let before = links-length a2 in
        let after = length-map c.set_next.new.nodes.items (λ (x : Node). x.next) in
        let same : length (links_of c.set_next.new.nodes.items) ≡ length (links_of a2.nodes.items) =
        ap length c.set_next.ensures.links ∙ length-set (links_of a2.nodes.items) c.in-Some.last
        c.index.result.now.next in
        let most : length a2.nodes.items < 2 ^ 32 = c.self.invariant.small in omega arith;
  }

pub invariant_of-self-in-Some : goal.invariant_of-self-in-Some
invariant_of-self-in-Some c = later-kept c

pub returns-in-Some-clause-here : goal.returns-in-Some-clause-here
returns-in-Some-clause-here c front back e = (later-cut c).here front back
    (ap (λ (x : ListsState). nodes_of x c.args.list) c.self.view_is ∙ e)

pub returns-in-Some-clause-others : goal.returns-in-Some-clause-others
returns-in-Some-clause-others c i ne = (later-cut c).others i ne ∙ ap (λ (x : ListsState). nodes_of x i) c.self.view_is

pub returns-in-Some-clause-free : goal.returns-in-Some-clause-free
returns-in-Some-clause-free c = (later-cut c).free

pub returns-in-Some-clause-laws : goal.returns-in-Some-clause-laws
returns-in-Some-clause-laws c = laws-of (b2 c) (later-kept c)
