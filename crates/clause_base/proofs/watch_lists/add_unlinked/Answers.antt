use Rattle.std.proofs.Common.{◌≡◌, ℕ, zero, suc, List, [], ◌∷◌, ◌++◌, get_or, map, replicate, refl, ap, ◌∙◌, ◌-◌, take}
use Rattle.std.proofs.Common.{arith, vec_len}
use Rattle.std.proofs.lemmas.List.{map-append, take_all}
use Rattle.clause_base.specs.ListsFields.{labels_of}
use Rattle.clause_base.specs.declared.watch_lists.Node.{Node}
use Rattle.clause_base.proofs.ListFacts.{slice_get-append_left}
use Rattle.clause_base.proofs.watch_lists.add_unlinked.Goals as goal

abbrev blank : Node
blank = record { next = 0; label = 0 }

-- nodes that lead nowhere
zeros : (f : Node → ℕ) (x : Node) → f x ≡ 0 → (m k : ℕ) → get_or (map f (replicate m x)) k 0 ≡ 0
zeros f x z zero k = refl
zeros f x z (suc m) zero = z
zeros f x z (suc m) (suc k) = zeros f x z m k

more : (f : Node → ℕ) (x : Node) → f x ≡ 0 → (nodes : List Node) (m k : ℕ) → get_or (map f (nodes ++ replicate m x)) k 0
    ≡ get_or (map f nodes) k 0
more f x z [] m k = zeros f x z m k
more f x z (n ∷ nodes) m zero = refl
more f x z (n ∷ nodes) m (suc k) = more f x z nodes m k

pub returns-in_ok-resize-clause-links : goal.returns-in_ok-resize-clause-links
returns-in_ok-resize-clause-links c k =
    let old = c.args.nodes.now.items in
    let whole : take c.args.len old ≡ old = take_all c.args.len old
    (omega (arith, c.if-len-2.true, c.len.ensures, c.args.nodes.now.ok.0)) in
    let is : c.resize.new.self.items ≡ old ++ replicate (c.args.len - vec_len c.args.nodes.now) blank =
    c.in_ok-resize.ensures.items ∙ ap (λ (xs : List Node). xs ++ replicate (c.args.len - vec_len c.args.nodes.now)
    blank) whole in
    rw is (more (λ (n : Node). n.next) blank refl old (c.args.len - vec_len c.args.nodes.now) k)

pub returns-in_ok-resize-clause-labels : goal.returns-in_ok-resize-clause-labels
returns-in_ok-resize-clause-labels c k x h =
    let old = c.args.nodes.now.items in
    let whole : take c.args.len old ≡ old = take_all c.args.len old
    (omega (arith, c.if-len-2.true, c.len.ensures, c.args.nodes.now.ok.0)) in
    let added : List Node = replicate (c.args.len - vec_len c.args.nodes.now) blank in
    let is : c.resize.new.self.items ≡ old ++ added = c.in_ok-resize.ensures.items
    ∙ ap (λ (xs : List Node). xs ++ added) whole in
    rw (is, map-append) (slice_get-append_left (labels_of old) (labels_of added) k x h)
