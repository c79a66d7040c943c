use Rattle.std.proofs.Common.{◌≡◌, ◌++◌, take, length}
use Rattle.std.specs.List.{flat_map}
use Rattle.partial_structures.specs.Ordered.{beyond}
use Rattle.row_tries.specs.Rows.{child_by, label_of}
use Rattle.row_tries.specs.Words.{words_in}
use Rattle.partial_structures.proofs.ordered.+push_beyond.Given as goal

abbrev pub invariant-loop-elem : goal.invariant-loop-elem
invariant-loop-elem l =
    let ws = words_in l.s.rows.now.words in
    let es = l.s.rows.now.nodes.entries in
    l.out.items
    ≡ l.initial.out.items ++ flat_map (λ x. beyond ws es l.closed l.s.domains.now (child_by es l.node (label_of ws x))
    l.rest l.value) (take l.elem-index l.elem-items)

abbrev pub decreases-push_beyond : goal.decreases-push_beyond
decreases-push_beyond l = length l.types.now
