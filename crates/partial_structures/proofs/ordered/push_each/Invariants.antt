use Rattle.std.proofs.Common.{◌≡◌, ◌++◌, take, map}
use Rattle.partial_structures.specs.Ordered.{value_behind}
use Rattle.row_tries.specs.Words.{words_in}
use Rattle.partial_structures.proofs.ordered.push_each.Given as goal

abbrev pub invariant-loop-value : goal.invariant-loop-value
invariant-loop-value l =
    l.out.items ≡ l.initial.out.items ++ map (value_behind (words_in l.rows.words) l.rows.nodes.entries l.closed l.node)
    (take l.value-index l.values)
