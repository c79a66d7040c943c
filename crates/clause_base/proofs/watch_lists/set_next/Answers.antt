use Rattle.std.proofs.Common.{ap}
use Rattle.std.proofs.lemmas.List.{map-set}
use Rattle.std.proofs.Math.Seq.{map-set_same}
use Rattle.clause_base.specs.declared.watch_lists.Node.{Node}
use Rattle.clause_base.proofs.watch_lists.set_next.Goals as goal

pub returns-clause-links : goal.returns-clause-links
returns-clause-links c =
    let x : Node = record { next = c.args.next; label = c.index.result.now.label } in
    map-set (λ (n : Node). n.next) c.args.nodes.now.items c.args.node x

pub returns-clause-labels : goal.returns-clause-labels
returns-clause-labels c =
    let x : Node = record { next = c.args.next; label = c.index.result.now.label } in
    map-set_same (λ (n : Node). n.label) c.args.nodes.now.items c.args.node x c.index.result.now
    (ap (λ (n : Node). n.label) c.index.ensures)
