use Rattle.std.proofs.Common.{ap, map, option_map, refl}
use Rattle.row_tries.specs.Lent.{lent_view}
use Rattle.row_tries.specs.Words.{words_in}
use Rattle.partial_structures.specs.AtomRows.{row_of}
use Rattle.row_tries.specs.declared.truths.Truth.TheVariants.{No}
use Rattle.row_tries.proofs.Growth.{node_within}
use Rattle.row_tries.proofs.Changes.{set_after}
use Rattle.partial_structures.proofs.atoms.make_lent_false.Goals as goal

pub set_mark-requires : goal.set_mark-requires
set_mark-requires c =
    let rows = c.reach_lent_atom.new.rows in
    node_within (words_in rows.words) rows.nodes.entries c.args.symbol
    (row_of (map lent_view c.args.args.now) (option_map lent_view c.args.value)) c.in_ok-node.node
    c.in_ok-node.ensures.node

pub returns-clause-ok : goal.returns-clause-ok
returns-clause-ok c =
    let row = row_of (map lent_view c.args.args.now) (option_map lent_view c.args.value) in
    set_after (words_in c.args.rows.now.words) (words_in c.reach_lent_atom.new.rows.words)
    c.args.rows.now.nodes.entries c.reach_lent_atom.new.rows.nodes.entries c.set_mark.new.self.nodes.entries
    c.args.symbol row row c.in_ok-node.node c.mark-mark.result (λ m. record m { known = No })
    (ap words_in c.in_ok-node.ensures.words) c.in_ok-node.ensures.grows c.in_ok-node.ensures.node refl
    c.mark-mark.ensures c.set_mark.ensures.nodes
