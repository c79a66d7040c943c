use Rattle.std.proofs.Common.{◌≡◌, ◌∙◌, ◌+◌, ap, subst, map, option_map, reverse}
use Rattle.row_tries.specs.Lent.{lent_view}
use Rattle.row_tries.specs.Words.{words_in}
use Rattle.partial_structures.specs.AtomRows.{MadeTrue, status_of}
use Rattle.partial_structures.specs.Counts.{added_by}
use Rattle.row_tries.proofs.Growth.{node_within}
use Rattle.partial_structures.proofs.Statuses.{grown_MadeTrue}
use Rattle.partial_structures.proofs.Statuses.{read_behind}
use Rattle.partial_structures.proofs.atoms.make_lent_true.Goals as goal

pub affirm-requires : goal.affirm-requires
affirm-requires c =
    let rows = c.reach_lent.new.self in
    node_within (words_in rows.words) rows.nodes.entries c.args.symbol (reverse (map lent_view c.args.args.now))
    c.in_ok-node.node c.in_ok-node.ensures.node

pub returns-in-Some-clause-ok : goal.returns-in-Some-clause-ok
returns-in-Some-clause-ok c =
    let args = map lent_view c.args.args.now in
    let value = option_map lent_view c.args.value in
    let old = c.args.rows.now in
    let rows = c.reach_lent.new.self in
    grown_MadeTrue (words_in old.words) old.nodes.entries rows.nodes.entries c.affirm.new.rows.nodes.entries
    c.args.symbol args value c.in_ok-node.ensures.grows (subst (λ w. MadeTrue (words_in w) rows.nodes.entries
    c.affirm.new.rows.nodes.entries c.args.symbol args value) c.in_ok-node.ensures.words (c.affirm.ensures.made
    c.args.symbol args c.in_ok-node.ensures.node))

pub returns-in-Some-clause-count : goal.returns-in-Some-clause-count
returns-in-Some-clause-count c =
    let args = map lent_view c.args.args.now in
    let value = option_map lent_view c.args.value in
    let old = c.args.rows.now in
    let rows = c.reach_lent.new.self in
    let was : c.known_behind-known.result ≡ status_of (words_in old.words) old.nodes.entries c.args.closed c.args.symbol
    args value =
    read_behind (words_in old.words) (words_in rows.words) old.nodes.entries rows.nodes.entries c.args.closed
    c.args.symbol c.in_ok-node.node args value c.known_behind-known.result (ap words_in c.in_ok-node.ensures.words)
    c.in_ok-node.ensures.grows c.in_ok-node.ensures.node c.known_behind-known.ensures in
    c.in-Some.ensures ∙ ap (λ t. c.args.count + added_by t) was
