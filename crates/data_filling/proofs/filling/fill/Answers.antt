use Rattle.std.proofs.Common.{map}
use Rattle.stage_definitions.specs.DataFacts.{facts_in}
use Rattle.structure_entries.specs.SaidViews.{said_view}
use Rattle.data_filling.proofs.Turns.{each_type, are_distinct, facts_at_first, subjects_then, filled}
use Rattle.data_filling.proofs.Unopposed.{open_at_first}
use Rattle.data_filling.proofs.filling.fill.Goals as goal

pub new-requires-clause-types : goal.new-requires-clause-types
new-requires-clause-types c = each_type c.args.vocab.now (map said_view c.args.entries.now) c.args.domains
    c.requires.domains

pub new-requires-clause-distinct : goal.new-requires-clause-distinct
new-requires-clause-distinct c = are_distinct c.args.vocab.now
    (map said_view c.args.entries.now) c.args.domains c.requires.domains

pub add_entries-requires-clause-over : goal.add_entries-requires-clause-over
add_entries-requires-clause-over c = facts_at_first c.args.vocab.now
    (map said_view c.args.entries.now) c.requires.accepted
    c.args.domains c.requires.domains c.in_ok-partial.partial c.in_ok-partial.ensures

pub add_entries-requires-clause-open_to : goal.add_entries-requires-clause-open_to
add_entries-requires-clause-open_to c =
    open_at_first c.args.vocab.now (map said_view c.args.entries.now) c.requires.accepted c.args.domains
    c.in_ok-partial.partial
    c.in_ok-partial.ensures

pub close_entries-requires : goal.close_entries-requires
close_entries-requires c =
    subjects_then c.args.vocab.now (map said_view c.args.entries.now) c.requires.accepted c.args.domains
    c.in_ok-partial.partial c.add_entries.new.partial
    (facts_in (map said_view c.args.entries.now)) c.in_ok-partial.ensures c.in_ok-add_entries.ensures

pub returns : goal.returns
returns c =
    filled c.args.vocab.now (map said_view c.args.entries.now) c.args.domains c.requires.domains c.in_ok-partial.partial
    c.add_entries.new.partial
    c.close_entries.new.partial c.in_ok-partial.ensures c.in_ok-add_entries.ensures c.in_ok-close_entries.ensures
