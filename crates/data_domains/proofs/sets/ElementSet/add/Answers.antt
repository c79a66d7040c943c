use Rattle.stage_definitions.specs.Elements.{words_of}
use Rattle.structure_entries.specs.EntryViews.{cell_view}
use Rattle.data_domains.proofs.Gathering.{gathered_again, gathered_more, known_among, listed_before}
use Rattle.data_domains.proofs.sets.ElementSet.add.Goals as goal

pub returns-in-Some-clause-gathered : goal.returns-in-Some-clause-gathered
returns-in-Some-clause-gathered c = λ cells h. gathered_again cells (cell_view c.args.cell) c.args.self.now h
    c.in-Some.ensures

pub returns-in-Some-clause-known : goal.returns-in-Some-clause-known
returns-in-Some-clause-known c = λ e cells h. listed_before cells (cell_view c.args.cell)
    (known_among cells (cell_view c.args.cell) c.args.self.now h c.in-Some.ensures)

pub returns-clause-gathered : goal.returns-clause-gathered
returns-clause-gathered c = λ cells h.
    let added = c.in_ok-added.ensures in
    gathered_more cells (cell_view c.args.cell) c.args.self.now _ h added.words added.hollow added.inside

pub returns-clause-known : goal.returns-clause-known
returns-clause-known c = λ e cells h.
    listed_before cells (cell_view c.args.cell) (c.in_ok-added.ensures.known e (words_of cells) h.words)
