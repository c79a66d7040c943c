use Rattle.std.proofs.Common.{ap}
use Rattle.std.specs.Option.{option_map}
use Rattle.structure_entries.specs.EntryViews.{cell_view, elem_view, fact_view}
use Rattle.data_clashes.proofs.OpposingFacts.{met}
use Rattle.data_clashes.proofs.singles.Singles.do_clash.Goals as goal

pub returns-clause-clash : goal.returns-clause-clash
returns-clause-clash c = λ before s.
    met before (fact_view c.args.fact.now) (cell_view c.args.cell) c.face.new.self _
    (c.in_ok-face.ensures.kept before s) c.in_ok-face.ensures.known c.meets.ensures c.requires.only
    (ap (option_map elem_view) c.requires.plain)
