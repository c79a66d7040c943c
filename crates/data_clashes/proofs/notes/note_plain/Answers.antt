use Rattle.std.proofs.Common.{map, inl}
use Rattle.structure_entries.specs.EntryViews.{fact_view}
use Rattle.data_clashes.proofs.notes.note_plain.Goals as goal

pub returns-clause-noted : goal.returns-clause-noted
returns-clause-noted c = λ all es. c.in_ok-note_single.ensures.noted all es (map fact_view c.args.before.now)
    c.requires.singles

pub returns-clause-singles : goal.returns-clause-singles
returns-clause-singles c = c.in_ok-push.ensures (map fact_view c.args.before.now)
    (c.in_ok-note_single.ensures.kept (map fact_view c.args.before.now) c.requires.singles)

pub returns-clause-own : goal.returns-clause-own
returns-clause-own c = inl c.in_ok-widen.ensures.wide
