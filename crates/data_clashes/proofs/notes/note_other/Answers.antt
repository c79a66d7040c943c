use Rattle.std.proofs.Common.{map}
use Rattle.structure_entries.specs.EntryViews.{fact_view}
use Rattle.data_clashes.proofs.Kept.{none_clash}
use Rattle.data_clashes.proofs.notes.note_other.Goals as goal

pub note_unless-requires : goal.note_unless-requires
note_unless-requires c = λ t.
    none_clash (map fact_view c.args.before.now) (fact_view c.args.fact.now) (λ f m. c.in_ok-is_clear.ensures.clear t f
    (c.requires.table f m))

pub returns-clause-singles : goal.returns-clause-singles
returns-clause-singles c = c.in_ok-push.ensures (map fact_view c.args.before.now) c.requires.singles
