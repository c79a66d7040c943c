use Rattle.std.proofs.lemmas.Option.{slice_get-get_or}
use Rattle.term_values.specs.FlatRows.{origin}
use Rattle.term_values.proofs.FlatLemmas.{start_at_zero, start_before}
use Rattle.term_values.proofs.rows.span_of.Goals as goal

pub returns-then-row-eq0-clause-start : goal.returns-then-row-eq0-clause-start
returns-then-row-eq0-clause-start c =
    start_at_zero c.default.result c.args.ends.now c.args.row c.if-row-eq0.true c.default.ensures

pub returns-else-row-eq0-clause-start : goal.returns-else-row-eq0-clause-start
returns-else-row-eq0-clause-start c =
    start_before origin origin c.args.ends.now c.args.row c.if-row-eq0.false c.requires

pub returns-else-row-eq0-clause-end : goal.returns-else-row-eq0-clause-end
returns-else-row-eq0-clause-end c = slice_get-get_or c.args.ends.now c.args.row origin c.requires
