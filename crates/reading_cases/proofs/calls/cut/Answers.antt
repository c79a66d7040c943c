use Rattle.std.proofs.lemmas.List.Sums.{prefix_len-le-length}
use Rattle.reading_cases.specs.Cases.{is_in_line}
use Rattle.reading_cases.proofs.calls.cut.Goals as goal

pub split_at-requires : goal.split_at-requires
split_at-requires c = rw c.line_len.ensures (prefix_len-le-length is_in_line c.args.case.now)
