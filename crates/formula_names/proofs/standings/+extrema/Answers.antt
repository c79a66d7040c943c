use Rattle.std.proofs.Common.{◌∙◌, sym}
use Rattle.formula_names.proofs.Scaled.{extremum_raw}
use Rattle.formula_names.proofs.standings.+extrema.Goals as goal

pub is_extremum_term-returns-then-is_lone : goal.is_extremum_term-returns-then-is_lone
is_extremum_term-returns-then-is_lone t c =
    rw (extremum_raw c.args.raw.now, sym c.is_lone.ensures ∙ c.if-is_lone.true) c.is_extremum_factor.ensures
