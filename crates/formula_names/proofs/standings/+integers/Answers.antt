use Rattle.std.proofs.Common.{◌∙◌, sym}
use Rattle.formula_names.proofs.Scaled.{signed_raw}
use Rattle.formula_names.proofs.standings.+integers.Goals as goal

pub is_signed_alone-returns-then-is_lone : goal.is_signed_alone-returns-then-is_lone
is_signed_alone-returns-then-is_lone t c =
    rw (signed_raw c.args.raw.now, sym c.is_lone.ensures ∙ c.if-is_lone.true) c.is_signed_integer.ensures
