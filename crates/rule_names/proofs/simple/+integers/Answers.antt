use Rattle.std.proofs.Common.{◌∙◌, sym}
use Rattle.rule_names.proofs.TermLaws.{integer_raw}
use Rattle.rule_names.proofs.simple.+integers.Goals as goal

pub is_integer_term-returns-then-is_lone : goal.is_integer_term-returns-then-is_lone
is_integer_term-returns-then-is_lone t c =
    rw (integer_raw c.args.raw.now, sym c.is_lone.ensures ∙ c.if-is_lone.true) c.is_integer.ensures
