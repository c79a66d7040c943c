use Rattle.std.proofs.Common.{◌∙◌, sym}
use Rattle.rule_names.proofs.TermLaws.{simple_raw}
use Rattle.rule_names.proofs.simple.+simple.Goals as goal

pub is_simple-returns-then-is_lone : goal.is_simple-returns-then-is_lone
is_simple-returns-then-is_lone t c =
    rw (simple_raw, sym c.is_lone.ensures ∙ c.if-is_lone.true) c.is_simple_factor.ensures
