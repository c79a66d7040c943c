use Rattle.formula_names.proofs.LoneTerms.{seen_as}
use Rattle.rule_names.proofs.TermLaws.{begins_with_factor}
use Rattle.rule_names.proofs.simple.term_place.Goals as goal

pub returns : goal.returns
returns c =
    rw (seen_as c.args.raw.now, begins_with_factor) c.factor_place.ensures
