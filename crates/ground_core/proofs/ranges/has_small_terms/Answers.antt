use Rattle.std.proofs.Common.{All, IsTrue, ◌↔◌, subst}
use Rattle.ground_core.specs.Ranges.{IsSmall}
use Rattle.ground_core.proofs.RangeFacts.{small-in-range}
use Rattle.ground_core.proofs.ranges.has_small_terms.Goals as goal

pub returns-clause-small : goal.returns-clause-small
returns-clause-small c = subst (λ ts. IsTrue c.are_small.result ↔ All IsSmall ts) c.terms.ensures.value
    c.are_small.ensures

pub returns-clause-in_range : goal.returns-clause-in_range
returns-clause-in_range c = λ e. small-in-range c.args.problem.now (subst (All IsSmall) c.terms.ensures.value
    (c.are_small.ensures.0 e))
