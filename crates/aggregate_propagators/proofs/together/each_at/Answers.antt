use Rattle.std.proofs.Common.{sym, ◌∙◌}
use Rattle.aggregate_propagators.proofs.Singles.{stand-once}
use Rattle.aggregate_propagators.proofs.together.each_at.Goals as goal

pub each_known-requires-clause-once : goal.each_known-requires-clause-once
each_known-requires-clause-once c = stand-once c.args.parts.now (sym c.is_rising.ensures ∙ c.if-is_rising.true)
