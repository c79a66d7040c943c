use Rattle.std.proofs.Common.{sym, ◌∙◌}
use Rattle.aggregate_propagators.proofs.Singles.{stand-once}
use Rattle.aggregate_propagators.proofs.inference.decided.Goals as goal

pub decided_once-requires-clause-once : goal.decided_once-requires-clause-once
decided_once-requires-clause-once c =
    stand-once c.args.parts.now (sym c.is_rising.ensures ∙ c.if-is_rising.true)
