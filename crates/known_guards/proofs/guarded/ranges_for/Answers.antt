use Rattle.std.proofs.Common.{map}
use Rattle.kb_logic.specs.Trees.{terms_of}
use Rattle.kb_logic.specs.Views.{formula_view, term_view}
use Rattle.known_guards.proofs.GuardRows.{led-by-guard}
use Rattle.known_guards.proofs.guarded.ranges_for.Goals as goal

pub returns-then-is_some-clause-leads : goal.returns-then-is_some-clause-leads
returns-then-is_some-clause-leads c =
    let k = c.args.known.now in
    led-by-guard k c.args.v (formula_view c.args.formula.now) c.in-Some.guard.symbol
    (terms_of (map term_view c.in-Some.guard.args.now)) c.args.bounds.now c.in_ok-ranges.ranges
    (c.in-Some.ensures.guard k) c.in_ok-ranges.ensures.leads
