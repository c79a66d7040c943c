use Rattle.std.proofs.Common.{map, rules}
use Rattle.kb_logic.specs.Trees.{terms_of}
use Rattle.kb_logic.specs.Views.{formula_view, term_view}
use Rattle.plain_evaluation.specs.Environments.{env_view}
use Rattle.sentence_guards.proofs.GuardRows.{led-by-guard}
use Rattle.sentence_guards.proofs.guarded.ranges_for.Goals as goal

pub returns-then-is_some-clause-leads : goal.returns-then-is_some-clause-leads
returns-then-is_some-clause-leads c =
    led-by-guard c.args.base.now c.args.sign (formula_view c.args.formula.now) c.in-Some.guard.symbol
    (terms_of (map term_view c.in-Some.guard.args.now)) c.args.bounds.now (env_view c.args.env.now)
    c.in_ok-ranges.ranges (search rules) (search rules) c.in_ok-ranges.ensures.leads
