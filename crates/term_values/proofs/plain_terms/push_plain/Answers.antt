use Rattle.std.proofs.Common.{arith}
use Rattle.plain_evaluation.specs.Environments.{env_view}
use Rattle.term_values.proofs.PlainLemmas.{plain_all}
use Rattle.term_values.proofs.plain_terms.push_plain.Goals as goal

pub returns : goal.returns
returns c =
    λ _. plain_all c.args.base.now (env_view c.args.env.now) c.args.terms.now c.loop-term.term-index
    c.loop-term.values.items (omega (arith, c.loop-term-test.false)) c.loop-term.invariant
