use Rattle.std.proofs.Common.{arith}
use Rattle.definition_walk.specs.Steps.{CanBeGround}
use Rattle.definition_walk.proofs.RuleSteps.{definition-at}
use Rattle.definition_walk.proofs.definitions.push_definitions.Goals as goal

pub push_definition-requires-clause-rules : goal.push_definition-requires-clause-rules
push_definition-requires-clause-rules c =
    definition-at (CanBeGround c.args.base.now) c.args.definitions.now c.requires.rules
    c.loop-definition.definition-index c.definition-item.result (omega (arith, c.loop-definition-test.true))
    c.definition-item.is
