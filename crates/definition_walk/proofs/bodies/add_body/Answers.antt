use Rattle.definition_walk.proofs.BodyFacts.{put-body, put-within}
use Rattle.definition_walk.proofs.bodies.add_body.Goals as goal

pub returns-clause-more : goal.returns-clause-more
returns-clause-more c = put-body c.args.lists.now c.args.place c.push.new.self c.index_mut.result.now c.args.body
    c.requires c.index_mut.ensures.value c.in_ok-push.ensures.items

pub returns-clause-within : goal.returns-clause-within
returns-clause-within c = put-within c.args.lists.now c.args.place c.push.new.self c.index_mut.result.now c.args.body
    c.requires c.index_mut.ensures.value c.in_ok-push.ensures.items
