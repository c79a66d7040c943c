use Rattle.conflict_analysis.proofs.Keys.{inserts-by}
use Rattle.conflict_analysis.proofs.place_sets.insert_far.Goals as goal

pub returns-clause-inserts : goal.returns-clause-inserts
returns-clause-inserts c = inserts-by c.args.far.now.keys c.insert.new.self.keys c.args.place
    c.in_ok-insert.ensures.keys

pub returns-clause-from : goal.returns-clause-from
returns-clause-from c = (inserts-by c.args.far.now.keys c.insert.new.self.keys c.args.place
    c.in_ok-insert.ensures.keys).from
