use Rattle.data_refusals.proofs.TupleSets.{tuple_added}
use Rattle.data_refusals.proofs.tuples.Tuples.add.Goals as goal

pub returns : goal.returns
returns c = tuple_added c.args.self.now.table.keys _ c.args.tuple c.in_ok-insert_full.ensures.keys
