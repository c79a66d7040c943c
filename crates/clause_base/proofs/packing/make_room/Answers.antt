use Rattle.std.proofs.Common.{◌∙◌}
use Rattle.clause_base.proofs.ShortFacts.{written-same}
use Rattle.clause_base.proofs.packing.make_room.Goals as goal

pub returns-in_err-reserve : goal.returns-in_err-reserve
returns-in_err-reserve c = written-same c.loop-list.lists c.loop-list.list c.reserve.new.self c.index_mut.result.now
    c.index_mut.ensures.value c.reserve.ensures.items ∙ c.loop-list.invariant

pub loop-list-preserved : goal.loop-list-preserved
loop-list-preserved c = written-same c.loop-list.lists c.loop-list.list c.reserve.new.self c.index_mut.result.now
    c.index_mut.ensures.value c.reserve.ensures.items ∙ c.loop-list.invariant
