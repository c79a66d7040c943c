use Rattle.std.proofs.Common.{map}
use Rattle.structure_entries.specs.SaidViews.{said_view}
use Rattle.data_domains.proofs.Wholes.{all_full, all_given}
use Rattle.data_domains.proofs.types.types_of.Goals as goal

pub settle_all-requires : goal.settle_all-requires
settle_all-requires c = all_full c.args.types.now (map said_view c.args.entries.now) c.in_ok-all.all.items
    c.add_entries.new.all.items c.in_ok-all.ensures.count c.in_ok-add_entries.ensures.count c.in_ok-all.ensures.each
    c.in_ok-add_entries.ensures.given

pub returns : goal.returns
returns c = all_given c.args.types.now (map said_view c.args.entries.now) c.in_ok-all.all.items
    c.add_entries.new.all.items c.settle_all.new.all.items c.in_ok-all.ensures.count c.in_ok-add_entries.ensures.count
    c.in_ok-settle_all.ensures.count c.in_ok-all.ensures.each c.in_ok-add_entries.ensures.given
    c.in_ok-settle_all.ensures.settled
