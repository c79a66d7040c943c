use Rattle.consult_text.proofs.Forms.{range_at}
use Rattle.consult_text.proofs.lookup.make_row.Goals as goal

pub make_elem-requires : goal.make_elem-requires
make_elem-requires c = range_at c.args.texts.now c.loop-text.text-index _ c.loop-text-test.true c.requires
