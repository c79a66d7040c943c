use Rattle.std.proofs.Common.{arith}
use Rattle.std.proofs.lemmas.Grind.{common_steps}
use Rattle.structure_entries.proofs.entries.entries.Goals as goal

pub loop-raw-preserved : goal.loop-raw-preserved
loop-raw-preserved c = let h = c.in_ok-entry.ensures c.args.vocab.now c.in_ok-subjects.ensures in
    grind (arith, common_steps, h)
