use Rattle.std.proofs.Common.{◌<◌, arith, length}
use Rattle.std.proofs.lemmas.Grind.{common_steps}
use Rattle.grammar.specs.declared.raw.RawTermTree.{out-RawTermTree}
use Rattle.formula_names.proofs.Scaled.{operands_raw}
use Rattle.formula_names.proofs.standings.operands_stand.Goals as goal

pub returns-else-is_empty : goal.returns-else-is_empty
returns-else-is_empty c =
    let some : 0 < length (out-RawTermTree c.args.raw.now).more = grind (arith, common_steps) in
    rw (operands_raw c.args.standing c.args.raw.now some) c.in_sum.ensures
