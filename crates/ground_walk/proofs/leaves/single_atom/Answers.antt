use Rattle.std.proofs.Common.{Some, map, sym, ap, ◌∙◌, arith}
use Rattle.std.proofs.lemmas.List.{nil_from_length}
use Rattle.term_values.specs.RowValues.{row_value}
use Rattle.ground_walk.proofs.LeafSteps.{single-row}
use Rattle.ground_walk.proofs.leaves.single_atom.Goals as goal

pub returns : goal.returns
returns c =
    single-row c.args.base.now c.args.symbol c.args.rows.now c.guards.result.now (map row_value c.values.result.now)
    (omega arith) c.guards.ensures (nil_from_length c.guards.result.now (omega arith)) c.values.ensures
    ∙ ap Some (sym c.atom_answer.ensures)
