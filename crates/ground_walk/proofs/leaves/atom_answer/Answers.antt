use Rattle.std.proofs.Common.{map, ap, ◌∙◌}
use Rattle.term_values.specs.RowValues.{row_value}
use Rattle.term_values.specs.GroundBases.{row_index, tuples_at}
use Rattle.def_ground.specs.Forms.{answer_of_atom}
use Rattle.ground_walk.proofs.LeafSteps.{answer-at, answer-nowhere}
use Rattle.ground_walk.proofs.leaves.atom_answer.Goals as goal

pub returns-in-Some : goal.returns-in-Some
returns-in-Some c =
    let b = c.args.base.now in
    let o = row_index (tuples_at b c.args.symbol) (map row_value c.args.values.now) in
    c.of_atom.ensures ∙ ap (λ k. answer_of_atom k c.in-Some.var) c.known.ensures
    ∙ answer-at b c.args.symbol c.in-Some.var o c.in-Some.ensures

pub returns-in-None : goal.returns-in-None
returns-in-None c =
    let b = c.args.base.now in
    let o = row_index (tuples_at b c.args.symbol) (map row_value c.args.values.now) in
    answer-nowhere b c.args.symbol o c.in-None.ensures
