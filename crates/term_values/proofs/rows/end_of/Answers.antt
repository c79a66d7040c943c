use Rattle.std.proofs.Common.{◌∙◌, arith}
use Rattle.term_values.specs.FlatRows.{origin}
use Rattle.term_values.proofs.FlatLemmas.{start_after}
use Rattle.term_values.proofs.rows.end_of.Goals as goal

pub returns-in-Some : goal.returns-in-Some
returns-in-Some c =
    let w = c.in-Some.ensures.item in
    let some = w.3.0 in
    w.1 ∙ start_after origin c.in-Some.end.now c.args.ends.now (λ z. omega arith)
