use Rattle.std.proofs.Common.{◌≡◌, ◌∙◌, true, Some, sym, ap, rules}
use Rattle.row_tries.specs.Words.{words_in}
use Rattle.partial_structures.specs.Tally.{row_status as status_of_row, parts_status, parts_of}
use Rattle.partial_structures.proofs.Tallies.{parts_are}
use Rattle.partial_structures.proofs.extension.row_status.Goals as goal

pub returns-in-Some : goal.returns-in-Some
returns-in-Some c =
    let a = c.args in
    let function : a.function ≡ true = search rules in
    let parts : parts_of a.row.now ≡ Some (c.in-Some.args.now, c.in-Some.value.now) =
    ap parts_of (c.in-Some.ensures.cases.0) ∙ parts_are c.in-Some.args.now c.in-Some.value.now in
    c.function_status.ensures
    ∙ sym (ap (λ f. status_of_row (words_in a.rows.now.words) a.rows.now.nodes.entries a.closed f a.symbol
    a.row.now) function
    ∙ ap (parts_status (words_in a.rows.now.words) a.rows.now.nodes.entries a.closed a.symbol) parts)
