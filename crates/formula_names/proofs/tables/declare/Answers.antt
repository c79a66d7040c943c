use Rattle.std.proofs.Common.{◌∙◌, false, is_some, ◌≡◌, rules}
use Rattle.stage_definitions.specs.Names.{meaning_in}
use Rattle.formula_names.specs.Meanings.{names_in}
use Rattle.std.specs.Str.{bytes_eq}
use Rattle.indexmap.proofs.CallerLemmas.{insert_entry-new}
use Rattle.formula_names.proofs.Listed.{added, absent_in}
use Rattle.formula_names.proofs.tables.declare.Goals as goal

pub returns-in_ok-insert : goal.returns-in_ok-insert
returns-in_ok-insert c =
    let absent : is_some (meaning_in (names_in c.args.table.now) c.args.word.now) ≡ false = search rules in
    added c.args.table.now.meanings.entries _ c.args.word c.args.meaning
    (c.in_ok-insert.ensures.entries ∙ insert_entry-new (λ x y. bytes_eq x.now y.now) c.args.table.now.meanings
    c.args.word c.args.meaning (absent_in c.args.table.now.meanings.entries c.args.word.now absent))
    absent
