use Rattle.std.proofs.Common.{◌∙◌, ◌||◌, ap, sym}
use Rattle.std.specs.List.{list_any}
use Rattle.row_tries.specs.Rows.{same_label, same_optional_label}
use Rattle.partial_structures.proofs.ElementLemmas.{added_label, nothing_added}
use Rattle.partial_structures.proofs.elements.add_label.Goals as goal

pub returns-in-None : goal.returns-in-None
returns-in-None c = λ l.
    nothing_added c.args.labels.now.keys l
    ∙ ap (λ o. list_any (same_label l) c.args.labels.now.keys || same_optional_label l o) (sym c.in-None.is)

pub returns-in_ok-insert_full-in-Some : goal.returns-in_ok-insert_full-in-Some
returns-in_ok-insert_full-in-Some c = λ l.
    added_label c.args.labels.now.keys c.insert_full.new.self.keys c.in-Some.label
    c.in_ok-insert_full-in-Some.ensures.keys l
    ∙ ap (λ o. list_any (same_label l) c.args.labels.now.keys || same_optional_label l o) (sym c.in-Some.is)
