use Rattle.std.proofs.Common.{◌∙◌, ap, sym}
use Rattle.std.specs.List.{list_any}
use Rattle.partial_structures.specs.Elements.{has_label_of, labels_in}
use Rattle.row_tries.specs.Rows.{same_label}
use Rattle.partial_structures.proofs.ElementLemmas.{label_found, labels_of_none, labels_of_some}
use Rattle.partial_structures.proofs.elements.Elements.contains.Goals as goal

pub returns-in-Some-table : goal.returns-in-Some-table
returns-in-Some-table c =
    let l = c.in-Some.label in
    let labels = c.in-Some-table.labels.now in
    c.contains.ensures ∙ label_found l labels.keys
    ∙ ap (list_any (same_label l)) (sym (labels_of_some (λ t. t.keys) c.args.self.now.tables.items c.args.ty labels
    c.in-Some-table.ensures))
    ∙ ap (has_label_of (labels_in c.args.self.now) c.args.ty) (sym c.in-Some.is)

pub returns-in-None-table : goal.returns-in-None-table
returns-in-None-table c =
    ap (list_any (same_label c.in-Some.label)) (sym (labels_of_none (λ t. t.keys) c.args.self.now.tables.items
    c.args.ty c.in-None-table.ensures))
    ∙ ap (has_label_of (labels_in c.args.self.now) c.args.ty) (sym c.in-Some.is)
