use Rattle.std.proofs.Common.{◌∙◌, ap}
use Rattle.partial_structures.specs.Elements.{labels_in, has_label_of}
use Rattle.partial_structures.specs.Values.{value_view}
use Rattle.partial_structures.proofs.lookups.is_element.Goals as goal

pub returns : goal.returns
returns c =
    c.contains.ensures ∙ ap (has_label_of (labels_in c.args.s.elements.now) c.args.ty) c.value_label.ensures
    ∙ c.args.s.hashed c.args.ty (value_view c.args.value)
