use Rattle.std.proofs.Common.{sym, ◌∙◌, ap, Some}
use Rattle.std.proofs.lemmas.Option.{slice_get-get_or}
use Rattle.term_values.proofs.IndexLemmas.{no_index, index_at, slice_none}
use Rattle.term_values.proofs.tuple_places.elem_place.Goals as goal

pub returns-in-None : goal.returns-in-None
returns-in-None c = λ domains each. no_index c.args.indexes.now domains c.args.ty _ each
    (slice_none c.args.indexes.now c.args.ty c.in-None.ensures.lookup.3)

pub returns-in-Some : goal.returns-in-Some
returns-in-Some c = λ domains each.
    let d = c.in-Some.index.now in
    let h = c.in-Some.ensures.lookup in
    c.find.ensures ∙ index_at c.args.indexes.now domains c.args.ty d _ each
    (slice_get-get_or c.args.indexes.now c.args.ty d h.3.0 ∙ ap Some (sym h.1))
