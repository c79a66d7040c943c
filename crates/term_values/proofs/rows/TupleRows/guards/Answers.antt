use Rattle.std.proofs.Common.{arith, sym, ap, ◌∙◌, option_map, Some, length, slice_range}
use Rattle.term_values.specs.FlatRows.{origin}
use Rattle.term_values.proofs.FlatLemmas.{index_within, row_read, span_read}
use Rattle.term_values.proofs.rows.TupleRows.guards.Goals as goal

pub span_of-requires : goal.span_of-requires
span_of-requires c =
    let i = c.self.inside in
    let h = index_within i.guards.items i.values.items origin i.ends.items c.args.self.now c.args.row c.self.view_is
    c.requires in
    let l = ap length c.as_slice.ensures in
    omega arith

pub part-requires : goal.part-requires
part-requires c =
    let i = c.self.inside in
    let h = span_read c.as_slice.result.now i.ends.items (length i.guards.items)
    (length i.values.items) c.args.row c.span_of.result.0 c.span_of.result.1 c.as_slice.ensures c.self.invariant
    c.span_of.ensures.start c.span_of.ensures.end in
    let e = h.guards_end in
    let l = ap length c.as_slice-2.ensures in
    record { rising = h.guards; within = omega arith }

pub returns : goal.returns
returns c =
    let i = c.self.inside in
    let s = c.span_of.result.0 in
    let e = c.span_of.result.1 in
    let row = row_read i.guards.items i.values.items c.as_slice.result.now i.ends.items c.args.self.now c.args.row s e
    c.self.view_is c.as_slice.ensures c.span_of.ensures.start c.span_of.ensures.end in
    let part = c.part.ensures ∙ ap (λ l. slice_range l s.guards e.guards) c.as_slice-2.ensures in
    ap (option_map (λ r. r.0)) row ∙ ap Some (sym part)
