use Rattle.std.proofs.Common.{◌∙◌, map, sym, arith}
use Rattle.std.proofs.lemmas.Grind.{common_steps}
use Rattle.grammar.specs.BlockView.{item_view}
use Rattle.stage_definitions.specs.DataEntries.{argument_types}
use Rattle.structure_entries.specs.EntryViews.{items_of, spot_view, subject_view}
use Rattle.structure_entries.proofs.Spotted.{no_type, no_item, next_item}
use Rattle.structure_entries.proofs.spots.add_items.Goals as goal

pub returns-in_default : goal.returns-in_default
returns-in_default c =
    let x = subject_view c.args.subject in
    no_item x _ (items_of c.loop-i.rest) (map spot_view c.loop-i.spots.items) _ c.in_default.ensures c.loop-i.invariant

pub returns-in_default-argument_type : goal.returns-in_default-argument_type
returns-in_default-argument_type c =
    let x = subject_view c.args.subject in
    no_type x (argument_types x) (items_of c.loop-i.rest) c.loop-i.i (map spot_view c.loop-i.spots.items) _
    (sym c.argument_type.ensures ∙ c.in_default-argument_type.is) c.loop-i.invariant

pub loop-i-preserved : goal.loop-i-preserved
loop-i-preserved c =
    let x = subject_view c.args.subject in
    next_item x (argument_types x) (items_of c.loop-i.rest) (items_of c.in-Some.after) (item_view c.in-Some.item.now)
    c.loop-i.i c.in-Some-argument_type.ty (map spot_view c.loop-i.spots.items) (map spot_view c.push.new.self.items) _
    (sym c.argument_type.ensures ∙ c.in-Some-argument_type.is) c.in-Some.ensures (grind (arith, common_steps))
    c.loop-i.invariant
