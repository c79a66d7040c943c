use Rattle.std.proofs.Common.{◌∙◌, drop, fold, sym, ap}
use Rattle.size_stage.specs.Notes.{wide_noted}
use Rattle.size_stage.proofs.Noting.{nothing_right}
use Rattle.size_stage.proofs.notes.note_terms.Goals as goal

pub returns-then-i-wide : goal.returns-then-i-wide
returns-then-i-wide c =
    let i = c.loop-i.i in
    ap (fold wide_noted c.loop-i.earliest.first) (sym (nothing_right (drop i c.args.places.now) c.args.wide.now i
    c.if-i-wide.true)) ∙ c.loop-i.invariant
