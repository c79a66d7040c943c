use Rattle.std.proofs.Common.{◌∙◌, fold, map, sym, ap}
use Rattle.stage_definitions.specs.DataStage as stage
use Rattle.data_refusals.proofs.Noting.{next_argument, no_integers}
use Rattle.data_refusals.proofs.arguments.note_placed.Goals as goal

pub returns-then-i-found : goal.returns-then-i-found
returns-then-i-found c = λ all es h.
    ap (λ xs. fold (stage.data_noted all es) c.loop-i.earliest.first (map stage.argument xs))
    (sym (no_integers _ c.args.found.now c.loop-i.i c.if-i-found.true)) ∙ c.loop-i.invariant all es h

pub loop-i-preserved : goal.loop-i-preserved
loop-i-preserved c = λ all es h.
    next_argument (stage.data_noted all es) c.args.places.now c.args.found.now c.loop-i.i _ _ c.loop-i.earliest.first _
    _ c.loop-i-test.true c.if-i-found.false (c.note_one.ensures all es h) (c.loop-i.invariant all es h)
