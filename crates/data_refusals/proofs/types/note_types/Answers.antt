use Rattle.std.proofs.Common.{◌∙◌, drop, fold, map, refl, sym, ap}
use Rattle.std.specs.List.{enumerate_from}
use Rattle.std.proofs.lemmas.Option.{slice_get_read}
use Rattle.stage_definitions.specs.DataStage as stage
use Rattle.data_refusals.proofs.Noting.{next_type, nothing_right}
use Rattle.data_refusals.proofs.types.note_types.Goals as goal

pub returns-then-t-places : goal.returns-then-t-places
returns-then-t-places c = λ es h.
    let decls = c.args.decls.now in
    let t = c.loop-t.t in
    ap (λ zs. fold (stage.data_noted decls es) c.loop-t.earliest.first (map stage.type_use zs))
    (sym (nothing_right (enumerate_from t (drop t decls)) c.args.places.now t c.if-t-places.true))
    ∙ c.loop-t.invariant es h

pub loop-t-preserved : goal.loop-t-preserved
loop-t-preserved c = λ es h.
    let decls = c.args.decls.now in
    let t = c.loop-t.t in
    let d = slice_get_read decls _ t c.index-decls-t.result refl c.loop-t-test.true c.index-decls-t.is in
    let x = slice_get_read c.args.types.now _ t c.index-types-t.result refl c.if-t-types.false c.index-types-t.is in
    next_type (stage.data_noted decls es) decls c.args.places.now t _ c.index-decls-t.result c.loop-t.earliest.first _ _
    c.loop-t-test.true c.if-t-places.false c.index-decls-t.is
    (c.note_type.ensures decls es t (h.traits t c.index-decls-t.result c.index-types-t.result d x)
    (h.elements t c.index-decls-t.result c.index-types-t.result d x)) (c.loop-t.invariant es h)
