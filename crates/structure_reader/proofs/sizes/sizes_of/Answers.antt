use Rattle.std.proofs.Common.{subst}
use Rattle.std.proofs.lemmas.Result.{IfOk-weaker, IfErr-weaker}
use Rattle.size_stage.specs.Measures.{measure_view, FailsWith}
use Rattle.stage_definitions.specs.SizesStage.{AreSizesOf}
use Rattle.type_derivation.specs.TypedViews.{typed_view}
use Rattle.structure_reader.proofs.NextDomain.{all_domains}
use Rattle.structure_reader.proofs.sizes.sizes_of.Goals as goal

pub returns-clause-ok : goal.returns-clause-ok
returns-clause-ok c =
    let f = typed_view c.args.kb.now in
    IfOk-weaker c.measure_types.result _ _ (λ m h es all. subst (λ ds. AreSizesOf f c.args.theory ds (measure_view m))
    (all_domains c.args.kb.now.vocab.types es c.args.types.now all) h) c.measure_types.ensures.ok

pub returns-clause-err : goal.returns-clause-err
returns-clause-err c =
    let f = typed_view c.args.kb.now in
    IfErr-weaker c.measure_types.result _ _ (λ e h es all. subst (λ ds. FailsWith f c.args.theory ds e)
    (all_domains c.args.kb.now.vocab.types es c.args.types.now all) h) c.measure_types.ensures.err
