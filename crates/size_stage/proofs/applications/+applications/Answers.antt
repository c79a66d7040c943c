use Rattle.std.proofs.Common.{◌∙◌, ◌+◌, ◌*◌, map, drop, sym, ap}
use Rattle.kb_logic.specs.Trees.{summands_of, terms_of}
use Rattle.kb_logic.specs.Views.{signed_view, term_view}
use Rattle.kb_logic.specs.Weights.{application_count, applications_count, summands_count}
use Rattle.stage_definitions.specs.SizesStage.{capped}
use Rattle.size_stage.proofs.Capping.{factor_next, stays}
use Rattle.size_stage.proofs.Steps.{terms_at, summands_at}
use Rattle.size_stage.proofs.applications.+applications.Goals as goal

pub in_summands-loop-part-preserved : goal.in_summands-loop-part-preserved
in_summands-loop-part-preserved t c =
    let v = c.args.vocab.now in
    let d = c.args.domains.now in
    let parts = c.args.parts.now in
    let i = c.loop-part.part-index in
    let part = c.part-item.result in
    let next = ap (summands_count v d) (summands_at parts i part c.loop-part-test.true c.part-item.is) in (
      factor_next c.loop-part.count c.times-count.result c.in_term.result (application_count v d (term_view part.term))
          (summands_count v d (summands_of (map signed_view (drop (i + 1) parts))))
          (summands_count v d (summands_of (map signed_view parts)))
          c.times-count.ensures c.in_term.ensures (ap (λ n. capped (c.loop-part.count * n)) (sym next)
          ∙ c.loop-part.invariant.0),
      stays c.times-count.result (c.loop-part.count * c.in_term.result) c.times-count.ensures,
    )

pub in_terms-loop-term-preserved : goal.in_terms-loop-term-preserved
in_terms-loop-term-preserved t c =
    let v = c.args.vocab.now in
    let d = c.args.domains.now in
    let terms = c.args.terms.now in
    let i = c.loop-term.term-index in
    let term = c.term-item.result in
    let next = ap (applications_count v d) (terms_at terms i term c.loop-term-test.true c.term-item.is) in (
      factor_next c.loop-term.count c.times-count.result c.in_term.result (application_count v d (term_view term))
          (applications_count v d (terms_of (map term_view (drop (i + 1) terms))))
          (applications_count v d (terms_of (map term_view terms)))
          c.times-count.ensures c.in_term.ensures (ap (λ n. capped (c.loop-term.count * n)) (sym next)
          ∙ c.loop-term.invariant.0),
      stays c.times-count.result (c.loop-term.count * c.in_term.result) c.times-count.ensures,
    )
