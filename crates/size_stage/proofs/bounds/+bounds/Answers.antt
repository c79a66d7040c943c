use Rattle.std.proofs.Common.{rules, ◌≡◌, ◌++◌, ◌+◌, ◌||◌, ◌∙◌, [], ◌∷◌, map, drop, fold, pos, sym, ap}
use Rattle.kb_logic.specs.Bounds.{exactly, front_bounds, types_of}
use Rattle.kb_logic.specs.Structures.{choices}
use Rattle.kb_logic.specs.Trees.{summands_of, terms_of}
use Rattle.kb_logic.specs.Views.{formula_view, signed_view, term_view}
use Rattle.kb_logic.proofs.ViewsOf.{term_view-Agg}
use Rattle.kb_logic.specs.declared.syntax.Formula.{the_lemmas}
use Rattle.stage_definitions.specs.ClampedBounds.{clamp_interval, clamped_bounds, clamped_factors, clamped_summands}
use Rattle.stage_definitions.specs.ClampedBounds.{clamping_product, clamping_sum}
use Rattle.stage_definitions.specs.SizesStage.{capped}
use Rattle.stage_definitions.specs.Sizes.{formula_bounds, summands_bounds, term_bounds, terms_bounds}
use Rattle.kb_logic.specs.Bounds.{signed_interval}
use Rattle.size_stage.specs.Ranges.{is_wide, range_view, wide_at}
use Rattle.size_stage.proofs.Steps.{summands_at, terms_at}
use Rattle.size_stage.proofs.Walks.{aggregate_of, chain_range, chain_wide, parts_after, term_set, wide_next}
use Rattle.std.proofs.Common.{length}
use Rattle.size_stage.proofs.bounds.+bounds.Goals as goal

pub node-returns-in_ok-range-in-Agg-clause-range : goal.node-returns-in_ok-range-in-Agg-clause-range
node-returns-in_ok-range-in-Agg-clause-range t c =
    let v = c.args.setting.vocab.now in
    let d = c.args.setting.domains.now in
    let bs = c.deref-in-Agg.result.now in
    let w = term_view c.deref-in-Agg-3.result.now in
    let inner = c.in_ok-formula-in-Agg.ensures.scope ∙ c.in_ok-enter-in-Agg.ensures in
    let weight = c.in_ok-range-in-Agg.ensures.range ∙ ap (clamped_bounds v d w) inner in
    let same : c.deref-in-Agg-4.result.now ≡ bs = c.deref-in-Agg-4.ensures.value ∙ sym c.deref-in-Agg.ensures.value in
    let count = c.assignments.ensures ∙ ap (λ xs. capped (length (choices d xs))) same in
    rw (c.in-Agg.is, term_view-Agg, ← c.deref-in-Agg.ensures.value, ← c.deref-in-Agg-3.ensures)
    (c.single-in-Agg.ensures.range
    ∙ aggregate_of c.in-Agg.kind c.assignments.result (length (choices d bs)) (range_view c.in_ok-range-in-Agg.range)
    (clamped_bounds v d w (c.args.scope.now.items ++ types_of bs)) (range_view c.aggregated.result) count weight
    c.aggregated.ensures)

pub node-returns-in_ok-range-in-Agg-clause-own : goal.node-returns-in_ok-range-in-Agg-clause-own
node-returns-in_ok-range-in-Agg-clause-own t c =
    let v = c.args.setting.vocab.now in
    let d = c.args.setting.domains.now in
    let bs = c.deref-in-Agg.result.now in
    let w = term_view c.deref-in-Agg-3.result.now in
    let inner = c.in_ok-formula-in-Agg.ensures.scope ∙ c.in_ok-enter-in-Agg.ensures in
    let weight = c.in_ok-range-in-Agg.ensures.range ∙ ap (clamped_bounds v d w) inner in
    let same : c.deref-in-Agg-4.result.now ≡ bs = c.deref-in-Agg-4.ensures.value ∙ sym c.deref-in-Agg.ensures.value in
    let count = c.assignments.ensures ∙ ap (λ xs. capped (length (choices d xs))) same in
    rw (c.in-Agg.is, term_view-Agg, ← c.deref-in-Agg.ensures.value, ← c.deref-in-Agg-3.ensures)
    (c.single-in-Agg.ensures.wide
    ∙ ap (λ i. is_wide (i ∷ []))
    (aggregate_of c.in-Agg.kind c.assignments.result (length (choices d bs)) (range_view c.in_ok-range-in-Agg.range)
    (clamped_bounds v d w (c.args.scope.now.items ++ types_of bs)) (range_view c.aggregated.result) count weight
    c.aggregated.ensures))

pub node-returns-in_ok-range-in-Agg-clause-wide : goal.node-returns-in_ok-range-in-Agg-clause-wide
node-returns-in_ok-range-in-Agg-clause-wide t c =
    let v = c.args.setting.vocab.now in
    let d = c.args.setting.domains.now in
    let bs = c.deref-in-Agg.result.now in
    let f = formula_view c.deref-in-Agg-2.result.now in
    let w = term_view c.deref-in-Agg-3.result.now in
    let scope = c.args.scope.now.items ++ types_of bs in
    let entered = c.in_ok-enter-in-Agg.ensures in
    let inner = c.in_ok-formula-in-Agg.ensures.scope ∙ entered in
    let first = c.in_ok-formula-in-Agg.ensures.wide ∙ ap (λ xs. c.args.wide.now.items ++ wide_at
    (formula_bounds v d f xs)) entered in
    let second = c.in_ok-range-in-Agg.ensures.wide ∙ ap (λ xs. c.formula.new.wide.items ++ wide_at
    (term_bounds v d w xs)) inner in
    rw (
      c.in-Agg.is,
      term_view-Agg,
      ← c.deref-in-Agg.ensures.value,
      ← c.deref-in-Agg-2.ensures,
      ← c.deref-in-Agg-3.ensures,
    )
    (parts_after c.args.wide.now.items c.formula.new.wide.items c.term.new.wide.items (formula_bounds v d f scope)
    (term_bounds v d w scope) first second)

pub term-returns-clause-wide : goal.term-returns-clause-wide
term-returns-clause-wide t c =
    term_set c.args.setting.vocab.now c.args.setting.domains.now (term_view c.args.of.now) c.args.scope.now.items c.args.wide.now.items
    c.push.new.self.items c.node.new.wide.items c.len-at.result c.in_ok-found.found.wide
    (c.len-at.ensures ∙ search rules) c.in_ok-push.ensures.items c.in_ok-found.ensures.wide c.in_ok-found.ensures.own

pub sum-loop-part-preserved : goal.sum-loop-part-preserved
sum-loop-part-preserved t c =
    let v = c.args.setting.vocab.now in
    let d = c.args.setting.domains.now in
    let scope = c.args.scope.now.items in
    let parts = c.args.parts.now in
    let i = c.loop-part.part-index in
    let part = c.part-item.result in
    let rest = summands_of (map signed_view (drop (i + 1) parts)) in
    let next = summands_at parts i part c.loop-part-test.true c.part-item.is in
    let inv = c.loop-part.invariant in
    let own = signed_interval part.minus (clamped_bounds v d (term_view part.term) scope) in
    let range = c.in_ok-next.ensures.range ∙ ap (clamped_bounds v d (term_view part.term)) inv.0 in
    let signed = c.signed.ensures ∙ ap (λ x. clamp_interval (signed_interval part.minus x)) range in
    let total = c.plus-range.ensures ∙ ap (clamping_sum (range_view c.loop-part.range)) signed in
    let wide = c.in_ok-next.ensures.wide ∙ ap (λ xs. c.loop-part.wide.items ++ wide_at
    (term_bounds v d (term_view part.term) xs)) inv.0 in (
      c.in_ok-next.ensures.scope ∙ inv.0,
      wide_next c.loop-part.wide.items c.term.new.wide.items (c.args.wide.now.items ++ wide_at
          (summands_bounds v d (summands_of (map signed_view parts)) scope))
          (term_bounds v d (term_view part.term) scope) (summands_bounds v d rest scope) wide
          (ap (λ ss. c.loop-part.wide.items ++ wide_at (summands_bounds v d ss scope)) (sym next) ∙ inv.1),
      chain_range clamping_sum (range_view c.loop-part.range) (range_view c.plus-range.result) (clamp_interval own)
          (clamped_summands v d rest scope) (fold clamping_sum (exactly (pos 0))
          (clamped_summands v d (summands_of (map signed_view parts)) scope)) total
          (ap (λ ss. fold clamping_sum (range_view c.loop-part.range) (clamped_summands v d ss scope))
          (sym next) ∙ inv.2),
      chain_wide clamping_sum (range_view c.loop-part.range) (range_view c.plus-range.result) (clamp_interval own)
          (clamped_summands v d rest scope) c.loop-part.any c.or_wide-any.result
          (is_wide (front_bounds clamping_sum (exactly (pos 0)) (clamped_summands v d
          (summands_of (map signed_view parts)) scope))) total c.or_wide-any.ensures
          (ap (λ ss. c.loop-part.any || is_wide (front_bounds clamping_sum (range_view c.loop-part.range)
          (clamped_summands v d ss scope))) (sym next) ∙ inv.3),
    )

pub product-loop-factor-preserved : goal.product-loop-factor-preserved
product-loop-factor-preserved t c =
    let v = c.args.setting.vocab.now in
    let d = c.args.setting.domains.now in
    let scope = c.args.scope.now.items in
    let factors = c.args.factors.now in
    let i = c.loop-factor.factor-index in
    let factor = c.factor-item.result in
    let rest = terms_of (map term_view (drop (i + 1) factors)) in
    let next = terms_at factors i factor c.loop-factor-test.true c.factor-item.is in
    let inv = c.loop-factor.invariant in
    let own = clamped_bounds v d (term_view factor) scope in
    let range = c.in_ok-next.ensures.range ∙ ap (clamped_bounds v d (term_view factor)) inv.0 in
    let total = c.times-range.ensures ∙ ap (clamping_product (range_view c.loop-factor.range)) range in
    let wide = c.in_ok-next.ensures.wide ∙ ap (λ xs. c.loop-factor.wide.items ++ wide_at
    (term_bounds v d (term_view factor) xs)) inv.0 in (
      c.in_ok-next.ensures.scope ∙ inv.0,
      wide_next c.loop-factor.wide.items c.term.new.wide.items (c.args.wide.now.items ++ wide_at
          (terms_bounds v d (terms_of (map term_view factors)) scope)) (term_bounds v d (term_view factor) scope)
          (terms_bounds v d rest scope) wide
          (ap (λ ss. c.loop-factor.wide.items ++ wide_at (terms_bounds v d ss scope)) (sym next) ∙ inv.1),
      chain_range clamping_product (range_view c.loop-factor.range) (range_view c.times-range.result) own
          (clamped_factors v d rest scope) (fold clamping_product (exactly (pos 1))
          (clamped_factors v d (terms_of (map term_view factors)) scope)) total
          (ap (λ ss. fold clamping_product (range_view c.loop-factor.range) (clamped_factors v d ss scope))
          (sym next) ∙ inv.2),
      chain_wide clamping_product (range_view c.loop-factor.range) (range_view c.times-range.result) own
          (clamped_factors v d rest scope) c.loop-factor.any c.or_wide-any.result
          (is_wide (front_bounds clamping_product (exactly (pos 1))
          (clamped_factors v d (terms_of (map term_view factors)) scope))) total c.or_wide-any.ensures
          (ap (λ ss. c.loop-factor.any || is_wide (front_bounds clamping_product (range_view c.loop-factor.range)
          (clamped_factors v d ss scope))) (sym next) ∙ inv.3),
    )

pub formula-returns-in-All-clause-wide : goal.formula-returns-in-All-clause-wide
formula-returns-in-All-clause-wide t c = search (rules, the_lemmas)

pub formula-returns-in-And-clause-wide : goal.formula-returns-in-And-clause-wide
formula-returns-in-And-clause-wide t c = search (rules, the_lemmas)

pub formula-returns-in-Any-clause-wide : goal.formula-returns-in-Any-clause-wide
formula-returns-in-Any-clause-wide t c = search (rules, the_lemmas)

pub formula-returns-in-Atom-clause-wide : goal.formula-returns-in-Atom-clause-wide
formula-returns-in-Atom-clause-wide t c = search (rules, the_lemmas)

pub formula-returns-in-False-clause-wide : goal.formula-returns-in-False-clause-wide
formula-returns-in-False-clause-wide t c = search (rules, the_lemmas)

pub formula-returns-in-Not-clause-wide : goal.formula-returns-in-Not-clause-wide
formula-returns-in-Not-clause-wide t c = search (rules, the_lemmas)

pub formula-returns-in-Number-clause-wide : goal.formula-returns-in-Number-clause-wide
formula-returns-in-Number-clause-wide t c = search (rules, the_lemmas)

pub formula-returns-in-Or-clause-wide : goal.formula-returns-in-Or-clause-wide
formula-returns-in-Or-clause-wide t c = search (rules, the_lemmas)

pub formula-returns-in-True-clause-wide : goal.formula-returns-in-True-clause-wide
formula-returns-in-True-clause-wide t c = search (rules, the_lemmas)

pub node-returns-in-Int-clause-own : goal.node-returns-in-Int-clause-own
node-returns-in-Int-clause-own t c = search (rules, the_lemmas)

pub node-returns-in-Int-clause-range : goal.node-returns-in-Int-clause-range
node-returns-in-Int-clause-range t c = search (rules, the_lemmas)

pub node-returns-in-Int-clause-wide : goal.node-returns-in-Int-clause-wide
node-returns-in-Int-clause-wide t c = search (rules, the_lemmas)

pub node-returns-in-Made-clause-own : goal.node-returns-in-Made-clause-own
node-returns-in-Made-clause-own t c = search (rules, the_lemmas)

pub node-returns-in-Made-clause-range : goal.node-returns-in-Made-clause-range
node-returns-in-Made-clause-range t c = search (rules, the_lemmas)

pub node-returns-in-Made-clause-wide : goal.node-returns-in-Made-clause-wide
node-returns-in-Made-clause-wide t c = search (rules, the_lemmas)

pub node-returns-in-Product-clause-own : goal.node-returns-in-Product-clause-own
node-returns-in-Product-clause-own t c = search (rules, the_lemmas)

pub node-returns-in-Product-clause-range : goal.node-returns-in-Product-clause-range
node-returns-in-Product-clause-range t c = search (rules, the_lemmas)

pub node-returns-in-Product-clause-wide : goal.node-returns-in-Product-clause-wide
node-returns-in-Product-clause-wide t c = search (rules, the_lemmas)

pub node-returns-in-Sum-clause-own : goal.node-returns-in-Sum-clause-own
node-returns-in-Sum-clause-own t c = search (rules, the_lemmas)

pub node-returns-in-Sum-clause-range : goal.node-returns-in-Sum-clause-range
node-returns-in-Sum-clause-range t c = search (rules, the_lemmas)

pub node-returns-in-Sum-clause-wide : goal.node-returns-in-Sum-clause-wide
node-returns-in-Sum-clause-wide t c = search (rules, the_lemmas)

pub node-returns-in-Var-clause-own : goal.node-returns-in-Var-clause-own
node-returns-in-Var-clause-own t c = search (rules, the_lemmas)

pub node-returns-in-Var-clause-range : goal.node-returns-in-Var-clause-range
node-returns-in-Var-clause-range t c = search (rules, the_lemmas)

pub node-returns-in-Var-clause-wide : goal.node-returns-in-Var-clause-wide
node-returns-in-Var-clause-wide t c = search (rules, the_lemmas)

pub node-returns-in_ok-terms-in-Apply-clause-own : goal.node-returns-in_ok-terms-in-Apply-clause-own
node-returns-in_ok-terms-in-Apply-clause-own t c = search (rules, the_lemmas)

pub node-returns-in_ok-terms-in-Apply-clause-range : goal.node-returns-in_ok-terms-in-Apply-clause-range
node-returns-in_ok-terms-in-Apply-clause-range t c = search (rules, the_lemmas)

pub node-returns-in_ok-terms-in-Apply-clause-wide : goal.node-returns-in_ok-terms-in-Apply-clause-wide
node-returns-in_ok-terms-in-Apply-clause-wide t c = search (rules, the_lemmas)
