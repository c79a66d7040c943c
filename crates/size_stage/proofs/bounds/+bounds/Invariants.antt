use Rattle.std.proofs.Common.{◌≡◌, ◌++◌, ◌||◌, pos, drop, map, fold}
use Rattle.kb_logic.specs.Bounds.{exactly, front_bounds}
use Rattle.kb_logic.specs.Trees.{formulas_of, summands_of, terms_of}
use Rattle.kb_logic.specs.Views.{formula_view, signed_view, term_view}
use Rattle.stage_definitions.specs.ClampedBounds.{clamped_factors, clamped_summands, clamping_product, clamping_sum}
use Rattle.stage_definitions.specs.Sizes.{formulas_bounds, summands_bounds, terms_bounds}
use Rattle.size_stage.specs.Ranges.{is_wide, range_view, wide_at}
use Rattle.size_stage.proofs.bounds.+bounds.Given as goal

abbrev pub invariant-sum-loop-part : goal.invariant-sum-loop-part
invariant-sum-loop-part l =
    let left = summands_of (map signed_view (drop l.part-index l.parts)) in
    let all = summands_of (map signed_view l.parts) in
    (l.scope.items ≡ l.fn.scope.items)
    × (l.wide.items ++ wide_at (summands_bounds l.setting.vocab.now l.setting.domains.now left l.fn.scope.items) ≡ l.fn.wide.items ++ wide_at
    (summands_bounds l.setting.vocab.now l.setting.domains.now all l.fn.scope.items))
    × (fold clamping_sum (range_view l.range) (clamped_summands l.setting.vocab.now l.setting.domains.now left l.fn.scope.items)
    ≡ fold clamping_sum (exactly (pos 0)) (clamped_summands l.setting.vocab.now l.setting.domains.now all l.fn.scope.items))
    × ((l.any || is_wide (front_bounds clamping_sum (range_view l.range)
    (clamped_summands l.setting.vocab.now l.setting.domains.now left l.fn.scope.items)))
    ≡ is_wide (front_bounds clamping_sum (exactly (pos 0)) (clamped_summands l.setting.vocab.now l.setting.domains.now all l.fn.scope.items)))

abbrev pub invariant-product-loop-factor : goal.invariant-product-loop-factor
invariant-product-loop-factor l =
    let left = terms_of (map term_view (drop l.factor-index l.factors)) in
    let all = terms_of (map term_view l.factors) in
    (l.scope.items ≡ l.fn.scope.items)
    × (l.wide.items ++ wide_at (terms_bounds l.setting.vocab.now l.setting.domains.now left l.fn.scope.items) ≡ l.fn.wide.items ++ wide_at
    (terms_bounds l.setting.vocab.now l.setting.domains.now all l.fn.scope.items))
    × (fold clamping_product (range_view l.range) (clamped_factors l.setting.vocab.now l.setting.domains.now left l.fn.scope.items)
    ≡ fold clamping_product (exactly (pos 1)) (clamped_factors l.setting.vocab.now l.setting.domains.now all l.fn.scope.items))
    × ((l.any || is_wide (front_bounds clamping_product (range_view l.range)
    (clamped_factors l.setting.vocab.now l.setting.domains.now left l.fn.scope.items)))
    ≡ is_wide (front_bounds clamping_product (exactly (pos 1))
    (clamped_factors l.setting.vocab.now l.setting.domains.now all l.fn.scope.items)))

abbrev pub invariant-terms-loop-one : goal.invariant-terms-loop-one
invariant-terms-loop-one l =
    (l.scope.items ≡ l.fn.scope.items)
    × (l.wide.items ++ wide_at (terms_bounds l.setting.vocab.now l.setting.domains.now (terms_of (map term_view (drop l.one-index l.all)))
    l.fn.scope.items)
    ≡ l.fn.wide.items ++ wide_at (terms_bounds l.setting.vocab.now l.setting.domains.now (terms_of (map term_view l.all)) l.fn.scope.items))

abbrev pub invariant-formulas-loop-one : goal.invariant-formulas-loop-one
invariant-formulas-loop-one l =
    (l.scope.items ≡ l.fn.scope.items)
    × (l.wide.items ++ wide_at (formulas_bounds l.setting.vocab.now l.setting.domains.now
    (formulas_of (map formula_view (drop l.one-index l.all))) l.fn.scope.items)
    ≡ l.fn.wide.items ++ wide_at (formulas_bounds l.setting.vocab.now l.setting.domains.now (formulas_of (map formula_view l.all))
    l.fn.scope.items))
