use Rattle.std.proofs.Common.{◌*◌, ◌∙◌, ℕ, fold, sym, ap}
use Rattle.std.proofs.lemmas.List.{at_drop_more, at_drop_all}
use Rattle.stage_definitions.specs.Elements.{count_of}
use Rattle.stage_definitions.specs.DataDomains.{cells_of}
use Rattle.stage_definitions.specs.SizesStage.{capped}
use Rattle.data_refusals.proofs.Capped.{times_both}
use Rattle.data_refusals.proofs.tuples.tuple_count.Goals as goal

pub loop-ty-preserved : goal.loop-ty-preserved
loop-ty-preserved c = λ all es h.
    let inv = c.loop-ty.invariant all es h in
    let step = λ (m t : ℕ). m * count_of (cells_of all es t) in (
      inv.0 * count_of (cells_of all es _),
      c.times-count.ensures ∙ ap (λ n. capped (n * c.count_of.result)) inv.1 ∙ ap (λ n. capped (capped inv.0 * n))
          (c.count_of.ensures all es h) ∙ times_both inv.0 _,
      sym (at_drop_more (fold step inv.0) c.args.args.now c.loop-ty.ty-index _ c.loop-ty-test.true) ∙ inv.2,
    )

pub returns : goal.returns
returns c = λ all es h.
    let inv = c.loop-ty.invariant all es h in
    inv.1 ∙ ap capped (sym (at_drop_all (fold (λ (m t : ℕ). m * count_of (cells_of all es t)) inv.0) c.args.args.now
    c.loop-ty.ty-index c.loop-ty-test.false) ∙ inv.2)
