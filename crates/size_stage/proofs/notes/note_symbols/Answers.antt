use Rattle.std.proofs.Common.{◌∙◌, ◌+◌, drop, fold, sym, ap}
use Rattle.std.specs.Prelude.{zip}
use Rattle.stage_definitions.specs.Sizes.{symbol_atoms}
use Rattle.stage_definitions.specs.SizesStage.{size_noted, uses_of_symbols}
use Rattle.size_stage.proofs.Noting.{nothing_right, symbol_next, zip_step}
use Rattle.size_stage.proofs.notes.note_symbols.Goals as goal

pub returns : goal.returns
returns c =
    let d = c.args.domains.now in
    let places = c.args.places.now in
    let symbols = c.args.symbols.now in
    let i = c.loop-i.i in
    let inv = c.loop-i.invariant in
    ap (λ zs. fold size_noted c.loop-i.earliest.first (uses_of_symbols d inv.0 zs))
    (sym (nothing_right (drop i places) symbols i c.loop-i-test.false)) ∙ inv.2

pub loop-i-preserved : goal.loop-i-preserved
loop-i-preserved c =
    let d = c.args.domains.now in
    let places = c.args.places.now in
    let symbols = c.args.symbols.now in
    let i = c.loop-i.i in
    let s = c.index-symbols-i.result in
    let inv = c.loop-i.invariant in
    let rest = zip (drop (i + 1) places) (drop (i + 1) symbols) in
    let all = fold size_noted c.args.earliest.now.first (uses_of_symbols d 0 (zip places symbols)) in
    let step = zip_step places symbols i 0 s c.if-i-places.false c.loop-i-test.true c.index-symbols-i.is in
    let before = ap (λ zs. fold size_noted c.loop-i.earliest.first (uses_of_symbols d inv.0 zs)) (sym step) ∙ inv.2 in
    let next =
    symbol_next d c.loop-i.earliest.first c.note_if.new.self.first 0 c.atoms_of.result c.plus-after.result
    c.loop-i.before c.passes_limit.result _ inv.0 s rest all
    inv.1 c.atoms_of.ensures c.plus-after.ensures c.passes_limit.ensures c.note_if.ensures before in
    (inv.0 + symbol_atoms d s, next.0, next.1)
