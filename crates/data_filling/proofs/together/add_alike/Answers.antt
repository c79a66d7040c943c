use Rattle.std.proofs.Common.{◌≡◌, ◌∙◌, IfSome, map, ap, subst, sym}
use Rattle.std.proofs.lemmas.Result.{on_ok_weaker}
use Rattle.structure_entries.specs.EntryViews.{cell_view, fact_view}
use Rattle.data_filling.specs.Together.{facts_over, placeless}
use Rattle.data_filling.proofs.TogetherFacts.{adds_anywhere, cells_some, open_anywhere, over_anywhere}
use Rattle.data_filling.proofs.together.add_alike.Goals as goal

pub add_cells-requires-clause-some : goal.add_cells-requires-clause-some
add_cells-requires-clause-some c =
    let same : map placeless (map fact_view c.args.facts.now)
    ≡ facts_over c.args.symbol c.args.holds (map cell_view c.in-Some.cells.items) =
    subst (λ o. IfSome o (λ cells. map placeless (map fact_view c.args.facts.now)
    ≡ facts_over c.args.symbol c.args.holds (map cell_view cells.items))) c.in-Some.is c.in_ok-cells.ensures in
    cells_some fact_view c.args.symbol c.args.holds c.args.facts.now c.deref.result.now
    (same ∙ ap (λ xs. facts_over c.args.symbol c.args.holds (map cell_view xs)) (sym c.deref.ensures.value))
    c.requires.some

pub add_cells-requires-clause-over : goal.add_cells-requires-clause-over
add_cells-requires-clause-over c =
    let k = c.args.partial.now in
    let same : map placeless (map fact_view c.args.facts.now)
    ≡ facts_over c.args.symbol c.args.holds (map cell_view c.in-Some.cells.items) =
    subst (λ o. IfSome o (λ cells. map placeless (map fact_view c.args.facts.now)
    ≡ facts_over c.args.symbol c.args.holds (map cell_view cells.items))) c.in-Some.is c.in_ok-cells.ensures in
    over_anywhere k.symbols k.domains c.args.symbol c.args.holds (map fact_view c.args.facts.now)
    (facts_over c.args.symbol c.args.holds (map cell_view c.deref.result.now))
    (same ∙ ap (λ xs. facts_over c.args.symbol c.args.holds (map cell_view xs)) (sym c.deref.ensures.value))
    c.requires.over

pub add_cells-requires-clause-open_to : goal.add_cells-requires-clause-open_to
add_cells-requires-clause-open_to c =
    let same : map placeless (map fact_view c.args.facts.now)
    ≡ facts_over c.args.symbol c.args.holds (map cell_view c.in-Some.cells.items) =
    subst (λ o. IfSome o (λ cells. map placeless (map fact_view c.args.facts.now)
    ≡ facts_over c.args.symbol c.args.holds (map cell_view cells.items))) c.in-Some.is c.in_ok-cells.ensures in
    open_anywhere c.args.partial.now (map fact_view c.args.facts.now)
    (facts_over c.args.symbol c.args.holds (map cell_view c.deref.result.now))
    (same ∙ ap (λ xs. facts_over c.args.symbol c.args.holds (map cell_view xs)) (sym c.deref.ensures.value))
    c.requires.open_to

pub returns-in-Some : goal.returns-in-Some
returns-in-Some c =
    let same : map placeless (map fact_view c.args.facts.now)
    ≡ facts_over c.args.symbol c.args.holds (map cell_view c.in-Some.cells.items) =
    subst (λ o. IfSome o (λ cells. map placeless (map fact_view c.args.facts.now)
    ≡ facts_over c.args.symbol c.args.holds (map cell_view cells.items))) c.in-Some.is c.in_ok-cells.ensures in
    on_ok_weaker c.add_cells.result
    (adds_anywhere c.args.partial.now c.add_cells.new.partial (map fact_view c.args.facts.now)
    (facts_over c.args.symbol c.args.holds (map cell_view c.deref.result.now))
    (same ∙ ap (λ xs. facts_over c.args.symbol c.args.holds (map cell_view xs)) (sym c.deref.ensures.value)))
    c.add_cells.ensures
