use Rattle.std.proofs.Common.{◌∙◌, map, ap, sym, subst}
use Rattle.std.specs.List.{AllByRecursion}
use Rattle.std.proofs.lemmas.Result.{on_ok_weaker}
use Rattle.structure_entries.specs.EntryViews.{cell_view, fact_view}
use Rattle.data_filling.specs.Filling.{Adds, IsFactOver, IsOpenTo}
use Rattle.data_filling.specs.Together.{cells_in, facts_over}
use Rattle.data_filling.proofs.Steps.{adds_same}
use Rattle.data_filling.proofs.TogetherFacts.{open_same, over_same, set_over, set_same, some_cells}
use Rattle.data_filling.proofs.together.add_cells.Goals as goal

pub add_each-requires-clause-over : goal.add_each-requires-clause-over
add_each-requires-clause-over c =
    let k = c.args.partial.now in
    let cells = map cell_view c.args.cells.now in
    subst (AllByRecursion (IsFactOver k.symbols k.domains))
    (sym (ap (map fact_view) c.deref.ensures.value ∙ c.in_ok-facts.ensures))
    (set_over k.symbols k.domains c.args.symbol c.args.holds cells (cells_in c.in_ok-elements.elements)
    (some_cells c.args.cells.now c.requires.some) c.requires.over
    (set_same cells c.in_ok-elements.elements c.in_ok-elements.ensures))

pub add_each-requires-clause-open_to : goal.add_each-requires-clause-open_to
add_each-requires-clause-open_to c =
    let k = c.args.partial.now in
    let cells = map cell_view c.args.cells.now in
    let taken = cells_in c.in_ok-elements.elements in
    subst (IsOpenTo k) (sym (ap (map fact_view) c.deref.ensures.value ∙ c.in_ok-facts.ensures))
    (open_same k (facts_over c.args.symbol c.args.holds taken) (facts_over c.args.symbol c.args.holds cells)
    (over_same c.args.symbol c.args.holds taken cells
    (set_same cells c.in_ok-elements.elements c.in_ok-elements.ensures)) c.requires.open_to)

pub returns : goal.returns
returns c =
    let cells = map cell_view c.args.cells.now in
    let taken = cells_in c.in_ok-elements.elements in
    on_ok_weaker c.add_each.result
    (λ h. adds_same c.args.partial.now c.add_each.new.partial (facts_over c.args.symbol c.args.holds taken)
    (facts_over c.args.symbol c.args.holds cells)
    (subst (Adds c.args.partial.now c.add_each.new.partial)
    (ap (map fact_view) c.deref.ensures.value ∙ c.in_ok-facts.ensures) h)
    (over_same c.args.symbol c.args.holds taken cells
    (set_same cells c.in_ok-elements.elements c.in_ok-elements.ensures)))
    c.add_each.ensures
