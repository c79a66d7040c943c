use Rattle.std.proofs.Common.{◌≡◌, ◌∙◌, Bool, true, IsTrue, sym, rules}
use Rattle.stage_definitions.specs.DataDomains as domain
use Rattle.structure_entries.specs.EntryViews.{cell_view}
use Rattle.structure_entries.specs.declared.elements.Cell.{Cell}
use Rattle.structure_reader.proofs.NextDomain.{next_all}
use Rattle.structure_reader.proofs.domains.are_in_range.Goals as goal

-- what the test says is true
tested : (r b : Bool) → r ≡ b → r ≡ true → IsTrue b
tested r b e t = sym e ∙ t

pub loop-cell-preserved : goal.loop-cell-preserved
loop-cell-preserved c =
    let f : c.is_in_range.result ≡ true = search rules in
    next_all (λ (x : Cell). IsTrue (domain.is_in_range (cell_view x))) c.args.cells.now c.loop-cell.cell-index _
    c.loop-cell-test.true (tested _ _ c.is_in_range.ensures f) c.loop-cell.invariant
