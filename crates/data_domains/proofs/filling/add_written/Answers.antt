use Rattle.std.proofs.Common.{◌≡◌, ◌∷◌, [], ◌+◌, ◌++◌, ◌∙◌, None, Some, drop, map, option_map, refl, sym, ap}
use Rattle.std.specs.List.{filter_map}
use Rattle.std.proofs.lemmas.List.Elements.{filter_map-append}
use Rattle.stage_definitions.specs.DataEntries.{Spot}
use Rattle.structure_entries.specs.EntryViews.{cell_view, spot_view}
use Rattle.structure_entries.proofs.Dropped.{front}
use Rattle.data_domains.specs.Shares.{Takes}
use Rattle.data_domains.proofs.Filled.{cell_written, none_written, taken_next, takes_nothing}
use Rattle.data_domains.proofs.filling.add_written.Goals as goal
use Rattle.data_domains.proofs.filling.add_written.Goals.{in-Some+in_ok-add, in_default}

pub loop-spot-init : goal.loop-spot-init
loop-spot-init c = ([], takes_nothing c.args.data.now, refl)

pub loop-spot-preserved : goal.loop-spot-preserved
loop-spot-preserved c =
    let spots = c.args.spots.now in
    let i = c.loop-spot.spot-index in
    let s = spot_view c.spot-item.result in
    let cell = λ (k : Spot). k.cell in
    let rest = map spot_view (drop (i + 1) spots) in
    let before = c.loop-spot.invariant in
    let taken : Takes c.loop-spot.data c.match-cell.data (filter_map cell (s ∷ [])) =
    elim c.match-cell.branch [
      | in-Some+in_ok-add b ↦
          let written : s.cell ≡ Some (cell_view b.in-Some.cell) = sym c.cell.ensures
          ∙ ap (option_map cell_view) b.in-Some.is in
          rw b.data-is (cell_written c.loop-spot.data b.add.new.self s (cell_view b.in-Some.cell) written
          b.in_ok-add.ensures)
      | in_default b ↦
          let none : s.cell ≡ None = sym c.cell.ensures ∙ ap (option_map cell_view) b.in_default.is in
          rw b.data-is (none_written c.loop-spot.data s none)
    ] in
    taken_next c.args.data.now c.loop-spot.data c.match-cell.data before.0 (filter_map cell (s ∷ []))
    (filter_map cell rest) _ before.1 taken
    (ap (λ ds. before.0 ++ ds) (sym (ap (λ ss. filter_map cell (map spot_view ss))
    (front spots i c.spot-item.result c.loop-spot-test.true c.spot-item.is) ∙ filter_map-append cell (s ∷ []) rest))
    ∙ before.2)
