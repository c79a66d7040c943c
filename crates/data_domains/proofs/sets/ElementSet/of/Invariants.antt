use Rattle.std.proofs.Common.{◌≡◌, ◌||◌, ℤ, false, List, drop, fold, map}
use Rattle.std.specs.List.{flat_map, list_any}
use Rattle.kb_logic.specs.declared.elements.Elem.TheVariants.{Num}
use Rattle.stage_definitions.specs.Scopes.{Text}
use Rattle.stage_definitions.specs.Elements as set
use Rattle.structure_entries.specs.EntryViews.{cell_view}
use Rattle.data_domains.specs.Runs.{is_hollow, is_inside}
use Rattle.data_domains.specs.Sets.{interval_view, AreSameWords}
use Rattle.data_domains.proofs.sets.ElementSet.of.Given as goal

abbrev pub invariant-loop-cell : goal.invariant-loop-cell
invariant-loop-cell l = record {
  words : (ws : List Text) × AreSameWords (map (λ w. w.now) l.words.keys) ws
      × (fold set.with_word ws (flat_map set.words_in (map cell_view (drop l.cell-index l.cells))) ≡ set.words_of
      (map cell_view l.cells));
  full : list_any is_hollow (map interval_view l.intervals.items) ≡ false;
  inside : (z : ℤ) → (is_inside (map interval_view l.intervals.items) z || set.is_among
      (map cell_view (drop l.cell-index l.cells)) (Num z))
      ≡ set.is_among (map cell_view l.cells) (Num z);
}
