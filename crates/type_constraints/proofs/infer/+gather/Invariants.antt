use Rattle.std.proofs.Common.{◌≡◌, drop, length, map, take}
use Rattle.type_constraints.specs.Gathering.{after, gathered_in, part_by}
use Rattle.type_constraints.specs.PartViews.{finding_view, part_view, parts_view}
use Rattle.type_constraints.proofs.infer.+gather.Given as goal

abbrev pub invariant-parts-loop-item : goal.invariant-parts-loop-item
invariant-parts-loop-item l = record {
  parts : map part_view l.gathered.items ≡ map (part_by l.source l.types l.initial.scope.items)
      (map part_view (take l.item-index l.listed));
  scope : l.scope.items ≡ l.initial.scope.items;
  same_length : length l.findings.items ≡ length l.initial.findings.items;
  findings : after l.types (λ n. gathered_in l.source l.initial.scope.items n (parts_view (drop l.item-index l.listed)))
      0 (map finding_view l.findings.items)
      ≡ after l.types (λ n. gathered_in l.source l.initial.scope.items n (parts_view l.listed)) 0
      (map finding_view l.initial.findings.items);
}
