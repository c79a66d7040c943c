use Rattle.std.proofs.Common.{◌≡◌, map, drop}
use Rattle.std.specs.List.{list_all}
use Rattle.kb_logic.specs.Denotations.{Denotation}
use Rattle.kb_logic.specs.Values.{value_view}
use Rattle.def_ground.specs.declared.answers.Answer.{Answer}
use Rattle.def_ground.specs.CaseViews.{guarded_view, compared_with}
use Rattle.def_ground.proofs.sides.all_pass.Given as goal

-- all pass exactly where the rest do
abbrev pub invariant-loop-row : goal.invariant-loop-row
invariant-loop-row l =
    list_all (λ (r : Answer × Denotation). compared_with l.sign l.cmp (value_view l.x) r.1)
    (map guarded_view (drop l.row-index l.rows))
    ≡ list_all (λ (r : Answer × Denotation). compared_with l.sign l.cmp (value_view l.x) r.1) (map guarded_view l.rows)
