use Rattle.std.proofs.Common.{◌+◌, [], ◌∷◌, ◌++◌, map, drop, sym, ap, ◌∙◌}
use Rattle.std.proofs.lemmas.List.{append_assoc, map-append}
use Rattle.kb_logic.specs.Values.{value_view}
use Rattle.def_ground.specs.CaseViews.{guarded_view}
use Rattle.def_ground.specs.Comparisons.{guard_answers}
use Rattle.ground_walk.proofs.LeafSteps.{guards-within, row-left, next-answers, next-problem, next-within}
use Rattle.ground_walk.proofs.leaves.guard_answers.Goals as goal

pub guard_answer-requires : goal.guard_answer-requires
guard_answer-requires c =
    guards-within c.loop-row.problem.vars c.args.rows.now c.loop-row.row c.guards.result.now c.guards.ensures
    c.loop-row.invariant.within

pub loop-row-preserved : goal.loop-row-preserved
loop-row-preserved c =
    let rows = c.args.rows.now in
    let k = c.loop-row.row in
    let g = c.guards.result.now in
    let x = value_view c.value.result in
    let p = c.loop-row.problem in
    let q = c.guard_answer.new.problem in
    let a = c.in_ok-answer.answer in
    let made = c.in_ok-answer.ensures.made in
    let left = row-left rows k g x c.guards.ensures c.value.ensures in
    let before = map guarded_view c.loop-row.answers.items in
    let later = (guard_answers (drop (k + 1) rows) q).rows in
    record {
      rows = ap (λ vs. map guarded_view vs ++ later) c.in_ok-push.ensures.items
          ∙ ap (λ vs. vs ++ later)
          (map-append guarded_view c.loop-row.answers.items (record { answer = a; value = c.value.result } ∷ []))
          ∙ append_assoc before ((a, x) ∷ []) later
          ∙ ap (λ rs. before ++ rs) (sym (next-answers rows k g x p q a left made.0 made.1))
          ∙ c.loop-row.invariant.rows;
      problem = sym (next-problem rows k g x p q a left made.0 made.1) ∙ c.loop-row.invariant.problem;
      within = next-within rows k g x p q a left made.0 made.1 c.loop-row.invariant.within;
    }
