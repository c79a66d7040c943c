use Rattle.std.proofs.Common.{◌≡◌, ◌≤◌, [], ◌∷◌, ◌++◌, fold, map, sym, ap, subst, ◌∙◌, arith}
use Rattle.std.specs.List.{AllByRecursion}
use Rattle.std.proofs.lemmas.List.{map-append}
use Rattle.kb_logic.specs.Values.{value_view}
use Rattle.def_ground.specs.CaseViews.{case_view}
use Rattle.def_ground.specs.LinearViews.{linear_view}
use Rattle.def_ground.specs.Meanings.{IsCaseOf}
use Rattle.def_ground.specs.Thresholds.{threshold_step}
use Rattle.def_ground.proofs.CaseLaws.{cases-more}
use Rattle.def_ground.proofs.Growing.{lits-more}
use Rattle.def_ground.proofs.LinearCalls.{guards-at, next-folded}
use Rattle.def_ground.proofs.LinearSteps.{parts-later}
use Rattle.def_ground.proofs.ThresholdRows.{case-within}
use Rattle.def_ground.proofs.ThresholdCalls.{all-push, next-threshold}
use Rattle.def_ground.proofs.threshold_rows.threshold_cases.Goals as goal

pub compared_with_value-requires : goal.compared_with_value-requires
compared_with_value-requires c = record {
  parts = parts-later c.args.problem.now.vars c.loop-row.problem.vars c.loop-row.invariant.grows
      c.args.linear.now.parts c.requires.parts;
}

pub loop-row-preserved : goal.loop-row-preserved
loop-row-preserved c =
    let rows = c.args.rows.now in
    let i = c.loop-row.row in
    let n = c.args.problem.now.vars in
    let p = c.loop-row.problem in
    let q = c.compared_with_value.new.problem in
    let st = linear_view c.args.linear.now c.args.problem.now in
    let g = c.guards.result.now in
    let x = value_view c.value.result in
    let a = c.in_ok-answer.answer in
    let own = case_view c.in_ok-case_of.field-0 in
    let before = map case_view c.loop-row.cases.items in
    let after = map case_view c.push.new.self.items in
    let pushed : after ≡ before ++ own ∷ [] =
    ap (map case_view) c.in_ok-push.ensures.items
    ∙ map-append case_view c.loop-row.cases.items (c.in_ok-case_of.field-0 ∷ []) in
    let grows = c.in_ok-answer.ensures.grows in
    let so_far = c.loop-row.invariant.grows in
    let grown = grows.vars in
    let all : n ≤ q.vars = omega (arith, so_far, grown) in
    let guards = lits-more n q.vars all g (guards-at n rows i g c.requires.rows c.guards.ensures) in
    let within = all-push (IsCaseOf q.vars) before own
    (cases-more p.vars q.vars grown before c.loop-row.invariant.within)
    (subst (IsCaseOf q.vars) (sym c.in_ok-case_of.ensures) (case-within q.vars g a guards grows.within)) in
    let step = threshold_step c.args.kind c.args.cmp st in
    record {
      same = next-folded step rows i g x (record { cases = before; problem = p })
          (record { cases = after; problem = q })
          (fold step (record { cases = []; problem = c.args.problem.now }) rows) c.guards.ensures c.value.ensures
          (next-threshold c.args.kind c.args.cmp st g x before after p q a own c.in_ok-answer.ensures.made
          c.in_ok-case_of.ensures pushed)
          c.loop-row.invariant.same;
      within = subst (AllByRecursion (IsCaseOf q.vars)) (sym pushed) within;
      grows = all;
    }
