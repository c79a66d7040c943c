use Rattle.std.proofs.Common.{◌≡◌, ◌<◌, ◌-◌, ◌+◌, ◌++◌, rules, arith, length, subst, OnOk}
use Rattle.plain_evaluation.specs.Environments.{env_view}
use Rattle.kb_logic.specs.declared.syntax.Formula.{the_lemmas}
use Rattle.kb_logic.specs.declared.syntax.Signed.{Signed}
use Rattle.kb_logic.specs.Views.{term_view}
use Rattle.term_values.specs.RowArithmetic.{RowsFit}
use Rattle.term_values.proofs.TermRowLemmas.{fit_at, operand_fit_at, operands_next, sum_values_rows, sums_fit}
use Rattle.term_values.proofs.term_rows.+rows.Goals as goal

pub push_sum-push_sums-requires : goal.push_sum-push_sums-requires
push_sum-push_sums-requires t c =
    sums_fit c.args.base.now (env_view c.args.env.now) c.args.parts.now c.put_operands.new.out
    c.in_ok-put_operands.ensures c.requires.sums

pub push_sum-returns : goal.push_sum-returns
push_sum-returns t c =
    let all = sum_values_rows c.args.base.now (env_view c.args.env.now) c.args.parts.now c.put_operands.new.out
    c.in_ok-put_operands.ensures in
    subst (λ l. OnOk c.push_sums.result (c.push_sums.new.out ≡ c.args.out.now ++ l)) all c.push_sums.ensures

pub put_operands-loop-left-preserved : goal.put_operands-loop-left-preserved
put_operands-loop-left-preserved t c =
    let within = c.loop-left.invariant.within in
    let inside : c.loop-left.left - 1 < length c.args.parts.now = omega arith in
    let step : c.loop-left.left ≡ c.loop-left.left - 1 + 1 = omega arith in
    record {
      rows =
          operands_next c.args.base.now (env_view c.args.env.now) c.args.parts.now
          (c.loop-left.left - 1) c.loop-left.left c.index-parts-left.result
          c.loop-left.out c.put_before.new.out inside step c.loop-left.invariant.rows c.in_ok-put_before.ensures;
      within = omega arith;
    }

pub put_terms-put_before-requires : goal.put_terms-put_before-requires
put_terms-put_before-requires t c = (
  search (rules, the_lemmas),
  fit_at c.args.base.now (env_view c.args.env.now) c.args.terms.now
      (c.loop-left.left - 1) c.index-terms-left.result c.if-prove.false c.index-terms-left.is c.requires,
)

pub put_operands-put_before-requires : goal.put_operands-put_before-requires
put_operands-put_before-requires t c =
    let b = c.args.base.now in
    let e = env_view c.args.env.now in
    let fit = operand_fit_at b e c.args.parts.now (c.loop-left.left - 1) c.index-parts-left.result c.if-prove.false
    c.index-parts-left.is c.requires in
    (search (rules, the_lemmas), subst (λ (w : Signed). RowsFit b (term_view w.term) e) c.index-parts-left.is fit)
