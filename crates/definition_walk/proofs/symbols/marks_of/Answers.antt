use Rattle.std.proofs.Common.{Bool, true, ◌+◌, length, take, subst, sym, ap, ◌∙◌, arith}
use Rattle.std.specs.Global.{Vec}
use Rattle.std.proofs.lemmas.List.{length-set}
use Rattle.definition_walk.specs.Marks.{HaveMarks}
use Rattle.definition_walk.proofs.MarkFacts.{rules_defined, marked-next, unmarked-rule}
use Rattle.definition_walk.proofs.symbols.marks_of.Goals.{then-symbol-len, else-symbol-len}
use Rattle.definition_walk.proofs.symbols.marks_of.Goals as goal

pub loop-rule-preserved : goal.loop-rule-preserved
loop-rule-preserved c =
    let rules = c.args.rules.now in
    let k = c.loop-rule.rule-index in
    let r = c.rule-item.result in
    let marks = c.loop-rule.marks.items in
    let size = c.len.ensures in
    elim c.if-symbol-len.branch [
      | then-symbol-len w ↦
          let is = ap (λ (v : Vec Bool). v.items) w.marks-is in
          let test = w.if-symbol-len.true in
          record {
            len = ap length is ∙ length-set marks r.symbol true ∙ c.loop-rule.invariant.len;
            made =
                subst (HaveMarks (rules_defined (take (k + 1) rules))) (sym is)
                (marked-next rules k r c.loop-rule-test.true c.rule-item.is marks c.loop-rule.invariant.made
                (omega (arith, size, test)));
          }
      | else-symbol-len w ↦
          let is = ap (λ (v : Vec Bool). v.items) w.marks-is in
          let test = w.if-symbol-len.false in
          record {
            len = ap length is ∙ c.loop-rule.invariant.len;
            made =
                subst (HaveMarks (rules_defined (take (k + 1) rules))) (sym is)
                (unmarked-rule rules k r c.loop-rule-test.true c.rule-item.is marks c.loop-rule.invariant.made
                (omega (arith, size, test)));
          }
    ]
