use Rattle.std.proofs.Common.{rules, ◌≡◌, None, true, false, sym, ◌∙◌, subst}
use Rattle.lit_core.specs.declared.literals.Lit.{Lit}
use Rattle.lit_core.specs.Literals.{by_sign, value_in}
use Rattle.ground_core.specs.Intervals.{changed, contradicts, IsOpenAt}
use Rattle.aggregate_propagators.specs.Implied.{assigned, Decides}
use Rattle.aggregate_propagators.specs.Thresholds.{constraint_of}
use Rattle.aggregate_propagators.proofs.Looks.{wrong-end}
use Rattle.aggregate_propagators.proofs.Singles.{part-true, part-false, part-open}
use Rattle.aggregate_propagators.proofs.single.tried_part.Goals as goal

pub returns-then-is_wrong-clause-some : goal.returns-then-is_wrong-clause-some
returns-then-is_wrong-clause-some c =
    let a = assigned c.args.values.now in
    let e = c.args.end in
    let con = constraint_of e.of c.args.parts.now in
    let p = c.args.part.now in
    let none : value_in c.args.values.now p.lit ≡ None = search rules in
    let is : c.is_wrong.result ≡ contradicts (changed a p.lit.var.0 (by_sign p.lit.positive true)) con =
    c.is_wrong.ensures
    ∙ wrong-end a c.args.parts.now e c.moved_end.result p true c.requires.end c.requires.once c.requires.part none
    c.moved_end.ensures.of c.moved_end.ensures.high c.moved_end.ensures.sum in
    part-true a con p.lit none (sym is ∙ c.if-is_wrong.true)

pub returns-then-is_wrong-2-clause-some : goal.returns-then-is_wrong-2-clause-some
returns-then-is_wrong-2-clause-some c =
    let a = assigned c.args.values.now in
    let e = c.args.end in
    let con = constraint_of e.of c.args.parts.now in
    let p = c.args.part.now in
    let none : value_in c.args.values.now p.lit ≡ None = search rules in
    let is : c.is_wrong-2.result ≡ contradicts (changed a p.lit.var.0 (by_sign p.lit.positive false)) con =
    c.is_wrong-2.ensures
    ∙ wrong-end a c.args.parts.now e c.moved_end-2.result p false c.requires.end c.requires.once c.requires.part none
    c.moved_end-2.ensures.of c.moved_end-2.ensures.high c.moved_end-2.ensures.sum in
    subst (λ (l : Lit). Decides a con l × (IsOpenAt a con p.lit → ⊥)) (sym c.negated.ensures)
    (part-false a con p.lit none (sym is ∙ c.if-is_wrong-2.true))

pub returns-clause-none : goal.returns-clause-none
returns-clause-none c =
    let a = assigned c.args.values.now in
    let e = c.args.end in
    let con = constraint_of e.of c.args.parts.now in
    let p = c.args.part.now in
    let none : value_in c.args.values.now p.lit ≡ None = search rules in
    let yes : c.is_wrong.result ≡ contradicts (changed a p.lit.var.0 (by_sign p.lit.positive true)) con =
    c.is_wrong.ensures
    ∙ wrong-end a c.args.parts.now e c.moved_end.result p true c.requires.end c.requires.once c.requires.part none
    c.moved_end.ensures.of c.moved_end.ensures.high c.moved_end.ensures.sum in
    let not_so : c.is_wrong-2.result ≡ contradicts (changed a p.lit.var.0 (by_sign p.lit.positive false)) con =
    c.is_wrong-2.ensures
    ∙ wrong-end a c.args.parts.now e c.moved_end-2.result p false c.requires.end c.requires.once c.requires.part none
    c.moved_end-2.ensures.of c.moved_end-2.ensures.high c.moved_end-2.ensures.sum in
    part-open a con p.lit (sym yes ∙ c.if-is_wrong.false) (sym not_so ∙ c.if-is_wrong-2.false)
