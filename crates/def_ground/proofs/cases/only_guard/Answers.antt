use Rattle.std.proofs.Common.{true, false, sym, ◌∙◌}
use Rattle.def_ground.specs.Cases.{Case, is_always}
use Rattle.def_ground.specs.Cases.{side_of}
use Rattle.def_ground.proofs.CaseSteps.{guard-found}
use Rattle.def_ground.proofs.cases.only_guard.Goals as goal

pub returns-then-none_has_always : goal.returns-then-none_has_always
returns-then-none_has_always c =
    let P = λ (k : Case). is_always (side_of c.args.sign k) in
    c.only_literal.ensures
    ∙ guard-found P c.args.cases.now c.loop-place.place c.index-cases-place.result true c.loop-place-test.true
    c.index-cases-place.is (sym c.has_always.ensures ∙ c.if-has_always.true)
    (sym (rw c.split_at.ensures.back at c.none_has_always.ensures) ∙ c.if-none_has_always.true)
    ∙ c.loop-place.invariant

pub returns-else-none_has_always : goal.returns-else-none_has_always
returns-else-none_has_always c =
    let P = λ (k : Case). is_always (side_of c.args.sign k) in
    guard-found P c.args.cases.now c.loop-place.place c.index-cases-place.result false c.loop-place-test.true
    c.index-cases-place.is (sym c.has_always.ensures ∙ c.if-has_always.true)
    (sym (rw c.split_at.ensures.back at c.none_has_always.ensures) ∙ c.if-none_has_always.false)
    ∙ c.loop-place.invariant
