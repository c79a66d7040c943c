use Rattle.std.proofs.Common.{◌+◌, ◌<◌, ◌++◌, ◌∷◌, [], false, length, get_or, refl, sym, ap, ◌∙◌, subst, arith}
use Rattle.std.proofs.lemmas.Bool.{both_ways}
use Rattle.std.proofs.lemmas.List.{get_or_default}
use Rattle.std.proofs.lemmas.Option.{slice_get_within}
use Rattle.kb_logic.specs.declared.structures.Literal.{Literal}
use Rattle.lit_core.specs.declared.literals.Lit.{Lit}
use Rattle.ground_task.proofs.ChoiceFacts.{IsSoFar, so-far-missed, so-far-found, so-far-ends}
use Rattle.ground_task.proofs.choices.chosen_among.Goals as goal

abbrev none : Lit
none = record { var = record { 0 = 0 }; positive = false }

pub loop-k-preserved-then-not-stands_at : goal.loop-k-preserved-then-not-stands_at
loop-k-preserved-then-not-stands_at c = λ b each.
    let lit : Lit = get_or c.args.lits.now c.loop-k.k none in
    so-far-missed b c.args.choices.now c.args.lits.now c.args.core.now c.loop-k.k c.loop-k.at c.loop-k.some each
    (c.loop-k.invariant b each) c.loop-k-test.true lit
    (get_or_default c.args.lits.now c.loop-k.k none lit (omega (arith, c.requires.same, c.loop-k-test.true)))
    (λ found. both_ways false refl (c.if-not-stands_at.ensures.1 found))

pub overflow_add-at : goal.overflow_add-at
overflow_add-at c =
    let within : c.loop-k.at < length c.args.core.now =
    slice_get_within c.args.core.now c.loop-k.at (get_or c.args.lits.now c.loop-k.k none)
    (c.if-not-stands_at.ensures.0 refl) in omega (arith, within)

pub loop-k-preserved : goal.loop-k-preserved
loop-k-preserved c = λ b each.
    let lit : Lit = get_or c.args.lits.now c.loop-k.k none in
    subst (IsSoFar b c.args.choices.now c.args.lits.now c.args.core.now (c.loop-k.k + 1) (c.loop-k.at + 1))
    (sym (c.in_ok-push.ensures.ok ∙ ap (λ (l : Literal). c.loop-k.some ++ l ∷ []) c.in_ok-copy.ensures))
    (so-far-found b c.args.choices.now c.args.lits.now c.args.core.now c.loop-k.k c.loop-k.at c.loop-k.some each
    (c.loop-k.invariant b each) c.loop-k-test.true lit
    (get_or_default c.args.lits.now c.loop-k.k none lit (omega (arith, c.requires.same, c.loop-k-test.true)))
    c.index-choices-k.result c.index-choices-k.is (c.if-not-stands_at.ensures.0 refl))

pub returns : goal.returns
returns c = λ b each.
    so-far-ends b c.args.choices.now c.args.lits.now c.args.core.now c.loop-k.k c.loop-k.at c.loop-k.some each
    (c.loop-k.invariant b each) c.loop-k-test.false
