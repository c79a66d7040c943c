use Rattle.std.proofs.Common.{◌≡◌, false, Some, All, refl, sym, subst}
use Rattle.std.proofs.lemmas.List.{take_all, take_more}
use Rattle.std.proofs.lemmas.List.Elements.{All-push}
use Rattle.lit_core.specs.declared.literals.Lit.{Lit}
use Rattle.lit_core.specs.Literals.{value_in}
use Rattle.search_engine.proofs.bounding.are_false.Goals as goal

-- what is read past the end
abbrev none : Lit
none = record { var = record { 0 = 0 }; positive = false }

pub loop-lit-preserved : goal.loop-lit-preserved
loop-lit-preserved c = subst (All (λ (m : Lit). value_in c.args.values.now m ≡ Some false))
    (sym (take_more c.args.lits.now c.loop-lit.lit-index none c.loop-lit-test.true))
    (All-push (λ (m : Lit). value_in c.args.values.now m ≡ Some false) _ _ c.loop-lit.invariant
    (c.if-may_hold.ensures refl))

pub returns : goal.returns
returns c = λ t. subst (All (λ (m : Lit). value_in c.args.values.now m ≡ Some false))
    (take_all c.loop-lit.lit-index c.args.lits.now c.loop-lit-test.false) c.loop-lit.invariant
