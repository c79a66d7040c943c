use Rattle.std.proofs.Common.{◌≡◌, ◌⊎◌, false, Some, All, refl, sym, subst}
use Rattle.std.proofs.lemmas.List.{take_all, take_more}
use Rattle.std.proofs.lemmas.List.Elements.{All-push}
use Rattle.lit_core.specs.declared.literals.Lit.{Lit}
use Rattle.lit_core.specs.Literals.{value_in}
use Rattle.search_engine.proofs.summing.are_others_false.Goals as goal

-- what is read past the end
abbrev none : Lit
none = record { var = record { 0 = 0 }; positive = false }

pub loop-other-preserved : goal.loop-other-preserved
loop-other-preserved c =
    subst (All (λ (m : Lit). (m ≡ c.args.lit) ⊎ (value_in c.args.values.now m ≡ Some false)))
    (sym (take_more c.args.lits.now c.loop-other.other-index none c.loop-other-test.true))
    (All-push (λ (m : Lit). (m ≡ c.args.lit) ⊎ (value_in c.args.values.now m ≡ Some false)) _ _ c.loop-other.invariant
    (c.if-not-is_or_false.ensures refl))

pub returns : goal.returns
returns c = λ t. subst (All (λ (m : Lit). (m ≡ c.args.lit) ⊎ (value_in c.args.values.now m ≡ Some false)))
    (take_all c.loop-other.other-index c.args.lits.now c.loop-other-test.false) c.loop-other.invariant
