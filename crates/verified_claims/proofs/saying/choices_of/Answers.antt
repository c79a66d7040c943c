use Rattle.std.proofs.Common.{◌+◌, List, take, arith, sym, subst}
use Rattle.std.proofs.lemmas.List.{take_all}
use Rattle.kb_logic.specs.declared.structures.Literal.{Literal}
use Rattle.kb_logic.specs.Structures.{EachWith}
use Rattle.lit_core.specs.declared.literals.Lit.{Lit}
use Rattle.atom_numbers.specs.Numbers.{HasNumber}
use Rattle.verified_claims.proofs.LineFacts.{each-more}
use Rattle.verified_claims.proofs.saying.choices_of.Goals as goal

pub loop-lit-preserved : goal.loop-lit-preserved
loop-lit-preserved c =
    subst (λ (ls : List Literal). EachWith (HasNumber c.args.numbers.now) ls
    (take (c.loop-lit.lit-index + 1) c.args.lits.now)) (sym c.in_ok-push.ensures.ok)
    (each-more (HasNumber c.args.numbers.now) c.loop-lit.choices c.args.lits.now c.loop-lit.lit-index
    c.in_ok-literal_of.field-0 _ c.loop-lit-test.true c.in_ok-literal_of.ensures.0 c.loop-lit.invariant)

pub returns : goal.returns
returns c =
    subst (λ (ls : List Lit). EachWith (HasNumber c.args.numbers.now) c.loop-lit.choices ls)
    (take_all c.loop-lit.lit-index c.args.lits.now (omega (arith, c.loop-lit-test.false))) c.loop-lit.invariant
