use Rattle.std.proofs.Common.{◌+◌, List, take, sym, subst}
use Rattle.kb_logic.specs.declared.structures.Literal.{Literal}
use Rattle.kb_logic.specs.Models.{IsAtomOver, atom_of}
use Rattle.kb_logic.specs.Structures.{EachWith}
use Rattle.lit_core.specs.declared.literals.Lit.{Lit}
use Rattle.atom_numbers.specs.Numbers.{HasNumber}
use Rattle.ground_task.proofs.ChoiceFacts.{each-next}
use Rattle.ground_task.proofs.choices.lits_of.Goals as goal

pub lit_of-requires : goal.lit_of-requires
lit_of-requires c =
    subst (λ (l : Literal). IsAtomOver c.args.numbers.now.vocabulary.symbols c.args.numbers.now.domains (atom_of l))
    (sym c.choice-item.is)
    (c.requires c.loop-choice.choice-index c.choice-item.result c.loop-choice-test.true)

pub loop-choice-preserved : goal.loop-choice-preserved
loop-choice-preserved c =
    subst (λ (ls : List Lit). EachWith (HasNumber c.args.numbers.now)
    (take (c.loop-choice.choice-index + 1) c.args.choices.now) ls) (sym c.in_ok-push.ensures.items)
    (each-next (HasNumber c.args.numbers.now) c.args.choices.now c.loop-choice.lits.items c.loop-choice.choice-index
    c.choice-item.result c.lit_of.result c.loop-choice-test.true c.choice-item.is c.lit_of.ensures
    c.loop-choice.invariant)
