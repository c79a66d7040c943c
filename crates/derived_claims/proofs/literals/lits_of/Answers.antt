use Rattle.std.proofs.Common.{◌+◌, List, All, take, sym, subst}
use Rattle.std.proofs.lemmas.List.Elements.{All-push}
use Rattle.kb_logic.specs.declared.structures.Literal.{Literal}
use Rattle.kb_logic.specs.Models.{IsAtomOver, atom_of}
use Rattle.kb_logic.specs.Structures.{EachWith}
use Rattle.lit_core.specs.declared.literals.Lit.{Lit}
use Rattle.atom_numbers.specs.Numbers.{HasNumber}
use Rattle.atom_numbers.proofs.LiteralFacts.{each-next}
use Rattle.derivation_log.specs.Texts.{IsLiteral}
use Rattle.derived_claims.proofs.literals.lits_of.Goals as goal

pub lit_of-requires : goal.lit_of-requires
lit_of-requires c =
    subst (λ (l : Literal). IsAtomOver c.args.numbers.now.vocabulary.symbols c.args.numbers.now.domains (atom_of l))
    (sym c.choice-item.is)
    (c.requires c.loop-choice.choice-index c.choice-item.result c.loop-choice-test.true)

pub loop-choice-preserved : goal.loop-choice-preserved
loop-choice-preserved c = record {
  each = subst (λ (ls : List Lit). EachWith (HasNumber c.args.numbers.now)
      (take (c.loop-choice.choice-index + 1) c.args.choices.now) ls) (sym c.in_ok-push.ensures.items)
      (each-next (HasNumber c.args.numbers.now) c.args.choices.now c.loop-choice.lits.items c.loop-choice.choice-index
      c.choice-item.result c.lit_of.result c.loop-choice-test.true c.choice-item.is c.lit_of.ensures.number
      c.loop-choice.invariant.each);
  written = subst (All IsLiteral) (sym c.in_ok-push.ensures.items)
      (All-push IsLiteral c.loop-choice.lits.items c.lit_of.result c.loop-choice.invariant.written
      c.lit_of.ensures.written);
}
