use Rattle.std.proofs.Common.{◌∙◌, List, sym, ap, subst, refl, ◌++◌, ℕ, []}
use Rattle.kb_logic.specs.declared.structures.Literal.{Literal}
use Rattle.kb_logic.specs.Models.{IsAtomOver, atom_of}
use Rattle.claimed_replies.proofs.ClaimLemmas.{none_forced, next_found, AreForcedTexts}
use Rattle.claimed_replies.proofs.claims.of_forced.Goals as goal

pub loop-literal-init : goal.loop-literal-init
loop-literal-init g c = record {
  lits = refl;
  so_far = subst (AreForcedTexts c.args.task.now.numbers c.args.lits.now.items []) (sym c.new-bytes.ensures.items)
      (none_forced c.args.task.now.numbers c.args.lits.now.items);
}

pub forced-requires : goal.forced-requires
forced-requires g c =
    subst (λ (l : Literal). IsAtomOver c.args.task.now.numbers.vocabulary.symbols c.args.task.now.numbers.domains
    (atom_of l)) (sym c.literal-item.is)
    (c.requires c.loop-literal.literal-index c.literal-item.result c.loop-literal-test.true)

pub loop-literal-preserved : goal.loop-literal-preserved
loop-literal-preserved g c =
    let text = rw c.in-Some.is at c.in_ok-text.ensures in
    let lits = c.in_ok-found.ensures.kept ∙ c.loop-literal.invariant.lits in
    record {
      lits = lits;
      so_far = next_found c.args.task.now.numbers c.args.lits.now.items c.loop-literal.lits.items c.args.literals.now
          c.loop-literal.literal-index c.literal-item.result c.in_ok-found.found c.loop-literal.bytes.items
          c.extend_from_slice.new.self.items c.loop-literal.invariant.lits c.loop-literal-test.true c.literal-item.is
          c.loop-literal.invariant.so_far c.in_ok-found.ensures.says c.in-Some.text.items text
          (c.in_ok-extend_from_slice.ensures.items
          ∙ ap (λ (t : List ℕ). c.loop-literal.bytes.items ++ t) c.deref.ensures.value);
    }
