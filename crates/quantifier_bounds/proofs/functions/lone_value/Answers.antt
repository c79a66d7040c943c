use Rattle.std.proofs.Common.{◌≡◌, ◌+◌, ◌∷◌, ◌∙◌, sym, ap, subst, drop, true}
use Rattle.std.specs.List.{AllByRecursion}
use Rattle.std.proofs.lemmas.List.{at_drop_more}
use Rattle.kb_logic.specs.Models.{IsAtomOver}
use Rattle.partial_structures.specs.KnownAtoms.{value_at, atom_of}
use Rattle.partial_structures.specs.declared.truths.Truth.TheVariants.{Yes}
use Rattle.bound_laws.specs.Closures.{opposes, value_atom}
use Rattle.quantifier_bounds.specs.Steps.{Narrows}
use Rattle.quantifier_bounds.proofs.Values.{before_more, found}
use Rattle.quantifier_bounds.proofs.functions.lone_value.Goals as goal

pub loop-at-preserved : goal.loop-at-preserved
loop-at-preserved c =
    let k = c.args.known.now in
    let now = c.loop-at.known in
    let s = c.args.symbol in
    let r = c.args.args.now in
    let xs = c.args.values.now in
    let at = c.loop-at.at in
    let x = c.index-values-at.result in
    let same = c.loop-at.invariant.same in
    let split : drop at xs ≡ x ∷ drop (at + 1) xs =
    at_drop_more (λ us. us) xs at x c.loop-at-test.true ∙ ap (λ y. y ∷ drop (at + 1) xs) (sym c.index-values-at.is) in
    let value = c.is_no.ensures ∙ ap (opposes true) (c.value.ensures ∙ ap (value_at now) c.in_ok-atom.ensures
    ∙ ap (λ j. value_at j (value_atom s r x)) same) in
    record {
      over = (subst (λ us. AllByRecursion (λ y. IsAtomOver now.symbols now.domains (value_atom s r y)) us) split
          c.loop-at.invariant.over).1;
      same = same;
      before = before_more k s r xs (drop at xs) (drop (at + 1) xs) x split c.loop-at.invariant.before
          (sym value ∙ c.if-is_no.true);
    }

pub returns-in-loop-at : goal.returns-in-loop-at
returns-in-loop-at c =
    let k = c.args.known.now in
    let now = c.loop-at.known in
    let s = c.args.symbol in
    let r = c.args.args.now in
    let xs = c.args.values.now in
    let at = c.loop-at.at in
    let x = c.index-values-at.result in
    let same = c.loop-at.invariant.same in
    let split : drop at xs ≡ x ∷ drop (at + 1) xs =
    at_drop_more (λ us. us) xs at x c.loop-at-test.true ∙ ap (λ y. y ∷ drop (at + 1) xs) (sym c.index-values-at.is) in
    let value = c.is_no.ensures ∙ ap (opposes true) (c.value.ensures ∙ ap (value_at now) c.in_ok-atom.ensures
    ∙ ap (λ j. value_at j (value_atom s r x)) same) in
    found k s r xs (drop at xs) (drop (at + 1) xs) x split c.loop-at.invariant.before c.settle.new.known c.settle.result
    (sym value ∙ c.if-is_no.false)
    (subst (λ a. Narrows k c.settle.new.known c.settle.result (λ q. value_at q a ≡ Yes)) c.in_ok-atom.ensures
    (subst (λ j. Narrows j c.settle.new.known c.settle.result (λ q. value_at q (atom_of c.in_ok-atom.atom) ≡ Yes)) same
    c.settle.ensures))
