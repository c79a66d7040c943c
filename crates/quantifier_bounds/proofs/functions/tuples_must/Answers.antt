use Rattle.std.proofs.Common.{◌≡◌, ◌+◌, ◌∷◌, ◌∙◌, List, sym, ap, subst, drop}
use Rattle.std.specs.List.{AllByRecursion}
use Rattle.std.proofs.lemmas.List.{at_drop_more}
use Rattle.kb_logic.specs.declared.elements.Elem.{Elem}
use Rattle.kb_logic.specs.Models.{IsAtomOver}
use Rattle.kb_logic.specs.KnownAtoms.{KnownAtoms}
use Rattle.bound_laws.specs.Closures.{value_atom}
use Rattle.quantifier_bounds.specs.Walks.{HasLone}
use Rattle.quantifier_bounds.proofs.Steps.{SoFar}
use Rattle.quantifier_bounds.proofs.Values.{Every, every_turn}
use Rattle.quantifier_bounds.proofs.functions.tuples_must.Goals as goal

pub function_must-requires : goal.function_must-requires
function_must-requires c =
    let now = c.loop-at.known in
    let xs = c.args.tuples.now in
    let at = c.loop-at.at in
    let x = c.index-tuples-at.result in
    let split : drop at xs ≡ x ∷ drop (at + 1) xs =
    at_drop_more (λ us. us) xs at x c.loop-at-test.true ∙ ap (λ y. y ∷ drop (at + 1) xs) (sym c.index-tuples-at.is) in
    (subst (λ us. AllByRecursion (λ r. AllByRecursion (λ y. IsAtomOver now.symbols now.domains
    (value_atom c.args.symbol r y)) c.args.values.now) us) split c.loop-at.invariant.over).0

pub loop-at-preserved : goal.loop-at-preserved
loop-at-preserved c =
    let first = c.args.known.now in
    let now = c.loop-at.known in
    let then' = c.function_must.new.known in
    let xs = c.args.tuples.now in
    let at = c.loop-at.at in
    let x = c.index-tuples-at.result in
    let s = c.args.symbol in
    let vs = c.args.values.now in
    let split : drop at xs ≡ x ∷ drop (at + 1) xs =
    at_drop_more (λ us. us) xs at x c.loop-at-test.true ∙ ap (λ y. y ∷ drop (at + 1) xs) (sym c.index-tuples-at.is) in
    let step = c.in_ok-more.ensures in
    let D = λ (r : List Elem) (q : KnownAtoms). HasLone q s r vs in
    let rest = (subst (λ us. AllByRecursion (λ r. AllByRecursion (λ y. IsAtomOver now.symbols now.domains
    (value_atom s r y)) vs) us) split c.loop-at.invariant.over).1 in
    record {
      over = subst (λ ds. AllByRecursion (λ r. AllByRecursion (λ y. IsAtomOver then'.symbols ds (value_atom s r y)) vs)
          (drop (at + 1) xs)) (sym step.more.domains)
          (subst (λ ss. AllByRecursion (λ r. AllByRecursion (λ y. IsAtomOver ss now.domains (value_atom s r y)) vs)
          (drop (at + 1) xs)) (sym step.more.symbols) rest);
      so_far = subst (λ b. SoFar first then' b (Every D xs) (Every D (drop (at + 1) xs))) (sym c.either-changed.ensures)
          (every_turn D first now c.loop-at.changed xs (drop at xs) (drop (at + 1) xs) x split
          c.loop-at.invariant.so_far then' c.in_ok-more.more step);
    }
