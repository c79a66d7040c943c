use Rattle.std.proofs.Common.{◌≡◌, ◌+◌, ◌∷◌, ◌∙◌, sym, ap, subst, drop, map, Err}
use Rattle.std.specs.List.{AllByRecursion}
use Rattle.std.proofs.lemmas.List.{at_drop_more}
use Rattle.std.proofs.lemmas.Result.{err_from_is_err_and}
use Rattle.kb_logic.specs.declared.elements.Elem.{Elem}
use Rattle.kb_logic.specs.Views.{rule_view}
use Rattle.kb_logic.specs.Models.{IsAtomOver}
use Rattle.kb_logic.specs.KnownAtoms.{KnownAtoms}
use Rattle.bound_laws.specs.Closures.{value_atom}
use Rattle.quantifier_bounds.specs.Rules.{definition_of, Derives}
use Rattle.quantifier_bounds.specs.Steps.{IsStep, Narrows}
use Rattle.quantifier_bounds.proofs.Steps.{SoFar}
use Rattle.quantifier_bounds.proofs.Values.{Every, every_turn, every_fault}
use Rattle.quantifier_bounds.proofs.Defined.{same_rules}
use Rattle.quantifier_bounds.proofs.definitions.define_values.Goals as goal

pub returns-in_err-more : goal.returns-in_err-more
returns-in_err-more c =
    let first = c.args.known.now in
    let now = c.loop-at.known in
    let then' = c.define.new.known in
    let xs = c.args.values.now in
    let at = c.loop-at.at in
    let x = c.index-values-at.result in
    let d = definition_of c.args.defining.rules.now in
    let split : drop at xs ≡ x ∷ drop (at + 1) xs =
    at_drop_more (λ us. us) xs at x c.loop-at-test.true ∙ ap (λ y. y ∷ drop (at + 1) xs) (sym c.index-values-at.is) in
    let D = λ (y : Elem) (q : KnownAtoms). Derives q d (value_atom c.args.symbol c.args.args.now y) in
    let p = err_from_is_err_and c.from_residual-in_err-more.result c.from_residual-in_err-more.ensures.1 in
    subst (λ r. Narrows first then' r (Every D xs)) (sym (p.1 ∙ ap Err p.2))
    (every_fault D first now c.loop-at.changed xs (drop at xs) (drop (at + 1) xs) x split c.loop-at.invariant.so_far
    then' then' c.in_err-more.field-0.0
    (subst (λ a. Narrows now then' (Err c.in_err-more.field-0.0) (λ q. Derives q d a)) c.in_ok-atom.ensures
    c.in_err-more.ensures))

pub loop-at-preserved : goal.loop-at-preserved
loop-at-preserved c =
    let first = c.args.known.now in
    let now = c.loop-at.known in
    let then' = c.define.new.known in
    let xs = c.args.values.now in
    let at = c.loop-at.at in
    let x = c.index-values-at.result in
    let s = c.args.symbol in
    let r = c.args.args.now in
    let rs = map rule_view c.args.defining.rules.now in
    let d = definition_of c.args.defining.rules.now in
    let split : drop at xs ≡ x ∷ drop (at + 1) xs =
    at_drop_more (λ us. us) xs at x c.loop-at-test.true ∙ ap (λ y. y ∷ drop (at + 1) xs) (sym c.index-values-at.is) in
    let D = λ (y : Elem) (q : KnownAtoms). Derives q d (value_atom s r y) in
    let step : IsStep now then' c.in_ok-more.more (D x) =
    subst (λ a. IsStep now then' c.in_ok-more.more (λ q. Derives q d a)) c.in_ok-atom.ensures c.in_ok-more.ensures in
    let rest = (subst (λ us. AllByRecursion (λ y. IsAtomOver now.symbols now.domains (value_atom s r y)) us) split
    c.loop-at.invariant.over).1 in
    record {
      over = subst (λ ds. AllByRecursion (λ y. IsAtomOver then'.symbols ds (value_atom s r y)) (drop (at + 1) xs))
          (sym step.more.domains)
          (subst (λ ss. AllByRecursion (λ y. IsAtomOver ss now.domains (value_atom s r y)) (drop (at + 1) xs))
          (sym step.more.symbols) rest);
      fits = same_rules now then' rs step.more.symbols step.more.domains c.loop-at.invariant.fits;
      so_far = subst (λ b. SoFar first then' b (Every D xs) (Every D (drop (at + 1) xs))) (sym c.either-changed.ensures)
          (every_turn D first now c.loop-at.changed xs (drop at xs) (drop (at + 1) xs) x split
          c.loop-at.invariant.so_far then' c.in_ok-more.more step);
    }
