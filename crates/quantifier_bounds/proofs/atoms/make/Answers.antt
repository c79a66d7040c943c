use Rattle.std.proofs.Common.{◌≡◌, true, false, subst, sym}
use Rattle.partial_structures.specs.KnownAtoms.{atom_of, value_at}
use Rattle.certain_truth.specs.Certainty.{truth_if}
use Rattle.quantifier_bounds.specs.Steps.{IsStep}
use Rattle.quantifier_bounds.proofs.Made.{made_true, made_false}
use Rattle.quantifier_bounds.proofs.atoms.make.Goals as goal

pub returns-in-Ok : goal.returns-in-Ok
returns-in-Ok c =
    let k = c.args.known.now in
    let a = atom_of c.args.atom.now in
    subst (λ b. IsStep k c.set_true.new.self true (λ q. value_at q a ≡ truth_if b)) (sym c.if-v.true)
    (subst (λ j. IsStep k j true (λ q. value_at q a ≡ truth_if true)) (sym c.in-Ok.ensures.ok)
    (made_true k c.consistency.ensures.consistent c.consistency.ensures.listed a c.requires.over c.requires.unknown))

pub returns-in-Ok-set_false : goal.returns-in-Ok-set_false
returns-in-Ok-set_false c =
    let k = c.args.known.now in
    let a = atom_of c.args.atom.now in
    subst (λ b. IsStep k c.set_false.new.self true (λ q. value_at q a ≡ truth_if b)) (sym c.if-v.false)
    (subst (λ j. IsStep k j true (λ q. value_at q a ≡ truth_if false)) (sym c.in-Ok-set_false.ensures.ok)
    (made_false k c.consistency.ensures.consistent c.consistency.ensures.listed a c.requires.over c.requires.unknown))
