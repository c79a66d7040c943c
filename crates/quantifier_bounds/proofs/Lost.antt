-- A formula that is certainly of the other value.
use Rattle.std.proofs.Common.{◌≡◌, List, Bool, true, false, not, Result, refl, sym, ◌∙◌}
use Rattle.std.proofs.lemmas.Bool.{true≢false}
use Rattle.kb_logic.specs.declared.elements.Elem.{Elem}
use Rattle.kb_logic.specs.Trees.{FormulaTree}
use Rattle.kb_logic.specs.KnownAtoms.{KnownAtoms}
use Rattle.certain_truth.specs.Certainty.{certain_truth}
use Rattle.bound_laws.specs.Closures.{opposes, IsNotLost}
use Rattle.quantifier_bounds.specs.Steps.{Narrows, IsConstant}
use Rattle.quantifier_bounds.specs.declared.fault.BoundFault.{BoundFault}
use Rattle.quantifier_bounds.proofs.Made.{constant}
use Rattle.quantifier_bounds.proofs.Lasts.{still_lost}

flip : (b : Bool) → not b ≡ true → b ≡ false
flip true h = cc
flip false h = refl

flop : (b : Bool) → not b ≡ false → b ≡ true
flop true h = refl
flop false h = absurd (cc)

pub not_lost : (k : KnownAtoms) (v : Bool) (f : FormulaTree) (e : List Elem) (r : Result Bool BoundFault)
    → IsConstant (not (opposes v (certain_truth k f e))) r → Narrows k k r (λ q. IsNotLost q v f e)
not_lost k v f e r h = constant k (not (opposes v (certain_truth k f e))) r (λ q. IsNotLost q v f e) h
    (flip (opposes v (certain_truth k f e)))
    (λ lost q c l more open_. true≢false (sym (still_lost k q c more v f e (flop (opposes v (certain_truth k f e))
    lost)) ∙ open_))
