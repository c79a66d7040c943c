use Rattle.std.proofs.Common.{IfSome, subst}
use Rattle.aggregate_propagators.specs.declared.thresholds.Threshold.{Threshold}
use Rattle.aggregate_propagators.specs.Implied.{assigned, AreOpen, Decides}
use Rattle.aggregate_propagators.specs.Thresholds.{constraint_of}
use Rattle.aggregate_propagators.proofs.single.decided_once.Goals as goal

pub returns-in-Some-clause-some : goal.returns-in-Some-clause-some
returns-in-Some-clause-some c =
    let a = assigned c.args.values.now in
    let ps = c.args.parts.now in
    subst (λ (t : Threshold). IfSome c.decided_part.result (λ l. Decides a (constraint_of t ps) l
    × (AreOpen a (constraint_of t ps) → ⊥))) c.end_of.ensures.of c.decided_part.ensures.some
