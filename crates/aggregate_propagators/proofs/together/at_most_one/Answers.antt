use Rattle.std.proofs.Common.{◌≡◌, ◌⊎◌, ◌∷◌, [], ℕ, Bool, true, All, List, Option, IfSome, subst}
use Rattle.std.proofs.lemmas.Result.{IfOk-weaker}
use Rattle.lit_core.specs.declared.literals.Lit.{Lit}
use Rattle.lit_core.specs.Truth.{IsFalsified, IsSatisfied, IsUnitAt}
use Rattle.ground_core.specs.declared.parts.AggCon.{AggCon}
use Rattle.ground_core.specs.Meaning.{SumHolds}
use Rattle.ground_core.specs.Intervals.{contradicts, refuting}
use Rattle.aggregate_propagators.specs.Implied.{Follows, IsOfSum}
use Rattle.aggregate_propagators.specs.Thresholds.{constraint_of}
use Rattle.aggregate_propagators.proofs.Followed.{follows-alone}
use Rattle.aggregate_propagators.proofs.together.at_most_one.Goals as goal

pub returns-in-Some-clause-each : goal.returns-in-Some-clause-each
returns-in-Some-clause-each c =
    let xs = c.args.values.now in
    let con : AggCon = constraint_of c.args.c c.args.parts.now in
    let cl : List Lit = c.in-Some.clause in
    let is = c.in-Some.is in
    let said = c.in_ok-clause.ensures in
    let one : Follows xs con cl = record {
      holds = subst (λ (o : Option (List Lit)). IfSome o (λ l. (v : ℕ → Bool) → SumHolds v con → IsSatisfied v l)) is
          said.holds;
      acts = subst (λ (o : Option (List Lit)). IfSome o (λ l. IsFalsified xs l ⊎ ((m : Lit) × IsUnitAt xs l m))) is
          said.acts;
      alone = subst (λ (o : Option (List Lit)). IfSome o (λ l. contradicts (refuting l) con ≡ true)) is said.alone;
      variables = subst (λ (o : Option (List Lit)). IfSome o (λ l. All (λ m. IsOfSum m con) l)) is said.variables;
    } in
    IfOk-weaker c.alone.result (λ cls. cls ≡ cl ∷ []) (All (Follows xs con))
    (λ cls e. follows-alone xs con cl cls e one) c.alone.ensures
