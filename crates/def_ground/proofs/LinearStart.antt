-- Where aggregates start.
use Rattle.std.proofs.Common.{◌≡◌, ℕ, pos, Bool, [], refl}
use Rattle.std.proofs.lemmas.List.Elements.{All-nil}
use Rattle.kb_logic.specs.declared.syntax.AggKind.{AggKind}
use Rattle.kb_logic.specs.declared.syntax.AggKind.TheVariants as kind
use Rattle.kb_logic.specs.Denotations.{aggregate_value}
use Rattle.ground_core.specs.declared.parts.Part.{Part}
use Rattle.ground_core.specs.Problems.{ProblemState, IsProblem, IsLitOf}
use Rattle.def_ground.specs.LinearValues.{linear_value, IsBaseOf, Comes}
use Rattle.def_ground.proofs.Growing.{more-refl}

no-base : (k : AggKind) → IsBaseOf k (pos 0)
no-base kind.Count = tt
no-base kind.Sum = tt
no-base kind.Min = refl
no-base kind.Max = refl

nothing-yet : (k : AggKind) (p : ProblemState) (v : ℕ → Bool)
    → linear_value k v (record { base = pos 0; parts = []; problem = p }) ≡ aggregate_value k []
nothing-yet kind.Count p v = refl
nothing-yet kind.Sum p v = refl
nothing-yet kind.Min p v = refl
nothing-yet kind.Max p v = refl

-- no part yet
pub start-comes : (k : AggKind) (p : ProblemState) → IsProblem p
    → Comes k p (record { base = pos 0; parts = []; problem = p }) (λ v. aggregate_value k [])
start-comes k p fine = record {
  linear = record { fine = fine; within = All-nil (λ (x : Part). IsLitOf p.vars x.lit); plain = no-base k };
  more = more-refl p;
  right = λ v s. nothing-yet k p v;
}
