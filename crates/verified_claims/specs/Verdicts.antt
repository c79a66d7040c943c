-- What is answered about a log.
use Rattle.std.specs.Prelude.{◌≡◌, ℕ, List, ⊤}
use Rattle.std.specs.List.{AllByRecursion}
use Rattle.kb_logic.specs.Bases.{Base}
use Rattle.kb_logic.specs.Structures.{EachWith}
use Rattle.derivation_log.specs.declared.claims.Claim.{Claim}
use Rattle.derivation_log.specs.Checks.{IsAccepted, IsFirstBad}
use Rattle.ground_core.specs.Problems.{ProblemState}
use Rattle.log_checker.specs.Growing.{Checking, beginning}
use Rattle.narrowed_bases.specs.Narrowings.{IsProblemOf}
use Rattle.verified_claims.specs.declared.said.SaidClaim.{SaidClaim}
use Rattle.verified_claims.specs.declared.verdicts.LogError.{LogError}
use Rattle.verified_claims.specs.declared.verdicts.LogError.TheVariants.{Refused, Memory}
use Rattle.verified_claims.specs.SaidClaims.{Says, IsTrueOf}
use Rattle.verified_claims.specs.ClaimLines.{verdict_text}

-- the log is accepted over the ground problem of the knowledge base, and has these claims
abbrev pub IsAcceptedOver : Base → List ℕ → List Claim → Type 0
IsAcceptedOver base log claims = (p : ProblemState) × IsProblemOf base p × IsAccepted p log claims

-- no entry is known of a log over the ground problem of the knowledge base
abbrev pub IsFresh : Base → Checking → Type 0
IsFresh base c = IsProblemOf base c.problem × (c ≡ beginning c.problem)

-- the entry of this number is the first that is no step over the ground problem of the knowledge base
abbrev pub IsFirstBadOver : Base → List ℕ → ℕ → Type 0
IsFirstBadOver base log n = (p : ProblemState) × IsProblemOf base p × IsFirstBad p log n

-- the log is accepted over the ground problem of the knowledge base; the text says what it claims, in its order, and
-- that it is accepted; and all that is said is true of the knowledge base's models
pub record IsVerdict (base : Base) (log text : List ℕ) : Type 0 where
  pub claims : List Claim
  pub accepted : IsAcceptedOver base log claims
  pub said : List SaidClaim
  pub says : EachWith (Says base) claims said
  pub right : AllByRecursion (IsTrueOf base) said
  pub text_is : text ≡ verdict_text base said

-- an entry is the first that is no step, or there was no memory
abbrev pub IsLogError : Base → List ℕ → LogError → Type 0
IsLogError base log (Refused n) = IsFirstBadOver base log n
IsLogError base log Memory = ⊤
