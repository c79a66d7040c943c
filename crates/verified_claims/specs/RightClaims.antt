-- What is known of the claims of an accepted log, and the lines that say them.
use Rattle.std.specs.Prelude.{◌≡◌, ℕ, ◌≤◌, List, ◌++◌, All, flat_map, length}
use Rattle.kb_logic.specs.Bases.{Base}
use Rattle.kb_logic.specs.KnownAtoms.{atoms_over}
use Rattle.kb_logic.specs.Structures.{EachWith}
use Rattle.ground_core.specs.Problems.{IsLitOf, AreLitsOf}
use Rattle.derivation_log.specs.declared.claims.Claim.{Claim}
use Rattle.derivation_log.specs.declared.claims.Claim.TheVariants as claim
use Rattle.verified_claims.specs.declared.said.SaidClaim.{SaidClaim}
use Rattle.verified_claims.specs.SaidClaims.{Says, IsTrueOf}
use Rattle.verified_claims.specs.ClaimLines.{claim_line, verdict_text}
use Rattle.verified_claims.specs.Verdicts.{IsAcceptedOver}

-- the claim speaks of the first n variables, and of a term, counted from 1
abbrev pub IsOver : ℕ → Claim → Type 0
IsOver n (claim.Inconsistent line lits) = AreLitsOf n lits
IsOver n (claim.Forced line l lits) = IsLitOf n l × AreLitsOf n lits
IsOver n (claim.Least line t k lits) = (1 ≤ t) × AreLitsOf n lits

abbrev pub atom_count : Base → ℕ
atom_count base = length (atoms_over base.vocabulary.symbols base.known.domains)

-- whatever the claim says is true
abbrev pub IsRight : Base → Claim → Type 0
IsRight base c = (s : SaidClaim) → Says base c s → IsTrueOf base s

-- the claims of the log, all of ground atoms, and true
pub record AreClaimsOf (base : Base) (log : List ℕ) (claims : List Claim) : Type 0 where
  pub accepted : IsAcceptedOver base log claims
  pub over : All (IsOver (atom_count base)) claims
  pub right : All (IsRight base) claims

-- there is one line more, with what the claim says
abbrev pub HasLineOf : Base → Claim → List ℕ → List ℕ → Type 0
HasLineOf base c old new = (s : SaidClaim) × Says base c s × (new ≡ old ++ claim_line base s)

-- there is a line more for each claim, with what it says
abbrev pub HasLinesOf : Base → List Claim → List ℕ → List ℕ → Type 0
HasLinesOf base cs old new =
    (ss : List SaidClaim) × EachWith (Says base) cs ss × (new ≡ old ++ flat_map (claim_line base) ss)

-- the text says the claims, and that they are accepted
abbrev pub IsTextOf : Base → List Claim → List ℕ → Type 0
IsTextOf base cs text = (ss : List SaidClaim) × EachWith (Says base) cs ss × (text ≡ verdict_text base ss)
