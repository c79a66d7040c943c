-- What the claims of a log are in the words of a knowledge base, and which of them are true.
use Rattle.std.specs.Prelude.{◌≡◌, ◌+◌, false, List, [], Some, slice_get}
use Rattle.kb_logic.specs.declared.structures.Literal.{Literal}
use Rattle.kb_logic.specs.declared.structures.Structure.{Structure}
use Rattle.kb_logic.specs.Bases.{Base, NamedTerm}
use Rattle.kb_logic.specs.Denotations.{denotation_of_bound, lower_value}
use Rattle.kb_logic.specs.InForce.{InForce, IsModelOf, HasNoModel, Forces}
use Rattle.kb_logic.specs.Meaning.{value_of}
use Rattle.kb_logic.specs.Structures.{EachWith}
use Rattle.derivation_log.specs.declared.claims.Claim.{Claim}
use Rattle.derivation_log.specs.declared.claims.Claim.TheVariants as claim
use Rattle.term_values.specs.GroundBases.{GroundBase}
use Rattle.atom_numbers.specs.Numbers.{HasNumber, bare_base}
use Rattle.verified_claims.specs.declared.said.SaidClaim.{SaidClaim}
use Rattle.verified_claims.specs.declared.said.SaidClaim.TheVariants.{Inconsistent, Forced, Least}

-- the claim says this: it is of the same line, literals of ground atoms stand for those of their variables, and terms
-- are counted from 0
abbrev pub SaysBy : GroundBase → Claim → SaidClaim → Type 0
SaysBy b (claim.Inconsistent n lits) (Inconsistent line choices) = (line ≡ n) × EachWith (HasNumber b) choices lits
SaysBy b (claim.Forced n lit lits) (Forced line l choices) = (line ≡ n) × HasNumber b l lit
    × EachWith (HasNumber b) choices lits
SaysBy b (claim.Least n t k lits) (Least line term value choices) = (line ≡ n) × (t ≡ term + 1) × (value ≡ k)
    × EachWith (HasNumber b) choices lits
SaysBy b _ _ = ⊥

-- the vocabulary and the domains of a knowledge base, by which its ground atoms have their variables
abbrev pub atom_base : Base → GroundBase
atom_base base = bare_base base.vocabulary base.known.domains

-- the claim says this of the knowledge base
abbrev pub Says : Base → Claim → SaidClaim → Type 0
Says base c s = SaysBy (atom_base base) c s

-- these choices in force
abbrev pub under : List Literal → InForce
under choices = record { choices = choices }

-- there is no model under the choices; the literal is true in each; the term is there, and in none it has a value below
-- this one
abbrev pub IsTrueOf : Base → SaidClaim → Type 0
IsTrueOf base (Inconsistent line choices) = HasNoModel base (under choices)
IsTrueOf base (Forced line l choices) = Forces base (under choices) l
IsTrueOf base (Least line t v choices) = (term : NamedTerm) × (slice_get base.terms t ≡ Some term)
    × ((m : Structure) → IsModelOf base (under choices) m
    → lower_value (value_of m term.term []) (denotation_of_bound v) ≡ false)
