-- What a claim says of a problem.
use Rattle.std.specs.Prelude.{◌≡◌, ℕ, ◌-◌, Bool, true, false, IfSome, slice_get}
use Rattle.kb_logic.specs.declared.syntax.Cmp.TheVariants as cmp
use Rattle.kb_logic.specs.Denotations.{compared}
use Rattle.lit_core.specs.Literals.{literal_value}
use Rattle.ground_core.specs.Problems.{ProblemState}
use Rattle.ground_core.specs.Meaning.{Satisfies, MakesTrue, RefutesAll, term_value, denotation_of_bound}
use Rattle.derivation_log.specs.declared.claims.Claim.{Claim}
use Rattle.derivation_log.specs.declared.claims.Claim.TheVariants.{Inconsistent, Forced, Least}

-- no valuation makes the literals true; each that does makes the literal true; none that does gives the term a value
-- below the number
abbrev pub ClaimHolds : ProblemState → Claim → Type 0
ClaimHolds p (Inconsistent line lits) = RefutesAll p lits
ClaimHolds p (Forced line l lits) = (v : ℕ → Bool) → Satisfies p v → MakesTrue v lits → literal_value v l ≡ true
ClaimHolds p (Least line t k lits) =
    (v : ℕ → Bool) → Satisfies p v → MakesTrue v lits → IfSome (slice_get p.terms (t - 1))
    (λ x. compared cmp.Lt (term_value v x) (denotation_of_bound k) ≡ false)
