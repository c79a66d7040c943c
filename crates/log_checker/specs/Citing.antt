-- What a cited clause may have.
use Rattle.std.specs.Prelude.{◌≡◌, ℕ, ◌-◌, List, Contains}
use Rattle.kb_logic.specs.declared.elements.ExtInt.{ExtInt}
use Rattle.lit_core.specs.declared.literals.Lit.{Lit}
use Rattle.lit_core.specs.Literals.{negated}
use Rattle.ground_core.specs.declared.parts.TermBound.{TermBound}
use Rattle.log_checker.specs.declared.citing.Other.{Other}
use Rattle.log_checker.specs.declared.citing.Other.TheVariants.{Nothing, Forced, Below}

-- the literal is the negation of this bound's output, and the bound is this one on the term
abbrev pub IsSelector : ℕ → ExtInt → Lit → TermBound → Type 0
IsSelector t k m b = (b.term ≡ t - 1) × (b.below ≡ k) × (m ≡ negated b.out)

abbrev pub IsOther : List TermBound → Other → Lit → Type 0
IsOther bounds Nothing m = ⊥
IsOther bounds (Forced l) m = m ≡ l
IsOther bounds (Below t k) m = (b : TermBound) × Contains bounds b × (b.term ≡ t - 1) × (b.below ≡ k)
    × (m ≡ negated b.out)
