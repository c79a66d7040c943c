-- The four kinds of terms as one: a sum of what the true parts count, and a bound on it.
use Rattle.std.specs.Prelude.{ℕ, ℤ, pos, neg_ℤ, ◌+ℤ◌, Bool, if◌then◌else◌, List, [], ◌∷◌}
use Rattle.kb_logic.specs.declared.elements.ExtInt.{ExtInt}
use Rattle.kb_logic.specs.declared.elements.ExtInt.TheVariants.{NegInf, Num, PosInf}
use Rattle.kb_logic.specs.declared.syntax.AggKind.{AggKind}
use Rattle.kb_logic.specs.declared.syntax.AggKind.TheVariants as kind
use Rattle.kb_logic.specs.Denotations.{number}
use Rattle.lit_core.specs.Literals.{literal_value}
use Rattle.ground_core.specs.declared.parts.Part.{Part}
use Rattle.term_bounds.specs.Amounts.{is_under}

-- what a true part counts: for a minimum 1 off where it is below the bound, for a maximum 1 where it is not
abbrev pub counted_as : AggKind → ExtInt → ℤ → ℤ
counted_as kind.Count bound w = pos 1
counted_as kind.Sum bound w = w
counted_as kind.Min bound w = if is_under bound (number w) then neg_ℤ (pos 1) else pos 0
counted_as kind.Max bound w = if is_under bound (number w) then pos 0 else pos 1

-- no part of a maximum may reach a bound
abbrev pub none_reaching : ExtInt → ExtInt
none_reaching NegInf = NegInf
none_reaching (Num z) = Num (pos 1)
none_reaching PosInf = Num (pos 1)

-- the bound on the sum
abbrev pub total_bound : AggKind → ExtInt → ExtInt
total_bound kind.Count bound = bound
total_bound kind.Sum bound = bound
total_bound kind.Min bound = Num (pos 0)
total_bound kind.Max bound = none_reaching bound

-- a number where the test is true, and 0 where it is not
abbrev pub where_true : Bool → ℤ → ℤ
where_true b w = if b then w else pos 0

-- what the true parts count together
abbrev pub total : (ℕ → Bool) → AggKind → ExtInt → List Part → ℤ
total v k bound [] = pos 0
total v k bound (p ∷ ps) = where_true (literal_value v p.lit) (counted_as k bound p.weight) +ℤ total v k bound ps
