-- Bounds on numbers that need not fit 64 bits.
use Rattle.std.specs.Prelude.{ℤ, ◌-ℤ◌, Bool}
use Rattle.kb_logic.specs.declared.elements.ExtInt.{ExtInt}
use Rattle.kb_logic.specs.declared.elements.ExtInt.TheVariants.{NegInf, Num, PosInf}
use Rattle.kb_logic.specs.declared.syntax.Cmp.TheVariants as cmp
use Rattle.kb_logic.specs.Denotations.{Denotation, compared}
use Rattle.ground_core.specs.Meaning.{denotation_of_bound}
use Rattle.term_bounds.specs.declared.amounts.Amount.{Amount}
use Rattle.term_bounds.specs.declared.amounts.Amount.TheVariants as amount

-- the number, or infinity
abbrev pub amount_of : Amount → ExtInt
amount_of amount.NegInf = NegInf
amount_of (amount.Num z) = Num z
amount_of amount.PosInf = PosInf

-- whether a value is below the bound
abbrev pub is_under : ExtInt → Denotation → Bool
is_under bound d = compared cmp.Lt d (denotation_of_bound bound)

-- the bound on what is left of a value once a base is taken off
abbrev pub lessened : ℤ → ExtInt → ExtInt
lessened base NegInf = NegInf
lessened base (Num z) = Num (z -ℤ base)
lessened base PosInf = PosInf
