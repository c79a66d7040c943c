-- Totals of weights.
use Rattle.std.specs.Prelude.{ℕ, pos, neg_ℤ, ◌≤ℤ◌}
use Rattle.kb_logic.specs.declared.syntax.AggKind.{AggKind}
use Rattle.kb_logic.specs.declared.syntax.AggKind.TheVariants as kind
use Rattle.kb_logic.specs.Denotations.{Denotation, number, minus_infinity, plus_infinity}
use Rattle.solving_judge.specs.declared.totals.Total.{Total}
use Rattle.solving_judge.specs.declared.totals.Total.TheVariants.{NegInf, Num, PosInf}

-- the value that the total is
abbrev pub denoted : Total → Denotation
denoted NegInf = minus_infinity
denoted (Num z) = number z
denoted PosInf = plus_infinity

-- from -n to n, or infinite
abbrev pub IsWithin : ℕ → Total → Type 0
IsWithin n NegInf = Unit {0}
IsWithin n (Num z) = (neg_ℤ (pos n) ≤ℤ z) × (z ≤ℤ pos n)
IsWithin n PosInf = Unit {0}

-- such a total of this kind: counts and sums are numbers
abbrev pub IsOf : AggKind → ℕ → Total → Type 0
IsOf k n (Num z) = IsWithin n (Num z)
IsOf kind.Count n total = ⊥
IsOf kind.Sum n total = ⊥
IsOf kind.Min n total = Unit {0}
IsOf kind.Max n total = Unit {0}
