-- The clause of a contradiction, with no more reasons than its margin asks for.
use Rattle.std.specs.Prelude.{◌≡◌, ℕ, ℤ, pos, ◌-ℤ◌, ◌^◌, int_lt, int_le, Bool, true, false, if◌then◌else◌, Option, Some}
use Rattle.std.specs.Prelude.{None, List, [], ◌∷◌, ◌++◌, All}
use Rattle.kb_logic.specs.declared.elements.ExtInt.{ExtInt}
use Rattle.kb_logic.specs.declared.elements.ExtInt.TheVariants.{NegInf, Num, PosInf}
use Rattle.kb_logic.specs.declared.syntax.AggKind.{AggKind}
use Rattle.lit_core.specs.declared.literals.Lit.{Lit}
use Rattle.ground_core.specs.declared.parts.Part.{Part}
use Rattle.ground_core.specs.declared.parts.AggCon.{AggCon}
use Rattle.ground_core.specs.Intervals.{known_of, contradicts, refuting}
use Rattle.aggregate_propagators.specs.Reasons.{asks_high, denied, in_end}
use Rattle.aggregate_propagators.specs.Totals.{gain, gain_if, goal_of}
use Rattle.aggregate_propagators.specs.Once.{end_total}

-- how far two numbers are apart
abbrev pub gap : ℤ → ℤ → ℤ
gap x y = if int_lt x y then y -ℤ x else x -ℤ y

-- how far the end of the interval moves where a part's value is forgotten
abbrev pub forgotten : Bool → AggKind → ExtInt → ℤ → Option Bool → ℤ
forgotten high k least w o = gap (gain_if (in_end high k w o) (gain k least w))
    (gain_if (in_end high k w None) (gain k least w))

-- the reasons, but for those that the spare has room for
abbrev pub spared : (ℕ → Option Bool) → Bool → AggKind → ExtInt → ℤ → List Part → List Lit
spared a high k least spare [] = []
spared a high k least spare (p ∷ ps) =
    if int_le (forgotten high k least p.weight (known_of a p.lit)) spare then spared a high k least
    (spare -ℤ forgotten high k least p.weight (known_of a p.lit)) ps else denied (known_of a p.lit) p.lit
    ∷ spared a high k least spare ps

-- how far a sum may move and still be on the same side of the goal
abbrev pub spare_of : ExtInt → ℤ → ℤ
spare_of NegInf sum = pos (2 ^ 126)
spare_of (Num goal) sum = if int_le goal sum then sum -ℤ goal else (goal -ℤ pos 1) -ℤ sum
spare_of PosInf sum = pos (2 ^ 126)

-- how far the end that the result asks for is from the goal
abbrev pub spare_at : (ℕ → Option Bool) → Bool → AggCon → ℤ
spare_at a high c = spare_of (goal_of c.kind c.least) (end_total a high c.kind c.least c.parts)

-- the parts whose values the contradiction cannot do without, and the result
abbrev pub short_clause_of : (ℕ → Option Bool) → AggCon → List Lit
short_clause_of a c = spared a (asks_high (known_of a c.out)) c.kind c.least
    (spare_at a (asks_high (known_of a c.out)) c) c.parts ++ denied (known_of a c.out) c.out ∷ []

-- what `ReasonsSuffice` says of all reasons, these few do too
abbrev pub FewReasonsSuffice : Type 0
FewReasonsSuffice = (a : ℕ → Option Bool) (c : AggCon) → contradicts a c ≡ true
    → All (λ l. known_of a l ≡ Some false) (short_clause_of a c)
    × (contradicts (refuting (short_clause_of a c)) c ≡ true)
