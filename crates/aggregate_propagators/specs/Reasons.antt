-- The clause that a contradiction gives.
use Rattle.std.specs.Prelude.{ℕ, ℤ, Bool, true, false, not, Option, Some, None, List, [], ◌∷◌}
use Rattle.kb_logic.specs.declared.syntax.AggKind.{AggKind}
use Rattle.lit_core.specs.declared.literals.Lit.{Lit}
use Rattle.lit_core.specs.Literals.{negated}
use Rattle.ground_core.specs.declared.parts.Part.{Part}
use Rattle.ground_core.specs.declared.parts.AggCon.{AggCon}
use Rattle.ground_core.specs.Intervals.{known_of, in_least, in_greatest}

-- whether a part counts in one end of the interval
abbrev pub in_end : Bool → AggKind → ℤ → Option Bool → Bool
in_end true k w o = in_greatest k w o
in_end false k w o = in_least k w o

-- whether one is true and the other is false
abbrev pub differ : Bool → Bool → Bool
differ true y = not y
differ false y = y

-- whether the value makes another end than no value
abbrev pub narrows : Bool → AggKind → ℤ → Option Bool → Bool
narrows high k w None = false
narrows high k w (Some b) = differ (in_end high k w (Some b)) (in_end high k w None)

-- the literal of the variable that is false where the literal has the value
abbrev pub denied : Option Bool → Lit → Lit
denied (Some true) l = negated l
denied (Some false) l = l
denied None l = l

-- the literal before the others, where it is a reason
abbrev pub with_reason : Bool → Lit → List Lit → List Lit
with_reason true l ls = l ∷ ls
with_reason false l ls = ls

-- of each part whose value makes another end, the literal that is false
abbrev pub reasons : (ℕ → Option Bool) → Bool → AggKind → List Part → List Lit
reasons a high k [] = []
reasons a high k (p ∷ ps) = with_reason (narrows high k p.weight (known_of a p.lit)) (denied (known_of a p.lit) p.lit)
    (reasons a high k ps)

-- whether the result's value is contradicted by the greatest value, and not by the least
abbrev pub asks_high : Option Bool → Bool
asks_high (Some b) = b
asks_high None = false

-- the result, and the parts that narrow the end that it asks for
abbrev pub clause_of : (ℕ → Option Bool) → AggCon → List Lit
clause_of a c = denied (known_of a c.out) c.out ∷ reasons a (asks_high (known_of a c.out)) c.kind c.parts
