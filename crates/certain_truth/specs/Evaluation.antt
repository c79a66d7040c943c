-- What the evaluator keeps from one part to the next.
use Rattle.std.specs.Prelude.{ℕ, ◌+◌, ◌-◌, ◌^◌, min, ℤ, ◌+ℤ◌, ◌*ℤ◌, List, Bool, true, false, not, Option, None, Some}
use Rattle.std.specs.Prelude.{option_map}
use Rattle.kb_logic.specs.declared.elements.Elem.{Elem}
use Rattle.kb_logic.specs.Trees.{FormulaTrees}
use Rattle.partial_structures.specs.KnownAtoms.{KnownAtoms}
use Rattle.kb_logic.specs.Denotations.{Denotation, number, named, minus_infinity, plus_infinity, undefined}
use Rattle.kb_logic.specs.Meaning.{signed_of, product_from}
use Rattle.kb_logic.specs.Values.{total_view}
use Rattle.kb_logic.specs.declared.values.Total.{Total}
use Rattle.certain_truth.specs.Certainty.{both_certain, either_certain, all_parts, any_part}
use Rattle.partial_structures.specs.declared.truths.Truth.{Truth}
use Rattle.partial_structures.specs.declared.truths.Truth.TheVariants as truth

-- one part more of a conjunction, or of a disjunction
abbrev pub joined : Bool → Truth → Truth → Truth
joined true = both_certain
joined false = either_certain

-- no further part changes it
abbrev pub settles : Bool → Truth → Bool
settles all truth.Yes = not all
settles all truth.No = all
settles all truth.Unknown = false

-- the conjunction of the formulas, or their disjunction
abbrev pub parts_of : Bool → KnownAtoms → FormulaTrees → List Elem → Truth
parts_of true k fs e = all_parts k fs e
parts_of false k fs e = any_part k fs e

-- one assignment more in a count that stops at the largest number
abbrev pub tallied : Option ℕ → Truth → Option ℕ
tallied None t = None
tallied (Some n) truth.Yes = Some (min (2 ^ 64 - 1) (n + 1))
tallied (Some n) truth.No = Some n
tallied (Some n) truth.Unknown = None

-- a sum with one operand more
abbrev pub summed : Option ℤ → Bool → Denotation → Option ℤ
summed None minus v = None
summed (Some t) minus (number z) = Some (t +ℤ signed_of minus z)
summed (Some t) minus (named n) = None
summed (Some t) minus minus_infinity = None
summed (Some t) minus plus_infinity = None
summed (Some t) minus undefined = None

-- a sum with the sum of the other operands
abbrev pub sum_with : Option ℤ → Option ℤ → Option ℤ
sum_with None o = None
sum_with (Some t) o = option_map (λ z. t +ℤ z) o

-- a product with one factor more
abbrev pub multiplied : Option ℤ → Denotation → Option ℤ
multiplied None v = None
multiplied (Some t) (number z) = Some (t *ℤ z)
multiplied (Some t) (named n) = None
multiplied (Some t) minus_infinity = None
multiplied (Some t) plus_infinity = None
multiplied (Some t) undefined = None

-- a product with the other factors
abbrev pub product_with : Option ℤ → List Denotation → Option ℤ
product_with None vs = None
product_with (Some t) vs = product_from t vs

abbrev pub total_of : Option Total → Option Denotation
total_of o = option_map total_view o
