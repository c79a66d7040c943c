-- Where aggregates may stand: as a side of a comparison, as the term of a term block, and, but for `min` and `max`, as
-- an operand of the sum that such a term is, with integer factors and signs.
use Rattle.std.specs.Prelude.{Bool, true, false, not, nat_lt, if◌then◌else◌, List, [], ◌∷◌, filter, length}
use Rattle.kb_logic.specs.declared.syntax.AggKind.{AggKind}
use Rattle.kb_logic.specs.declared.syntax.AggKind.TheVariants as kind
use Rattle.grammar.specs.declared.terminal.Aggregation.{Aggregation}
use Rattle.grammar.specs.declared.terminal.Aggregation.TheVariants as how
use Rattle.grammar.specs.Trees.{Term, product, Product, factor, times, Factor, integer, brackets, negative}
use Rattle.grammar.specs.Trees.{aggregate}
use Rattle.stage_definitions.specs.declared.standings.Standing.{Standing}
use Rattle.stage_definitions.specs.declared.standings.Standing.TheVariants.{Side, Summand, Elsewhere}

-- ---- kinds of aggregates

-- the kind of an aggregate that begins with a word
abbrev pub kind_of : Aggregation → AggKind
kind_of how.Sum = kind.Sum
kind_of how.Min = kind.Min
kind_of how.Max = kind.Max

-- `min` and `max`
abbrev pub is_extremum : AggKind → Bool
is_extremum kind.Count = false
is_extremum kind.Sum = false
is_extremum kind.Min = true
is_extremum kind.Max = true

-- whether an aggregate of this kind may stand so
abbrev pub may_stand : Standing → AggKind → Bool
may_stand Side k = true
may_stand Summand k = not (is_extremum k)
may_stand Elsewhere k = false

-- ---- how the parts of a term stand, where it stands so itself

-- with a sign, or beside integers in a product
abbrev pub scaled : Standing → Standing
scaled Side = Summand
scaled Summand = Summand
scaled Elsewhere = Elsewhere

-- an operand of a sum of several
abbrev pub in_sum : Standing → Standing
in_sum Side = Summand
in_sum Summand = Elsewhere
in_sum Elsewhere = Elsewhere

-- an integer, with signs or without, in brackets or not
abbrev pub is_signed_integer : Factor → Bool
is_signed_integer (integer n p) = true
is_signed_integer (brackets p (product (factor f)) q) = is_signed_integer f
is_signed_integer (negative p f) = is_signed_integer f
is_signed_integer _ = false

abbrev pub factors_in : Product → List Factor
factors_in (factor f) = f ∷ []
factors_in (times f p q) = f ∷ factors_in q

-- at most one of the factors is no integer
abbrev pub is_scaled : Product → Bool
is_scaled p = nat_lt (length (filter (λ f. not (is_signed_integer f)) (factors_in p))) 2

-- a factor of this product of several
abbrev pub in_product : Standing → Product → Standing
in_product s p = if is_scaled p then scaled s else Elsewhere

-- ---- the sides of a comparison

abbrev pub is_extremum_factor : Factor → Bool
is_extremum_factor (aggregate a p b vs q f r t e) = is_extremum (kind_of a)
is_extremum_factor (brackets p (product (factor f)) q) = is_extremum_factor f
is_extremum_factor _ = false

-- a `min` or `max`, in brackets or not
abbrev pub is_extremum_term : Term → Bool
is_extremum_term (product (factor f)) = is_extremum_factor f
is_extremum_term _ = false

-- a side of a comparison whose other side is this term
abbrev pub facing : Term → Standing
facing t = if is_extremum_term t then Elsewhere else Side
