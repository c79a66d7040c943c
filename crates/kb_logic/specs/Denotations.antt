-- What terms denote, and how values compare.
use Rattle.std.specs.Prelude.{ℕ, ℤ, pos, ◌+ℤ◌, int_lt, List, Bool, true, false, ◌||◌, not, if◌then◌else◌, length, fold}
use Rattle.std.specs.Str.{bytes_eq}
use Rattle.std.specs.Ordering.{int_eq}
use Rattle.kb_logic.specs.declared.elements.Elem.{Elem}
use Rattle.kb_logic.specs.declared.elements.Elem.TheVariants.{Named, Num}
use Rattle.kb_logic.specs.declared.elements.ExtInt.{ExtInt}
use Rattle.kb_logic.specs.declared.elements.ExtInt.TheVariants as ext
use Rattle.kb_logic.specs.declared.elements.ExtInt.TheVariants.{NegInf, PosInf}
use Rattle.kb_logic.specs.declared.syntax.Cmp.{Cmp}
use Rattle.kb_logic.specs.declared.syntax.Cmp.TheVariants as cmp
use Rattle.kb_logic.specs.declared.syntax.AggKind.{AggKind}
use Rattle.kb_logic.specs.declared.syntax.AggKind.TheVariants as kind

-- an element, which is a word or an integer; an infinite value of arithmetic; or nothing, for a term that is not well
-- typed
pub data Denotation : Type 0 where
  named : List ℕ → Denotation
  number : ℤ → Denotation
  minus_infinity : Denotation
  plus_infinity : Denotation
  undefined : Denotation

abbrev pub denotation_of : Elem → Denotation
denotation_of (Named n) = named n
denotation_of (Num z) = number z

-- the number, or infinity, as a value
abbrev pub denotation_of_bound : ExtInt → Denotation
denotation_of_bound NegInf = minus_infinity
denotation_of_bound (ext.Num z) = number z
denotation_of_bound PosInf = plus_infinity

abbrev pub same_value : Denotation → Denotation → Bool
same_value (named a) (named b) = bytes_eq a b
same_value (number a) (number b) = int_eq a b
same_value minus_infinity minus_infinity = true
same_value plus_infinity plus_infinity = true
same_value undefined undefined = true
same_value _ _ = false

-- the order of arithmetic; words have none
abbrev pub lower_value : Denotation → Denotation → Bool
lower_value (number a) (number b) = int_lt a b
lower_value minus_infinity (number b) = true
lower_value minus_infinity plus_infinity = true
lower_value (number a) plus_infinity = true
lower_value _ _ = false

abbrev pub compared : Cmp → Denotation → Denotation → Bool
compared cmp.Eq a b = same_value a b
compared cmp.Ne a b = not (same_value a b)
compared cmp.Lt a b = lower_value a b
compared cmp.Gt a b = lower_value b a
compared cmp.Le a b = lower_value a b || same_value a b
compared cmp.Ge a b = lower_value b a || same_value a b

-- what a term counts as where a number is meant
abbrev pub as_number : Denotation → Denotation
as_number (named n) = undefined
as_number (number z) = number z
as_number minus_infinity = minus_infinity
as_number plus_infinity = plus_infinity
as_number undefined = undefined

abbrev pub added : Denotation → Denotation → Denotation
added (number a) (number b) = number (a +ℤ b)
added _ _ = undefined

abbrev pub lesser : Denotation → Denotation → Denotation
lesser a b = if lower_value b a then b else a

abbrev pub greater : Denotation → Denotation → Denotation
greater a b = if lower_value a b then b else a

-- an aggregate over the values of its assignments, of which equal ones stand there more than once: their number, their
-- sum, the least and the greatest of them
abbrev pub aggregate_value : AggKind → List Denotation → Denotation
aggregate_value kind.Count vs = number (pos (length vs))
aggregate_value kind.Sum vs = fold added (number (pos 0)) vs
aggregate_value kind.Min vs = fold lesser plus_infinity vs
aggregate_value kind.Max vs = fold greater minus_infinity vs
