-- Counts and sums beside what is left of the sides of a comparison: one sum, whose parts are also the values of what is
-- left.
--
-- Of the rows of a side exactly one holds, and its value is a number. So the side is any number m, and where a row with
-- another number v holds it is v - m more. The number of one end serves as m: then all these parts have one sign, and
-- that end of the sum, to which each part goes by itself, is right while the side is open.
use Rattle.std.specs.Prelude.{ℤ, pos, neg_ℤ, ◌+ℤ◌, ◌-ℤ◌, ◌*ℤ◌, List, [], ◌∷◌, fold, Bool, true, false, not}
use Rattle.std.specs.Prelude.{if◌then◌else◌}
use Rattle.std.specs.Prelude.{Option, Some, None}
use Rattle.std.specs.Int.{int_max, int_min}
use Rattle.std.specs.Ordering.{int_eq}
use Rattle.kb_logic.specs.declared.syntax.AggKind.TheVariants as kind
use Rattle.kb_logic.specs.declared.syntax.Cmp.{Cmp}
use Rattle.kb_logic.specs.declared.syntax.Cmp.TheVariants as cmp
use Rattle.kb_logic.specs.Denotations.{Denotation, number, named, minus_infinity, plus_infinity, undefined}
use Rattle.lit_core.specs.declared.literals.Lit.{Lit}
use Rattle.ground_core.specs.declared.parts.Part.{Part}
use Rattle.term_values.specs.Rows.{map_rows}
use Rattle.def_ground.specs.declared.answers.Answer.TheVariants.{Constant}
use Rattle.def_ground.specs.Answers.{GroundResult}
use Rattle.def_ground.specs.Comparisons.{comparison_of}
use Rattle.def_ground.specs.Linear.{Linear, with_base, with_problem, weighed_under, both_of, turned, compared_at}

-- ---- the number of an end

-- the greater of two numbers, or where the test is false the lesser
abbrev pub outer : Bool → ℤ → ℤ → ℤ
outer true a b = int_max a b
outer false a b = int_min a b

-- the outermost number so far, with one more
abbrev pub with_number : Bool → Option ℤ → ℤ → Option ℤ
with_number high None z = Some z
with_number high (Some y) z = Some (outer high y z)

-- the outermost number so far, with a row's value, where this is a number
abbrev pub with_value : Bool → Option ℤ → Denotation → Option ℤ
with_value high o (number z) = with_number high o z
with_value high o (named n) = o
with_value high o minus_infinity = o
with_value high o plus_infinity = o
with_value high o undefined = o

abbrev pub number_or_zero : Option ℤ → ℤ
number_or_zero None = pos 0
number_or_zero (Some z) = z

-- the greatest number of the rows, or where the test is false the least; 0 where no row is a number
abbrev pub outermost : Bool → List (List Lit × Denotation) → ℤ
outermost high rs = number_or_zero (fold (λ o r. with_value high o r.1) None rs)

-- ---- the parts of a side

-- how much more another number is than m: nothing where it is m, or no number
abbrev pub more_than : ℤ → Denotation → Option ℤ
more_than m (number v) = if int_eq v m then None else Some (v -ℤ m)
more_than m (named n) = None
more_than m minus_infinity = None
more_than m plus_infinity = None
more_than m undefined = None

-- a part for what a row is more, times a factor, if it is more
abbrev pub with_more : ℤ → Option ℤ → List Lit → Linear → Linear
with_more z None guards st = st
with_more z (Some w) guards st = weighed_under (z *ℤ w) (Constant true) guards st

abbrev pub row_spread : ℤ → ℤ → Linear → List Lit × Denotation → Linear
row_spread z m st r = with_more z (more_than m r.1) r.0 st

-- a side, times a factor: m, and a part for each row with another number
abbrev pub spread : ℤ → ℤ → List (List Lit × Denotation) → Linear → Linear
spread z m rs st = fold (row_spread z m) (with_base (z *ℤ m) st.problem st) rs

-- the counts and sums with the left side's rows, less those of the right side: its greatest end is right, or where the
-- test is false its least
abbrev pub sided : Bool → Linear → (xs ys : List (List Lit × Denotation)) → Linear
sided high st xs ys =
    spread (neg_ℤ (pos 1)) (outermost (not high) ys) ys (spread (pos 1) (outermost high xs) xs st)

-- ---- comparisons

-- how it compares with 0
abbrev pub sided_at : Bool → Cmp → Linear → (xs ys : List (List Lit × Denotation)) → GroundResult
sided_at high c st xs ys = compared_at kind.Sum c (sided high st xs ys) (pos 0)

-- whether it is 0: at least, and at most
abbrev pub sides_meet : Linear → (xs ys : List (List Lit × Denotation)) → GroundResult
sides_meet st xs ys =
    let low = sided_at true cmp.Ge st xs ys in
    let high = sided_at false cmp.Le (with_problem low.problem st) xs ys in
    both_of low.answer high.answer high.problem

-- how the sides compare; each comparison asks for one end
abbrev pub sides_by : Cmp → Linear → (xs ys : List (List Lit × Denotation)) → GroundResult
sides_by cmp.Eq st xs ys = sides_meet st xs ys
sides_by cmp.Ne st xs ys = turned (sides_meet st xs ys)
sides_by cmp.Lt st xs ys = sided_at false cmp.Lt st xs ys
sides_by cmp.Gt st xs ys = sided_at true cmp.Gt st xs ys
sides_by cmp.Le st xs ys = sided_at false cmp.Le st xs ys
sides_by cmp.Ge st xs ys = sided_at true cmp.Ge st xs ys

-- how a sum with parts compares with what is left of the rows of both sides; where a side has no row, no valuation has a
-- structure
abbrev pub compared_beside : Cmp → Linear → (xs ys : List (List Lit × Denotation)) → GroundResult
compared_beside c st [] ys = record { answer = Constant true; problem = st.problem }
compared_beside c st (x ∷ xs) [] = record { answer = Constant true; problem = st.problem }
compared_beside c st (x ∷ xs) (y ∷ ys) = sides_by c st (x ∷ xs) (y ∷ ys)

-- a value with a number more, where it is one
abbrev pub raised : ℤ → Denotation → Denotation
raised w (number z) = number (z +ℤ w)
raised w (named n) = named n
raised w minus_infinity = minus_infinity
raised w plus_infinity = plus_infinity
raised w undefined = undefined

-- a sum without parts is a number, and the sides are compared by their rows
abbrev pub compared_by_parts : List Part → Cmp → Linear → (xs ys : List (List Lit × Denotation)) → GroundResult
compared_by_parts [] c st xs ys = comparison_of c (map_rows (raised st.base) xs) ys st.problem
compared_by_parts (p ∷ ps) c st xs ys = compared_beside c st xs ys

-- how the counts and sums of both sides compare with what is left of their rows
abbrev pub compared_sums : Cmp → Linear → (xs ys : List (List Lit × Denotation)) → GroundResult
compared_sums c st xs ys = compared_by_parts st.parts c st xs ys
