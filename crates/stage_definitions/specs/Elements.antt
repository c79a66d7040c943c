-- The elements that tables are made of: single ones, and ranges of integers, which are never listed one by one.
use Rattle.std.specs.Prelude.{ℕ, suc, zero, ◌+◌, ◌==◌, Bool, true, false, not, ◌&&◌, ◌||◌, nat_lt, ℤ, pos, negsuc}
use Rattle.std.specs.Prelude.{◌+ℤ◌, ◌-ℤ◌, int_lt, List, [], ◌∷◌, ◌++◌, length, fold, sum_by, flat_map, if◌then◌else◌}
use Rattle.std.specs.Int.{int_min, int_max}
use Rattle.std.specs.List.{list_any}
use Rattle.std.specs.Str.{bytes_eq}
use Rattle.kb_logic.specs.declared.elements.Elem.{Elem}
use Rattle.kb_logic.specs.declared.elements.Elem.TheVariants.{Named, Num}
use Rattle.kb_logic.specs.Denotations.{denotation_of, same_value}
use Rattle.kb_logic.specs.Bounds.{Interval, exactly}
use Rattle.stage_definitions.specs.Scopes.{Text}

-- what an item of a table stands for
pub data Cell : Type 0 where
  -- one element
  one : Elem → Cell
  -- the integers from the first to the second; there are none where the first is the greater
  span : ℤ → ℤ → Cell

-- both are the same word, or the same integer
abbrev pub same_element : Elem → Elem → Bool
same_element x y = same_value (denotation_of x) (denotation_of y)

-- whether the integer lies between these two
abbrev pub is_between : ℤ → ℤ → ℤ → Bool
is_between low high z = not (int_lt z low) && not (int_lt high z)

-- whether the element is one of the cell's
abbrev pub is_in : Elem → Cell → Bool
is_in x (one y) = same_element x y
is_in (Named n) (span a b) = false
is_in (Num z) (span a b) = is_between a b z

-- whether the element is one of some cells'
abbrev pub is_among : List Cell → Elem → Bool
is_among cells x = list_any (is_in x) cells

-- ---- integers, as intervals

-- the integers from the first to the second
abbrev pub as_interval : ℤ → ℤ → Interval
as_interval a b = record { low = a; high = b }

-- one more than a difference, and nothing where it is below 0
abbrev pub one_more : ℤ → ℕ
one_more (pos n) = suc n
one_more (negsuc n) = 0

-- how many integers there are in an interval
abbrev pub size_of : Interval → ℕ
size_of i = one_more (i.high -ℤ i.low)

-- the integers that two intervals share
abbrev pub common : Interval → Interval → Interval
common i j = as_interval (int_max i.low j.low) (int_min i.high j.high)

-- the interval from the least to the greatest of both
abbrev pub joined : Interval → Interval → Interval
joined i j = as_interval (int_min i.low j.low) (int_max i.high j.high)

-- some integer is in both intervals
abbrev pub do_meet : Interval → Interval → Bool
do_meet i j = nat_lt 0 (size_of (common i j))

-- one more interval among some that do not meet: it takes in those that it meets
abbrev pub with_interval : Interval → List Interval → List Interval
with_interval i [] = i ∷ []
with_interval i (j ∷ js) = if do_meet i j then with_interval (joined i j) js else j ∷ with_interval i js

-- the same integers in intervals of which no two meet
abbrev pub apart : List Interval → List Interval
apart is = fold (λ js i. with_interval i js) [] is

-- the integers of a cell
abbrev pub intervals_in : Cell → List Interval
intervals_in (one (Named n)) = []
intervals_in (one (Num z)) = exactly z ∷ []
intervals_in (span a b) = as_interval a b ∷ []

-- the integers of some cells, in intervals of which no two meet
abbrev pub intervals_of : List Cell → List Interval
intervals_of cells = apart (flat_map intervals_in cells)

-- ---- words

-- the words of a cell
abbrev pub words_in : Cell → List Text
words_in (one (Named n)) = n ∷ []
words_in (one (Num z)) = []
words_in (span a b) = []

-- one more word, unless it stands there already
abbrev pub with_word : List Text → Text → List Text
with_word words w = if list_any (bytes_eq w) words then words else w ∷ words

-- the different words among some cells
abbrev pub words_of : List Cell → List Text
words_of cells = fold with_word [] (flat_map words_in cells)

-- ---- sets of elements

-- how many different elements some cells have
abbrev pub count_of : List Cell → ℕ
count_of cells = length (words_of cells) + sum_by size_of (intervals_of cells)

-- each element of the cell is among some cells
abbrev pub is_covered : List Cell → Cell → Bool
is_covered cells (one x) = is_among cells x
is_covered cells (span a b) = size_of (as_interval a b) == sum_by (λ j. size_of (common (as_interval a b) j))
    (intervals_of cells)

-- some element is in both cells
abbrev pub do_share : Cell → Cell → Bool
do_share (one x) c = is_in x c
do_share (span a b) (one y) = is_in y (span a b)
do_share (span a b) (span c d) = do_meet (as_interval a b) (as_interval c d)

-- the cell has no word, and no integer but those between these two
abbrev pub is_within : ℤ → ℤ → Cell → Bool
is_within low high (one (Named n)) = false
is_within low high (one (Num z)) = is_between low high z
is_within low high (span a b) = (size_of (as_interval a b) == 0) || (is_between low high a && is_between low high b)

-- the cell has integers alone
abbrev pub is_numeric : Cell → Bool
is_numeric (one (Named n)) = false
is_numeric (one (Num z)) = true
is_numeric (span a b) = true

-- the cell has no integer below 0
abbrev pub is_not_negative : Cell → Bool
is_not_negative (one (Named n)) = true
is_not_negative (one (Num z)) = not (int_lt z (pos 0))
is_not_negative (span a b) = (size_of (as_interval a b) == 0) || not (int_lt a (pos 0))

-- ---- elements one by one, as domains have them

-- so many integers from this one on
abbrev pub integers_from : ℤ → ℕ → List Elem
integers_from z zero = []
integers_from z (suc n) = Num z ∷ integers_from (z +ℤ pos 1) n

-- a cell's elements one by one
abbrev pub members : Cell → List Elem
members (one x) = x ∷ []
members (span a b) = integers_from a (size_of (as_interval a b))

-- one more element, unless it stands there already
abbrev pub with_element : List Elem → Elem → List Elem
with_element xs x = if list_any (same_element x) xs then xs else xs ++ x ∷ []

-- the elements of some cells, each once, in the order in which they first occur
abbrev pub listed : List Cell → List Elem
listed cells = fold with_element [] (flat_map members cells)
