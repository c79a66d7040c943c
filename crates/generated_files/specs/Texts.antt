-- The files that are made from a number: of each kind its lines.
use Rattle.std.specs.Prelude.{◌≤◌, ℕ, ◌+◌, ◌-◌, ◌/◌, ◌%◌, ◌==◌, not, List, [], ◌∷◌, ◌++◌, flat_map, codes}
use Rattle.std.specs.Fmt.{decimal}
use Rattle.std.specs.List.{filter, join_by, range_with_len}
use Rattle.generated_files.specs.declared.kinds.Kind.{Kind}
use Rattle.generated_files.specs.declared.kinds.Kind.TheVariants.{Timetable, Roster}

-- how a kind is called
abbrev pub kind_name : Kind → List ℕ
kind_name Timetable = codes "timetable"
kind_name Roster = codes "roster"

-- the greatest number of which a file of the kind is made
abbrev pub most : Kind → ℕ
most Timetable = 40
most Roster = 100

-- the number is one of the kind
pub record IsNumberOf (k : Kind) (n : ℕ) : Type 0 where
  pub least : 1 ≤ n
  pub most : n ≤ most k

-- each line with its newline
abbrev pub text_of_lines : List (List ℕ) → List ℕ
text_of_lines lines = flat_map (λ line. line ++ codes "\n") lines

-- the line of a structure that gives a type the numbers from 1 to n, as `  Day = {1..3}`
abbrev pub span_line : List ℕ → ℕ → List ℕ
span_line name n = codes "  " ++ (name ++ (codes " = {1.." ++ (decimal n ++ codes "}")))

-- `i,j`, where j is the number after i
abbrev pub row_text : ℕ → List ℕ
row_text i = decimal i ++ (codes "," ++ decimal (i + 1))

-- the line that gives a predicate these numbers, each with the number after it, as `  Next = {1,2; 2,3}`
abbrev pub pairs_line : List ℕ → List ℕ → List ℕ
pairs_line name firsts = codes "  " ++ (name ++ (codes " = {" ++ (join_by row_text (codes "; ") firsts ++ codes "}")))

-- the numbers from 1 to n but for the last one
abbrev pub numbers_before : ℕ → List ℕ
numbers_before n = range_with_len 1 (n - 1)

-- of n courses in groups of four, those that have a next one in their group
abbrev pub early_courses : ℕ → List ℕ
early_courses n = filter (λ i. not (i % 4 == 0)) (numbers_before n)

-- one room more than there are groups
abbrev pub rooms : ℕ → ℕ
rooms n = (n + 3) / 4 + 1

-- n courses: in each group they come one after another, and no two share both slot and room
abbrev pub timetable_lines : ℕ → List (List ℕ)
timetable_lines n =
    codes "vocabulary V {"
    ∷ codes "  type Course isa nat"
    ∷ codes "  type Slot isa nat"
    ∷ codes "  type Room isa nat"
    ∷ codes "  Before(Course,Course)"
    ∷ codes "  slot(Course):Slot"
    ∷ codes "  room(Course):Room"
    ∷ codes "}"
    ∷ codes "theory T : V {"
    ∷ codes "  !c d: Before(c,d) => slot(c) < slot(d)."
    ∷ codes "  !c d: c < d & slot(c) = slot(d) => room(c) ~= room(d)."
    ∷ codes "}"
    ∷ codes "structure S : V {"
    ∷ span_line (codes "Course") n
    ∷ codes "  Slot = {1..8}"
    ∷ span_line (codes "Room") (rooms n)
    ∷ pairs_line (codes "Before") (early_courses n)
    ∷ codes "}"
    ∷ codes "term cost : V { max{c : true : slot(c)} }"
    ∷ []

-- four nurses and n days: two of them work on each day, and none on two days in a row
abbrev pub roster_lines : ℕ → List (List ℕ)
roster_lines n =
    codes "vocabulary V {"
    ∷ codes "  type Nurse isa nat"
    ∷ codes "  type Day isa nat"
    ∷ codes "  Next(Day,Day)"
    ∷ codes "  Works(Nurse,Day)"
    ∷ codes "}"
    ∷ codes "theory T : V {"
    ∷ codes "  !d: ?=2 n: Works(n,d)."
    ∷ codes "  !n d e: Works(n,d) & Next(d,e) => ~Works(n,e)."
    ∷ codes "}"
    ∷ codes "structure S : V {"
    ∷ codes "  Nurse = {1..4}"
    ∷ span_line (codes "Day") n
    ∷ pairs_line (codes "Next") (numbers_before n)
    ∷ codes "}"
    ∷ codes "term cost : V { sum{n d : Works(n,d) : n} }"
    ∷ []

-- the file of a kind and a number
abbrev pub file_text : Kind → ℕ → List ℕ
file_text Timetable n = text_of_lines (timetable_lines n)
file_text Roster n = text_of_lines (roster_lines n)
