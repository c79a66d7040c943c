-- Whole files, written out by hand.
use Rattle.std.specs.Prelude.{List, ◌++◌, ℕ, codes}

-- a timetable of six courses: the second group has two of them
abbrev pub timetable_of_six : List ℕ
timetable_of_six =
    codes "vocabulary V {\n"
    ++ codes "  type Course isa nat\n"
    ++ codes "  type Slot isa nat\n"
    ++ codes "  type Room isa nat\n"
    ++ codes "  Before(Course,Course)\n"
    ++ codes "  slot(Course):Slot\n"
    ++ codes "  room(Course):Room\n"
    ++ codes "}\n"
    ++ codes "theory T : V {\n"
    ++ codes "  !c d: Before(c,d) => slot(c) < slot(d).\n"
    ++ codes "  !c d: c < d & slot(c) = slot(d) => room(c) ~= room(d).\n"
    ++ codes "}\n"
    ++ codes "structure S : V {\n"
    ++ codes "  Course = {1..6}\n"
    ++ codes "  Slot = {1..8}\n"
    ++ codes "  Room = {1..3}\n"
    ++ codes "  Before = {1,2; 2,3; 3,4; 5,6}\n"
    ++ codes "}\n"
    ++ codes "term cost : V { max{c : true : slot(c)} }\n"

-- a roster of three days
abbrev pub roster_of_three : List ℕ
roster_of_three =
    codes "vocabulary V {\n"
    ++ codes "  type Nurse isa nat\n"
    ++ codes "  type Day isa nat\n"
    ++ codes "  Next(Day,Day)\n"
    ++ codes "  Works(Nurse,Day)\n"
    ++ codes "}\n"
    ++ codes "theory T : V {\n"
    ++ codes "  !d: ?=2 n: Works(n,d).\n"
    ++ codes "  !n d e: Works(n,d) & Next(d,e) => ~Works(n,e).\n"
    ++ codes "}\n"
    ++ codes "structure S : V {\n"
    ++ codes "  Nurse = {1..4}\n"
    ++ codes "  Day = {1..3}\n"
    ++ codes "  Next = {1,2; 2,3}\n"
    ++ codes "}\n"
    ++ codes "term cost : V { sum{n d : Works(n,d) : n} }\n"
