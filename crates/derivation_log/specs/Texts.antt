-- The text of an entry: its fields, one space between two of them, and a newline.
use Rattle.std.specs.Prelude.{ℕ, ◌<◌, ◌≤◌, ◌^◌, pos, negsuc, suc, List, [], ◌∷◌, ◌++◌, All, if◌then◌else◌}
use Rattle.std.specs.Fmt.{decimal}
use Rattle.kb_logic.specs.declared.elements.ExtInt.{ExtInt}
use Rattle.kb_logic.specs.declared.elements.ExtInt.TheVariants.{NegInf, Num, PosInf}
use Rattle.lit_core.specs.declared.literals.Lit.{Lit}
use Rattle.derivation_log.specs.declared.fields.Field.{Field}
use Rattle.derivation_log.specs.declared.fields.Field.TheVariants.{Letter, Plain, Minus, Infinite}
use Rattle.derivation_log.specs.declared.entries.Entry.{Entry}
use Rattle.derivation_log.specs.declared.entries.Entry.TheVariants as entry

abbrev pub field_text : Field → List ℕ
field_text (Letter c) = c ∷ []
field_text (Plain n) = decimal n
field_text (Minus n) = 45 ∷ decimal n
field_text Infinite = 43 ∷ 105 ∷ 110 ∷ 102 ∷ []

-- the line of the fields, and then these bytes
abbrev pub put_line : List Field → List ℕ → List ℕ
put_line [] rest = 10 ∷ rest
put_line (f ∷ []) rest = field_text f ++ 10 ∷ rest
put_line (f ∷ g ∷ fs) rest = field_text f ++ 32 ∷ put_line (g ∷ fs) rest

abbrev pub literal_field : Lit → Field
literal_field l = if l.positive then Plain l.var.0 else Minus l.var.0

abbrev pub bound_field : ExtInt → Field
bound_field NegInf = Infinite
bound_field (Num (pos n)) = Plain n
bound_field (Num (negsuc n)) = Minus (suc n)
bound_field PosInf = Infinite

-- literals, 0, and then these fields
abbrev pub literals_then : List Lit → List Field → List Field
literals_then [] rest = Plain 0 ∷ rest
literals_then (l ∷ ls) rest = literal_field l ∷ literals_then ls rest

abbrev pub numbers_then : List ℕ → List Field → List Field
numbers_then [] rest = Plain 0 ∷ rest
numbers_then (n ∷ ns) rest = Plain n ∷ numbers_then ns rest

abbrev pub fields_of : Entry → List Field
fields_of (entry.Mark n) = Letter 113 ∷ Plain n ∷ []
fields_of (entry.Learnt lits hints) = Letter 108 ∷ literals_then lits (numbers_then hints [])
fields_of (entry.Sum n lits) = Letter 99 ∷ Plain n ∷ literals_then lits []
fields_of (entry.Bound s t k) = Letter 98 ∷ Plain s.0 ∷ Plain t ∷ bound_field k ∷ []
fields_of (entry.Exclude s lits) = Letter 110 ∷ Plain s.0 ∷ literals_then lits []
fields_of (entry.Inconsistent lits c) = Letter 105 ∷ literals_then lits (Plain c ∷ [])
fields_of (entry.Forced l lits c) = Letter 102 ∷ literal_field l ∷ literals_then lits (Plain c ∷ [])
fields_of (entry.Least t k lits c) = Letter 109 ∷ Plain t ∷ bound_field k ∷ literals_then lits (Plain c ∷ [])

-- the entry's text, and then these bytes
abbrev pub put_entry : Entry → List ℕ → List ℕ
put_entry e rest = put_line (fields_of e) rest

-- numbers that have a field
abbrev pub IsNumber : ℕ → Type 0
IsNumber n = n < 2 ^ 64

abbrev pub IsTerm : ℕ → Type 0
IsTerm n = n < 2 ^ 32

abbrev pub IsLiteral : Lit → Type 0
IsLiteral l = (1 ≤ l.var.0) × IsNumber l.var.0

abbrev pub IsHint : ℕ → Type 0
IsHint n = (1 ≤ n) × IsNumber n

abbrev pub IsBelow : ExtInt → Type 0
IsBelow NegInf = ⊥
IsBelow (Num (pos n)) = n < 2 ^ 63
IsBelow (Num (negsuc n)) = n < 2 ^ 63
IsBelow PosInf = Unit {0}

-- an entry that has a text
abbrev pub IsWritten : Entry → Type 0
IsWritten (entry.Mark n) = IsNumber n
IsWritten (entry.Learnt lits hints) = All IsLiteral lits × All IsHint hints
IsWritten (entry.Sum n lits) = IsNumber n × All IsLiteral lits
IsWritten (entry.Bound s t k) = IsNumber s.0 × IsTerm t × IsBelow k
IsWritten (entry.Exclude s lits) = IsNumber s.0 × All IsLiteral lits
IsWritten (entry.Inconsistent lits c) = All IsLiteral lits × IsNumber c
IsWritten (entry.Forced l lits c) = IsLiteral l × All IsLiteral lits × IsNumber c
IsWritten (entry.Least t k lits c) = IsTerm t × IsBelow k × All IsLiteral lits × IsNumber c
