-- What the bytes of a line are read as, whatever they are: only for the text of an entry is it of use.
use Rattle.std.specs.Prelude.{ℕ, zero, suc, ◌+◌, ◌-◌, ◌*◌, ◌%◌, ◌^◌, pos, negsuc, Bool, true, false, List, [], ◌∷◌}
use Rattle.std.specs.Prelude.{◌==◌, nat_le, nat_lt, if◌then◌else◌}
use Rattle.kb_logic.specs.declared.elements.ExtInt.{ExtInt}
use Rattle.kb_logic.specs.declared.elements.ExtInt.TheVariants.{NegInf, Num, PosInf}
use Rattle.lit_core.specs.declared.literals.Lit.{Lit}
use Rattle.derivation_log.specs.declared.fields.Field.{Field}
use Rattle.derivation_log.specs.declared.fields.Field.TheVariants.{Letter, Plain, Minus, Infinite}
use Rattle.derivation_log.specs.declared.entries.Entry.{Entry}
use Rattle.derivation_log.specs.declared.entries.Entry.TheVariants as entry

-- a field of which no byte was read
abbrev pub blank : Field
blank = Letter 0

abbrev pub digit_on : ℕ → ℕ → ℕ
digit_on n b = ((n * 10) % 2 ^ 64 + (b - 48)) % 2 ^ 64

abbrev pub begun : ℕ → Field
begun b = if b == 45 then Minus 0 else if b == 43 then Infinite else if nat_le b 57 then Plain (b - 48) else Letter b

-- the field with one byte more
abbrev pub grown : Field → ℕ → Field
grown (Letter c) b = if c == 0 then begun b else Letter c
grown (Plain n) b = Plain (digit_on n b)
grown (Minus n) b = Minus (digit_on n b)
grown Infinite b = Infinite

-- the fields up to the first newline, the first of which was begun
abbrev pub scan : Field → List ℕ → List Field
scan f [] = []
scan f (b ∷ bs) = if b == 10 then f ∷ [] else if b == 32 then f ∷ scan blank bs else scan (grown f b) bs

abbrev pub literal_with : Bool → ℕ → Lit
literal_with b n = record { var = record { 0 = n }; positive = b }

abbrev pub rest_of : List Field → List Field
rest_of [] = []
rest_of (f ∷ fs) = fs

abbrev pub tag_of : List Field → ℕ
tag_of (Letter c ∷ fs) = c
tag_of (Plain n ∷ fs) = 0
tag_of (Minus n ∷ fs) = 0
tag_of (Infinite ∷ fs) = 0
tag_of [] = 0

abbrev pub number_of : List Field → ℕ
number_of (Plain n ∷ fs) = n
number_of (Minus n ∷ fs) = 0
number_of (Letter c ∷ fs) = 0
number_of (Infinite ∷ fs) = 0
number_of [] = 0

-- the number of a term has 32 bits
abbrev pub term_of : List Field → ℕ
term_of fs = number_of fs % 2 ^ 32

abbrev pub literal_of : List Field → Lit
literal_of (Plain n ∷ fs) = literal_with true n
literal_of (Minus n ∷ fs) = literal_with false n
literal_of (Letter c ∷ fs) = literal_with true 0
literal_of (Infinite ∷ fs) = literal_with true 0
literal_of [] = literal_with true 0

abbrev pub bound_of : List Field → ExtInt
bound_of (Plain n ∷ fs) = if nat_lt n (2 ^ 63) then Num (pos n) else NegInf
bound_of (Minus zero ∷ fs) = NegInf
bound_of (Minus (suc n) ∷ fs) = if nat_lt n (2 ^ 63) then Num (negsuc n) else NegInf
bound_of (Letter c ∷ fs) = NegInf
bound_of (Infinite ∷ fs) = PosInf
bound_of [] = NegInf

abbrev pub literals_of : List Field → List Lit
literals_of [] = []
literals_of (Plain zero ∷ fs) = []
literals_of (Plain (suc n) ∷ fs) = literal_with true (suc n) ∷ literals_of fs
literals_of (Minus n ∷ fs) = literal_with false n ∷ literals_of fs
literals_of (Letter c ∷ fs) = []
literals_of (Infinite ∷ fs) = []

abbrev pub behind : List Field → List Field
behind [] = []
behind (Plain zero ∷ fs) = fs
behind (Plain (suc n) ∷ fs) = behind fs
behind (Minus n ∷ fs) = behind fs
behind (Letter c ∷ fs) = []
behind (Infinite ∷ fs) = []

abbrev pub numbers_of : List Field → List ℕ
numbers_of [] = []
numbers_of (Plain zero ∷ fs) = []
numbers_of (Plain (suc n) ∷ fs) = suc n ∷ numbers_of fs
numbers_of (Minus n ∷ fs) = []
numbers_of (Letter c ∷ fs) = []
numbers_of (Infinite ∷ fs) = []

-- the entry of the fields behind the letter
abbrev pub entry_with : ℕ → List Field → Entry
entry_with c fs =
    if c == 113 then entry.Mark (number_of fs)
    else if c == 108 then entry.Learnt (literals_of fs) (numbers_of (behind fs))
    else if c == 99 then entry.Sum (number_of fs) (literals_of (rest_of fs))
    else if c == 98 then entry.Bound (record { 0 = number_of fs }) (term_of (rest_of fs))
    (bound_of (rest_of (rest_of fs)))
    else if c == 110 then entry.Exclude (record { 0 = number_of fs }) (literals_of (rest_of fs))
    else if c == 105 then entry.Inconsistent (literals_of fs) (number_of (behind fs))
    else if c == 102 then entry.Forced (literal_of fs) (literals_of (rest_of fs)) (number_of (behind (rest_of fs)))
    else entry.Least (term_of fs) (bound_of (rest_of fs)) (literals_of (rest_of (rest_of fs)))
    (number_of (behind (rest_of (rest_of fs))))

abbrev pub entry_of : List Field → Entry
entry_of fs = entry_with (tag_of fs) (rest_of fs)
