-- Lines from a source that gives its bytes in whatever pieces.
use Rattle.std.specs.Prelude.{◌≡◌, ℕ, ◌+◌, ◌<◌, ◌≤◌, max, List, [], ◌++◌, length, Option, Result, Ok, Err}
use Rattle.std.specs.Io.KnownBytes.{Consumes, IsAtEnd}
use Rattle.kb_io.specs.Outside.{Rose}
use Rattle.kb_io.specs.Lines.{newlines, longest_line, IsNextLine, StandsFor, BeginsLines, HasNoLines}
use Rattle.kb_io.specs.declared.lines.Next.{Next}
use Rattle.kb_io.specs.declared.lines.Next.TheVariants.{Line, LongLine, End}
use Rattle.kb_io.specs.declared.lines.LineError.{LineError}
use Rattle.kb_io.specs.declared.lines.LineError.TheVariants.{Fault, TooLong}

-- How many bytes were taken of the source in all, those of them that are still ahead, and the line returned last.
-- Where the bytes ahead begin with a line that was too long to keep, `let_go` stands for what was given up of it.
pub record Pending : Type 0 where
  pub taken : ℕ
  pub ahead : List ℕ
  pub line : List ℕ

-- how many bytes may be taken in all
abbrev pub most_bytes : ℕ
most_bytes = 67108864

-- The bytes that were taken of the source follow those that were ahead, and all of them begin with this line. `left`
-- and
-- `left'` are what is observed to be left of the source before and after.
pub record TakesLine (line : List ℕ) (old new : Pending) (left left' : Option (List ℕ)) : Type 0 where
  pub bytes : List ℕ
  pub consumed : Consumes left left' bytes
  pub count : new.taken ≡ old.taken + length bytes
  pub within : new.taken ≤ max old.taken most_bytes
  pub cut : IsNextLine (old.ahead ++ bytes) line new.ahead left'

-- nothing was ahead, and nothing is left of the source
pub record FindsEnd (old new : Pending) (left left' : Option (List ℕ)) : Type 0 where
  pub consumed : Consumes left left' []
  pub at_end : IsAtEnd left'
  pub ahead : old.ahead ≡ []
  pub state : new ≡ record { taken = old.taken; ahead = []; line = [] }

-- with these bytes the line that was ahead has not ended, and it is ahead still
pub record GoesOn (bytes : List ℕ) (old new : Pending) : Type 0 where
  pub whole : newlines (old.ahead ++ bytes) ≡ 0
  pub ahead : StandsFor new.ahead (old.ahead ++ bytes)
  pub line : new.line ≡ []

-- the source failed before the line ended
pub record BreaksOff (old new : Pending) (left left' : Option (List ℕ)) : Type 0 where
  pub bytes : List ℕ
  pub consumed : Consumes left left' bytes
  pub count : new.taken ≡ old.taken + length bytes
  pub within : new.taken ≤ max old.taken most_bytes
  pub line : GoesOn bytes old new

-- the source gave a byte more than may be taken before the line ended
pub record GoesBeyond (old new : Pending) (left left' : Option (List ℕ)) : Type 0 where
  pub bytes : List ℕ
  pub beyond : List ℕ
  pub consumed : Consumes left left' (bytes ++ beyond)
  pub count : new.taken ≡ old.taken + length bytes + length beyond
  pub all : new.taken ≡ most_bytes + 1
  pub few : length beyond ≤ 1
  pub line : GoesOn bytes old new

-- what the next line is; `before` and `now` are the source's counts of faults
abbrev pub NextLine : Result Next LineError → Pending → Pending → Option (List ℕ) → Option (List ℕ) → ℕ → ℕ → Type 0
NextLine (Ok Line) old new left left' before now =
    (now ≡ before) × TakesLine new.line old new left left' × (length new.line ≤ longest_line)
NextLine (Ok LongLine) old new left left' before now =
    (now ≡ before) × ((line : List ℕ) × TakesLine line old new left left' × (longest_line < length line))
    × (new.line ≡ [])
NextLine (Ok End) old new left left' before now = (now ≡ before) × FindsEnd old new left left'
NextLine (Err Fault) old new left left' before now = (before ≤ now) × Rose before now × BreaksOff old new left left'
NextLine (Err TooLong) old new left left' before now = (now ≡ before) × GoesBeyond old new left left'

-- The same, said of the lines of all bytes, where they are observable: the returned line is the first of those that
-- were ahead and left, and the others are ahead and left then.
abbrev pub GivesLine : Result Next LineError → Pending → Pending → Option (List ℕ) → Option (List ℕ) → Type 0
GivesLine (Ok Line) old new left left' = BeginsLines old.ahead left new.line new.ahead left'
GivesLine (Ok LongLine) old new left left' = (line : List ℕ) × (longest_line < length line)
    × BeginsLines old.ahead left line new.ahead left'
GivesLine (Ok End) old new left left' = HasNoLines old.ahead left
GivesLine (Err Fault) old new left left' = Unit {0}
GivesLine (Err TooLong) old new left left' = Unit {0}
