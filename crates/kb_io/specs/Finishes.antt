-- What the steps of reading a line do to the buffer.
use Rattle.std.specs.Prelude.{◌≡◌, ℕ, ◌+◌, ◌<◌, ◌≤◌, List, [], ◌∷◌, ◌++◌, length, Option, Some, None, Result, Ok, Err}
use Rattle.std.specs.Io.KnownBytes.{Consumes, Keeps, IsAtEnd}
use Rattle.kb_io.specs.Outside.{Rose}
use Rattle.kb_io.specs.Lines.{newlines, longest_line, IsLong, StandsFor}
use Rattle.kb_io.specs.Pending.{most_bytes}
use Rattle.kb_io.specs.Buffer.{begun, answered, unread, IsUnderWay}
use Rattle.kb_io.specs.declared.lines.Next.{Next}
use Rattle.kb_io.specs.declared.lines.Next.TheVariants.{Line, LongLine, End}
use Rattle.kb_io.specs.declared.lines.LineError.{LineError}
use Rattle.kb_io.specs.declared.lines.LineError.TheVariants.{Fault, TooLong}
use Rattle.kb_io.specs.declared.line_buffer.LineBuffer.{LineBuffer}
use Rattle.kb_io.specs.declared.line_buffer.Buffer.{Buffer}

-- the line under way is returned
abbrev pub Finishes : Next → LineBuffer → LineBuffer → Type 0
Finishes Line old new = (begun new ≡ []) × (answered new ≡ begun old) × (length (begun old) ≤ longest_line)
Finishes LongLine old new = (begun new ≡ []) × (answered new ≡ []) × IsLong (begun old)
Finishes End old new = ⊥

-- the line under way is returned where it is not empty
abbrev pub FinishesLast : Next → LineBuffer → LineBuffer → Type 0
FinishesLast Line old new = Finishes Line old new × (0 < length (begun old))
FinishesLast LongLine old new = Finishes LongLine old new
FinishesLast End old new = (begun old ≡ []) × (new ≡ old)

-- the line under way ends within the bytes that are unread, or takes them all
abbrev pub Cuts : Option Next → Buffer → Buffer → Type 0
Cuts None old new =
    (newlines (unread old) ≡ 0) × (new.at ≡ new.end) × IsUnderWay new.line
    × StandsFor (begun new.line) (begun old.line ++ unread old)
Cuts (Some Line) old new =
    (piece : List ℕ) × (unread old ≡ piece ++ 10 ∷ unread new) × (newlines piece ≡ 0) × (begun new.line ≡ [])
    × (answered new.line ≡ begun old.line ++ piece) × (length (begun old.line ++ piece) ≤ longest_line)
Cuts (Some LongLine) old new =
    (piece : List ℕ) × (unread old ≡ piece ++ 10 ∷ unread new) × (newlines piece ≡ 0) × (begun new.line ≡ [])
    × (answered new.line ≡ []) × IsLong (begun old.line ++ piece)
Cuts (Some End) old new = ⊥

-- a chunk is taken of the source, at most one byte of it beyond the bytes that may be taken
abbrev pub Refills : Result ℕ LineError → Buffer → Buffer → Option (List ℕ) → Option (List ℕ) → ℕ → ℕ → Type 0
Refills (Ok n) old new left left' before now =
    Consumes left left' (unread new) × (length (unread new) ≡ n) × (new.taken ≡ old.taken + n)
    × (new.taken ≤ most_bytes) × (n ≡ 0 → IsAtEnd left') × (now ≡ before)
Refills (Err Fault) old new left left' before now =
    (new.at ≡ new.end) × Keeps left left' × (new.taken ≡ old.taken) × (new.taken ≤ most_bytes) × (before ≤ now)
    × Rose before now
Refills (Err TooLong) old new left left' before now =
    (beyond : List ℕ) × (new.at ≡ new.end) × Consumes left left' beyond × (new.taken ≡ old.taken + length beyond)
    × (new.taken ≡ most_bytes + 1) × (length beyond ≤ 1) × (now ≡ before)
