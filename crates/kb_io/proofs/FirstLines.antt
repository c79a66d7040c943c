-- The next line is the first of the lines of all bytes.
use Rattle.std.specs.Prelude.{ℕ, List, Option, Result, Ok, Err}
use Rattle.kb_io.specs.Pending.{Pending, NextLine, GivesLine}
use Rattle.kb_io.specs.declared.lines.Next.{Next}
use Rattle.kb_io.specs.declared.lines.Next.TheVariants.{Line, LongLine, End}
use Rattle.kb_io.specs.declared.lines.LineError.{LineError}
use Rattle.kb_io.specs.declared.lines.LineError.TheVariants.{Fault, TooLong}
use Rattle.kb_io.proofs.LineLemmas.{next_line_begins, no_line_begins}

-- the next line is the first of the lines
pub next_line_is_first : (result : Result Next LineError) (old new : Pending) (left left' : Option (List ℕ))
    (before now : ℕ) → NextLine result old new left left' before now
    → GivesLine result old new left left'
next_line_is_first (Ok Line) old new left left' before now next =
    next_line_begins old.ahead next.1.bytes new.line new.ahead left left' next.1.consumed next.1.cut
next_line_is_first (Ok LongLine) old new left left' before now next = (
  next.1.0,
  next.1.2,
  next_line_begins old.ahead next.1.1.bytes next.1.0 new.ahead left left' next.1.1.consumed
      next.1.1.cut,
)
next_line_is_first (Ok End) old new left left' before now next =
    no_line_begins old.ahead left left' next.1.consumed next.1.at_end next.1.ahead
next_line_is_first (Err Fault) old new left left' before now next = tt
next_line_is_first (Err TooLong) old new left left' before now next = tt
