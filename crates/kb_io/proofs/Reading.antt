-- A line that is being read.
use Rattle.std.specs.Prelude.{◌≡◌, ℕ, ◌+◌, ◌≤◌, max, List, ◌++◌, length, Option}
use Rattle.std.specs.Io.KnownBytes.{Consumes}
use Rattle.kb_io.specs.Lines.{newlines, StandsFor}
use Rattle.kb_io.specs.Pending.{most_bytes}
use Rattle.kb_io.specs.Buffer.{begun, unread}
use Rattle.kb_io.specs.declared.line_buffer.Buffer.{Buffer}

-- since `initial` these bytes were taken, and the line under way has come to `line`
pub record Reads (initial now : Buffer) (left left' : Option (List ℕ)) : Type 0 where
  pub bytes : List ℕ
  pub line : List ℕ
  pub consumed : Consumes left left' bytes
  pub taken : now.taken ≡ initial.taken + length bytes
  pub most : now.taken ≤ max initial.taken most_bytes
  pub ahead : begun initial.line ++ unread initial ++ bytes ≡ line ++ unread now
  pub stands : StandsFor (begun now.line) line
  pub whole : newlines line ≡ 0
