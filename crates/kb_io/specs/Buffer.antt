-- What a buffer of lines holds.
use Rattle.std.specs.Prelude.{◌≡◌, ℕ, ◌+◌, ◌-◌, ◌≤◌, List, [], ◌++◌, length, take, drop}
use Rattle.std.specs.Vec.{vec_capacity}
use Rattle.kb_io.specs.Lines.{newlines, longest_line, let_go}
use Rattle.kb_io.specs.Pending.{Pending, most_bytes}
use Rattle.kb_io.specs.declared.line_buffer.Stage.{Stage}
use Rattle.kb_io.specs.declared.line_buffer.Stage.TheVariants.{Partial, Overlong, Complete}
use Rattle.kb_io.specs.declared.line_buffer.LineBuffer.{LineBuffer}
use Rattle.kb_io.specs.declared.line_buffer.Buffer.{Buffer}

-- the beginning of the line under way
abbrev pub begun_at : Stage → List ℕ → List ℕ
begun_at Partial bytes = bytes
begun_at Overlong bytes = let_go
begun_at Complete bytes = []

abbrev pub begun : LineBuffer → List ℕ
begun line = begun_at line.stage line.bytes.items

-- the line returned last
abbrev pub answered_at : Stage → List ℕ → List ℕ
answered_at Partial bytes = []
answered_at Overlong bytes = []
answered_at Complete bytes = bytes

abbrev pub answered : LineBuffer → List ℕ
answered line = answered_at line.stage line.bytes.items

-- a line is under way
abbrev pub IsUnderWayAt : Stage → Type 0
IsUnderWayAt Partial = Unit {0}
IsUnderWayAt Overlong = Unit {0}
IsUnderWayAt Complete = ⊥

abbrev pub IsUnderWay : LineBuffer → Type 0
IsUnderWay line = IsUnderWayAt line.stage

-- the line has no newline, and there is room for the longest
pub record IsSoundLine (line : LineBuffer) : Type 0 where
  pub short : length line.bytes.items ≤ longest_line
  pub room : longest_line ≤ vec_capacity line.bytes
  pub whole : newlines line.bytes.items ≡ 0

-- the bytes of the chunk that were taken and not yet looked at
abbrev pub unread : Buffer → List ℕ
unread buffer = take (buffer.end - buffer.at) (drop buffer.at buffer.chunk.items)

pub record IsSound (buffer : Buffer) : Type 0 where
  pub line : IsSoundLine buffer.line
  pub order : buffer.at ≤ buffer.end
  pub within : buffer.end ≤ length buffer.chunk.items
  pub chunk : length buffer.chunk.items ≡ 65536
  pub taken : buffer.taken ≤ most_bytes + 1

abbrev pub pending : Buffer → Pending
pending buffer = record {
  taken = buffer.taken;
  ahead = begun buffer.line ++ unread buffer;
  line = answered buffer.line;
}
