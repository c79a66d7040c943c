-- What sources and sinks in memory do, by their script.
use Rattle.std.specs.Prelude.{◌≡◌, ℕ, ◌+◌, ◌-◌, ◌^◌, min, max, List, length, Bool, true, ◌==◌, Option, Some, None}
use Rattle.std.specs.Prelude.{Result, IfOk, slice_get}
use Rattle.std.specs.List.{list_any}
use Rattle.std.specs.Result.{is_err, IsErr}

-- what a source has left, which of its reads fail, how many bytes each gives, and how many reads and faults there were
pub record SourceState : Type 0 where
  pub left : List ℕ
  pub failing : List ℕ
  pub pieces : List ℕ
  pub calls : ℕ
  pub faults : ℕ

-- what a sink holds, which of its writes and flushes fail, how many bytes each write takes, and how many there were
pub record SinkState : Type 0 where
  pub held : List ℕ
  pub failing_writes : List ℕ
  pub failing_flushes : List ℕ
  pub pieces : List ℕ
  pub writes : ℕ
  pub flushes : ℕ
  pub faults : ℕ

-- how many of these bytes a call moves: at most its item, where 0 counts as 1, and all where it has no item
abbrev pub piece : Option ℕ → ℕ → ℕ
piece None room = room
piece (Some most) room = min room (max most 1)

-- the call is one of those that fail
abbrev pub is_listed : List ℕ → ℕ → Bool
is_listed failing call = list_any (λ n. n == call) failing

-- the number of calls after one more, which stops at the greatest value of 64 bits
abbrev pub saturating_succ : ℕ → ℕ
saturating_succ calls = min (calls + 1) (2 ^ 64 - 1)

-- a read fails exactly where its number is listed, and else gives as many bytes as its piece says
pub record ReadsAsScripted {E : Type 0} (old new : SourceState) (result : Result ℕ E) (room : ℕ) : Type 0 where
  pub fails : is_err result ≡ is_listed old.failing old.calls
  pub gives : IfOk result (λ n. n ≡ piece (slice_get old.pieces old.calls) (min room (length old.left)))
  pub calls : new.calls ≡ saturating_succ old.calls
  pub failing : new.failing ≡ old.failing
  pub pieces : new.pieces ≡ old.pieces

-- a write fails where its number is listed, or where memory runs out, and else takes as many bytes as its piece says
pub record WritesAsScripted {E : Type 0} (old new : SinkState) (result : Result ℕ E) (room : ℕ) : Type 0 where
  pub fails : is_listed old.failing_writes old.writes ≡ true → IsErr result
  pub takes : IfOk result (λ n. n ≡ piece (slice_get old.pieces old.writes) room)
  pub writes : new.writes ≡ saturating_succ old.writes
  pub flushes : new.flushes ≡ old.flushes
  pub failing_writes : new.failing_writes ≡ old.failing_writes
  pub failing_flushes : new.failing_flushes ≡ old.failing_flushes
  pub pieces : new.pieces ≡ old.pieces

-- a flush fails exactly where its number is listed
pub record FlushesAsScripted {T E : Type 0} (old new : SinkState) (result : Result T E) : Type 0 where
  pub fails : is_err result ≡ is_listed old.failing_flushes old.flushes
  pub flushes : new.flushes ≡ saturating_succ old.flushes
  pub writes : new.writes ≡ old.writes
  pub failing_writes : new.failing_writes ≡ old.failing_writes
  pub failing_flushes : new.failing_flushes ≡ old.failing_flushes
  pub pieces : new.pieces ≡ old.pieces
