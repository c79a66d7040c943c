-- A file that is read to its end.
use Rattle.std.specs.Prelude.{◌≡◌, ℕ, ◌<◌, ◌≤◌, List, length, take, Option, Result, Ok, Err, Vec}
use Rattle.std.specs.declared.alloc.Global.{Global}
use Rattle.kb_io.specs.Lines.{newlines}
use Rattle.kb_io.specs.Outside.{Rose}
use Rattle.kb_io.specs.declared.read_write.ReadError.{ReadError}
use Rattle.kb_io.specs.declared.read_write.ReadError.TheVariants.{TooLong, Fault, Memory}
use Rattle.consultation.specs.Streams.{IfObservable}

-- The file was read to its end, or why not. The shelf's count of faults rises at a fault alone.
abbrev pub ReadsFile : Result (Vec ℕ Global) ReadError → ℕ → Option (List ℕ) → ℕ → ℕ → Type 0
ReadsFile (Ok bytes) limit file before now = (now ≡ before) × (length bytes.items ≤ limit) × IfObservable file
    (λ told. bytes.items ≡ told)
ReadsFile (Err (TooLong n)) limit file before now = (now ≡ before) × (n ≤ limit) × IfObservable file (λ told.
    (limit < length told) × (n ≡ newlines (take limit told)))
ReadsFile (Err Fault) limit file before now = Rose before now
ReadsFile (Err Memory) limit file before now = now ≡ before
