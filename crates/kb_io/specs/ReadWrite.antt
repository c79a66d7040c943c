-- Complete inputs and whole outputs.
use Rattle.std.specs.Prelude.{◌≡◌, ℕ, ◌+◌, ◌≤◌, List, ◌++◌, length, take, Option, Result, Ok, Err}
use Rattle.std.specs.Io.KnownBytes.{Consumes, Appends, IsAtEnd}
use Rattle.std.specs.declared.alloc.Global.{Global}
use Rattle.std.specs.Prelude.{Vec}
use Rattle.kb_io.specs.Outside.{Rose}
use Rattle.kb_io.specs.Lines.{newlines}
use Rattle.kb_io.specs.declared.read_write.ReadError.{ReadError}
use Rattle.kb_io.specs.declared.read_write.ReadError.TheVariants.{TooLong, Fault, Memory}

-- What an error of `read_up_to` says: which bytes were taken, and why it came.
abbrev pub Stopped : ReadError → ℕ → Option (List ℕ) → Option (List ℕ) → ℕ → ℕ → Type 0
Stopped (TooLong n) limit old new before now =
    (taken : List ℕ) × Consumes old new taken × (length taken ≡ limit + 1) × (n ≡ newlines (take limit taken))
    × (now ≡ before)
Stopped Fault limit old new before now = (taken : List ℕ) × Consumes old new taken × (length taken ≤ limit)
    × Rose before now × (before ≤ now)
Stopped Memory limit old new before now = (taken : List ℕ) × Consumes old new taken × (length taken ≤ limit + 1)
    × (now ≡ before)

-- All that a source had left was read, and it was at most limit bytes; or why not.
abbrev pub ReadUpTo : Result (Vec ℕ Global) ReadError → ℕ → Option (List ℕ) → Option (List ℕ) → ℕ → ℕ → Type 0
ReadUpTo (Ok bytes) limit old new before now = Consumes old new bytes.items × IsAtEnd new × (length bytes.items ≤ limit)
    × (now ≡ before)
ReadUpTo (Err e) limit old new before now = Stopped e limit old new before now

-- a prefix of these bytes was appended
abbrev pub AppendsPrefix : Option (List ℕ) → Option (List ℕ) → List ℕ → Type 0
AppendsPrefix old new bytes = (front : List ℕ) × (rest : List ℕ) × (bytes ≡ front ++ rest) × Appends old new front
