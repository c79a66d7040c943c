-- What is read at a place of bytes.
use Rattle.std.specs.Prelude.{◌≡◌, ℕ, ◌<◌, ◌≤◌, List, length, drop}
use Rattle.derivation_log.specs.declared.reading.EntryError.{EntryError}
use Rattle.derivation_log.specs.declared.reading.EntryError.TheVariants.{NotAnEntry, Memory}
use Rattle.derivation_log.specs.declared.entries.Entry.{Entry}
use Rattle.derivation_log.specs.Texts.{put_entry, IsWritten}

-- the entry's text stands from one place to the other
pub record IsEntryAt (bytes : List ℕ) (at : ℕ) (e : Entry) (next : ℕ) : Type 0 where
  pub written : IsWritten e
  pub text : drop at bytes ≡ put_entry e (drop next bytes)
  pub beyond : at < next
  pub inside : next ≤ length bytes

-- no text of an entry begins at the place
abbrev pub NoEntryAt : List ℕ → ℕ → Type 0
NoEntryAt bytes at = (e : Entry) (more : List ℕ) → IsWritten e → drop at bytes ≡ put_entry e more → ⊥

-- what is answered in place of an entry
abbrev pub RefusedAt : List ℕ → ℕ → EntryError → Type 0
RefusedAt bytes at NotAnEntry = NoEntryAt bytes at
RefusedAt bytes at Memory = Unit {0}
