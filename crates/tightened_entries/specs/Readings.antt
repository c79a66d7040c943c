-- Entries that are read from bytes.
use Rattle.std.specs.Prelude.{◌≡◌, ℕ, List, ◌++◌, flat_map, drop, All}
use Rattle.derivation_log.specs.declared.entries.Entry.{Entry}
use Rattle.derivation_log.specs.Lines.{entry_text}
use Rattle.derivation_log.specs.Texts.{IsWritten}

-- the bytes are the texts of these entries up to this place
pub record ReadsTo (bytes : List ℕ) (at : ℕ) (es : List Entry) : Type 0 where
  pub written : All IsWritten es
  pub text : bytes ≡ flat_map entry_text es ++ drop at bytes

-- the bytes are the texts of these entries
pub record Reads (bytes : List ℕ) (es : List Entry) : Type 0 where
  pub written : All IsWritten es
  pub text : bytes ≡ flat_map entry_text es
