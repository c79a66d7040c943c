-- What a whole file is, or why it is none.
use Rattle.std.specs.Prelude.{◌≤◌, ◌<◌, ℕ, List, length, Result, Ok, Err}
use Rattle.kb_text.specs.declared.fault.K.TheVariants.{TooLong}
use Rattle.kb_text.specs.declared.fault.KbFault.{KbFault}
use Rattle.grammar.specs.declared.error.KbError.{KbError}
use Rattle.grammar.specs.declared.error.KbError.TheVariants as errors
use Rattle.grammar.specs.declared.raw_blocks.RawKb.{RawKb}
use Rattle.grammar.specs.Whole.{Reads}
use Rattle.grammar.specs.BlockTrees.{Block}
use Rattle.grammar.specs.BlockSpelling.{put_file}
use Rattle.grammar.specs.BlockFine.{FineFile}
use Rattle.grammar.specs.BlockView.{IsKb}

-- a file has at most this many bytes
abbrev pub most_bytes : ℕ
most_bytes = 4194304

-- what the file is: its blocks; or its refusal, which for one too long stands at the first byte past the limit
pub data KbReads (src : List ℕ) : Result (List Block) KbFault → Type 0 where
  too_long : most_bytes < length src → KbReads src (Err (record { cause = TooLong; place = most_bytes }))
  fits : (r : Result (List Block) KbFault) → length src ≤ most_bytes → Reads put_file FineFile src r → KbReads src r

-- that is what the reader returns, with the blocks by kind; running out of memory is always allowed
abbrev pub KbRead : List ℕ → Result RawKb KbError → Type 0
KbRead src (Ok kb) = (blocks : List Block) × KbReads src (Ok blocks) × IsKb blocks (length src) kb
KbRead src (Err errors.Memory) = Unit {0}
KbRead src (Err (errors.Refused f)) = KbReads src (Err f)
