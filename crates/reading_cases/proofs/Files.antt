-- The file that a text is read as.
use Rattle.std.proofs.Common.{◌≡◌, ℕ, List, length, Result, Ok, Err, IfOk, subst, sym}
use Rattle.std.specs.String.{string_bytes}
use Rattle.std.specs.declared.string.String.{String}
use Rattle.std.specs.declared.alloc.Global.{Global}
use Rattle.grammar.specs.declared.raw_blocks.RawKb.{RawKb}
use Rattle.grammar.specs.FileReads.{KbRead}
use Rattle.stage_definitions.specs.FileView.{file_in}
use Rattle.stage_definitions.proofs.OneFile.{one_file}
use Rattle.reading_cases.specs.Lines.{IsFileOf}

-- what the stages see of the raw file is what they see of the text's blocks
pub file_read : (text : List ℕ) (kb : RawKb) → KbRead text (Ok kb) → IsFileOf text (file_in kb)
file_read text kb (blocks, reads, is) = record {
  blocks = blocks;
  read = reads;
  file =
      one_file blocks (length text) kb is;
}

-- what is so of a text is so of the line that is the text
pub line_is : {E : Type 0} (r : Result (String Global) E) (text : List ℕ) (P : List ℕ → Type 0)
    → IfOk r (λ line. string_bytes line ≡ text) → P text → IfOk r (λ line. P (string_bytes line))
line_is (Ok line) text P is p = subst P (sym is) p
line_is (Err e) text P is p = tt
