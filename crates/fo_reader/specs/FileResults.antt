-- What the readers of a file and of one of its blocks return.
use Rattle.std.specs.Prelude.{ℕ, List, Result, Ok, Err}
use Rattle.std.specs.Borrow.{Bor}
use Rattle.grammar.specs.declared.error.KbError.{KbError}
use Rattle.grammar.specs.declared.error.KbError.TheVariants as errors
use Rattle.grammar.specs.declared.stops.ReadError.{ReadError}
use Rattle.grammar.specs.declared.terminal.Item.{Item}
use Rattle.grammar.specs.declared.raw_blocks.RawKb.{RawKb}
use Rattle.fo_reader.specs.declared.file.RawBlock.{RawBlock}
use Rattle.fo_reader.specs.declared.file.RawBlock.TheVariants as raw
use Rattle.grammar.specs.Terminals.{Tok}
use Rattle.grammar.specs.Texts.{ParsesTo}
use Rattle.grammar.specs.Whole.{IsStuck}
use Rattle.grammar.specs.BlockTrees.{Block, vocabulary_block, theory_block, structure_block, value_block, procedure}
use Rattle.grammar.specs.BlockSpelling.{put_block, put_file}
use Rattle.grammar.specs.BlockFine.{FineBlock, FineFile}
use Rattle.grammar.specs.BlockView.{vocabulary_view, theory_view, structure_view, term_block_view, IsKb}
use Rattle.block_reader.specs.BlockParts.{PartRead, Anything}

-- which blocks the file with these tokens has, by kind; or its refusal; out of memory alone is free
abbrev pub FileRead : List Tok → ℕ → Result RawKb KbError → Type 0
FileRead ts len (Ok kb) = (blocks : List Block) × ParsesTo put_file FineFile ts blocks × IsKb blocks len kb
FileRead ts len (Err errors.Memory) = Unit {0}
FileRead ts len (Err (errors.Refused f)) = IsStuck put_file FineFile ts len f

-- ---- one block

-- the tree of a raw block
abbrev pub block_view : RawBlock → Block
block_view (raw.Vocabulary x) = vocabulary_block (vocabulary_view x)
block_view (raw.Theory x) = theory_block (theory_view x)
block_view (raw.Structure x) = structure_block (structure_view x)
block_view (raw.Term x) = value_block (term_block_view x)
block_view (raw.Procedure place) = procedure place

-- what the reader of one returns; anything may follow a block
abbrev pub BlockRead : List Tok → ℕ → Result (RawBlock × Bor (List Item)) ReadError → Type 0
BlockRead = PartRead block_view put_block FineBlock Anything
