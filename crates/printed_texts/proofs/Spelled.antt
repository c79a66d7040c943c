-- The text of a block is that of one structure block.
use Rattle.std.proofs.Common.{[], refl}
use Rattle.printed_texts.specs.Written.{lexemes_at}
use Rattle.printed_texts.proofs.Tokens.{whole}
use Rattle.printed_texts.specs.Parts.{PlainBlock, write_block}
use Rattle.printed_texts.specs.Names.{IsBlock}
use Rattle.printed_texts.specs.SpelledBlocks.{IsSpelled}
use Rattle.printed_texts.proofs.Laying.{lay_block, toks_at}
use Rattle.printed_texts.proofs.Apart.{block_parted}
use Rattle.printed_texts.proofs.Shallow.{block_shallow}
use Rattle.printed_texts.proofs.Bytes.{block_bytes}

pub is_spelled : (b : PlainBlock) → IsBlock b → IsSpelled b
is_spelled b h =
    let laid = lay_block b h 0 in
    record {
      tokens = toks_at 0 (write_block b []);
      scanned = record {
        lexemes = lexemes_at 0 (write_block b []);
        scanned = rw (block_bytes b) (whole (write_block b []) (block_parted b h [] [] refl refl) (block_shallow b));
        same = refl;
      };
      tree = laid.tree;
      spelled = (laid.spelled [], (tt, tt));
      says = laid.says;
    }
