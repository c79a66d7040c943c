-- Laws of structure blocks that are printed.
use Rattle.std.specs.Prelude.{List, [], ◌∷◌}
use Rattle.grammar.specs.Terminals.{Tok}
use Rattle.grammar.specs.BlockTrees.{Structure, structure_block}
use Rattle.grammar.specs.BlockFine.{IsFile}
use Rattle.grammar.specs.Items.{IsTokens}
use Rattle.printed_texts.specs.Texts.{text_of_block}
use Rattle.printed_texts.specs.Parts.{PlainBlock}
use Rattle.printed_texts.specs.Names.{IsBlock}
use Rattle.printed_texts.specs.Saying.{SaysBlock}

-- the text is that of one structure block, which is read as what was written
pub record IsSpelled (b : PlainBlock) : Type 0 where
  pub tokens : List Tok
  pub scanned : IsTokens (text_of_block b.name b.of b.entries) tokens
  pub tree : Structure
  pub spelled : IsFile tokens (structure_block tree ∷ [])
  pub says : SaysBlock b tree

abbrev pub BlocksAreSpelled : Type 0
BlocksAreSpelled = (b : PlainBlock) → IsBlock b → IsSpelled b
