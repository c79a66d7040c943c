use Rattle.std.proofs.Common.{◌≡◌, List, length}
use Rattle.grammar.specs.Terminals.{toks}
use Rattle.grammar.specs.BlockTrees.{Block}
use Rattle.grammar.specs.BlockSpelling.{put_file}
use Rattle.grammar.specs.BlockFine.{FineFile}
use Rattle.grammar.specs.BlockView.{IsKb}
use Rattle.fo_reader.proofs.file.file.Given as goal

abbrev pub invariant-turns : goal.invariant-turns
invariant-turns l = record {
  so_far : (blocks : List Block) × (toks l.fn.items ≡ put_file blocks (toks l.rest))
      × FineFile blocks × IsKb blocks l.fn.end l.kb;
}

abbrev pub decreases-turns : goal.decreases-turns
decreases-turns l = length l.rest
