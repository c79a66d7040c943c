use Rattle.std.proofs.Common.{◌≡◌, ◌≤◌, [], ◌⊎◌, length, map}
use Rattle.grammar.specs.Terminals.{toks}
use Rattle.grammar.specs.BlockSpelling.{put_each, put_declaration}
use Rattle.grammar.specs.BlockView.{declaration_view}
use Rattle.block_reader.specs.BlockParts.{EndsDeclaration}
use Rattle.token_reader.specs.Signs.{next}
use Rattle.block_reader.proofs.vocabulary.declarations.Given as goal

abbrev pub invariant-declarations : goal.invariant-declarations
invariant-declarations l = record {
  shorter : length l.rest ≤ length l.items;
  so_far : toks l.items ≡ put_each put_declaration (map declaration_view l.found) (toks l.rest);
  started : (map declaration_view l.found ≡ []) ⊎ EndsDeclaration (next (toks l.rest));
}

abbrev pub decreases-declarations : goal.decreases-declarations
decreases-declarations l = length l.rest
