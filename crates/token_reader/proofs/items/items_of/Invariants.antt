use Rattle.std.proofs.Common.{◌≡◌, List, map}
use Rattle.kb_text.specs.Lexing.{HasPassed, left_of, text_of}
use Rattle.kb_text.specs.Tokens.{Lexeme}
use Rattle.grammar.specs.Terminals.{toks}
use Rattle.grammar.specs.Items.{tok_of}
use Rattle.token_reader.proofs.items.items_of.Given as goal

abbrev pub invariant-loop-lexer : goal.invariant-loop-lexer
invariant-loop-lexer l = (ts : List Lexeme) × (text_of l.lexer ≡ l.src) × HasPassed ts l.lexer
    × (toks l.found.items ≡ map tok_of ts)

abbrev pub decreases-loop-lexer : goal.decreases-loop-lexer
decreases-loop-lexer l = left_of l.lexer
