use Rattle.std.proofs.Common.{◌≡◌}
use Rattle.kb_text.specs.Lexing.{HasPassed, left_of, text_of}
use Rattle.kb_text.specs.Tokens.{lexemes}
use Rattle.kb_text.proofs.scan.tokens.Given as goal

abbrev pub invariant-loop-lexer : goal.invariant-loop-lexer
invariant-loop-lexer l = record { text : text_of l.lexer ≡ l.src; passed : HasPassed (lexemes l.out.items) l.lexer }

abbrev pub decreases-loop-lexer : goal.decreases-loop-lexer
decreases-loop-lexer l = left_of l.lexer
