use Rattle.std.proofs.Common.{◌≡◌, ◌≤◌, ◌-◌, length, List}
use Rattle.kb_text.specs.Depth.{around_of}
use Rattle.kb_text.specs.Lexing.{Goes, HasPassed, text_of}
use Rattle.kb_text.specs.Tokens.{Lexeme}
use Rattle.kb_text.proofs.scan.Lexer.next_token.Given as goal

abbrev pub invariant-loop-start : goal.invariant-loop-start
invariant-loop-start l = record {
  same : l.src ≡ text_of l.fn.self;
  text : text_of l.self ≡ text_of l.fn.self;
  passed : (ts : List Lexeme) → HasPassed ts l.fn.self → Goes l.src (around_of l.self.nesting) l.start ts;
  on : l.fn.self.start ≤ l.start;
}

abbrev pub decreases-loop-start : goal.decreases-loop-start
decreases-loop-start l = length l.src - l.start
