-- Tokens that are read one after the other.
use Rattle.std.specs.Prelude.{ℕ, ◌-◌, ◌≤◌, List, [], ◌∷◌, ◌++◌, length, drop, Option, Some, None, Result, Ok, Err}
use Rattle.kb_text.specs.declared.fault.LexError.{LexError}
use Rattle.kb_text.specs.declared.token.Token.{Token}
use Rattle.kb_text.specs.declared.scan.Lexer.{Lexer}
use Rattle.kb_text.specs.Depth.{Around, around_of, outermost}
use Rattle.kb_text.specs.Tokens.{Lexeme, lexeme_of, Outcome, TokensFrom, Fails}

-- what was read before, and then this
abbrev pub after : List Lexeme → Outcome → Outcome
after ts (Ok us) = Ok (ts ++ us)
after ts (Err f) = Err f

-- whatever the text from place p on gives, the whole text gives after these tokens
pub record Goes (src : List ℕ) (s : Around) (p : ℕ) (ts : List Lexeme) : Type 0 where
  pub within : p ≤ length src
  pub on : (r : Outcome) → TokensFrom s p (drop p src) r → TokensFrom outermost 0 src (after ts r)

-- the text, and how many of its bytes are not read yet
abbrev pub text_of : Lexer → List ℕ
text_of l = l.src.now

abbrev pub left_of : Lexer → ℕ
left_of l = length l.src.now - l.start

-- these are the tokens of the lexer's text up to the place where it stands
abbrev pub HasPassed : List Lexeme → Lexer → Type 0
HasPassed ts l = Goes l.src.now (around_of l.nesting) l.start ts

-- after these tokens of the text: one more, or these are all, or the text is refused
abbrev pub TokenRead : List Lexeme → List ℕ → Lexer → Result (Option Token) LexError → Type 0
TokenRead ts src l (Ok (Some t)) = HasPassed (ts ++ lexeme_of t ∷ []) l
TokenRead ts src l (Ok None) = TokensFrom outermost 0 src (Ok ts)
TokenRead ts src l (Err e) = Fails e src
